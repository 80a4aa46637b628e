-- Fields between quotes.
use Rattle.std.proofs.Common.{List, refl, ℕ, true, false, [], ◌≡◌, ◌==◌, ◌∷◌, ◌++◌, ◌+◌, ◌-◌, ◌∙◌, ap, arith, length, take, drop, append-nil}
use Rattle.std.specs.Prelude.{slice_range}
use Rattle.std.specs.List.{list_any}
use Rattle.std.proofs.lemmas.Bool.Decides.{nat_tests}
use Rattle.std.proofs.lemmas.List.{length-append}
use Rattle.std.proofs.Math.Seq.{drop-append_seam, take-append_seam}
use Rattle.sq_lines.specs.LineTexts.{doubled, field_text, line_of, needs_quotes}
use Rattle.sq_lines.specs.Rows.{breaks_quotes}

as_it_stands : (b : ℕ) (bs : List ℕ) → list_any breaks_quotes (b ∷ bs) ≡ false → ((b == 34) ≡ false) × (list_any breaks_quotes bs ≡ false)
as_it_stands b bs h = (grind (arith, nat_tests), grind (arith, nat_tests))

-- a field that has no quote is the same between quotes
pub doubled_none : (f : List ℕ) → list_any breaks_quotes f ≡ false → doubled f ≡ f
doubled_none [] h = refl
doubled_none (b ∷ bs) h = let q = as_it_stands b bs h in rw (q.0, doubled_none bs q.1) refl

-- the line of a field that needs quotes
pub quoted_line : (f : List ℕ) → list_any needs_quotes f ≡ true → line_of (f ∷ []) ≡ field_text f ++ 10 ∷ []
quoted_line [] h = cc h
quoted_line (b ∷ bs) h = ap (λ t. t ++ 10 ∷ []) (append-nil (field_text (b ∷ bs)))

pub length_behind : (before text whole : List ℕ) (last : ℕ) → whole ≡ before ++ (text ++ last ∷ []) → length whole ≡ length before + (length text + 1)
length_behind before text whole last e = ap length e ∙ rw (length-append, length-append) refl

-- what was put behind a text, but for its last byte
pub cut_behind : (before text whole : List ℕ) (last : ℕ) → whole ≡ before ++ (text ++ last ∷ []) → slice_range whole (length before) (length whole - 1) ≡ text
cut_behind before text whole last e =
    let long = length_behind before text whole last e in
    let size : (length whole - 1) - length before ≡ length text = omega (arith, long) in
    ap (λ w. take ((length whole - 1) - length before) (drop (length before) w)) e
    ∙ ap (take ((length whole - 1) - length before)) (drop-append_seam before (text ++ last ∷ []))
    ∙ ap (λ k. take k (text ++ last ∷ [])) size
    ∙ take-append_seam text (last ∷ [])
