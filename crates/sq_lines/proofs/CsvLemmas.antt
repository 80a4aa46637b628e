-- Lines as `csv` writes them.
use Rattle.std.proofs.Common.{◌≡◌, ◌∙◌, ap, refl, ℕ, ◌==◌, Bool, true, false, ◌||◌, List, [], ◌∷◌, ◌++◌, length, append_assoc, inl, inr, arith}
use Rattle.std.specs.Prelude.{if◌then◌else◌}
use Rattle.std.specs.List.{list_any}
use Rattle.std.proofs.lemmas.Bool.{cases_Bool}
use Rattle.std.proofs.lemmas.Bool.Decides.{nat_tests}
use Rattle.csv.specs.Writing.{default_writer, escaped, fields_text, is_blank, needs_byte}
use Rattle.csv.specs.Writing as kit
use Rattle.sq_words.specs.Lists.{IsPrefixOf}
use Rattle.sq_lines.specs.LineTexts.{needs_quotes, doubled, field_text, more_fields}
use Rattle.sq_lines.specs.Rows.{LinesAreCsv}

or_false : (a b c d : Bool) → (a || b || c || d) ≡ (((a || b) || (c || d)) || false || false)
or_false true b c d = refl
or_false false true c d = refl
or_false false false true d = refl
or_false false false false true = refl
or_false false false false false = refl

needs_quotes_is : (b : ℕ) → needs_quotes b ≡ needs_byte default_writer b
needs_quotes_is b = or_false (b == 44) (b == 34) (b == 13) (b == 10)

any_quote_is : (f : List ℕ) → list_any needs_quotes f ≡ kit.needs_quotes default_writer f
any_quote_is [] = refl
any_quote_is (b ∷ bs) = ap (λ x. x || list_any needs_quotes bs) (needs_quotes_is b) ∙ ap (λ x. needs_byte default_writer b || x) (any_quote_is bs)

doubled_is : (f : List ℕ) → doubled f ≡ escaped default_writer f
unfolding escaped
doubled_is [] = refl
doubled_is (b ∷ bs) = elim (cases_Bool (b == 34)) [
  | inl quote ↦ let is : b ≡ 34 = grind (arith, nat_tests) in rw (quote, is, doubled_is bs)
  | inr other ↦ rw (other, doubled_is bs)
]

field_text_is : (f : List ℕ) → field_text f ≡ kit.field_text default_writer f
field_text_is f = rw (any_quote_is f, doubled_is f)

more_fields_is : (fs : List (List ℕ)) → more_fields fs ≡ fields_text default_writer fs
unfolding fields_text
more_fields_is [] = refl
more_fields_is (f ∷ fs) = rw (field_text_is f, more_fields_is fs)

shown : (b : ℕ) (bs : List ℕ) → (length (kit.field_text default_writer (b ∷ bs)) == 0) ≡ false
shown b bs =
    elim (kit.needs_quotes default_writer (b ∷ bs)) as (λ q. (length (if q then kit.quoted default_writer (b ∷ bs) else (b ∷ bs)) == 0) ≡ false) [
      | true ↦ grind (arith, nat_tests)
      | false ↦ grind (arith, nat_tests)
    ]

pub line_of_is_csv : LinesAreCsv
unfolding fields_text is_blank
line_of_is_csv [] = refl
line_of_is_csv ([] ∷ []) = refl
line_of_is_csv ((b ∷ bs) ∷ []) = rw (shown b bs, field_text_is (b ∷ bs))
line_of_is_csv ([] ∷ g ∷ fs) = ap (λ m. m ++ 10 ∷ []) (more_fields_is (g ∷ fs))
line_of_is_csv ((b ∷ bs) ∷ g ∷ fs) =
    ap (λ t. t ++ more_fields (g ∷ fs) ++ 10 ∷ []) (field_text_is (b ∷ bs))
    ∙ ap (λ m. kit.field_text default_writer (b ∷ bs) ++ m ++ 10 ∷ []) (more_fields_is (g ∷ fs))

pub prefix_more : (a xs ys : List ℕ) → IsPrefixOf a xs → IsPrefixOf a (xs ++ ys)
prefix_more a xs ys p = (p.0 ++ ys, ap (λ v. v ++ ys) p.1 ∙ append_assoc a p.0 ys)
