-- Rows are lines, and begin with their first field.
use Rattle.std.proofs.Common.{◌≡◌, ℕ, ◌+◌, ◌==◌, Bool, true, false, not, suc, take, List, [], ◌∷◌, ◌++◌, refl, ap, ◌∙◌, arith, append_assoc, append-nil}
use Rattle.std.specs.List.{list_any, before_first, prefix_len}
use Rattle.std.proofs.lemmas.Bool.Decides.{nat_tests}
use Rattle.sq_lines.specs.Classes.{ends_field, first_field}
use Rattle.sq_lines.specs.LineTexts.{needs_quotes, doubled, field_text, more_fields, line_of}
use Rattle.sq_lines.proofs.LineLemmas.{is_line}

is_line-plain_byte : (b : ℕ) (more : List ℕ) → needs_quotes b ≡ false → is_line false (b ∷ more) ≡ is_line false more
is_line-plain_byte b more plain = grind (arith, nat_tests)

pub first_plain : (b : ℕ) (bs : List ℕ) → list_any needs_quotes (b ∷ bs) ≡ false → (needs_quotes b ≡ false) × (list_any needs_quotes bs ≡ false)
first_plain b bs h = (grind (arith, nat_tests), grind (arith, nat_tests))

is_line-plain : (f more : List ℕ) → list_any needs_quotes f ≡ false → is_line false (f ++ more) ≡ is_line false more
is_line-plain [] more plain = refl
is_line-plain (b ∷ bs) more plain =
    let p = first_plain b bs plain in is_line-plain_byte b (bs ++ more) p.0 ∙ is_line-plain bs more p.1

doubled_byte : (t : Bool) (b : ℕ) (bs more : List ℕ) → (b == 34) ≡ t → is_line true (doubled bs ++ (34 ∷ more)) ≡ is_line false more
    → is_line true (doubled (b ∷ bs) ++ (34 ∷ more)) ≡ is_line false more
doubled_byte true b bs more e h = rw e h
doubled_byte false b bs more e h = rw e (rw e (grind (arith, nat_tests, h)))

is_line-doubled : (f more : List ℕ) → is_line true (doubled f ++ (34 ∷ more)) ≡ is_line false more
is_line-doubled [] more = refl
is_line-doubled (b ∷ bs) more = doubled_byte (b == 34) b bs more refl (is_line-doubled bs more)

field_line : (t : Bool) (f more : List ℕ) → list_any needs_quotes f ≡ t → is_line false (field_text f ++ more) ≡ is_line false more
field_line true f more e = rw e (rw (append_assoc (doubled f) (34 ∷ []) more) (is_line-doubled f more))
field_line false f more e = rw e (is_line-plain f more e)

is_line-field : (f more : List ℕ) → is_line false (field_text f ++ more) ≡ is_line false more
is_line-field f more = field_line (list_any needs_quotes f) f more refl

is_line-more : (fs : List (List ℕ)) (more : List ℕ) → is_line false (more_fields fs ++ more) ≡ is_line false more
is_line-more [] more = refl
is_line-more (f ∷ fs) more = rw (append_assoc (field_text f) (more_fields fs) more) (is_line-field f (more_fields fs ++ more) ∙ is_line-more fs more)

is_line-fields : (f : List ℕ) (fs : List (List ℕ)) → is_line false ((field_text f ++ more_fields fs) ++ (10 ∷ [])) ≡ true
is_line-fields f fs = rw (append_assoc (field_text f) (more_fields fs) (10 ∷ [])) (is_line-field f (more_fields fs ++ (10 ∷ [])) ∙ is_line-more fs (10 ∷ []))

-- a row is one line
pub is_line-line_of : (fields : List (List ℕ)) → is_line false (line_of fields) ≡ true
is_line-line_of [] = refl
is_line-line_of ([] ∷ []) = refl
is_line-line_of ((b ∷ bs) ∷ []) = is_line-fields (b ∷ bs) []
is_line-line_of ([] ∷ g ∷ fs) = is_line-fields [] (g ∷ fs)
is_line-line_of ((b ∷ bs) ∷ g ∷ fs) = is_line-fields (b ∷ bs) (g ∷ fs)

before_first-step : (b : ℕ) (more : List ℕ) → ends_field b ≡ false → before_first ends_field (b ∷ more) ≡ b ∷ before_first ends_field more
before_first-step b more h =
    let n = prefix_len (λ x. not (ends_field x)) more in
    let one_more : 1 + n ≡ suc n = omega arith in
    rw h (ap (λ k. take k (b ∷ more)) one_more)

before_first-at : (c : ℕ) (rest : List ℕ) → ends_field c ≡ true → before_first ends_field (c ∷ rest) ≡ []
before_first-at c rest h = rw h refl

pub ends_no_field : (b : ℕ) → needs_quotes b ≡ false → ends_field b ≡ false
ends_no_field b h = grind (arith, nat_tests)

first_field-plain : (f rest : List ℕ) (c : ℕ) → list_any needs_quotes f ≡ false → ends_field c ≡ true → first_field (f ++ (c ∷ rest)) ≡ f
first_field-plain [] rest c plain ends = before_first-at c rest ends
first_field-plain (b ∷ bs) rest c plain ends =
    let p = first_plain b bs plain in
    before_first-step b (bs ++ (c ∷ rest)) (ends_no_field b p.0) ∙ ap (λ x. b ∷ x) (first_field-plain bs rest c p.1 ends)

pub field_text-plain : (f : List ℕ) → list_any needs_quotes f ≡ false → field_text f ≡ f
field_text-plain f plain = rw plain refl

-- a row begins with its first field, where that isn't empty and needs no quotes
pub first_field-line_of : (b : ℕ) (bs : List ℕ) (fields : List (List ℕ)) → list_any needs_quotes (b ∷ bs) ≡ false
    → first_field (line_of ((b ∷ bs) ∷ fields)) ≡ b ∷ bs
first_field-line_of b bs [] plain =
    ap (λ x. first_field ((x ++ []) ++ (10 ∷ []))) (field_text-plain (b ∷ bs) plain)
    ∙ ap (λ x. first_field (x ++ (10 ∷ []))) (append-nil (b ∷ bs))
    ∙ first_field-plain (b ∷ bs) [] 10 plain refl
first_field-line_of b bs (f ∷ fs) plain =
    ap (λ x. first_field ((x ++ more_fields (f ∷ fs)) ++ (10 ∷ []))) (field_text-plain (b ∷ bs) plain)
    ∙ ap first_field (append_assoc (b ∷ bs) (more_fields (f ∷ fs)) (10 ∷ []))
    ∙ first_field-plain (b ∷ bs) ((field_text f ++ more_fields fs) ++ (10 ∷ [])) 44 plain refl
