-- Written rows read back.
use Rattle.sq_csv.specs.Records.{Bare, Closed, Quoted, Start, all_fields, ends_record, fields_from, is_comma, is_quote, sole_record}
use Rattle.std.proofs.Common.{List, Some, ap, append_assoc, arith, false, inl, inr, refl, ℕ, [], ◌≡◌, ◌∙◌, ◌==◌, ◌∷◌, ◌++◌}
use Rattle.sq_lines.specs.Rows.{RowsAreReadBack}
use Rattle.std.proofs.lemmas.Bool.{cases_Bool}
use Rattle.sq_lines.specs.LineTexts.{doubled, field_text, more_fields, needs_quotes, row_of}
use Rattle.std.specs.List.{list_any}
use Rattle.std.proofs.lemmas.Bool.Decides.{nat_tests}
use Rattle.std.specs.Prelude.{option_map}

pub begins_bare : (b : ℕ) (bs : List ℕ) → ends_record b ≡ false → sole_record (b ∷ bs) ≡ option_map all_fields (fields_from Start (b ∷ bs))
begins_bare b bs e = rw e

bare_byte : (b : ℕ) (bs : List ℕ) → list_any needs_quotes (b ∷ bs) ≡ false
    → (is_quote b ≡ false) × (is_comma b ≡ false) × (ends_record b ≡ false) × (list_any needs_quotes bs ≡ false)
bare_byte b bs h = (grind (arith, nat_tests), grind (arith, nat_tests), grind (arith, nat_tests), grind (arith, nat_tests))

bare_read : (f tail : List ℕ) (fs : List (List ℕ)) → list_any needs_quotes f ≡ false → fields_from Bare tail ≡ Some ([], fs) → fields_from Bare (f ++ tail) ≡ Some (f, fs)
bare_read [] tail fs bare ends = ends
bare_read (b ∷ bs) tail fs bare ends = let q = bare_byte b bs bare in rw (q.1, q.2, bare_read bs tail fs q.3 ends)

start_read : (f tail : List ℕ) (fs : List (List ℕ)) → list_any needs_quotes f ≡ false → fields_from Start tail ≡ Some ([], fs) → fields_from Bare tail ≡ Some ([], fs)
    → fields_from Start (f ++ tail) ≡ Some (f, fs)
start_read [] tail fs bare begins ends = begins
start_read (b ∷ bs) tail fs bare begins ends = let q = bare_byte b bs bare in rw (q.0, q.1, q.2, bare_read bs tail fs q.3 ends)

quoted_read : (f tail : List ℕ) (fs : List (List ℕ)) → fields_from Closed tail ≡ Some ([], fs) → fields_from Quoted (doubled f ++ (34 ∷ tail)) ≡ Some (f, fs)
quoted_read [] tail fs ends = ends
quoted_read (b ∷ bs) tail fs ends = elim (cases_Bool (b == 34)) [
  | inl quote ↦ let is : b ≡ 34 = grind (arith, nat_tests) in rw (quote, quoted_read bs tail fs ends, is)
  | inr other ↦ rw (other, other, quoted_read bs tail fs ends)
]

field_read : (f tail : List ℕ) (fs : List (List ℕ)) → fields_from Start tail ≡ Some ([], fs) → fields_from Bare tail ≡ Some ([], fs) → fields_from Closed tail ≡ Some ([], fs)
    → fields_from Start (field_text f ++ tail) ≡ Some (f, fs)
field_read f tail fs begins bare closed = elim (cases_Bool (list_any needs_quotes f)) [
  | inl quotes ↦ rw (quotes, append_assoc (doubled f) (34 ∷ []) tail) (quoted_read f tail fs closed)
  | inr plain ↦ rw plain (start_read f tail fs plain begins bare)
]

-- the fields after one
more_read : (fs : List (List ℕ))
    → (fields_from Start (more_fields fs) ≡ Some ([], fs)) × (fields_from Bare (more_fields fs) ≡ Some ([], fs)) × (fields_from Closed (more_fields fs) ≡ Some ([], fs))
more_read [] = (refl, refl, refl)
more_read (f ∷ fs) =
    let more = more_read fs in
    let read = field_read f (more_fields fs) fs more.0 more.1 more.2 in
    (rw read, rw read, rw read)

-- a row begins with no end of a record
begins : (f tail : List ℕ) → sole_record (field_text f ++ (44 ∷ tail)) ≡ option_map all_fields (fields_from Start (field_text f ++ (44 ∷ tail)))
begins [] tail = refl
begins (b ∷ bs) tail = elim (cases_Bool (list_any needs_quotes (b ∷ bs))) [
  | inl quotes ↦ rw quotes
  | inr plain ↦ rw plain (begins_bare b (bs ++ (44 ∷ tail)) (bare_byte b bs plain).2)
]

pub row_is : (f g : List ℕ) (fs : List (List ℕ)) → row_of (f ∷ g ∷ fs) ≡ field_text f ++ more_fields (g ∷ fs)
row_is [] g fs = refl
row_is (b ∷ bs) g fs = refl

pub rows_read_back : RowsAreReadBack
rows_read_back f g fs =
    let more = more_read (g ∷ fs) in
    ap sole_record (row_is f g fs) ∙ begins f (field_text g ++ more_fields fs) ∙ ap (option_map all_fields) (field_read f (more_fields (g ∷ fs)) (g ∷ fs) more.0 more.1 more.2)
