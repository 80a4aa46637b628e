-- Rows by the kit's `csv`, and rows that show their fields as they stand.
use Rattle.std.specs.Prelude.{◌≡◌, ◌==◌, ◌||◌, ℕ, Bool, true, false, List, [], ◌∷◌, length, Some}
use Rattle.csv.specs.Writing.{default_writer, row_text}
use Rattle.sq_lines.specs.LineTexts.{line_of, row_of}
use Rattle.sq_csv.specs.Records.{sole_record}

-- a line is what `csv` writes by default
abbrev pub LinesAreCsv : Type 0
LinesAreCsv = (fields : List (List ℕ)) → line_of fields ≡ row_text default_writer fields

-- whether a row has no byte to show
abbrev pub shows_nothing : List (List ℕ) → Bool
shows_nothing [] = true
shows_nothing (f ∷ []) = length f == 0
shows_nothing (f ∷ g ∷ fs) = false

-- a byte that isn't as it stands between quotes, or that breaks a line there
abbrev pub breaks_quotes : ℕ → Bool
breaks_quotes b = (b == 34) || (b == 13) || (b == 10)

-- a row of two fields and more is one record, of these fields
abbrev pub RowsAreReadBack : Type 0
RowsAreReadBack = (f g : List ℕ) (fs : List (List ℕ)) → sole_record (row_of (f ∷ g ∷ fs)) ≡ Some (f ∷ g ∷ fs)
