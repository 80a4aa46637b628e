-- What an output is to show by the batches that are recorded, and which of its lines is next.
--     is_left record_at above x            whether a tuple lies in no batch that is recorded of the drop above
--     shown_one record_at streams o        the name of an output, and the lines that it is to show
--     count_of ls name                     how many of some lines are of the output of this name
use Rattle.std.specs.Prelude.{ℕ, ◌≤◌, ◌<◌, ◌/◌, Bool, true, false, not, List, map, length, Option, Some, None, IfSome, slice_get}
use Rattle.std.specs.List.{filter}
use Rattle.sq_words.specs.Lists.{contains_number, nth, same_bytes}
use Rattle.sq_value.specs.declared.Tuple.{Tuple}
use Rattle.sq_lines.specs.LineTexts.{output_line}
use Rattle.sq_lines.specs.Classes.{Shown, first_field, is_of_class}
use Rattle.sq_wanted.specs.declared.wanted.Wanted.{Wanted}

-- whether a tuple lies in no batch that is recorded of the drop above
abbrev pub is_left : (ℕ → List ℕ) → Option (ℕ × ℕ) → Tuple → Bool
is_left record_at None x = true
is_left record_at (Some d) x = not (contains_number (record_at d.0) (x.time / d.1))

-- the tuples that an output is to show, and their lines under its name
abbrev pub left_of : (ℕ → List ℕ) → List (List Tuple) → Wanted → List Tuple
left_of record_at streams o = filter (is_left record_at o.above) (nth streams o.stream)

abbrev pub shown_one : (ℕ → List ℕ) → List (List Tuple) → Wanted → List ℕ × List (List ℕ)
shown_one record_at streams o = (o.name, map (output_line o.name) (left_of record_at streams o))

-- the drop above is one of these, and its batches have a length
abbrev pub IsBelow : ℕ → Wanted → Type 0
IsBelow drops o = IfSome o.above (λ d. (d.0 < drops) × (1 ≤ d.1))

abbrev pub has_first : List ℕ → List ℕ → Bool
has_first word line = same_bytes (first_field line) word

abbrev pub count_of : List (List ℕ) → List ℕ → ℕ
count_of ls name = length (filter (is_of_class (Shown name)) ls)

-- whether a line is the next one of its output
abbrev pub is_line_at : Option (List ℕ) → List ℕ → Bool
is_line_at None line = false
is_line_at (Some next) line = same_bytes line next

abbrev pub is_next : List (List ℕ) → (List ℕ × List (List ℕ)) → List ℕ → Bool
is_next before o line = is_line_at (slice_get o.1 (count_of before o.0)) line

-- whether a line is that of a tuple
abbrev pub is_line_of : List ℕ → Option Tuple → List ℕ → Bool
is_line_of name None line = false
is_line_of name (Some t) line = same_bytes line (output_line name t)
