-- Texts in which nothing is wrong: each line of a class is there, in order, and nothing else is, whatever the order between classes.
use Rattle.std.specs.Prelude.{◌≡◌, ℕ, ◌<◌, Bool, true, not, ◌||◌, IsTrue, List, [], ◌∷◌, ◌++◌, codes}
use Rattle.std.specs.List.{filter, flat_map, list_any, list_all}
use Rattle.sq_words.specs.Lists.{same_bytes, numbers_to}
use Rattle.sq_lines.specs.LineTexts.{end_line}
use Rattle.sq_lines.specs.Classes.{Shown, Dropped, Planned, Ended, is_of_class, of_class, whole_lines, unfinished}
use Rattle.sq_verdict.specs.Faults.{Lines}
use Rattle.sq_wanted.specs.Showing.{has_first}

-- the lines of each output by its name, the number of drops, the lines of each drop by its own number, and the end lines
pub record Expected : Type 0 where
  pub shown : Lines
  pub drops : ℕ
  pub dropped : ℕ → List (List ℕ)
  pub ended : List (List ℕ)

abbrev pub is_shown : Expected → List ℕ → Bool
is_shown d name = list_any (λ o. same_bytes o.0 name) d.shown

abbrev pub lines_shown : Expected → List ℕ → List (List ℕ)
lines_shown d name = flat_map (λ o. o.1) (filter (λ o. same_bytes o.0 name) d.shown)

-- whether a line belongs to a class
abbrev pub is_expected : Expected → List ℕ → Bool
is_expected d line =
    list_any (λ o. is_of_class (Shown o.0) line) d.shown || list_any (λ w. is_of_class (Dropped w) line) (numbers_to d.drops)
    || is_of_class Planned line || is_of_class Ended line

-- the end lines stand last
abbrev pub EndsAsExpected : Expected → List ℕ → Type 0
EndsAsExpected d text =
    (before : List (List ℕ)) × (whole_lines text ≡ before ++ d.ended) × (list_all (λ line. not (is_of_class Ended line)) before ≡ true)

-- the text has exactly the lines of each output and of each drop, and nothing else but plans and the end lines
pub record IsWhole (d : Expected) (text : List ℕ) : Type 0 where
  pub shown : (name : List ℕ) → IsTrue (is_shown d name) → of_class (Shown name) text ≡ lines_shown d name
  pub dropped : (w : ℕ) → w < d.drops → of_class (Dropped w) text ≡ d.dropped w
  pub classed : list_all (is_expected d) (whole_lines text) ≡ true
  pub finished : unfinished text ≡ []
  pub ends_last : EndsAsExpected d text

-- end lines with the last one at their end
pub record AreEnds (ls : List (List ℕ)) : Type 0 where
  pub others : List (List ℕ)
  pub is : ls ≡ others ++ (end_line ∷ [])
  pub none : list_all (λ l. not (has_first (codes "@end") l)) others ≡ true
