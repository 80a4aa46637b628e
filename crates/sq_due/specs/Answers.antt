-- What a run has written: the whole lines of each class, or a prefix of each.
use Rattle.std.specs.Prelude.{◌≡◌, ◌≢◌, ◌⊎◌, ℕ, Bool, true, not, ◌||◌, ⊤, IsTrue, List, [], ◌++◌, length, IsSomeAnd, slice_get}
use Rattle.std.specs.List.{filter, flat_map, list_any, list_all}
use Rattle.std.specs.Fmt.{decimal}
use Rattle.sq_words.specs.Lists.{same_bytes, IsPrefixOf}
use Rattle.sq_lines.specs.Classes.{Class, Shown, Dropped, Planned, Ended, is_of_class, of_class, whole_lines, unfinished}
use Rattle.sq_due.specs.Due.{Due}

-- the lines that belong to a class
abbrev pub class_lines : Due → Class → List (List ℕ)
class_lines d (Shown name) = flat_map (λ o. o.1) (filter (λ o. same_bytes o.0 name) d.shown)
class_lines d (Dropped w) = flat_map (λ x. x.1) (filter (λ x. same_bytes (decimal x.0) (decimal w)) d.dropped)
class_lines d Planned = d.planned
class_lines d Ended = d.ended

-- the classes of a run: one for each output, one for each drop, the plans and the end
abbrev pub IsClassIn : Due → Class → Type 0
IsClassIn d (Shown name) = IsTrue (list_any (λ o. same_bytes o.0 name) d.shown)
IsClassIn d (Dropped w) = ⊤
IsClassIn d Planned = ⊤
IsClassIn d Ended = ⊤

-- whether a line belongs to a class
abbrev pub is_classed : Due → List ℕ → Bool
is_classed d line =
    list_any (λ o. is_of_class (Shown o.0) line) d.shown || list_any (λ x. is_of_class (Dropped x.0) line) d.dropped
    || is_of_class Planned line || is_of_class Ended line

-- the end lines stand last
abbrev pub EndsLast : Due → List ℕ → Type 0
EndsLast d text =
    (before : List (List ℕ)) × (whole_lines text ≡ before ++ d.ended) × (list_all (λ line. not (is_of_class Ended line)) before ≡ true)

-- of each class but that of the end lines these lines are all
abbrev pub AreOthersAll : Due → List (List ℕ) → Type 0
AreOthersAll d lines = (c : Class) → IsClassIn d c → c ≢ Ended → filter (is_of_class c) lines ≡ class_lines d c

-- the text has exactly the lines of each class, and nothing else
pub record IsWholeText (d : Due) (text : List ℕ) : Type 0 where
  pub lines : (c : Class) → IsClassIn d c → of_class c text ≡ class_lines d c
  pub classed : list_all (is_classed d) (whole_lines text) ≡ true
  pub finished : unfinished text ≡ []
  pub ends_last : EndsLast d text

-- what follows the last whole line begins the next line of a class
abbrev pub BeginsNext : Due → List ℕ → Class → Type 0
BeginsNext d text c =
    IsClassIn d c × IsSomeAnd (slice_get (class_lines d c) (length (of_class c text))) (λ next. IsPrefixOf (unfinished text) next)

-- all classes but that of the end lines are whole
abbrev pub AreOthersWhole : Due → List ℕ → Type 0
AreOthersWhole d text = AreOthersAll d (whole_lines text)

-- the text has a prefix of the lines of each class, and maybe a part of one line
pub record IsPrefixText (d : Due) (text : List ℕ) : Type 0 where
  pub lines : (c : Class) → IsClassIn d c → IsPrefixOf (of_class c text) (class_lines d c)
  pub classed : list_all (is_classed d) (whole_lines text) ≡ true
  pub begun : (unfinished text ≡ []) ⊎ ((c : Class) × BeginsNext d text c × (c ≡ Ended → AreOthersWhole d text))
  pub ends_last : of_class Ended text ≢ [] → AreOthersWhole d text
