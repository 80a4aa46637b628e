-- Orders in which the lines of a run may be written: line by line, each the next of its class: words of the proofs alone.
use Rattle.sq_due.specs.Answers.{AreOthersAll, IsClassIn, class_lines}
use Rattle.sq_lines.specs.Classes.{Class, Ended, is_of_class}
use Rattle.sq_due.specs.Due.{Due}
use Rattle.sq_words.specs.Lists.{IsPrefixOf}
use Rattle.std.specs.Prelude.{List, ℕ, ⊤, [], ◌≡◌, ◌∷◌, ◌++◌}
use Rattle.std.specs.List.{filter}

-- after these lines comes the next one of a class; of the end lines only where the other classes are whole
abbrev pub IsNextOf : Due → List (List ℕ) → List ℕ → Class → Type 0
IsNextOf d before line c =
    IsClassIn d c × IsPrefixOf (filter (is_of_class c) before ++ line ∷ []) (class_lines d c) × (c ≡ Ended → AreOthersAll d before)

-- each of these lines, after those before, is the next of its class
abbrev pub EachIsNext : Due → List (List ℕ) → List (List ℕ) → Type 0
EachIsNext d before [] = ⊤
EachIsNext d before (line ∷ lines) = ((c : Class) × IsNextOf d before line c) × EachIsNext d (before ++ line ∷ []) lines

-- lines that may be written in this order
abbrev pub IsLineOrder : Due → List (List ℕ) → Type 0
IsLineOrder d lines = EachIsNext d [] lines

-- of each class these lines are all
abbrev pub AreAll : Due → List (List ℕ) → Type 0
AreAll d lines = (c : Class) → IsClassIn d c → filter (is_of_class c) lines ≡ class_lines d c
