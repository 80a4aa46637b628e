-- CommandWords: the words of a command.
use Rattle.std.specs.Prelude.{Bool, List, false, not, ℕ, [], ◌==◌, ◌∷◌}

abbrev pub Word : Type 0
Word = List ℕ

abbrev pub is_equals : ℕ → Bool
is_equals b = b == 61

-- a word that may name a file: it isn't empty and doesn't begin with a dash
abbrev pub may_name : Word → Bool
may_name [] = false
may_name (b ∷ bs) = not (b == 45)
