-- What a name is.
use Rattle.std.specs.Prelude.{ℕ, Bool, false, not, ◌&&◌, ◌||◌, ◌==◌, nat_lt, List, [], ◌∷◌, length, codes, ◌++◌}
use Rattle.std.specs.List.{list_all}
use Rattle.sq_words.specs.Lists.{contains_bytes}
use Rattle.sq_expr.specs.Tokens.{is_letter, in_word}
use Rattle.std.specs.Fmt.{decimal}

abbrev pub has_name_form : List ℕ → Bool
has_name_form [] = false
has_name_form (b ∷ bs) = is_letter b && list_all in_word bs && nat_lt (length bs) 32

-- the words of expressions that are no names
abbrev pub reserved : List (List ℕ)
reserved = codes "and" ∷ codes "or" ∷ codes "not" ∷ codes "is" ∷ codes "null" ∷ codes "true" ∷ codes "false" ∷ codes "time" ∷ []

-- a lower-case letter, then lower-case letters, digits and `_`, at most 32 in all, and none of the reserved words
abbrev pub is_name : List ℕ → Bool
is_name w = has_name_form w && not (contains_bytes w reserved)

-- the name of a port of a Filter; ports count from 1 in a file
abbrev pub port_name : List ℕ → ℕ → List ℕ
port_name name number = name ++ (46 ∷ decimal number)
