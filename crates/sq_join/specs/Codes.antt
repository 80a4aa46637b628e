-- The code of a key, by which its row is found. No law needs that different keys have different ones.
use Rattle.std.specs.Prelude.{ℕ, ℤ, ◌+◌, ◌*◌, ◌/◌, ◌%◌, ◌^◌, unsigned_abs, fold, Bool, false, ◌||◌, if◌then◌else◌, List, [], ◌∷◌, Option, Some, None}
use Rattle.std.specs.Hash.FoldHasher as folding
use Rattle.sq_value.specs.declared.Value.{Value}
use Rattle.sq_value.specs.declared.Value.TheVariants as value
use Rattle.sq_value.specs.declared.Tuple.{Tuple}
use Rattle.sq_value.specs.Values.{is_null}
use Rattle.sq_aggfn.specs.Groups.{group_of}
use Rattle.sq_expr.specs.Trees.{Expr}
use Rattle.sq_expr.specs.Apart.{numbers_for}
use Rattle.sq_groups.specs.KeyWrites.{key_writes}

abbrev pub has_null : List Value → Bool
has_null [] = false
has_null (v ∷ vs) = is_null v || has_null vs

-- the number that a key is
abbrev pub lone_number : List Value → Option ℤ
lone_number (value.Int number ∷ []) = Some number
lone_number key = None

-- what std's fast hasher makes of a key
abbrev pub hash_of : List Value → ℕ
hash_of key = folding.finish (fold folding.write folding.initial (key_writes key))

-- a number's size, spread over all 64 bits
abbrev pub number_code : ℤ → ℕ
number_code number = (unsigned_abs number * 0x9e37_79b9_7f4a_7c15) % 2 ^ 64

-- the code of a key, with a number more
abbrev pub code_with : ℕ → ℤ → ℕ
code_with code number = (code + unsigned_abs number) % 2 ^ 64 * 0x9e37_79b9_7f4a_7c15 % 2 ^ 64

-- the same with several; none where one of them isn't there
abbrev pub code_with_all : Option ℕ → List (Option ℤ) → Option ℕ
code_with_all code [] = code
code_with_all None (n ∷ ns) = None
code_with_all (Some code) (None ∷ ns) = None
code_with_all (Some code) (Some number ∷ ns) = code_with_all (Some (code_with code number)) ns

abbrev pub code_by : Option ℤ → List Value → Option ℕ
code_by (Some number) key = Some (number_code number)
code_by None key = if has_null key then None else Some (hash_of key)

-- of a number alone its size, of another key its hash; of a key with Null, which equals no other, none
abbrev pub key_code : List Value → Option ℕ
key_code key = code_by (lone_number key) key

-- the code of the key that a tuple has at some places and by some expressions
abbrev pub tuple_code : List ℕ → List Expr → Tuple → Option ℕ
tuple_code places parts x = code_with_all (key_code (group_of places x)) (numbers_for parts x)

-- the row, of so many, in which keys of a code stand
abbrev pub row_at_code : ℕ → ℕ → ℕ
row_at_code rows code = code * rows / 2 ^ 64
