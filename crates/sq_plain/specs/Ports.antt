-- The port of a tuple, guessed by the value of a field.
use Rattle.std.specs.Prelude.{◌≡◌, ℕ, suc, ◌*◌, ◌/◌, ◌%◌, ◌^◌, unsigned_abs, if◌then◌else◌, true, List, [], ◌∷◌, Option, IfSome, slice_index, ⊤}
use Rattle.std.specs.Hash.FoldHasher as folding
use Rattle.sq_value.specs.declared.Value.{Value}
use Rattle.sq_value.specs.declared.Value.TheVariants as value
use Rattle.sq_value.specs.declared.Tuple.{Tuple}
use Rattle.sq_value.specs.Values.{field}
use Rattle.sq_expr.specs.Trees.{Expr}
use Rattle.sq_expr.specs.Expressions.{holds_of}
use Rattle.sq_plain.specs.declared.ports.Ports.{Ports}

-- a number's size, what std's fast hasher makes of a text; no law needs that different values have different ones
abbrev pub value_word : Value → ℕ
value_word value.Null = 0
value_word (value.Int i) = unsigned_abs i
value_word (value.Bool b) = if b then 1 else 0
value_word (value.Text t) = folding.finish (folding.write folding.initial t)

-- the slot of a value, one of 256
abbrev pub slot_of : ℕ → Value → ℕ
slot_of seed v = value_word v * seed % 2 ^ 64 / 2 ^ 56

abbrev pub guess_of : Ports → Value → ℕ
guess_of ports v = slice_index ports.slots.items (slot_of ports.seed v)

-- where a predicate is true its number is guessed
abbrev pub IsGuessed : Ports → ℕ → Expr → Type 0
IsGuessed ports number e = (t : Tuple) → holds_of e t ≡ true → guess_of ports (field t.fields ports.place) ≡ number

-- the same of predicates that are numbered from this one on
abbrev pub AreGuessed : Ports → ℕ → List Expr → Type 0
AreGuessed ports first [] = ⊤
AreGuessed ports first (e ∷ es) = IsGuessed ports first e × AreGuessed ports (suc first) es

-- the same of all predicates, where there are ports
abbrev pub MayGuess : List Expr → Option Ports → Type 0
MayGuess es ports = IfSome ports (λ ports. AreGuessed ports 0 es)
