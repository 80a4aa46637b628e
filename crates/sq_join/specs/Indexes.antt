-- Where the tuples that are held of a side stand, by their keys.
use Rattle.std.specs.Prelude.{◌≡◌, ℕ, suc, ◌+◌, ◌^◌, ◌==◌, ◌<◌, Bool, true, false, if◌then◌else◌, List, [], ◌∷◌, length, Option, Some, None, IfSome, slice_get, ⊤}
use Rattle.std.specs.declared.collections.VecDeque.{VecDeque}
use Rattle.std.specs.List.{AllByRecursion}
use Rattle.std.specs.declared.alloc.Global.{Global}
use Rattle.sq_value.specs.declared.Tuple.{Tuple}
use Rattle.sq_expr.specs.Trees.{Expr}
use Rattle.sq_expr.specs.Expressions.{holds_of}
use Rattle.sq_lists.specs.Sides.{pair_at}
use Rattle.sq_join.specs.declared.index.Index.{Index}
use Rattle.sq_join.specs.declared.side_indexes.SideIndexes.{SideIndexes}
use Rattle.sq_join.specs.declared.side_indexes.Candidates.{Candidates}
use Rattle.sq_join.specs.declared.side_indexes.Candidates.TheVariants as candidates
use Rattle.sq_join.specs.EqualFields.{EquatesCodes}
use Rattle.sq_join.specs.Codes.{tuple_code, row_at_code}

-- whether a key of this code, where it has one, belongs in a row, of so many
abbrev pub belongs : ℕ → ℕ → Option ℕ → Bool
belongs rows row None = false
belongs rows row (Some code) = row_at_code rows code == row

-- whether the key of a tuple belongs in a row, of so many
abbrev pub belongs_at : List ℕ → List Expr → ℕ → ℕ → Tuple → Bool
belongs_at places parts rows row x = belongs rows row (tuple_code places parts x)

-- the positions of the tuples for which a test is true; the first stands at this one
abbrev pub positions : (Tuple → Bool) → ℕ → List Tuple → List ℕ
positions test first [] = []
positions test first (x ∷ xs) = if test x then first ∷ positions test (suc first) xs else positions test (suc first) xs

abbrev pub positions_in : Option (VecDeque ℕ Global) → List ℕ
positions_in None = []
positions_in (Some numbers) = numbers.items

abbrev pub row_count : Index → ℕ
row_count index = length index.rows.items

-- what stands in a row
abbrev pub positions_in_row : Index → ℕ → List ℕ
positions_in_row index row = positions_in (slice_get index.rows.items row)

-- an index tells of each row the positions of those that belong there
pub record IsIndex (held : List Tuple) (index : Index) : Type 0 where
  pub rows : (row : ℕ) → row < row_count index → positions_in_row index row ≡ positions (belongs_at index.places.items index.parts.items (row_count index) row) index.first held
  pub even : 0 < row_count index → AllByRecursion (λ x. length x.fields ≡ index.width) held
  pub fits : index.first + length held < 2 ^ 64

-- two indexes are of the same keys
abbrev pub IsOfSameKeys : Index → Index → Type 0
IsOfSameKeys before after = (after.places ≡ before.places) × ((after.parts ≡ before.parts) × (after.width ≡ before.width))

-- there is an index of each side
abbrev pub AreOf : List Tuple → List Tuple → SideIndexes → Type 0
AreOf left right indexes = IsIndex left indexes.left × IsIndex right indexes.right

-- the same, of keys that a predicate equates
pub record AreIndexes (on : Expr) (left right : List Tuple) (indexes : SideIndexes) : Type 0 where
  pub equates : EquatesCodes on indexes.left.width indexes.left.places.items indexes.left.parts.items indexes.right.places.items indexes.right.parts.items
  pub both : AreOf left right indexes

-- the same, where there are indexes
abbrev pub MayIndex : Expr → List Tuple → List Tuple → Option SideIndexes → Type 0
MayIndex on left right indexes = IfSome indexes (AreIndexes on left right)

-- each of these tuples with which one passes belongs in a row
abbrev pub HasPassing : Expr → ℕ → Tuple → List Tuple → Index → ℕ → Type 0
HasPassing on side x held index row =
    (row < row_count index) × AllByRecursion (λ y. holds_of on (pair_at side x y) ≡ true → belongs_at index.places.items index.parts.items (row_count index) row y ≡ true) held

-- those with which a tuple may pass
abbrev pub AreCandidates : Expr → ℕ → Tuple → List Tuple → Index → Candidates → Type 0
AreCandidates on side x held index candidates.All = ⊤
AreCandidates on side x held index (candidates.InRow row) = HasPassing on side x held index row
AreCandidates on side x held index candidates.Nobody = AllByRecursion (λ y. holds_of on (pair_at side x y) ≡ false) held

-- of two indexes, that of what stands against a side
abbrev pub index_against : ℕ → SideIndexes → Index
index_against side indexes = if side == 0 then indexes.right else indexes.left

abbrev pub index_of : ℕ → SideIndexes → Index
index_of side indexes = if side == 0 then indexes.left else indexes.right
