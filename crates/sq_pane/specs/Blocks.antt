-- Blocks: joins of the states of some panes in a row.
use Rattle.std.specs.Prelude.{◌≡◌, ℕ, ◌<◌, ◌≤◌, nat_lt, Bool, false, List, [], ◌∷◌, length, take, drop}
use Rattle.sq_rows.specs.Rows.{total, joined_onto}

-- a state that was joined of some
pub record IsJoin {M : Type 0} (none : M) (join : M → M → M) (made : M → Type 0) (number : M → ℕ) (es : List (ℕ × M)) (block : M) : Type 0 where
  pub value : block ≡ joined_onto join none es
  pub kept : made block
  pub count : number block ≤ total number es

-- each block was joined of as many of the next states, and another state follows
abbrev pub AreBlocks : {M : Type 0} → ℕ → (List (ℕ × M) → M → Type 0) → List M → List (ℕ × M) → Type 0
AreBlocks size P [] es = Unit {0}
AreBlocks size P (b ∷ bs) es = (size < length es) × P (take size es) b × AreBlocks size P bs (drop size es)

-- the first state is that of a pane before a number
abbrev pub begins_before : {M : Type 0} → ℕ → List (ℕ × M) → Bool
begins_before n [] = false
begins_before n (e ∷ es) = nat_lt e.0 n
