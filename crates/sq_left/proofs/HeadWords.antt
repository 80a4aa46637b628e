-- The heads of queues: words of the proofs alone.
use Rattle.std.specs.Prelude.{Bool, List, false, true, ℕ, [], ◌≡◌, ◌∷◌}
use Rattle.sq_item.specs.declared.Item.{Item}
use Rattle.sq_left.specs.Heads.{key_before}

-- the items don't begin before (t, p), and where there are none, no more will come
abbrev pub ItemsNotBefore : Bool → ℕ → ℕ → ℕ → List Item → Type 0
ItemsNotBefore done t p port [] = done ≡ true
ItemsNotBefore done t p port (item ∷ items) = key_before item.time port t p ≡ false
