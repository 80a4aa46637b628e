-- What an operator may do next, by the faces of its arcs.
use Rattle.std.specs.Prelude.{◌≡◌, ℕ, ◌<◌, Bool, true, false, List, Option, Some, None, slice_get}
use Rattle.sq_left.specs.Heads.{key_before, UpTo}
use Rattle.sq_heads.specs.declared.Next.{Next}
use Rattle.sq_heads.specs.declared.Next.TheVariants.{Waits, Ended, Feed}

-- the arc doesn't begin before (t, p), and where nothing stands there, no more will come
abbrev pub FirstNotBefore : Bool → ℕ → ℕ → ℕ → Option ℕ → Type 0
FirstNotBefore ended t p port None = ended ≡ true
FirstNotBefore ended t p port (Some time) = key_before time port t p ≡ false

-- what is said of the first ports: some arc has nothing yet; all have ended; or the least of the first items is at this arc
abbrev pub NextUpTo : List ℕ → (ℕ → Option ℕ) → (ℕ → Bool) → ℕ → Next → Type 0
NextUpTo arcs first ended n Waits =
    (port : ℕ) × (arc : ℕ) × (port < n) × (slice_get arcs port ≡ Some arc) × (first arc ≡ None) × (ended arc ≡ false)
NextUpTo arcs first ended n Ended = UpTo arcs (λ port arc. (first arc ≡ None) × (ended arc ≡ true)) n
NextUpTo arcs first ended n (Feed t p at) =
    (p < n) × (slice_get arcs p ≡ Some at) × (first at ≡ Some t) × UpTo arcs (λ port arc. FirstNotBefore (ended arc) t p port (first arc)) n
