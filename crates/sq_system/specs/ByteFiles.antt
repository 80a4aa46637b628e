-- What a file of bytes holds, where it tells it.
use Rattle.std.specs.Prelude.{◌≡◌, ◌⊎◌, ℕ, ◌+◌, ◌≤◌, List, length, take, drop, Option, None, Some, IfSome, IsSomeAnd}

-- these bytes stand at a place of a file
abbrev pub StandsAt : List ℕ → ℕ → List ℕ → Type 0
StandsAt held at bytes = take (length bytes) (drop at held) ≡ bytes

-- and where what the file holds is told
abbrev pub HoldsAt : Option (List ℕ) → ℕ → List ℕ → Type 0
HoldsAt file at bytes = IfSome file (λ held. StandsAt held at bytes)

-- two ranges, each from its place on, share no byte
abbrev pub ShareNoByte : ℕ → ℕ → ℕ → ℕ → Type 0
ShareNoByte at size other width = (at + size ≤ other) ⊎ (other + width ≤ at)

-- what stood beside a range stands there still
abbrev pub KeepsBeside : List ℕ → List ℕ → ℕ → ℕ → Type 0
KeepsBeside before now at size = (other : ℕ) (bytes : List ℕ) → ShareNoByte at size other (length bytes)
    → StandsAt before other bytes → StandsAt now other bytes

-- and a file that told what it holds tells it still, and one that didn't doesn't
abbrev pub KeepsTheRest : Option (List ℕ) → Option (List ℕ) → ℕ → ℕ → Type 0
KeepsTheRest None now at size = now ≡ None
KeepsTheRest (Some before) now at size = IsSomeAnd now (λ held. KeepsBeside before held at size)
