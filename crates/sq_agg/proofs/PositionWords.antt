-- A machine that keeps something for each tick, and gives it once no entry can change it any more: words of the proofs alone.
use Rattle.std.specs.Prelude.{List, ℕ, [], ◌≤◌, ◌∷◌, ◌++◌}
use Rattle.sq_agg.specs.Positions.{View, view_flush, view_gives, view_next}

abbrev pub view_run : {W E A : Type 0} → ℕ → (E → ℕ) → (ℕ → E → W → W) → (ℕ → W → List A) → View W → List E → List A
view_run size time change content v [] = view_flush size content v
view_run size time change content v (e ∷ es) = view_gives size time content v e ++ view_run size time change content (view_next time change v e) es

-- what a tick keeps after some entries
abbrev pub changed_at : {W E : Type 0} → (ℕ → E → W → W) → ℕ → List E → W → W
changed_at change p [] w = w
changed_at change p (e ∷ es) w = changed_at change p es (change p e w)

abbrev pub last_time : {E : Type 0} → (E → ℕ) → ℕ → List E → ℕ
last_time time now [] = now
last_time time now (e ∷ es) = last_time time (time e) es

-- the times don't fall
abbrev pub NotFalling : {E : Type 0} → (E → ℕ) → ℕ → List E → Type 0
NotFalling time now [] = Unit {0}
NotFalling time now (e ∷ es) = (now ≤ time e) × NotFalling time (time e) es
