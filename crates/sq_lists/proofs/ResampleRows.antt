-- Resample on whole lists, worked out.
use Rattle.std.proofs.Common.{◌≡◌, ℕ, List, [], ◌∷◌, refl, pos}
use Rattle.sq_value.specs.declared.Value.{Value}
use Rattle.sq_value.specs.declared.Value.TheVariants as value
use Rattle.sq_value.specs.declared.Tuple.{Tuple}
use Rattle.sq_aggfn.specs.declared.Func.TheVariants as func
use Rattle.sq_lists.specs.Resamples.{resample_list_of}

-- a tuple of one number, and one with what was told behind it
abbrev at : ℕ → ℕ → Tuple
at t v = record { time = t; fields = value.Int (pos v) ∷ [] }

abbrev told : ℕ → ℕ → List Value → Tuple
told t v more = record { time = t; fields = value.Int (pos v) ∷ more }

abbrev left : List Tuple
left = at 2 1 ∷ at 5 2 ∷ []

abbrev right : List Tuple
right = at 1 10 ∷ at 3 20 ∷ at 4 30 ∷ []

-- sums over the ticks round each left tuple, one tick on each side
sums : resample_list_of (func.Sum 0 ∷ []) 1 left right ≡ told 2 1 (value.Int (pos 30) ∷ []) ∷ told 5 2 (value.Int (pos 30) ∷ []) ∷ []
sums = refl

-- where nothing is near, `count` is 0 and a sum is Null
nothing : resample_list_of (func.Count ∷ func.Sum 0 ∷ []) 0 left right
    ≡ told 2 1 (value.Int (pos 0) ∷ value.Null ∷ []) ∷ told 5 2 (value.Int (pos 0) ∷ value.Null ∷ []) ∷ []
nothing = refl

-- of equal ticks each left tuple has all right ones, before it or behind it
equal_ticks : resample_list_of (func.First 0 ∷ func.Last 0 ∷ []) 0 (at 3 1 ∷ at 3 2 ∷ []) (at 3 7 ∷ at 3 8 ∷ at 4 9 ∷ [])
    ≡ told 3 1 (value.Int (pos 7) ∷ value.Int (pos 8) ∷ []) ∷ told 3 2 (value.Int (pos 7) ∷ value.Int (pos 8) ∷ []) ∷ []
equal_ticks = refl
