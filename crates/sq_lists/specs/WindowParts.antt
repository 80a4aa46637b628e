-- What the windows of an Aggregate are gone over by.
use Rattle.std.specs.Prelude.{ℕ, ◌-◌, ◌≤◌, suc, nat_lt, if◌then◌else◌, List, [], ◌∷◌, ◌++◌, map}
use Rattle.std.specs.List.{flat_map, range_with_len}
use Rattle.sq_value.specs.declared.Value.{Value}
use Rattle.sq_value.specs.declared.Tuple.{Tuple}
use Rattle.sq_aggfn.specs.declared.WindowSpec.{WindowSpec}
use Rattle.sq_aggfn.specs.Windows.{start_of}
use Rattle.sq_lists.specs.Windows.{in_window, window_results}

-- how many tuples stand before the first that has this time or a later one
abbrev pub leading : ℕ → List Tuple → ℕ
leading end [] = 0
leading end (x ∷ xs) = if nat_lt x.time end then suc (leading end xs) else 0

-- the results of some groups, from what is kept of each
abbrev pub told_results : {M : Type 0} → (M → List Value) → ℕ → List (List Value × M) → List Tuple
told_results told start es = map (λ e. record { time = start; fields = e.0 ++ told e.1 }) es

-- the results of the windows with the numbers from one on, below another
abbrev pub numbered_results : (List Tuple → List Value) → List ℕ → WindowSpec → List Tuple → ℕ → ℕ → List Tuple
numbered_results answers by w xs from to =
    flat_map (λ k. window_results answers by (start_of w k) (in_window w (start_of w k) xs)) (range_with_len from (to - from))

-- no tuple has a time below that of one before it
abbrev pub TimesNotFalling : ℕ → List Tuple → Type 0
TimesNotFalling least [] = Unit {0}
TimesNotFalling least (x ∷ xs) = (least ≤ x.time) × TimesNotFalling x.time xs
