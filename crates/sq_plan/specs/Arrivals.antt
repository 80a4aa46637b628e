-- How many tuples arrive in an epoch.
use Rattle.std.specs.Prelude.{ℕ, ◌/◌, ◌==◌, List, map}
use Rattle.std.specs.List.{count_by}
use Rattle.sq_value.specs.declared.Tuple.{Tuple}

-- how many tuples of each stream arrive in an epoch, where an epoch lasts so many ticks
abbrev pub arrivals : ℕ → List (List Tuple) → ℕ → List ℕ
arrivals epoch streams e = map (count_by (λ x. x.time / epoch == e)) streams
