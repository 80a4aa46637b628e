-- The epochs in which tuples arrive.
use Rattle.std.specs.Prelude.{◌≡◌, ℕ, ◌/◌, ◌<◌, ◌==◌, true, List}
use Rattle.std.specs.List.{count_by}
use Rattle.sq_value.specs.declared.Tuple.{Tuple}
use Rattle.sq_plan.specs.PlanRows.{is_quiet}
use Rattle.sq_plan.specs.Arrivals.{arrivals}

-- how many tuples of a source arrive in an epoch
abbrev pub count_in : ℕ → ℕ → List Tuple → ℕ
count_in epoch e xs = count_by (λ x. x.time / epoch == e) xs

-- between two epochs no tuple of a source arrives, and none of any
abbrev pub NoneBetween : ℕ → ℕ → ℕ → List Tuple → Type 0
NoneBetween epoch ended next xs = (e : ℕ) → ended < e → e < next → count_in epoch e xs ≡ 0

abbrev pub QuietBetween : ℕ → ℕ → ℕ → List (List Tuple) → Type 0
QuietBetween epoch ended next sources = (e : ℕ) → ended < e → e < next → is_quiet (arrivals epoch sources e) ≡ true
