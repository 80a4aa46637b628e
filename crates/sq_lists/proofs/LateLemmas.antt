-- LateLemmas.
use Rattle.std.proofs.Common.{List, None, Some, arith, length, suc, ℕ, [], ◌≤◌, ◌∷◌, false, max, true, ◌++◌}
use Rattle.sq_value.specs.declared.Tuple.{Tuple}
use Rattle.std.specs.List.{cons_option}
use Rattle.sq_lists.specs.Sorting.{retimed, without_late}
use Rattle.sq_lists.specs.Sorters.{timed}
use Rattle.std.specs.Prelude.{nat_lt, if◌then◌else◌}

pub retimed_few : (by : ℕ) (xs : List Tuple) → length (retimed by xs) ≤ length xs
retimed_few by [] = omega arith
retimed_few by (x ∷ xs) =
    let h = retimed_few by xs in
    elim (timed by x) as (λ o. length (cons_option o (retimed by xs)) ≤ suc (length xs)) [ None ↦ omega (arith, h) | Some y ↦ omega (arith, h) ]

pub on_time_few : (latest : ℕ) (xs : List Tuple) → length (without_late latest xs) ≤ length xs
on_time_few latest [] = omega arith
on_time_few latest (x ∷ xs) =
    let h = on_time_few (max latest x.time) xs in
    elim (nat_lt x.time latest) as (λ b. length ((if b then [] else x ∷ []) ++ without_late (max latest x.time) xs) ≤ suc (length xs)) [ true ↦ omega (arith, h) | false ↦ omega (arith, h) ]
