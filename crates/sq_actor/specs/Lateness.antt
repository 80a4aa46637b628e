-- Tuples that came too late.
use Rattle.std.specs.Prelude.{ℕ, ◌+◌, ◌-◌}
use Rattle.sq_plain.specs.Sorts.{given_by, held_by}
use Rattle.sq_actor.specs.declared.actor.Actor.{Actor}
use Rattle.sq_actor.specs.declared.actor.Actor.TheVariants.{Filter, Map, Union, BSort, Aggregate, Join, Resample, Shed, Gate}

-- of an actor that was fed so many tuples, how many it has neither given nor holds: a BSort alone throws tuples away
abbrev pub late_by_actor : Actor → ℕ → ℕ
late_by_actor (Filter b) taken = 0
late_by_actor (Map b) taken = 0
late_by_actor (Union b) taken = 0
late_by_actor (BSort b) taken = taken - (given_by b + held_by b)
late_by_actor (Aggregate b) taken = 0
late_by_actor (Join b) taken = 0
late_by_actor (Resample b) taken = 0
late_by_actor (Shed b) taken = 0
late_by_actor (Gate b) taken = 0
