-- A finished actor has neither given nor holds just what it loses.
use Rattle.std.proofs.Common.{◌≡◌, false, [], length, refl, ap, arith}
use Rattle.sq_lists.specs.Sorters.{sort_flush}
use Rattle.sq_actor.specs.declared.actor.Actor.{Actor}
use Rattle.sq_actor.specs.declared.actor.Actor.TheVariants.{Filter, Map, Union, BSort, Aggregate, Join, Resample, Shed, Gate}
use Rattle.sq_actor.specs.contracts.actor.ActorOperator.TheImpl.{ghosts}
use Rattle.sq_actor.specs.Lateness.{late_by_actor}

pub late-lost : (a : Actor) → ghosts.valid a → ghosts.running a ≡ false → late_by_actor a (ghosts.taken a) ≡ ghosts.lost a []
late-lost (Filter b) v r = refl
late-lost (Map b) v r = refl
late-lost (Union b) v r = refl
late-lost (BSort b) v r =
    let none = v.1 r in
    let held = ap length none in
    let flush = ap (λ l. length (sort_flush (record b.sorter { held = l }))) none in
    omega (arith, held, flush)
late-lost (Aggregate b) v r = refl
late-lost (Join b) v r = refl
late-lost (Resample b) v r = refl
late-lost (Shed b) v r = refl
late-lost (Gate b) v r = refl
