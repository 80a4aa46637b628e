use Rattle.std.proofs.Common.{◌≡◌, map}
use Rattle.sq_flow.specs.Seats.{unfed}
use Rattle.sq_core.specs.NewSeats.{none_fed}
use Rattle.sq_core.proofs.seated.seats_of.Given as goal

abbrev pub invariant-loop-op : goal.invariant-loop-op
invariant-loop-op l = l.seats.items ≡ map (λ a. record { op = a; tally = none_fed; fed = unfed }) l.yielded
