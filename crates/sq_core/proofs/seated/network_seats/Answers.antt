use Rattle.std.proofs.Common.{◌∙◌, ap, sym, subst, map, length, slice_get}
use Rattle.std.proofs.lemmas.List.{length-map}
use Rattle.std.proofs.lemmas.Result.{IfOk-weaker}
use Rattle.sq_actor.specs.declared.actor.Actor as operator
use Rattle.sq_flow.specs.declared.seats.Seat.{Seat}
use Rattle.sq_flow.specs.Seats.{unfed}
use Rattle.sq_start.specs.Numbers.{actor_at}
use Rattle.sq_start.specs.NewOperators.{IsStarted}
use Rattle.sq_core.specs.NewSeats.{none_fed}
use Rattle.sq_core.proofs.NetLemmas.{unmapped}
use Rattle.sq_core.proofs.seated.network_seats.Goals as goal

abbrev seat_of : operator.Actor → Seat operator.Actor
seat_of a = record { op = a; tally = none_fed; fed = unfed }

pub returns : goal.returns
returns c =
    let actors = c.in_ok-actors.actors.items in
    IfOk-weaker c.seats_of.result _ _
    (λ v are. record {
      count = ap (λ l. length l) are ∙ length-map actors seat_of ∙ c.in_ok-actors.ensures.count;
      seated = λ actor seat is.
          let a = unmapped seat_of actors actor seat (ap (λ l. slice_get l actor) (sym are) ∙ is) in
          record {
            started = subst (λ (s : Seat operator.Actor). IsStarted c.args.n.now c.args.seed (actor_at c.args.n.now actor) s.op) a.2 (c.in_ok-actors.ensures.started actor a.0 a.1);
            none = ap (λ (s : Seat operator.Actor). s.tally) (sym a.2);
            fed_none = ap (λ (s : Seat operator.Actor). s.fed) (sym a.2);
          };
    }) c.seats_of.ensures
