use Rattle.std.proofs.Common.{◌≡◌, ℕ, ◌<◌, ◌≤◌, length, refl, sym, ◌∙◌, subst, arith}
use Rattle.sq_flow.specs.Readiness.{IsReady, Took}
use Rattle.sq_flow.specs.declared.engine.Engine.{Engine}
use Rattle.sq_flow.specs.declared.flow.Flow.{Flow}
use Rattle.sq_flow.specs.Engines.{seat_number}
use Rattle.sq_flow.specs.Stepping.{stage, TrainOk}
use Rattle.sq_flow.proofs.EngineLemmas.{engine-after, engine-order}
use Rattle.sq_flow.proofs.engine.Engine.step.Goals as goal

pub returns-in-Ok-clause-ok : goal.returns-in-Ok-clause-ok
returns-in-Ok-clause-ok g c =
    let a = c.args.self.now in
    let train = c.in-Ok.ensures.ok in
    let did = train.moves in
    let looked = c.look_at_readers.ensures.flow ∙ c.look_at.ensures.flow in
    let removed : Engine g.row.O.Denot = record { flow = c.train.new.self; ready = c.remove.new.self; waits = a.waits; failed = a.failed } in
    let low : c.args.pick.actor < a.ready.actors = c.requires.engine.below c.args.pick.actor c.requires.ready in
    let many = c.requires.engine.room.actors in
    let listed = (c.requires.engine.exact c.args.pick.actor (omega (arith, low, many))).listed c.requires.ready in
    let place_is : seat_number (length a.flow.seats.items) c.args.pick.actor ≡ c.seat_number-seat.result =
    subst (λ n. seat_number n c.args.pick.actor ≡ c.seat_number-seat.result) c.requires.engine.flow.shaped.replay_is (sym c.seat_number-seat.ensures.seat)
    in
    let ready = subst (IsReady a.flow) place_is listed in
    record {
      train = rw looked
          (subst (λ n. TrainOk g.O.Operator n c.args.pick.train (stage g.D.PageDisk a.flow c.args.disk.now c.args.events.now.items c.args.steps.now)
          (stage g.D.PageDisk c.train.new.self c.train.new.disk c.train.new.events.items c.train.new.steps) c.in-Ok.progress) (sym place_is) train);
      engine = engine-after _ a removed
          c.look_at.new.self c.look_at_readers.new.self c.args.pick.actor c.seat_number-seat.result c.requires.engine c.requires.ready c.seat_number-seat.ensures.seat
          did.stepped.flow_after did.stepped.wires did.stepped.seats did.touches c.remove.ensures.list refl c.requires.engine.running c.look_at.ensures c.look_at_readers.ensures;
      order = engine-order _ a removed
          c.look_at.new.self c.look_at_readers.new.self c.args.pick.actor c.seat_number-seat.result c.requires.engine c.requires.ready c.seat_number-seat.ensures.seat
          did.stepped.flow_after did.stepped.wires did.stepped.seats did.touches c.remove.ensures.list refl c.requires.engine.running c.look_at.ensures c.look_at_readers.ensures;
      works = train.works ready;
      took = subst (λ (f : Flow g.row.O.Denot). Took (seat_number (length a.flow.seats.items) c.args.pick.actor) c.in-Ok.progress.fed c.in-Ok.progress.finished a.flow f) (sym looked)
          (subst (λ n. Took n c.in-Ok.progress.fed c.in-Ok.progress.finished a.flow c.train.new.self) (sym place_is) (train.took ready.running));
    }

pub train-requires-clause-holds : goal.train-requires-clause-holds
train-requires-clause-holds g c = record { flow = c.requires.engine.flow; together = c.requires.together }

pub train-requires-clause-actor_in : goal.train-requires-clause-actor_in
train-requires-clause-actor_in g c = subst (λ (n : ℕ). c.seat_number-seat.result ≤ n) c.requires.engine.flow.shaped.replay_is c.seat_number-seat.ensures.within
