use Rattle.std.proofs.Common.{◌≡◌, ◌+◌, false, length, refl, ap, arith}
use Rattle.sq_flow.proofs.EngineLemmas.{engine-first, order-first}
use Rattle.sq_flow.proofs.engine.Engine.new.Goals as goal

pub look_at_all-requires : goal.look_at_all-requires
look_at_all-requires g c =
    let flow = c.in_ok-flow.flow in
    let replay = c.in_ok-flow.ensures.flow.shaped.replay_is in
    let actors : c.in_ok-ready.ready.actors ≡ length flow.seats.items + 1 = omega (arith, replay, ap (λ r. r.actors) c.in_ok-ready.ensures) in
    let waits : length c.in_ok-waits.waits.items ≡ length flow.seats.items + 1 = omega (arith, replay, c.in_ok-waits.ensures.len, c.in_ok-waits.waits.ok.0) in
    record { looks = record { flow = c.in_ok-flow.ensures.flow; room = record { actors = actors; waits = waits } } }

pub returns : goal.returns
returns g c =
    let flow = c.in_ok-flow.flow in
    let replay = c.in_ok-flow.ensures.flow.shaped.replay_is in
    let actors : c.in_ok-ready.ready.actors ≡ length flow.seats.items + 1 = omega (arith, replay, ap (λ r. r.actors) c.in_ok-ready.ensures) in
    let waits : length c.in_ok-waits.waits.items ≡ length flow.seats.items + 1 = omega (arith, replay, c.in_ok-waits.ensures.len, c.in_ok-waits.waits.ok.0) in
    record {
      begins = rw c.look_at_all.ensures.flow c.in_ok-flow.ensures;
      engine = engine-first _ (record { flow = flow; ready = c.in_ok-ready.ready; waits = c.in_ok-waits.waits; failed = false }) c.look_at_all.new.self
          c.in_ok-flow.ensures.flow (record { actors = actors; waits = waits }) (ap (λ r. r.list) c.in_ok-ready.ensures) refl c.look_at_all.ensures;
      order = order-first (record { flow = flow; ready = c.in_ok-ready.ready; waits = c.in_ok-waits.waits; failed = false }) c.look_at_all.new.self
          (ap (λ r. r.list) c.in_ok-ready.ensures) c.look_at_all.ensures;
    }
