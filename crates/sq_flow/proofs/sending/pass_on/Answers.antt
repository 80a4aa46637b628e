use Rattle.std.proofs.Common.{ap, refl}
use Rattle.sq_item.specs.Things.{spread}
use Rattle.sq_pool.specs.Trust.{known}
use Rattle.sq_flow.specs.Wiring.{times_in}
use Rattle.sq_flow.specs.Sends.{many}
use Rattle.sq_flow.proofs.SendLemmas.{pushes-none}
use Rattle.sq_flow.proofs.ShownLemmas.{shown-one, shown-none}
use Rattle.sq_flow.proofs.sending.pass_on.Goals as goal
use Rattle.sq_words.proofs.Results.{OnErr_from, OnOk_weaker}

pub returns-then-wires-seat-clause-ok : goal.returns-then-wires-seat-clause-ok
returns-then-wires-seat-clause-ok g c =
    OnOk_weaker c.show_one.result (λ shown. record {
      sent = pushes-none c.args.queues.now (known (g.D.PageDisk.log c.args.disk.now)) _ _ _ c.requires.gives.together (λ arc. ap (λ l. many (times_in arc l) (spread c.args.item)) (c.requires.gives.shown c.if-wires-seat.true));
      whole = c.requires.gives.whole;
    }) c.show_one.ensures.ok

pub returns-then-wires-seat-clause-shown : goal.returns-then-wires-seat-clause-shown
returns-then-wires-seat-clause-shown g c =
    OnOk_weaker c.show_one.result (λ shown. shown-one c.args.wires.now c.args.seat c.args.port c.args.item c.args.events.now.items _ c.if-wires-seat.true shown) c.show_one.ensures.ok

pub returns-then-wires-seat-clause-err : goal.returns-then-wires-seat-clause-err
returns-then-wires-seat-clause-err g c =
    OnErr_from c.show_one.result (record {
      unsent = λ whole. pushes-none c.args.queues.now (known (g.D.PageDisk.log c.args.disk.now)) _ _ _ c.requires.gives.together (λ arc. refl);
      fails = rw c.requires.gives.whole (record { cause = tt; honest = λ told. tt });
    })

pub send_one-requires-clause-may : goal.send_one-requires-clause-may
send_one-requires-clause-may g c = record { there = c.requires.gives.there; sound = c.requires.sound; together = c.requires.gives.together }

pub returns-clause-shown : goal.returns-clause-shown
returns-clause-shown g c =
    OnOk_weaker c.send_one.result (λ sent. shown-none c.args.wires.now c.args.seat (c.args.port, c.args.item) c.args.events.now.items c.if-wires-seat.false) c.send_one.ensures.ok

pub returns-clause-silent : goal.returns-clause-silent
returns-clause-silent g c = OnErr_from c.send_one.result refl
