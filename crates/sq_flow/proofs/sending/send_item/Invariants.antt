use Rattle.std.proofs.Common.{◌≤◌, take}
use Rattle.sq_item.specs.Things.{spread}
use Rattle.sq_pool.specs.Trust.{known}
use Rattle.sq_flow.specs.Wiring.{times_in}
use Rattle.sq_flow.specs.Sends.{many, Pushes}
use Rattle.sq_flow.specs.Causes.{LogGrows}
use Rattle.sq_flow.proofs.sending.send_item.Given as goal
use Rattle.sq_words.specs.Lists.{contains_number}

abbrev pub invariant-loop-arc : goal.invariant-loop-arc
invariant-loop-arc g l =
    record {
      pushes : Pushes l.initial.queues l.queues (known (g.D.PageDisk.log l.initial.disk)) (known (g.D.PageDisk.log l.disk)) (λ arc. many (times_in arc (take l.arc-index l.others)) (spread l.item)) (λ time. l.item.time ≤ time) (λ arc. contains_number l.fn.arcs arc);
      grows : LogGrows (g.D.PageDisk.log l.initial.disk) (g.D.PageDisk.log l.disk) (g.D.PageDisk.faults l.initial.disk) (g.D.PageDisk.faults l.disk);
    }
