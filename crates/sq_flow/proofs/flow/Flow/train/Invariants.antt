use Rattle.std.proofs.Common.{◌≡◌, ◌≤◌, ◌-◌}
use Rattle.std.specs.Prelude.{None}
use Rattle.sq_flow.specs.Stepping.{stage}
use Rattle.sq_flow.proofs.SteppingLemmas.{Underway}
use Rattle.sq_flow.proofs.flow.Flow.train.Given as goal

abbrev pub invariant-steps : goal.invariant-steps
invariant-steps g l =
    let disk = g.D.PageDisk in
    record {
      under : Underway g.O.Operator l.seat l.fed (stage disk l.fn.self l.fn.disk l.fn.events.items l.fn.steps) (stage disk l.self l.disk l.events.items l.steps);
      whole : l.failed ≡ None;
      few : l.fed ≤ l.train;
    }

abbrev pub decreases-steps : goal.decreases-steps
decreases-steps g l = l.train - l.fed
