use Rattle.std.proofs.Common.{◌≤◌}
use Rattle.sq_flow.specs.Flows.{measure_of}
use Rattle.sq_drive.specs.Turns.{KeepsRun, TurnsOn, moment, run_state}
use Rattle.sq_drive.proofs.driving.step_to_end.Given as goal
use Rattle.sq_core.specs.Runs.{flow_of}

abbrev pub invariant-steps : goal.invariant-steps
invariant-steps g l = record {
  keeps : KeepsRun (run_state g.D.PageDisk l.fn.engine l.fn.disk l.fn.steps) (run_state g.D.PageDisk l.engine l.disk l.steps);
  on : TurnsOn g.A.Audience l.fn.engine.network (moment g.D.PageDisk l.fn.engine l.fn.disk l.fn.steps l.fn.audience l.fn.out) (moment g.D.PageDisk l.engine l.disk l.steps l.audience l.out);
  later : g.A.Audience.faults l.fn.out ≤ g.A.Audience.faults l.out;
}

abbrev pub decreases-steps : goal.decreases-steps
decreases-steps g l = measure_of (flow_of l.engine)
