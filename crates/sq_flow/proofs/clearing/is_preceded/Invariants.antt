use Rattle.std.proofs.Common.{◌≡◌, false}
use Rattle.std.specs.Prelude.{slice_get}
use Rattle.sq_replay.specs.RecordedTuples.{first_recorded}
use Rattle.sq_flow.specs.Flows.{tuples_to_come}
use Rattle.sq_flow.specs.Sources.{first_before, some_below}
use Rattle.sq_flow.proofs.clearing.is_preceded.Given as goal

abbrev pub invariant-loop-other : goal.invariant-loop-other
invariant-loop-other l = some_below (λ other. first_before (first_recorded (tuples_to_come (slice_get l.sources.items other))) other l.from l.source) l.other ≡ false
