use Rattle.std.proofs.Common.{◌≡◌}
use Rattle.std.specs.Prelude.{slice_index}
use Rattle.sq_sched.proofs.ready.Ready.at.Given as goal

abbrev pub invariant-loop : goal.invariant-loop
invariant-loop l = l.actor ≡ slice_index l.self.list l.counter
