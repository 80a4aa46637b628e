use Rattle.std.proofs.Common.{◌≡◌, map}
use Rattle.sq_core.proofs.start.queued.Given as goal

abbrev pub invariant-loop-source : goal.invariant-loop-source
invariant-loop-source l = map (λ s. s.items) l.streams.items ≡ map (λ v. v.items) l.yielded
