use Rattle.std.proofs.Common.{◌≡◌, ◌++◌, drop, map}
use Rattle.sq_model.proofs.arcs.copies.Given as goal

abbrev pub invariant-loop-stream : goal.invariant-loop-stream
invariant-loop-stream l = map (λ t. t.items) l.streams ≡ map (λ t. t.items) l.all.items ++ map (λ t. t.items) (drop l.stream-index l.streams)
