use Rattle.std.proofs.Common.{◌≡◌, ◌++◌, [], map, replicate}
use Rattle.sq_model.proofs.streams.push_empty.Given as goal

abbrev pub invariant-loop-port : goal.invariant-loop-port
invariant-loop-port l = map (λ t. t.items) l.streams.items ≡ map (λ t. t.items) l.fn.streams.items ++ replicate l._port []
