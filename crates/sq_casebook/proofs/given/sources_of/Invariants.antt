use Rattle.std.proofs.Common.{◌≡◌, ◌++◌, map}
use Rattle.std.specs.Vec.Iter.{into_iter_items}
use Rattle.sq_casebook.proofs.given.sources_of.Given as goal

abbrev pub invariant-loop-stream : goal.invariant-loop-stream
invariant-loop-stream l = map (λ xs. xs.items) l.sources.items ++ map (λ xs. xs.items) (into_iter_items l.stream-iterator) ≡ map (λ xs. xs.items) l.fn.streams.items
