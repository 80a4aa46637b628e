use Rattle.std.proofs.Common.{◌≡◌, ◌++◌, map, take}
use Rattle.sq_joined.specs.Joining.{query_moved, rewired}
use Rattle.sq_joined.proofs.wires.push_query.Given as goal

abbrev pub invariant-loop-b : goal.invariant-loop-b
invariant-loop-b l = l.out.items ≡ l.initial.out.items ++ map (rewired (query_moved l.tap)) (take l.b-index l.boxes)
