use Rattle.std.proofs.Common.{◌≡◌, ◌++◌, drop}
use Rattle.sq_reader.specs.Columns.{columns_taken}
use Rattle.sq_reader.proofs.boxes.schemas_taken.Given as goal

abbrev pub invariant-loop-stream : goal.invariant-loop-stream
invariant-loop-stream l = l.taken.items ++ columns_taken l.w l.sources l.nodes (drop l.stream-index l.inputs) ≡ columns_taken l.w l.sources l.nodes l.inputs
