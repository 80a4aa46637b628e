use Rattle.std.proofs.Common.{◌≡◌, replicate}
use Rattle.sq_reader.proofs.boxes.copies_of.Given as goal

abbrev pub invariant-loop-port : goal.invariant-loop-port
invariant-loop-port l = l.copies.items ≡ replicate l._port l.schema
