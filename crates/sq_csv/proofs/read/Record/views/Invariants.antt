use Rattle.csv.specs.Records.{fields_of}
use Rattle.sq_csv.proofs.ReaderLemmas.{AreAll}
use Rattle.sq_csv.proofs.read.Record.views.Given as goal

abbrev pub invariant-loop-field : goal.invariant-loop-field
invariant-loop-field l = AreAll l.fields.items l.field-iterator.at (fields_of l.field-iterator.row.now) l.self
