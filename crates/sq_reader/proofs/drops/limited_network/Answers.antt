use Rattle.sq_reader.proofs.DropLemmas.{long_refused, wide_refused}
use Rattle.sq_reader.proofs.drops.limited_network.Goals as goal

pub returns-in-Err-LongBatch-clause-answer : goal.returns-in-Err-LongBatch-clause-answer
returns-in-Err-LongBatch-clause-answer c =
    λ _. rw c.out_of_limits.ensures (long_refused c.args.network c.in-Err-LongBatch.drop (rw c.in-Err-LongBatch.field-0-is at c.in-Err-LongBatch.ensures.refused))

pub returns-in-Err-WideExtent-clause-answer : goal.returns-in-Err-WideExtent-clause-answer
returns-in-Err-WideExtent-clause-answer c =
    λ _. rw c.out_of_limits-in-Err-WideExtent.ensures (wide_refused c.args.network c.in-Err-WideExtent.drop (rw c.in-Err-WideExtent.field-0-is at c.in-Err-WideExtent.ensures.refused))
