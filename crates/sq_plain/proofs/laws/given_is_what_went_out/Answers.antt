use Rattle.sq_oper.specs.Outflow.{given}
use Rattle.sq_plain.proofs.SortLemmas.{given-rises, given-at-last}
use Rattle.sq_plain.proofs.laws.given_is_what_went_out.Goals as goal

pub returns-clause-fed : goal.returns-clause-fed
returns-clause-fed c = λ old new table port item future before after valid valid' law lost took.
    given-rises old.by old.tally.taken new.by new.tally.taken port old.sorter new.sorter item future (given 0 before) (given 0 after) valid.2 valid'.2 law lost took

pub returns-clause-finished : goal.returns-clause-finished
returns-clause-finished c = λ old new table before after valid valid' ended law lost took.
    given-at-last old.by old.tally.taken new.by new.tally.taken old.sorter new.sorter (given 0 before) (given 0 after) valid.2 valid'.2 (valid'.1 ended) law lost took
