use Rattle.std.proofs.Common.{◌∙◌, sym, arith}
use Rattle.std.proofs.lemmas.Iterator.Adapters.{position_from-zero}
use Rattle.sq_words.specs.Lists.{same_bytes}
use Rattle.sq_rules.specs.Streaming.{number_named}
use Rattle.sq_rules.proofs.NumberLemmas.{numbers_all, numbers_more}
use Rattle.sq_rules.proofs.streams.numbers_of.Goals as goal

pub loop-number-init : goal.loop-number-init
loop-number-init c = rw c.new-numbers.ensures.empty (λ w. sym (position_from-zero (same_bytes w) c.args.names.now))

pub loop-number-preserved : goal.loop-number-preserved
loop-number-preserved c =
    let step = rw c.as_str.ensures at c.in_ok-add_number.ensures in
    λ w.
    numbers_more (number_named c.loop-number.numbers.entries) (number_named c.add_number.new.numbers.entries) c.args.names.now c.loop-number.number c.index-names-number.result c.loop-number-test.true c.index-names-number.is step w
    ∙ c.loop-number.invariant w

pub returns : goal.returns
returns c = numbers_all (number_named c.loop-number.numbers.entries) c.args.names.now c.loop-number.number (omega arith) c.loop-number.invariant
