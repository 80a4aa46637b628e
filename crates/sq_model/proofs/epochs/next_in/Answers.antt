use Rattle.std.proofs.Common.{◌∙◌, ap, arith}
use Rattle.std.proofs.lemmas.List.{drop_all}
use Rattle.sq_model.specs.Epochs.{count_in}
use Rattle.sq_model.proofs.EpochLemmas.{not_counted}
use Rattle.sq_model.proofs.epochs.next_in.Goals as goal

pub loop-x-preserved : goal.loop-x-preserved
loop-x-preserved c =
    let low = c.sooner-first.ensures.low in
    let before = c.loop-x.invariant.low in
    record {
      later = c.sooner-first.ensures.later;
      low = omega (arith, low, before);
      none = λ e after lt.
          c.loop-x.invariant.none e after (omega (arith, low, lt))
          ∙ not_counted c.args.epoch e c.args.ended c.sooner-first.result c.args.tuples.now c.loop-x.x-index c.x-item.result c.loop-x-test.true c.x-item.is after lt c.sooner-first.ensures.skips;
    }

pub returns-clause-none : goal.returns-clause-none
returns-clause-none c = λ e after lt.
    c.loop-x.invariant.none e after lt ∙ ap (count_in c.args.epoch e) (drop_all c.loop-x.x-index c.args.tuples.now c.loop-x-test.false)
