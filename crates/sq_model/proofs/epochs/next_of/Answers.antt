use Rattle.std.proofs.Common.{◌∙◌, Vec, Global, ap, sym, arith}
use Rattle.sq_value.specs.declared.Tuple.{Tuple}
use Rattle.sq_model.specs.Epochs.{count_in}
use Rattle.sq_model.proofs.EpochLemmas.{not_quiet_less}
use Rattle.sq_model.proofs.epochs.next_of.Goals as goal

pub loop-source-preserved : goal.loop-source-preserved
loop-source-preserved c =
    let low = c.next_in-next.ensures.low in
    let before = c.loop-source.invariant.low in
    record {
      later = c.next_in-next.ensures.later;
      low = omega (arith, low, before);
      quiet = λ e after lt. c.loop-source.invariant.quiet e after (omega (arith, low, lt)) ∙ not_quiet_less (λ (t : Vec Tuple Global). t.items) c.args.epoch e c.args.sources.now c.loop-source.source-index c.source-item.result c.loop-source-test.true c.source-item.is (ap (count_in c.args.epoch e) (sym c.deref.ensures.value) ∙ c.next_in-next.ensures.none e after lt);
    }
