use Rattle.std.proofs.Common.{◌∙◌, ◌++◌, ◌∷◌, [], Vec, Global, ap, sym, append_assoc}
use Rattle.std.specs.Prelude.{map}
use Rattle.std.proofs.Common.{drop, ◌+◌}
use Rattle.sq_value.specs.declared.Tuple.{Tuple}
use Rattle.sq_plan.specs.Arrivals.{arrivals}
use Rattle.sq_model.specs.Epochs.{count_in}
use Rattle.sq_model.proofs.EpochLemmas.{counted_more}
use Rattle.sq_model.proofs.epochs.counts_in.Goals as goal

pub loop-source-preserved : goal.loop-source-preserved
loop-source-preserved c =
    let f = λ (t : Vec Tuple Global). t.items in
    let rest = arrivals c.args.epoch (map f (drop (c.loop-source.source-index + 1) c.args.sources.now)) c.args.e in
    let here = c.count_in.ensures ∙ ap (count_in c.args.epoch c.args.e) c.deref.ensures.value in
    c.loop-source.invariant
    ∙ ap (λ l. c.loop-source.counts.items ++ l) (counted_more f c.args.epoch c.args.e c.args.sources.now c.loop-source.source-index c.source-item.result c.loop-source-test.true c.source-item.is ∙ ap (λ n. n ∷ rest) (sym here))
    ∙ sym (append_assoc c.loop-source.counts.items (c.count_in.result ∷ []) rest)
    ∙ ap (λ l. l ++ rest) (sym c.in_ok-push.ensures.items)
