use Rattle.std.proofs.Common.{◌≡◌, ◌++◌, take, ap, sym, ◌∙◌}
use Rattle.std.proofs.lemmas.Result.{IfOk-weaker}
use Rattle.sq_lists.specs.Nearness.{reaching}
use Rattle.sq_lists.specs.Resamples.{near}
use Rattle.sq_lists.proofs.NearLemmas.{near-is}
use Rattle.sq_lists.proofs.resamples.sample.Goals as goal

pub returns : goal.returns
returns g c =
    let size = c.args.size in
    let t = c.args.x.now.time in
    let right = c.args.right.now in
    let table = g.F.Fold.table c.args.fold.now in
    let inside : take c.reach.result right ≡ near size t right = c.reach.ensures.front ∙ sym (near-is size t 0 right c.requires.rises ∙ ap (reaching size t) c.requires.live) in
    let answers : c.in_ok-answers.answers ≡ table (near size t right) = c.in_ok-answers.ensures.answers ∙ ap table inside in
    IfOk-weaker c.with_answers.result _ _
    (λ y h. h ∙ (λ i. record { time = (c.in_ok-copy_tuple.ensures i).time; fields = (c.in_ok-copy_tuple.ensures i).fields ++ answers i }))
    c.with_answers.ensures
