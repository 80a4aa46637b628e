use Rattle.std.proofs.Common.{◌≡◌, ◌+◌, List, Some, subst, ap, sym, ◌∙◌}
use Rattle.sq_value.specs.declared.Tuple.{Tuple}
use Rattle.sq_running.specs.Running.{IsRunning, IsSum, joined_behind}
use Rattle.sq_running.proofs.SumLemmas.{IsLawful, push-running}
use Rattle.sq_running.proofs.running.push.Goals as goal
use Rattle.sq_aggfn.specs.Folds.{number_if}

pub returns-clause-runs : goal.returns-clause-runs
returns-clause-runs g c =
    let f = c.args.fold.now in
    let fold = g.met.F.Fold in
    let law : IsLawful (g.F.Fold.joined f) (g.F.Fold.unit f) (g.F.Fold.none f) (g.F.Fold.made f) (g.F.Fold.shaped f) = record {
      shaped_made = fold.shaped_made f;
      shaped_none = fold.shaped_none f;
      shaped_unit = fold.shaped_unit f;
      shaped_joined = fold.shaped_joined f;
      associates = fold.associates f;
      none_first = fold.none_first f;
      none_last = fold.none_last f;
    } in
    let held = c.args.held.now in
    let sum = IsSum (g.F.Fold.joined f) (g.F.Fold.unit f) (g.F.Fold.none f) (g.F.Fold.made f) (g.F.Fold.number f) in
    let t = c.in_ok-tail_with.field-0 in
    let was : c.take-tail.result ≡ held.tail = c.take-tail.ensures.value in
    let value = c.in_ok-tail_with.ensures.value ∙ ap (joined_behind (g.F.Fold.joined f) (g.F.Fold.unit f c.args.x)) was in
    let count = c.in_ok-tail_with.ensures.made.1 ∙ ap (λ o. number_if (g.F.Fold.number f) o + 1) was in
    subst (λ (l : List Tuple). IsRunning sum l held.heads.items (Some t)) (sym c.in_ok-push_back.ensures.items)
    (push-running (g.F.Fold.joined f) (g.F.Fold.unit f) (g.F.Fold.none f) (g.F.Fold.made f) (g.F.Fold.shaped f) (g.F.Fold.number f) law held.tuples.items held.heads.items held.tail c.args.x t c.requires.runs c.requires.few value c.in_ok-tail_with.ensures.made.0 count)
