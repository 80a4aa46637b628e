use Rattle.std.proofs.Common.{ap, ◌∙◌, arith}
use Rattle.std.proofs.lemmas.Result.{IfOk-weaker}
use Rattle.sq_running.specs.Running.{followed}
use Rattle.sq_running.proofs.SumLemmas.{IsLawful, all-joined, heads-made, two-few}
use Rattle.sq_running.proofs.running.answers_held.Goals as goal

pub first_state-requires : goal.first_state-requires
first_state-requires g c =
    let f = c.args.fold.now in
    let fold = g.met.F.Fold in
    let law : IsLawful (g.F.Fold.joined f) (g.F.Fold.unit f) (g.F.Fold.none f) (g.F.Fold.made f) (g.F.Fold.shaped f) = record {
      shaped_made = fold.shaped_made f;
      shaped_none = fold.shaped_none f;
      shaped_unit = fold.shaped_unit f;
      shaped_joined = fold.shaped_joined f;
      associates = fold.associates f;
      none_first = fold.none_first f;
      none_last = fold.none_last f;
    } in
    heads-made (g.F.Fold.joined f) (g.F.Fold.unit f) (g.F.Fold.none f) (g.F.Fold.made f) (g.F.Fold.shaped f) (g.F.Fold.number f) law c.requires.front c.args.held.now.heads.items c.requires.each

pub with_tail-requires-clause-few : goal.with_tail-requires-clause-few
with_tail-requires-clause-few g c =
    let f = c.args.fold.now in
    let fold = g.met.F.Fold in
    let law : IsLawful (g.F.Fold.joined f) (g.F.Fold.unit f) (g.F.Fold.none f) (g.F.Fold.made f) (g.F.Fold.shaped f) = record {
      shaped_made = fold.shaped_made f;
      shaped_none = fold.shaped_none f;
      shaped_unit = fold.shaped_unit f;
      shaped_joined = fold.shaped_joined f;
      associates = fold.associates f;
      none_first = fold.none_first f;
      none_last = fold.none_last f;
    } in
    let few = two-few (g.F.Fold.joined f) (g.F.Fold.unit f) (g.F.Fold.none f) (g.F.Fold.made f) (g.F.Fold.shaped f) (g.F.Fold.number f) law c.args.held.now.tuples.items c.args.held.now.heads.items c.args.held.now.tail c.requires in
    let count = c.in_ok-first.ensures.made.1 in
    omega (arith, few, count)

pub returns-clause-answers : goal.returns-clause-answers
returns-clause-answers g c =
    let f = c.args.fold.now in
    let fold = g.met.F.Fold in
    let law : IsLawful (g.F.Fold.joined f) (g.F.Fold.unit f) (g.F.Fold.none f) (g.F.Fold.made f) (g.F.Fold.shaped f) = record {
      shaped_made = fold.shaped_made f;
      shaped_none = fold.shaped_none f;
      shaped_unit = fold.shaped_unit f;
      shaped_joined = fold.shaped_joined f;
      associates = fold.associates f;
      none_first = fold.none_first f;
      none_last = fold.none_last f;
    } in
    let held = c.args.held.now in
    let state = c.in_ok-state.ensures.value ∙ ap (λ s. followed (g.F.Fold.joined f) s held.tail) c.in_ok-first.ensures.value
    ∙ all-joined (g.F.Fold.joined f) (g.F.Fold.unit f) (g.F.Fold.none f) (g.F.Fold.made f) (g.F.Fold.shaped f) (g.F.Fold.number f) law held.tuples.items held.heads.items held.tail c.requires in
    IfOk-weaker c.answer.result _ _ (λ fields h. h ∙ ap (g.F.Fold.told f) state ∙ fold.tells f held.tuples.items) c.answer.ensures.value
