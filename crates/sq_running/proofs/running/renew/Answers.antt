use Rattle.std.proofs.Common.{◌≡◌, ◌+◌, ◌-◌, ◌^◌, ◌<◌, ◌∷◌, List, length, length-drop, drop, get_or, subst, ap, sym, ◌∙◌, arith}
use Rattle.sq_value.specs.declared.Tuple.{Tuple}
use Rattle.sq_running.specs.Running.{AreHeads, IsSum}
use Rattle.sq_running.proofs.SumLemmas.{IsLawful, back-one, heads-more, heads-room}
use Rattle.sq_running.proofs.running.renew.Goals as goal

pub head_with-requires : goal.head_with-requires
head_with-requires g c =
    let f = c.args.fold.now in
    let fold = g.met.F.Fold in
    let law : IsLawful (g.F.Fold.joined f) (g.F.Fold.unit f) (g.F.Fold.none f) (g.F.Fold.made f) (g.F.Fold.shaped f) = record {
      shaped_made = fold.shaped_made f;
      shaped_none = fold.shaped_none f;
      shaped_unit = fold.shaped_unit f;
      shaped_joined = fold.shaped_joined f;
      associates = fold.associates f;
      none_first = fold.none_first f;
      none_last = fold.none_last f;
    } in
    let xs = c.args.held.now.tuples.items in
    let n = length-drop (length xs - c.loop-i.i) xs in
    let few : length (drop (length xs - c.loop-i.i) xs) + 1 < 2 ^ 62 = omega (arith, n) in
    heads-room (g.F.Fold.joined f) (g.F.Fold.unit f) (g.F.Fold.none f) (g.F.Fold.made f) (g.F.Fold.shaped f) (g.F.Fold.number f) law (drop (length xs - c.loop-i.i) xs) c.loop-i.held.heads.items c.loop-i.invariant.heads few

pub loop-i-preserved : goal.loop-i-preserved
loop-i-preserved g c =
    let f = c.args.fold.now in
    let fold = g.met.F.Fold in
    let law : IsLawful (g.F.Fold.joined f) (g.F.Fold.unit f) (g.F.Fold.none f) (g.F.Fold.made f) (g.F.Fold.shaped f) = record {
      shaped_made = fold.shaped_made f;
      shaped_none = fold.shaped_none f;
      shaped_unit = fold.shaped_unit f;
      shaped_joined = fold.shaped_joined f;
      associates = fold.associates f;
      none_first = fold.none_first f;
      none_last = fold.none_last f;
    } in
    let xs = c.args.held.now.tuples.items in
    let i = c.loop-i.i in
    let y = c.index.result.now in
    let j = c.len-count.result - 1 - i in
    let at = c.index.ensures ∙ ap (λ (l : List Tuple). get_or l j y) c.loop-i.invariant.tuples in
    let lt : i < length xs = omega arith in
    let is : j ≡ length xs - 1 - i = omega arith in
    let sum = IsSum (g.F.Fold.joined f) (g.F.Fold.unit f) (g.F.Fold.none f) (g.F.Fold.made f) (g.F.Fold.number f) in
    let more = heads-more (g.F.Fold.joined f) (g.F.Fold.unit f) (g.F.Fold.none f) (g.F.Fold.made f) (g.F.Fold.shaped f) (g.F.Fold.number f) law y (drop (length xs - i) xs) c.loop-i.held.heads.items c.in_ok-state.state c.loop-i.invariant.heads
    c.in_ok-state.ensures.value c.in_ok-state.ensures.made.0 c.in_ok-state.ensures.made.1 in
    record {
      tuples = c.loop-i.invariant.tuples;
      heads = rw c.in_ok-push_front.ensures.items (subst (λ (l : List Tuple). AreHeads sum l (c.in_ok-state.state ∷ c.loop-i.held.heads.items)) (sym (back-one xs i j y lt is at)) more);
      tail = c.loop-i.invariant.tail;
    }
