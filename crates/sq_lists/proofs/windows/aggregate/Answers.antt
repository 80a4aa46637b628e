use Rattle.std.proofs.Common.{ℕ, ◌≡◌, ◌+◌, ◌≤◌, ◌++◌, [], ◌∷◌, List, max, drop, get_or, subst, sym, ap, ◌∙◌, append-nil, append_assoc, zero-le, arith}
use Rattle.std.specs.List.{AllByRecursion}
use Rattle.std.proofs.lemmas.List.{drop_more, drop_all}
use Rattle.sq_value.specs.declared.Tuple.{Tuple}
use Rattle.sq_aggfn.specs.declared.WindowSpec.{WindowSpec}
use Rattle.sq_aggfn.specs.Windows.{started}
use Rattle.sq_lists.specs.WindowParts.{numbered_results, TimesNotFalling}
use Rattle.sq_lists.proofs.WindowLemmas.{left_results, left_first, left_last, left_step, begun_step, stream_rises, stream_ticks, lower, next_small, early_start, rest_is}
use Rattle.sq_lists.proofs.windows.aggregate.Goals as goal

begun-first : (w : WindowSpec) (xs : List Tuple) → AllByRecursion (λ x. 0 ≤ started w x.time) xs
begun-first w [] = tt
begun-first w (x ∷ xs) = (zero-le, begun-first w xs)

pub loop-i-init : goal.loop-i-init
loop-i-init g c =
    let t = c.args.tuples.now in
    let table = g.F.Fold.table c.args.fold.now in
    record {
      results = ap (λ l. l ++ left_results table c.args.group.now c.args.window t 0) c.new-out.ensures.items ∙ left_first table c.args.group.now c.args.window t;
      rises = stream_rises t c.requires.stream;
      begun = begun-first c.args.window t;
      ticks = stream_ticks t c.requires.stream;
    }

pub returns : goal.returns
returns g c =
    let table = g.F.Fold.table c.args.fold.now in
    let last = ap (λ l. left_results table c.args.group.now c.args.window l c.loop-i.next) (drop_all c.loop-i.i c.args.tuples.now c.loop-i-test.false) ∙ left_last table c.args.group.now c.args.window c.loop-i.next in
    sym (append-nil c.loop-i.out.items) ∙ ap (λ l. c.loop-i.out.items ++ l) (sym last) ∙ c.loop-i.invariant.results

pub push_windows-requires-clause-rises : goal.push_windows-requires-clause-rises
push_windows-requires-clause-rises g c =
    let i = c.loop-i.i in
    let t = c.args.tuples.now in
    let x = get_or t i c.index-tuples-i.result in
    let whole = drop_more t i c.index-tuples-i.result c.loop-i-test.true in
    let rises = rw whole at c.loop-i.invariant.rises in
    let up : TimesNotFalling x.time (x ∷ drop (i + 1) t) = (omega arith, rises.1) in
    λ k lt. rw (rest_is t i, whole) (early_start c.args.window c.requires.window x.time (x ∷ drop (i + 1) t) up k (rw c.started-end.ensures.count at lt))

pub push_windows-requires-clause-small : goal.push_windows-requires-clause-small
push_windows-requires-clause-small g c =
    let i = c.loop-i.i in
    let t = c.args.tuples.now in
    let x = get_or t i c.index-tuples-i.result in
    let ticks = rw (drop_more t i c.index-tuples-i.result c.loop-i-test.true) at c.loop-i.invariant.ticks in
    rw c.started-end.ensures.count (next_small c.args.window c.requires.window x.time ticks.0)

pub loop-i-preserved : goal.loop-i-preserved
loop-i-preserved g c =
    let i = c.loop-i.i in
    let t = c.args.tuples.now in
    let w = c.args.window in
    let table = g.F.Fold.table c.args.fold.now in
    let by = c.args.group.now in
    let x = get_or t i c.index-tuples-i.result in
    let more = drop (i + 1) t in
    let whole = drop_more t i c.index-tuples-i.result c.loop-i-test.true in
    let rises = rw whole at c.loop-i.invariant.rises in
    let begun = rw whole at c.loop-i.invariant.begun in
    let ticks = rw whole at c.loop-i.invariant.ticks in
    let first = c.first_covering.ensures in
    let end : ℕ = started w x.time in
    let same : c.started-end.result ≡ end = c.started-end.ensures.count in
    let step = left_step w c.requires.window.moves table by x more c.first_covering.result c.loop-i.next rises.1 begun.0 first.before first.begun in
    let pushed : c.push_windows.new.out.items ≡ c.loop-i.out.items ++ numbered_results table by w (x ∷ more) (max c.first_covering.result c.loop-i.next) end =
    c.in_ok-push_windows.ensures ∙ (λ j. c.loop-i.out.items ++ numbered_results table by w ((rest_is t i ∙ whole) j) (c.max-from.ensures j) (same j)) in
    record {
      results =
          ap (λ n. c.push_windows.new.out.items ++ left_results table by w more n) same
          ∙ ap (λ l. l ++ left_results table by w more end) pushed
          ∙ append_assoc c.loop-i.out.items (numbered_results table by w (x ∷ more) (max c.first_covering.result c.loop-i.next) end) (left_results table by w more end)
          ∙ ap (λ l. c.loop-i.out.items ++ l) (sym step ∙ ap (λ l. left_results table by w l c.loop-i.next) (sym whole))
          ∙ c.loop-i.invariant.results;
      rises = lower 0 x.time more zero-le rises.1;
      begun = subst (λ (n : ℕ). AllByRecursion (λ y. n ≤ started w y.time) more) (sym same) (begun_step w c.requires.window.moves table by x more rises.1);
      ticks = ticks.1;
    }
