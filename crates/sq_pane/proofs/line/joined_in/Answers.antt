use Rattle.std.proofs.Common.{◌≡◌, ℕ, ◌+◌, ◌<◌, Some, None, true, false, length, drop, ap, sym, subst, ◌∙◌, arith}
use Rattle.std.specs.Prelude.{◌==◌}
use Rattle.std.proofs.lemmas.List.{drop_all}
use Rattle.sq_aggfn.specs.Folds.{number_if}
use Rattle.sq_pane.specs.Panes.{within, joined_within}
use Rattle.sq_rows.specs.Rows.{total}
use Rattle.sq_pane.specs.Blocks.{IsJoin}
use Rattle.sq_rows.proofs.RowLemmas.{drop_at, made_at}
use Rattle.sq_pane.proofs.BlockLemmas.{blocks_within, next_joined, total_later}
use Rattle.sq_pane.proofs.line.joined_in.Goals as goal

pub joined_by_blocks-requires-clause-within : goal.joined_by_blocks-requires-clause-within
joined_by_blocks-requires-clause-within g c =
    let fold = c.args.fold.now in
    let join = IsJoin (g.F.Fold.none fold) (g.F.Fold.joined fold) (g.F.Fold.made fold) (g.F.Fold.number fold) in
    let line = c.args.line.now in
    let some : (line.blocks.len == 0) ≡ false = sym c.is_empty.ensures ∙ c.if-not-is_empty.true in
    blocks_within 64 join line.ahead line.blocks.items line.states.items (c.requires.blocks c.if-by_blocks.true) (sym (ap (λ n. n == 0) line.blocks.ok.0) ∙ some)

pub joined_of-requires-clause-few : goal.joined_of-requires-clause-few
joined_of-requires-clause-few g c =
    let later = total_later (g.F.Fold.number c.args.fold.now) 0 c.first_within-at.result c.args.line.now.states.items (omega arith) in
    let few = c.requires.few in
    omega (arith, later, few)

pub returns-then-at-count-clause-value : goal.returns-then-at-count-clause-value
returns-then-at-count-clause-value g c =
    let fold = c.args.fold.now in
    let es = c.args.line.now.states.items in
    let whole = joined_within (g.F.Fold.none fold) (g.F.Fold.joined fold) c.args.window c.args.width c.args.start None in
    sym (ap whole (drop_all c.first_within-at.result es (let over = c.if-at-count.true in omega (arith, over)))) ∙ c.first_within-at.ensures.before (g.F.Fold.none fold) (g.F.Fold.joined fold) None

pub returns-then-end-next-clause-value : goal.returns-then-end-next-clause-value
returns-then-end-next-clause-value g c =
    let fold = c.args.fold.now in
    let none = g.F.Fold.none fold in
    let join = g.F.Fold.joined fold in
    let es = c.args.line.now.states.items in
    let at : ℕ = c.first_within-at.result in
    let x = c.index.result.now in
    let up = c.first_within-at.ensures.order.1 in
    let other = c.if-at-count.false in
    let less : at < c.len-count.result = omega (arith, up, other) in
    let inside : at < length es = omega (arith, less) in
    let covered = subst (λ (z : ℕ × g.row.F-State.Denot). within c.args.window c.args.width c.args.start z.0 ≡ true) (sym c.index.ensures) (c.first_within-at.ensures.covered x less) in
    let shaped = g.met.F.Fold.shaped_made fold x.1 (made_at (g.F.Fold.made fold) es at x inside c.index.ensures c.requires.made) in
    let whole = joined_within none join c.args.window c.args.width c.args.start in
    ap (λ m. Some m) c.lent.ensures
    ∙ sym (ap (whole (Some x.1)) (drop_all c.len-count.result es (omega arith)))
    ∙ c.end_within-end.ensures.after none join (Some x.1)
    ∙ ap (λ n. whole (Some x.1) (drop n es)) c.if-end-next.true
    ∙ ap (λ m. whole (Some m) (drop (at + 1) es)) (sym (g.met.F.Fold.none_first fold x.1 shaped))
    ∙ sym (next_joined none join c.args.window c.args.width c.args.start None es at x true inside c.index.ensures covered)
    ∙ c.first_within-at.ensures.before none join None

pub returns-then-end-next-clause-made : goal.returns-then-end-next-clause-made
returns-then-end-next-clause-made g c =
    let made = g.F.Fold.made c.args.fold.now in
    let up = c.first_within-at.ensures.order.1 in
    let other = c.if-at-count.false in
    subst made (sym c.lent.ensures) (made_at made c.args.line.now.states.items c.first_within-at.result c.index.result.now (omega (arith, up, other)) c.index.ensures c.requires.made)

pub returns-then-end-next-clause-few : goal.returns-then-end-next-clause-few
returns-then-end-next-clause-few g c =
    let number = g.F.Fold.number c.args.fold.now in
    let es = c.args.line.now.states.items in
    let at : ℕ = c.first_within-at.result in
    let up = c.first_within-at.ensures.order.1 in
    let other = c.if-at-count.false in
    let own = ap number c.lent.ensures in
    let step = ap (total number) (drop_at es at c.index.result.now (omega (arith, up, other)) c.index.ensures) in
    let later = total_later number 0 at es (omega arith) in
    omega (arith, own, step, later)

pub returns-clause-value : goal.returns-clause-value
returns-clause-value g c =
    let fold = c.args.fold.now in
    let none = g.F.Fold.none fold in
    let join = g.F.Fold.joined fold in
    let es = c.args.line.now.states.items in
    let o = c.in_ok-own-2.own in
    let whole = joined_within none join c.args.window c.args.width c.args.start in
    c.owned-2.ensures
    ∙ sym (ap (whole o) (drop_all c.len-count.result es (omega arith)))
    ∙ c.end_within-end.ensures.after none join o
    ∙ c.in_ok-own-2.ensures.value
    ∙ c.first_within-at.ensures.before none join None

pub returns-clause-few : goal.returns-clause-few
returns-clause-few g c =
    let number = g.F.Fold.number c.args.fold.now in
    let later = total_later number 0 c.first_within-at.result c.args.line.now.states.items (omega arith) in
    let less = c.in_ok-own-2.ensures.few in
    let same = ap (number_if number) c.owned-2.ensures in
    omega (arith, later, less, same)
