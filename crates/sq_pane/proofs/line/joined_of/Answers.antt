use Rattle.std.proofs.Common.{◌≡◌, ℕ, ◌+◌, ◌<◌, ◌≤◌, Some, None, true, length, drop, ap, sym, subst, ◌∙◌, arith}
use Rattle.sq_pane.specs.Panes.{within, joined_within}
use Rattle.sq_rows.specs.Rows.{total}
use Rattle.sq_rows.proofs.RowLemmas.{drop_at, made_at}
use Rattle.sq_pane.proofs.BlockLemmas.{covered_behind, covered_between, next_joined, row_taken, total_later}
use Rattle.sq_pane.proofs.line.joined_of.Goals as goal

pub take_in_row-requires-clause-made : goal.take_in_row-requires-clause-made
take_in_row-requires-clause-made g c =
    let made = g.F.Fold.made c.args.fold.now in
    let room = c.requires.room in
    let up = c.first_within-at.ensures.order.1 in
    let other = c.if-at-to.false in
    let from = made_at made c.args.states.now.items c.first_within-at.result c.index.result.now (omega (arith, room, up, other)) c.index.ensures c.requires.made in
    (subst made (sym c.in_ok-own.ensures) from, c.requires.made)

pub take_in_row-requires-clause-few : goal.take_in_row-requires-clause-few
take_in_row-requires-clause-few g c =
    let number = g.F.Fold.number c.args.fold.now in
    let es = c.args.states.now.items in
    let at : ℕ = c.first_within-at.result in
    let room = c.requires.room in
    let up = c.first_within-at.ensures.order.1 in
    let other = c.if-at-to.false in
    let own = ap number c.in_ok-own.ensures in
    let step = ap (total number) (drop_at es at c.index.result.now (omega (arith, room, up, other)) c.index.ensures) in
    let later = total_later number c.args.from at es c.first_within-at.ensures.order.0 in
    let few = c.requires.few in
    omega (arith, own, step, later, few)

pub returns-then-at-to-clause-value : goal.returns-then-at-to-clause-value
returns-then-at-to-clause-value g c =
    let fold = c.args.fold.now in
    let whole = joined_within (g.F.Fold.none fold) (g.F.Fold.joined fold) c.args.window c.args.width c.args.start None in
    ap (λ n. whole (drop n c.args.states.now.items)) (sym c.if-at-to.true) ∙ c.first_within-at.ensures.before (g.F.Fold.none fold) (g.F.Fold.joined fold) None

pub returns-then-at-to-clause-few : goal.returns-then-at-to-clause-few
returns-then-at-to-clause-few g c =
    let later = total_later (g.F.Fold.number c.args.fold.now) c.args.from c.args.to c.args.states.now.items c.requires.order in
    omega (arith, later)

pub returns-clause-value : goal.returns-clause-value
returns-clause-value g c =
    let fold = c.args.fold.now in
    let none = g.F.Fold.none fold in
    let join = g.F.Fold.joined fold in
    let es = c.args.states.now.items in
    let at : ℕ = c.first_within-at.result in
    let x = c.index.result.now in
    let room = c.requires.room in
    let up = c.first_within-at.ensures.order.1 in
    let other = c.if-at-to.false in
    let less : at < c.args.to = omega (arith, up, other) in
    let inside : at < length es = omega (arith, room, less) in
    let covered = subst (λ (z : ℕ × g.row.F-State.Denot). within c.args.window c.args.width c.args.start z.0 ≡ true) (sym c.index.ensures) (c.first_within-at.ensures.covered x less) in
    let end : ℕ = c.end_within-end.result in
    let ends = c.end_within-end.ensures.order in
    let last = ends.1 in
    let farther = c.end_within-end.ensures.some less in
    let some : at + 1 ≤ end = omega (arith, farther) in
    let past : end ≤ length es = omega (arith, room, last) in
    let between = covered_between c.args.window c.args.width c.args.start at end es c.requires.rises ends.0 past (λ d lt. c.first_within-at.ensures.covered d less) c.end_within-end.ensures.covered in
    let behind = covered_behind c.args.window c.args.width c.args.start at end x es farther past c.index.ensures between in
    let shaped = g.met.F.Fold.shaped_made fold x.1 (made_at (g.F.Fold.made fold) es at x inside c.index.ensures c.requires.made) in
    c.end_within-end.ensures.after none join (Some _)
    ∙ ap (λ m. joined_within none join c.args.window c.args.width c.args.start (Some m) (drop end es)) c.in_ok-take_in_row.ensures.value
    ∙ row_taken none join c.args.window c.args.width c.args.start (at + 1) end c.in_ok-own.own es some past behind
    ∙ ap (λ m. joined_within none join c.args.window c.args.width c.args.start (Some m) (drop (at + 1) es)) (c.in_ok-own.ensures ∙ sym (g.met.F.Fold.none_first fold x.1 shaped))
    ∙ sym (next_joined none join c.args.window c.args.width c.args.start None es at x true inside c.index.ensures covered)
    ∙ c.first_within-at.ensures.before none join None

pub returns-clause-few : goal.returns-clause-few
returns-clause-few g c =
    let number = g.F.Fold.number c.args.fold.now in
    let es = c.args.states.now.items in
    let at : ℕ = c.first_within-at.result in
    let room = c.requires.room in
    let up = c.first_within-at.ensures.order.1 in
    let other = c.if-at-to.false in
    let own = ap number c.in_ok-own.ensures in
    let step = ap (total number) (drop_at es at c.index.result.now (omega (arith, room, up, other)) c.index.ensures) in
    let later = total_later number c.args.from at es c.first_within-at.ensures.order.0 in
    let after = total_later number c.end_within-end.result c.args.to es c.end_within-end.ensures.order.1 in
    let le = c.in_ok-take_in_row.ensures.few in
    omega (arith, own, step, later, after, le)
