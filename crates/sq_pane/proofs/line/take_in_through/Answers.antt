use Rattle.std.proofs.Common.{ℕ, Some, drop, ap, ◌∙◌, arith}
use Rattle.std.proofs.lemmas.Result.{IfOk-weaker}
use Rattle.sq_pane.specs.Panes.{joined_within}
use Rattle.sq_pane.proofs.BlockLemmas.{covered_between, row_taken, total_later}
use Rattle.sq_pane.proofs.line.take_in_through.Goals as goal

pub take_in_row-requires-clause-few : goal.take_in_row-requires-clause-few
take_in_row-requires-clause-few g c =
    let later = total_later (g.F.Fold.number c.args.fold.now) c.args.from c.first_within-first.result c.args.states.now.items c.first_within-first.ensures.order.0 in
    let few = c.requires.few in
    omega (arith, later, few)

pub returns-clause-value : goal.returns-clause-value
returns-clause-value g c =
    let fold = c.args.fold.now in
    let none = g.F.Fold.none fold in
    let join = g.F.Fold.joined fold in
    let es = c.args.states.now.items in
    let first : ℕ = c.first_within-first.result in
    let end : ℕ = c.end_within-end.result in
    let whole = joined_within none join c.args.window c.args.width c.args.start in
    let room = c.requires.room in
    let up = c.end_within-end.ensures.order in
    let ends = up.1 in
    let all = covered_between c.args.window c.args.width c.args.start first end es c.requires.rises up.0 (omega (arith, room, ends)) (λ d less. c.first_within-first.ensures.covered d (omega (arith, less, ends))) c.end_within-end.ensures.covered in
    IfOk-weaker c.take_in_row.result _ _
    (λ u value.
    c.end_within-end.ensures.after none join (Some c.take_in_row.new.own)
    ∙ ap (λ m. whole (Some m) (drop end es)) value
    ∙ row_taken none join c.args.window c.args.width c.args.start first end c.args.own.now es up.0 (omega (arith, room, ends)) all
    ∙ c.first_within-first.ensures.before none join (Some c.args.own.now))
    c.take_in_row.ensures.value

pub returns-clause-few : goal.returns-clause-few
returns-clause-few g c =
    let number = g.F.Fold.number c.args.fold.now in
    let es = c.args.states.now.items in
    let before = total_later number c.args.from c.first_within-first.result es c.first_within-first.ensures.order.0 in
    let after = total_later number c.end_within-end.result c.args.to es c.end_within-end.ensures.order.1 in
    IfOk-weaker c.take_in_row.result _ _ (λ u le. omega (arith, before, after, le)) c.take_in_row.ensures.few
