use Rattle.std.proofs.Common.{◌≡◌, ap, ◌∙◌, length, rules}
use Rattle.sq_start.specs.Starts.{lags_below}
use Rattle.sq_start.proofs.ToldLemmas.{none-told, some-told}
use Rattle.sq_start.proofs.told.box_lags.Goals as goal
use Rattle.sq_points.proofs.FirstLemmas.{there-in}

pub returns-in-None-clause-lags : goal.returns-in-None-clause-lags
returns-in-None-clause-lags c =
    let many : c.len.result ≡ length c.in_ok-arcs.arcs.items = search rules in
    (none-told c.args.n.now c.args.b c.args.points.now c.in_ok-arcs.arcs.items c.in_ok-zeros-in-None.field-0.items c.requires.points c.in-None.ensures.first c.in_ok-arcs.ensures (c.in_ok-zeros-in-None.ensures ∙ many)).1

pub returns-clause-above : goal.returns-clause-above
returns-clause-above c =
    let p = c.index-points-w.result in
    (some-told c.args.n.now c.args.b c.in-Some.w p c.args.points.now c.in_ok-arcs.arcs.items c.in_ok-lags_below-in-Some.field-0.items c.requires.points c.in-Some.ensures.first
    (there-in c.args.points.now c.in-Some.w p c.in-Some.ensures.inside c.index-points-w.is) c.in_ok-arcs.ensures (c.in_ok-lags_below-in-Some.ensures ∙ ap (lags_below p) c.deref.ensures.value)).0

pub returns-clause-lags : goal.returns-clause-lags
returns-clause-lags c =
    let p = c.index-points-w.result in
    (some-told c.args.n.now c.args.b c.in-Some.w p c.args.points.now c.in_ok-arcs.arcs.items c.in_ok-lags_below-in-Some.field-0.items c.requires.points c.in-Some.ensures.first
    (there-in c.args.points.now c.in-Some.w p c.in-Some.ensures.inside c.index-points-w.is) c.in_ok-arcs.ensures (c.in_ok-lags_below-in-Some.ensures ∙ ap (lags_below p) c.deref.ensures.value)).1
