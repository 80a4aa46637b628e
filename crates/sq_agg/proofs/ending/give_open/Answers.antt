use Rattle.std.proofs.Common.{ℕ, ◌-◌, ◌<◌, ◌++◌, [], subst, ap, sym, ◌∙◌, arith}
use Rattle.std.specs.List.{flat_map, range_with_len}
use Rattle.sq_oper.specs.Giving.{GaveSome}
use Rattle.sq_oper.specs.Streams.{at_zero}
use Rattle.sq_pane.specs.States.{states_of}
use Rattle.sq_agg.specs.Positions.{open_at}
use Rattle.sq_agg.specs.Holdings.{bounds_of, ended, folding_of}
use Rattle.sq_agg.proofs.EndedLemmas.{ended_groups, ended_rises}
use Rattle.sq_agg.proofs.FeedLemmas.{closing_panes, rises_from, sound_marks}
use Rattle.sq_agg.proofs.ending.give_open.Goals as goal

pub give_windows-requires-clause-marks : goal.give_windows-requires-clause-marks
give_windows-requires-clause-marks g c = sound_marks c.args.panes.now.window.size c.args.now (bounds_of c.args.waiting.now).waiting c.requires.tick c.requires.waits.0

pub returns-clause-gives : goal.returns-clause-gives
returns-clause-gives g c =
    let p = c.args.panes.now in
    let w = p.window in
    let moves = c.requires.window.moves in
    let covers = c.requires.window.covers in
    let some : 0 < w.size = omega (arith, moves, covers) in
    let none = g.F.Fold.none p.fold in
    let joined = g.F.Fold.joined p.fold in
    let f = folding_of [] none joined (g.F.Fold.unit p.fold) (g.F.Fold.told p.fold) in
    let es = states_of p.held in
    let x = bounds_of c.args.waiting.now in
    let now : ℕ = c.args.now in
    let mid : ℕ = c.args.mid in
    let from = c.first_covering-from.result in
    let end = c.filled_before-end.result in
    let due = flat_map (ended none joined w p.width x es) (range_with_len from (end - from)) in
    let rises = rises_from (open_at w.size now) now due (ended_rises none joined w moves p.width x es now from end c.first_covering-from.ensures.after c.filled_before-end.ensures.come) in
    let groups = ended_groups none joined w moves p.width x es now mid from end c.first_covering-from.ensures.before c.filled_before-end.ensures.after c.requires.begun in
    let told = closing_panes f w some p.width now mid x es due c.requires.later c.requires.waits rises groups in
    subst (λ l. GaveSome g.T.Outlet (λ q. at_zero q l) c.args.out.now c.give_windows.new.out c.give_windows.result) (sym told) c.give_windows.ensures.gives
