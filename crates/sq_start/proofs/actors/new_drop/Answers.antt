use Rattle.std.proofs.Common.{ap, sym, ◌∙◌}
use Rattle.std.specs.Prelude.{slice_get}
use Rattle.sq_start.proofs.ToldLemmas.{point-fine}
use Rattle.sq_start.proofs.StartedLemmas.{drop-started}
use Rattle.sq_start.proofs.actors.new_drop.Goals as goal
use Rattle.sq_words.proofs.Numbers.{eqb_itself}
use Rattle.sq_points.proofs.FirstLemmas.{there-in}

pub drop_actor-requires-clause-keep : goal.drop_actor-requires-clause-keep
drop_actor-requires-clause-keep c =
    let p = c.index-points-w.result in
    let there-in = ap (λ l. slice_get l c.args.w) (sym c.requires.points) ∙ there-in c.args.points.now c.args.w p c.requires.there c.index-points-w.is in
    (point-fine c.early_drop_is_sound.ensures.points c.args.n.now c.requires.sound c.requires.limits c.args.w p there-in).1

pub returns : goal.returns
returns c =
    let p = c.index-points-w.result in
    let there-in = ap (λ l. slice_get l c.args.w) (sym c.requires.points) ∙ there-in c.args.points.now c.args.w p c.requires.there c.index-points-w.is in
    let new = c.drop_actor.ensures in
    drop-started c.args.n.now c.args.w p c.args.seed c.drop_actor.result there-in new.starts new.owns new.none_lost new.fits (new.reads c.args.n.now.epoch ∙ eqb_itself c.args.n.now.epoch)
    (record { none = new.none; at_start = new.start; is_valid = new.valid })
