use Rattle.std.proofs.Common.{◌≡◌, sym, subst}
use Rattle.std.specs.List.{AllByRecursion}
use Rattle.sq_tagged.specs.Boxes.{batches_touched}
use Rattle.sq_oper.specs.Streams.{tuples_of}
use Rattle.sq_windrop.specs.Drops.{dropping}
use Rattle.sq_start.proofs.DropFacts.{drop-starts, own-decided}
use Rattle.sq_start.proofs.drops.drop_actor.Goals as goal

pub returns-clause-starts : goal.returns-clause-starts
returns-clause-starts c =
    let law = c.early_drop_is_sound.ensures in
    drop-starts law.ready law.widen _ _ _ law.points law.drops _ c.args.w c.args.p.now c.args.epoch c.args.seed c.new.ensures.marked c.new.ensures.decides c.new.ensures.fits

pub returns-clause-owns : goal.returns-clause-owns
returns-clause-owns c = λ table future f.
    subst (AllByRecursion (λ d. d.drop ≡ c.args.w)) (sym (c.new.ensures.decides table future f))
    (own-decided (dropping c.args.w c.args.p.now.length c.args.p.now.keep c.args.epoch c.args.seed) table (batches_touched c.args.p.now.length c.args.p.now.keep (tuples_of future)))
