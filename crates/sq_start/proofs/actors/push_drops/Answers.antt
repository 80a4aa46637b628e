use Rattle.std.proofs.Common.{ap, sym, subst, ◌∙◌, length, arith}
use Rattle.sq_points.proofs.Plannable.{few-points}
use Rattle.sq_start.specs.Numbers.{actor_at}
use Rattle.sq_start.specs.NewOperators.{IsStarted}
use Rattle.sq_start.proofs.NumberLemmas.{drop-at}
use Rattle.sq_start.proofs.StartedLemmas.{more-at}
use Rattle.sq_start.proofs.actors.push_drops.Goals as goal

pub overflow_cast-w : goal.overflow_cast-w
overflow_cast-w c = let few = few-points c.args.n.now c.requires.sound in let same = ap length c.requires.points in let low = c.loop-w-test.true in omega (arith, few, same, low)

pub loop-w-preserved : goal.loop-w-preserved
loop-w-preserved c =
    let n = c.args.n.now in
    let low = c.loop-w-test.true in
    let same = ap length c.requires.points in
    let count = c.loop-w.invariant.count in
    let more = c.in_ok-push.ensures.len in
    record {
      count = omega (arith, count, more);
      started = more-at (λ k a. IsStarted n c.args.seed (actor_at n k) a) c.loop-w.actors.items c.push.new.self.items c.new_drop.result c.in_ok-push.ensures.items c.loop-w.invariant.started
          (subst (λ x. IsStarted n c.args.seed x c.new_drop.result) (sym (ap (actor_at n) count ∙ drop-at n c.loop-w.w (omega (arith, low, same)))) c.new_drop.ensures);
    }
