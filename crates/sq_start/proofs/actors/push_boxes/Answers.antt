use Rattle.std.proofs.Common.{ap, sym, subst, ◌∙◌, length, arith}
use Rattle.sq_start.specs.Numbers.{actor_at}
use Rattle.sq_start.specs.NewOperators.{IsStarted}
use Rattle.sq_start.proofs.NumberLemmas.{box-at}
use Rattle.sq_start.proofs.StartedLemmas.{more-at}
use Rattle.sq_start.proofs.actors.push_boxes.Goals as goal

pub loop-b-preserved : goal.loop-b-preserved
loop-b-preserved c =
    let n = c.args.n.now in
    let low = c.loop-b-test.true in
    let same = ap length c.as_slice-b-end.ensures in
    let count = c.loop-b.invariant.count in
    let more = c.in_ok-push.ensures.len in
    record {
      count = omega (arith, count, more);
      started = λ seed. more-at (λ k a. IsStarted n seed (actor_at n k) a) c.loop-b.actors.items c.push.new.self.items c.in_ok-new_box.field-0 c.in_ok-push.ensures.items (c.loop-b.invariant.started seed)
          (subst (λ x. IsStarted n seed x c.in_ok-new_box.field-0) (sym (ap (actor_at n) count ∙ box-at n c.loop-b.b (omega (arith, low, same)))) (c.in_ok-new_box.ensures seed));
    }
