use Rattle.std.proofs.Common.{ap, sym, subst, ◌∙◌, length, arith}
use Rattle.sq_start.specs.Numbers.{actor_at}
use Rattle.sq_start.specs.NewOperators.{IsStarted}
use Rattle.sq_start.proofs.NumberLemmas.{output-at}
use Rattle.sq_start.proofs.StartedLemmas.{more-at}
use Rattle.sq_start.proofs.actors.push_outputs.Goals as goal

pub loop-o-preserved : goal.loop-o-preserved
loop-o-preserved c =
    let n = c.args.n.now in
    let low = c.loop-o-test.true in
    let same = ap length c.as_slice-o-end.ensures in
    let count = c.loop-o.invariant.count in
    let more = c.in_ok-push.ensures.len in
    record {
      count = omega (arith, count, more);
      started = λ seed before. more-at (λ k a. IsStarted n seed (actor_at n k) a) c.loop-o.actors.items c.push.new.self.items c.new_output.result c.in_ok-push.ensures.items (c.loop-o.invariant.started seed before)
          (subst (λ x. IsStarted n seed x c.new_output.result) (sym (ap (actor_at n) count ∙ output-at n c.loop-o.o (omega (arith, low, same)))) (c.new_output.ensures seed));
    }
