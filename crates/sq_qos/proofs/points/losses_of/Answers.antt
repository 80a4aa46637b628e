use Rattle.std.proofs.Common.{◌∙◌, ap, ◌<◌, ◌≢◌, length, arith, get_or-set_other, get_or-set_same, below_more}
use Rattle.std.proofs.lemmas.Grind.{common_steps}
use Rattle.sq_qos.specs.Graphs.{scaled_value}
use Rattle.sq_qos.proofs.Facts.{graph_facts}
use Rattle.sq_qos.proofs.Losses.{next_x, not_above, loss_here, are_losses, losses_in_order, losses_together}
use Rattle.sq_qos.proofs.Exact.{losses_whole}
use Rattle.sq_qos.proofs.points.losses_of.Goals as goal

pub overflow_sub-losses : goal.overflow_sub-losses
overflow_sub-losses c =
    rw (c.scaled-below.ensures.value, c.loop-i.invariant.value) (not_above c.args.points.now c.loop-i.i (graph_facts c.args.points.now c.requires.graph) c.loop-i-test.true)

pub loop-i-preserved : goal.loop-i-preserved
loop-i-preserved c =
    let i_low : c.loop-i.i < 20 = c.loop-i-test.true in
    record {
      value = c.scaled-below.ensures.value ∙ ap (λ x. scaled_value c.args.points.now x) (next_x c.loop-i.i i_low);
      small = c.scaled-below.ensures.small;
      long = let long = c.loop-i.invariant.long in grind (arith, common_steps);
      so_far =
          below_more _ _
          (λ k h.
          let ne : k ≢ c.loop-i.i = omega arith in
          rw get_or-set_other (c.loop-i.invariant.so_far k h))
          (let long = c.loop-i.invariant.long in
          let lt : c.loop-i.i < length c.loop-i.losses = omega arith in
          rw (get_or-set_same, c.from.ensures, c.loop-i.invariant.value, c.scaled-below.ensures.value) (loss_here c.args.points.now c.args.weight c.loop-i.i i_low));
    }

pub returns-clause-losses : goal.returns-clause-losses
returns-clause-losses c =
    are_losses c.args.points.now c.args.weight c.loop-i.losses c.loop-i.invariant.long
    (λ k h. let lt : k < c.loop-i.i = omega arith in c.loop-i.invariant.so_far k lt)

pub returns-clause-in_order : goal.returns-clause-in_order
returns-clause-in_order c =
    losses_in_order c.args.points.now c.args.weight c.loop-i.losses (graph_facts c.args.points.now c.requires.graph) c.loop-i.invariant.long
    (λ k h. let lt : k < c.loop-i.i = omega arith in c.loop-i.invariant.so_far k lt)

pub returns-clause-together : goal.returns-clause-together
returns-clause-together c =
    losses_together c.args.points.now c.args.weight c.loop-i.losses (graph_facts c.args.points.now c.requires.graph)
    (are_losses c.args.points.now c.args.weight c.loop-i.losses c.loop-i.invariant.long
    (λ k h. let lt : k < c.loop-i.i = omega arith in c.loop-i.invariant.so_far k lt))

pub returns-clause-whole : goal.returns-clause-whole
returns-clause-whole c =
    losses_whole c.args.points.now c.args.weight c.loop-i.losses (graph_facts c.args.points.now c.requires.graph)
    (λ k h. let lt : k < c.loop-i.i = omega arith in c.loop-i.invariant.so_far k lt)
