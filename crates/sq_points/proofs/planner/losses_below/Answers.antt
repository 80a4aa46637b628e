use Rattle.std.proofs.Common.{◌<◌, ◌≢◌, length, arith, get_or-set_other, get_or-set_same, below_more}
use Rattle.std.proofs.lemmas.Grind.{common_steps}
use Rattle.sq_points.proofs.Falls.{are-losses}
use Rattle.sq_points.proofs.planner.losses_below.Goals as goal

pub loop-step-preserved : goal.loop-step-preserved
loop-step-preserved c =
    let long = c.loop-step.invariant.long in
    record {
      long = grind (arith, common_steps);
      so_far =
          below_more _ _
          (λ k h.
          let ne : k ≢ c.loop-step.step = omega arith in
          rw get_or-set_other (c.loop-step.invariant.so_far k h))
          (let lt : c.loop-step.step < length c.loop-step.losses = omega arith in rw get_or-set_same c.loss_below.ensures.sum);
    }

pub returns : goal.returns
returns c = are-losses c.args.table.now c.args.outputs.now c.loop-step.losses c.loop-step.invariant.long (λ k h. c.loop-step.invariant.so_far k (omega arith))
