use Rattle.std.proofs.Common.{◌≡◌, ℕ, ◌+◌, ◌-◌, ◌*◌, ◌<◌, ◌^◌, length, get_or}
use Rattle.sq_qos.specs.Graphs.{scaled_value, loss_step}
use Rattle.sq_qos.proofs.points.losses_of.Given as goal

abbrev pub invariant-loop-i : goal.invariant-loop-i
invariant-loop-i l = record {
  value : l.above ≡ scaled_value l.points (1000 - 50 * l.i);
  small : l.above < 2 ^ 92;
  long : length l.losses ≡ 20;
  so_far : (k : ℕ) → k < l.i → get_or l.losses k 0 ≡ loss_step l.points l.weight (k + 1);
}
