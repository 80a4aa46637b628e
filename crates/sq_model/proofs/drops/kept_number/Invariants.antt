use Rattle.std.proofs.Common.{◌≡◌, ◌+◌, ◌≤◌, length, drop}
use Rattle.sq_model.specs.GivenLevels.{kept_by}
use Rattle.sq_model.proofs.drops.kept_number.Given as goal

abbrev pub invariant-loop-x : goal.invariant-loop-x
invariant-loop-x l = record {
  low : l.number ≤ l.x-index;
  all : l.number + length (kept_by l.levels l.seed l.w l.p l.distance (drop l.x-index l.full)) ≡ length (kept_by l.levels l.seed l.w l.p l.distance l.full);
}
