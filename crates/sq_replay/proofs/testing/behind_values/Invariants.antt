use Rattle.std.proofs.Common.{◌≤◌, List, length, take}
use Rattle.sq_value.specs.declared.Value.{Value}
use Rattle.sq_replay.specs.Cuts.{AreRead}
use Rattle.sq_replay.proofs.testing.behind_values.Given as goal

abbrev pub invariant-loop-kind : goal.invariant-loop-kind
invariant-loop-kind l = record {
  read : (vs : List Value) × AreRead (take l.kind-index l.kinds) l.text l.fn.from vs l.at;
  within : l.at ≤ length l.text;
}
