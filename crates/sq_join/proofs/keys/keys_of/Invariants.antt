use Rattle.sq_join.specs.EqualFields.{AreKeys}
use Rattle.sq_join.proofs.keys.keys_of.Given as goal

abbrev pub invariant-loop-i : goal.invariant-loop-i
invariant-loop-i l = AreKeys l.on.tree l.keys
