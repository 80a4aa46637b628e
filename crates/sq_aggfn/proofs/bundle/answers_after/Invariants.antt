use Rattle.std.proofs.Common.{◌≡◌, ◌++◌, take}
use Rattle.sq_aggfn.specs.Parts.{answer_parts}
use Rattle.sq_aggfn.proofs.bundle.answers_after.Given as goal

abbrev pub invariant-loop-i : goal.invariant-loop-i
invariant-loop-i l = l.values.items ≡ l.front ++ answer_parts (take l.i l.funcs) l.number (take l.i l.parts)
