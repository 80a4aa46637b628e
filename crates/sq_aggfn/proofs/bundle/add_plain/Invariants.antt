use Rattle.std.proofs.Common.{◌≡◌, ◌+◌, ℕ, ◌<◌, ◌≤◌, get_or}
use Rattle.sq_aggfn.specs.declared.Func.TheVariants as func
use Rattle.sq_aggfn.specs.declared.parts.PartialAggregate.{PartialAggregate}
use Rattle.sq_aggfn.specs.Parts.{join_part, part_of, IsPart}
use Rattle.sq_aggfn.proofs.bundle.add_plain.Given as goal

abbrev pub invariant-loop-i : goal.invariant-loop-i
invariant-loop-i l = record {
  done : (k : ℕ) (d : PartialAggregate) → k < l.i → get_or l.parts k d ≡ join_part (get_or l.fn.funcs k func.Count) (get_or l.fn.parts k d) (part_of (get_or l.fn.funcs k func.Count) l.fn.t);
  sound : (k : ℕ) (d : PartialAggregate) → k < l.i → IsPart (l.fn._number + 1) (get_or l.parts k d);
  left : (k : ℕ) (d : PartialAggregate) → l.i ≤ k → get_or l.parts k d ≡ get_or l.fn.parts k d;
}
