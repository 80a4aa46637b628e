use Rattle.std.proofs.Common.{◌≡◌, ℕ, ◌<◌, ◌≤◌, get_or}
use Rattle.sq_aggfn.specs.declared.Func.TheVariants as func
use Rattle.sq_aggfn.specs.declared.parts.PartialAggregate.{PartialAggregate}
use Rattle.sq_aggfn.specs.Parts.{join_part}
use Rattle.sq_aggfn.proofs.bundle.take_in_plain.Given as goal

abbrev pub invariant-loop-i : goal.invariant-loop-i
invariant-loop-i l = record {
  done : (k : ℕ) (d : PartialAggregate) → k < l.i → get_or l.parts k d ≡ join_part (get_or l.fn.funcs k func.Count) (get_or l.fn.parts k d) (get_or l.fn.others k d);
  left : (k : ℕ) (d : PartialAggregate) → l.i ≤ k → get_or l.parts k d ≡ get_or l.fn.parts k d;
}
