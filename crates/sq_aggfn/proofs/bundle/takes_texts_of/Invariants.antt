use Rattle.std.proofs.Common.{◌≡◌, ℕ, ◌<◌, get_or, false}
use Rattle.sq_aggfn.specs.declared.Func.TheVariants as func
use Rattle.sq_aggfn.specs.declared.parts.PartialAggregate.{PartialAggregate}
use Rattle.sq_aggfn.specs.Parts.{part_of, takes_text}
use Rattle.sq_aggfn.proofs.bundle.takes_texts_of.Given as goal

abbrev pub invariant-loop-i : goal.invariant-loop-i
invariant-loop-i l = (k : ℕ) (d : PartialAggregate) → k < l.i → takes_text (get_or l.funcs k func.Count) (get_or l.parts k d) (part_of (get_or l.funcs k func.Count) l.t) ≡ false
