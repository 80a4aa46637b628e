use Rattle.std.proofs.Common.{sym, ◌∙◌}
use Rattle.sq_aggfn.proofs.PartBounds.{null_last}
use Rattle.sq_aggfn.proofs.parts.keep_value.Goals as goal

pub returns-then-is_absent : goal.returns-then-is_absent
returns-then-is_absent c = null_last c.args.func c.args.held.now c.args.v.now (sym c.is_absent.ensures ∙ c.if-is_absent.true)
