use Rattle.std.proofs.Common.{ap, sym, ◌∙◌}
use Rattle.std.specs.Prelude.{is_some}
use Rattle.sq_core.proofs.PointLemmas.{is_found}
use Rattle.sq_core.proofs.points.is_below.Goals as goal

pub returns : goal.returns
returns c =
    c.is_some.ensures ∙ sym (is_found c.args.points.now c.above_arc.result c.above_arc.ensures.inside) ∙ sym (ap is_some c.above_arc.ensures.first)
