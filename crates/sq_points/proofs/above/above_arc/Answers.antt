use Rattle.std.proofs.Common.{◌==◌, ap, sym, ◌∙◌}
use Rattle.std.specs.List.{list_any}
use Rattle.sq_points.specs.Above.{found_at}
use Rattle.sq_points.proofs.FirstLemmas.{first_found}
use Rattle.sq_points.proofs.above.above_arc.Goals as goal

pub returns-clause-first : goal.returns-clause-first
returns-clause-first c = first_found (λ p. list_any (λ d. d.0 == c.args.arc) p.reach) c.args.points.now ∙ ap (λ o. found_at o c.args.points.now) (sym c.arc_position.ensures.first)
