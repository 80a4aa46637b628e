use Rattle.std.proofs.Common.{ap, sym, ◌∙◌}
use Rattle.sq_words.specs.Lists.{contains_number}
use Rattle.sq_points.specs.Above.{found_at}
use Rattle.sq_points.proofs.FirstLemmas.{first_found}
use Rattle.sq_points.proofs.above.above_box.Goals as goal

pub returns-clause-first : goal.returns-clause-first
returns-clause-first c = first_found (λ p. contains_number p.boxes c.args.at) c.args.points.now ∙ ap (λ o. found_at o c.args.points.now) (sym c.box_position.ensures.first)
