use Rattle.std.proofs.Common.{ap, sym, ◌∙◌}
use Rattle.std.specs.Option.{option_map}
use Rattle.std.proofs.lemmas.Option.{slice_get-get_or}
use Rattle.sq_place.specs.declared.DropPoint.{DropPoint}
use Rattle.sq_start.specs.Starts.{length_above}
use Rattle.sq_start.proofs.told.length_above.Goals as goal

pub returns-in-Some : goal.returns-in-Some
returns-in-Some c =
    let there = slice_get-get_or c.args.points.now c.in-Some.w c.index-points-w.result c.in-Some.ensures.inside in
    sym (ap length_above (c.in-Some.ensures.first ∙ ap (option_map (λ (p : DropPoint). (c.in-Some.w, p))) there))
