use Rattle.std.proofs.Common.{◌≡◌, ◌∙◌, ◌≤◌, ◌<◌, List, slice_get, Some, None, ap, length, sym, subst}
use Rattle.std.specs.Option.{option_map}
use Rattle.sq_value.specs.declared.Tuple.{Tuple}
use Rattle.sq_place.specs.declared.DropPoint.{DropPoint}
use Rattle.sq_points.proofs.FirstLemmas.{there-in}
use Rattle.sq_model.specs.GivenLevels.{AreTicks, kept_by}
use Rattle.sq_model.proofs.ShedLemmas.{arc_ticks, found_arc, kept_plain, kept_known}
use Rattle.sq_model.proofs.answers.kept_in.Goals as goal
use Rattle.sq_points.specs.Above.{drop_above_arc, distance_of}

pub kept_number-requires-clause-ticks : goal.kept_number-requires-clause-ticks
kept_number-requires-clause-ticks c = subst AreTicks (sym c.at_arc-full.ensures) (arc_ticks c.args.known.now c.requires c.args.arc)

pub returns-in-None : goal.returns-in-None
returns-in-None c = λ r known.
    ap (λ (l : List Tuple). length l)
    (c.at_arc-full.ensures ∙ kept_plain c.args.known.now r known c.args.arc (found_arc c.args.known.now r known c.deref.result.now c.args.arc None c.deref.ensures.value c.in-None.ensures.first))

pub returns-in-Some : goal.returns-in-Some
returns-in-Some c = λ r known.
    let k = c.args.known.now in
    let w = c.in-Some.w in
    let p = c.index-p.result.now in
    let points = c.deref.ensures.value in
    let inside : w < length k.points.items = rw points at c.in-Some.ensures.inside in
    let here = there-in k.points.items w p inside c.index-p.ensures in
    let lasts = subst (λ z. 1 ≤ z) c.epoch-epoch.ensures.epoch c.epoch-epoch.ensures.lasts in
    let above : drop_above_arc r.network c.args.arc ≡ Some (w, p) =
    found_arc k r known c.deref.result.now c.args.arc (Some (w, p)) points
    (c.in-Some.ensures.first ∙ ap (λ (ps : List DropPoint). option_map (λ (q : DropPoint). (w, q)) (slice_get ps w)) points ∙ ap (option_map (λ (q : DropPoint). (w, q))) here) in
    c.kept_number.ensures
    ∙ ap (λ d. length (kept_by k.levels k.seed w p d c.at_arc-full.result.now)) c.distance_below-distance.ensures
    ∙ ap (λ (l : List Tuple). length l) (ap (kept_by k.levels k.seed w p (distance_of p c.args.arc)) c.at_arc-full.ensures ∙ kept_known k r known c.requires lasts w p c.args.arc above)
