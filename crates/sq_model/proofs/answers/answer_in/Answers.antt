use Rattle.std.proofs.Common.{◌≡◌, ◌∙◌, ◌++◌, ◌<◌, ◌≤◌, List, slice_get, length, Some, None, ap, subst}
use Rattle.std.proofs.lemmas.Result.{IfOk-weaker}
use Rattle.std.specs.Option.{option_map}
use Rattle.sq_place.specs.declared.DropPoint.{DropPoint}
use Rattle.sq_model.specs.GivenLevels.{shown_without}
use Rattle.sq_model.specs.KnownStreams.{arc_in}
use Rattle.sq_points.proofs.FirstLemmas.{there-in}
use Rattle.sq_model.proofs.ShedLemmas.{found_output, answer_plain, answer_shown}
use Rattle.sq_model.proofs.answers.answer_in.Goals as goal
use Rattle.sq_points.specs.Above.{drop_above_output}

pub returns-in-None : goal.returns-in-None
returns-in-None c =
    let k = c.args.known.now in
    IfOk-weaker c.copy_of.result _ _
    (λ v h r known e.
    h ∙ c.at_arc-full.ensures ∙ ap (arc_in k) e ∙ answer_plain k r known c.args.output (found_output k r known c.deref.result.now c.args.output None c.deref.ensures.value c.in-None.ensures.first))
    c.copy_of.ensures

pub returns-in_ok-shown_tuples-in-Some : goal.returns-in_ok-shown_tuples-in-Some
returns-in_ok-shown_tuples-in-Some c = let x = c.index.ensures in let y = c.shown_tuples.ensures in λ r known e.
    let k = c.args.known.now in
    let w = c.in-Some.w in
    let p = c.index.result.now in
    let points = c.deref.ensures.value in
    let inside : w < length k.points.items = rw points at c.in-Some.ensures.inside in
    let here = there-in k.points.items w p inside c.index.ensures in
    let lasts = subst (λ z. 1 ≤ z) c.epoch-epoch.ensures.epoch c.epoch-epoch.ensures.lasts in
    let above : drop_above_output r.network c.args.output ≡ Some (w, p) =
    found_output k r known c.deref.result.now c.args.output (Some (w, p)) points
    (c.in-Some.ensures.first ∙ ap (λ (ps : List DropPoint). option_map (λ (q : DropPoint). (w, q)) (slice_get ps w)) points ∙ ap (option_map (λ (q : DropPoint). (w, q))) here) in
    c.in_ok-shown_tuples-in-Some.ensures
    ∙ ap (λ l. l ++ shown_without p c.deref-in-Some.result.now c.at_arc-full.result.now) c.new-shown.ensures.items
    ∙ ap (λ d. shown_without p d c.at_arc-full.result.now) c.deref-in-Some.ensures.value
    ∙ ap (shown_without p c.in_ok-record-in-Some.record.items) (c.at_arc-full.ensures ∙ ap (arc_in k) e)
    ∙ answer_shown k r known c.requires lasts w p c.args.output c.in_ok-record-in-Some.record.items above (c.in_ok-record-in-Some.ensures r p known here)
