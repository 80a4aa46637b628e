use Rattle.std.proofs.Common.{◌≡◌, ◌+◌, ◌-◌, ◌∙◌, [], ◌∷◌, ap, sym, refl, arith, length, slice_get}
use Rattle.std.proofs.lemmas.Option.{slice_get_read}
use Rattle.std.proofs.lemmas.Result.{IfOk-weaker}
use Rattle.sq_graph.specs.Wires.{output_arc_at}
use Rattle.sq_points.specs.Points.{points_of}
use Rattle.sq_start.specs.Numbers.{first_output}
use Rattle.sq_points.proofs.Bounds.{few_arcs}
use Rattle.sq_place.proofs.Wires.{outputs-there}
use Rattle.sq_core.specs.Table.{arc_feed, place_feed}
use Rattle.sq_core.proofs.TableLemmas.{row-drop, row-output}
use Rattle.sq_core.proofs.network.row_at.Goals as goal

pub returns-then-actor-first : goal.returns-then-actor-first
returns-then-actor-first c =
    let n = c.args.it.now.n.now in
    let boxes = ap length c.as_slice.ensures in
    let high = c.if-actor-boxes.false in
    let low = c.if-actor-first.true in
    let point = slice_get_read c.args.it.now.points.now _ _ c.index-it-actor.result refl (omega (arith, high, low)) c.index-it-actor.is in
    let k : c.args.actor - length c.as_slice.result.now ≡ c.args.actor - length n.boxes = omega (arith, boxes) in
    IfOk-weaker c.one_feed.result _ _
    (λ v h. h ∙ ap (λ f. f ∷ []) c.in_ok-given.ensures ∙ ap (λ p. place_feed n p ∷ []) (sym c.index-it-actor.is)
    ∙ sym (row-drop n c.args.actor c.index-it-actor.result (omega (arith, boxes, high))
    (ap (slice_get (points_of n)) (sym k) ∙ ap (λ l. slice_get l (c.args.actor - length c.as_slice.result.now)) (sym c.requires.topology.points) ∙ point))) c.one_feed.ensures

pub output_arc-arc-requires : goal.output_arc-arc-requires
output_arc-arc-requires c =
    let n = c.args.it.now.n.now in
    let boxes = ap length c.as_slice.ensures in
    let points = ap (λ l. length l) c.requires.topology.points in
    let arc = outputs-there n.wires (c.args.actor - (length c.as_slice.result.now + length c.args.it.now.points.now)) (omega (arith, boxes, points, c.if-actor-first.false, c.requires.there)) in
    let few = few_arcs n c.requires.topology.sound in
    omega (arith, arc, few)

pub arc_feed-requires-clause-there : goal.arc_feed-requires-clause-there
arc_feed-requires-clause-there c =
    let boxes = ap length c.as_slice.ensures in
    let points = ap (λ l. length l) c.requires.topology.points in
    let arc = outputs-there c.args.it.now.n.now.wires (c.args.actor - (length c.as_slice.result.now + length c.args.it.now.points.now)) (omega (arith, boxes, points, c.if-actor-first.false, c.requires.there)) in
    omega (arith, arc, c.output_arc-arc.ensures)

pub returns : goal.returns
returns c =
    let n = c.args.it.now.n.now in
    let boxes = ap length c.as_slice.ensures in
    let points = ap (λ l. length l) c.requires.topology.points in
    let high = c.if-actor-first.false in
    let k : c.args.actor - (length c.as_slice.result.now + length c.args.it.now.points.now) ≡ c.args.actor - first_output n = omega (arith, boxes, points) in
    IfOk-weaker c.one_feed-2.result _ _
    (λ v h. h ∙ ap (λ f. f ∷ []) (c.in_ok-feed.ensures ∙ ap (arc_feed n) (c.output_arc-arc.ensures ∙ ap (output_arc_at n.wires) k))
    ∙ sym (row-output n c.args.actor (omega (arith, boxes, points, high)) c.requires.there)) c.one_feed-2.ensures
