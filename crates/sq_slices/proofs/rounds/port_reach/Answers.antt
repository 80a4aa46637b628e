use Rattle.std.proofs.Common.{◌≡◌, ◌∙◌, ◌≤◌, ◌^◌, List, None, Some, ap, arith, length, map, slice_get, subst, sym}
use Rattle.std.proofs.lemmas.Option.{slice_get-get_or, slice_get_past}
use Rattle.sq_graph.specs.Wires.{inputs_of}
use Rattle.sq_net.specs.declared.Node.{Node}
use Rattle.sq_slices.specs.Bounds.{AreLow}
use Rattle.sq_slices.specs.Reaches.{box_reach, box_reach_at, reach_numbered}
use Rattle.sq_slices.proofs.BoundLemmas.{all-mapped, at-low, inputs-few, length-mapped}
use Rattle.sq_slices.proofs.rounds.port_reach.Goals as goal

pub returns-in-None : goal.returns-in-None
returns-in-None c =
    let past : length c.as_slice.result.now ≤ c.args.at = c.in-None.ensures.lookup.3 in
    let none : slice_get c.args.n.now.boxes c.args.at ≡ None = ap (λ (bs : List Node). slice_get bs c.args.at) (sym c.as_slice.ensures) ∙ slice_get_past c.as_slice.result.now c.args.at past in
    sym (ap (λ o. box_reach_at c.args.delay o (map (reach_numbered c.args.reaches.now) (inputs_of c.args.n.now.wires c.args.at))) none)

pub returns-in_ok-taken-in-Some : goal.returns-in_ok-taken-in-Some
returns-in_ok-taken-in-Some c =
    let found = c.in-Some.ensures.lookup.3 in
    let node = c.in-Some.node.now in
    let there : slice_get c.args.n.now.boxes c.args.at ≡ Some node =
    ap (λ (bs : List Node). slice_get bs c.args.at) (sym c.as_slice.ensures) ∙ slice_get-get_or c.as_slice.result.now c.args.at node found.0 ∙ ap Some (sym (found.1 node)) in
    c.box_reach.ensures
    ∙ ap (box_reach c.args.delay node.body) (c.deref.ensures.value ∙ c.in_ok-taken-in-Some.ensures ∙ ap (map (reach_numbered c.args.reaches.now)) c.inputs_of.ensures)
    ∙ sym (ap (λ o. box_reach_at c.args.delay o (map (reach_numbered c.args.reaches.now) (inputs_of c.args.n.now.wires c.args.at))) there)

pub box_reach-requires-clause-few : goal.box_reach-requires-clause-few
box_reach-requires-clause-few c =
    let few = inputs-few c.args.n.now c.requires.sound c.args.at in
    let count = length-mapped (reach_numbered c.args.reaches.now) (inputs_of c.args.n.now.wires c.args.at) in
    let same = ap (λ rs. length rs) (c.deref.ensures.value ∙ c.in_ok-taken-in-Some.ensures ∙ ap (map (reach_numbered c.args.reaches.now)) c.inputs_of.ensures) in
    omega (arith, few, count, same)

pub box_reach-requires-clause-low : goal.box_reach-requires-clause-low
box_reach-requires-clause-low c =
    subst (AreLow (2 ^ 59)) (sym (c.deref.ensures.value ∙ c.in_ok-taken-in-Some.ensures ∙ ap (map (reach_numbered c.args.reaches.now)) c.inputs_of.ensures))
    (at-low (2 ^ 59) (map (reach_numbered c.args.reaches.now) (inputs_of c.args.n.now.wires c.args.at)) (all-mapped (2 ^ 59) (reach_numbered c.args.reaches.now) c.requires.low (inputs_of c.args.n.now.wires c.args.at)))
