use Rattle.std.proofs.Common.{◌≡◌, ◌∙◌, ℕ, List, [], ap, arith, length, map, sym, vec_len}
use Rattle.std.proofs.lemmas.Grind.{common_steps}
use Rattle.std.proofs.lemmas.List.{get_or-map, length-map}
use Rattle.sq_graph.specs.Wires.{arcs_of}
use Rattle.sq_model.proofs.ArcLemmas.{arc_held, arcs_carry}
use Rattle.sq_model.proofs.arcs.full.Goals as goal

pub index-stream-requires : goal.index-stream-requires
index-stream-requires c =
    let wires = c.args.n.now.wires in
    let carried = ap (λ (streams : List ℕ). length streams) (c.in_ok-streams.ensures ∙ sym (arcs_carry wires)) in
    let many = length-map (arcs_of wires) (λ a. a.stream) in
    let whole : vec_len c.in_ok-streams.streams ≡ length c.in_ok-streams.streams.items = grind (arith, common_steps) in
    let low = c.requires.arc in
    omega (arith, carried, many, whole, low)

pub swap_remove-requires : goal.swap_remove-requires
swap_remove-requires c =
    let is = rw (c.in_ok-streams.ensures ∙ sym (arcs_carry c.args.n.now.wires)) at c.index-stream.ensures in
    let held = arc_held c.args.n.now (map (λ t. t.items) c.in_ok-copies.field-0.items) (map (λ t. t.items) c.in_ok-full.full.items) c.args.arc c.index-stream.result.now c.requires.placed c.requires.arc is c.in_ok-full.ensures in
    let low = held.0 in
    let many = length-map c.in_ok-full.full.items (λ t. t.items) in
    let whole : vec_len c.in_ok-full.full ≡ length c.in_ok-full.full.items = grind (arith, common_steps) in
    omega (arith, low, many, whole)

pub returns : goal.returns
returns c =
    let is = rw (c.in_ok-streams.ensures ∙ sym (arcs_carry c.args.n.now.wires)) at c.index-stream.ensures in
    let held = arc_held c.args.n.now (map (λ t. t.items) c.in_ok-copies.field-0.items) (map (λ t. t.items) c.in_ok-full.full.items) c.args.arc c.index-stream.result.now c.requires.placed c.requires.arc is c.in_ok-full.ensures in
    rw (← c.in_ok-copies.ensures)
    (ap (λ v. v.items) c.swap_remove.ensures.value
    ∙ sym (get_or-map (λ t. t.items) c.in_ok-full.full.items c.index-stream.result.now c.swap_remove.result [] (rw length-map at held.0))
    ∙ held.1)
