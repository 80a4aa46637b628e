use Rattle.std.proofs.Common.{◌≡◌, ◌∙◌, ◌∷◌, ◌+◌, ℕ, List, ap, sym, subst, refl, drop, get_or, length}
use Rattle.std.specs.Prelude.{Ok}
use Rattle.std.proofs.lemmas.List.{drop_more}
use Rattle.sq_graph.specs.declared.Wiring.{Wiring}
use Rattle.sq_reader.specs.Columns.{typed_node}
use Rattle.sq_rules.proofs.WiringLemmas.{wired_length}
use Rattle.sq_reader.proofs.NodeLemmas.{nodes_more}
use Rattle.sq_reader.proofs.ReadyLemmas.{AreReady, ready_first, ready_next, ready_takes}
use Rattle.sq_reader.proofs.nodes.nodes_in.Goals as goal

pub loop-at-init : goal.loop-at-init
loop-at-init c =
    rw (c.in_ok-nodes.ensures, c.as_slice.ensures)
    (record {
      so_far = refl;
      ready = rw c.requires.ordered (ready_first c.args.w.now (length c.args.raw.now.boxes) (sym (ap (λ (w : Wiring). length w.boxes) c.requires.wires ∙ wired_length c.args.raw.now)));
    })

pub typed_node-requires-clause-takes : goal.typed_node-requires-clause-takes
typed_node-requires-clause-takes c =
    let at : ℕ = get_or c.args.order.now c.loop-at.at-index 0 in
    let rest : List ℕ = drop (c.loop-at.at-index + 1) c.args.order.now in
    let front : AreReady c.args.w.now c.loop-at.nodes.items (at ∷ rest) =
    subst (λ (ats : List ℕ). AreReady c.args.w.now c.loop-at.nodes.items ats) (drop_more c.args.order.now c.loop-at.at-index 0 c.loop-at-test.true) c.loop-at.invariant.ready in
    rw c.deref.ensures.value
    (ready_takes c.args.raw.now c.args.w.now c.args.sources.now c.loop-at.nodes.items at rest c.requires.within c.requires.known c.requires.wires c.requires.given front)

pub loop-at-preserved : goal.loop-at-preserved
loop-at-preserved c =
    let at : ℕ = get_or c.args.order.now c.loop-at.at-index 0 in
    let rest : List ℕ = drop (c.loop-at.at-index + 1) c.args.order.now in
    let more : drop c.loop-at.at-index c.args.order.now ≡ at ∷ rest = drop_more c.args.order.now c.loop-at.at-index 0 c.loop-at-test.true in
    let typed : typed_node c.args.raw.now c.args.w.now c.args.sources.now c.loop-at.nodes.items at ≡ Ok c.in-Ok.node = rw c.deref.ensures.value at c.in-Ok.ensures in
    let front : AreReady c.args.w.now c.loop-at.nodes.items (at ∷ rest) = subst (λ (ats : List ℕ). AreReady c.args.w.now c.loop-at.nodes.items ats) more c.loop-at.invariant.ready in
    rw c.put.ensures
    (record {
      so_far = nodes_more c.args.raw.now c.args.w.now c.args.sources.now c.loop-at.nodes.items at (drop c.loop-at.at-index c.args.order.now) rest c.in-Ok.node typed more ∙ c.loop-at.invariant.so_far;
      ready = ready_next c.args.raw.now c.args.w.now c.args.sources.now c.loop-at.nodes.items at rest c.in-Ok.node c.requires.wires front typed;
    })
