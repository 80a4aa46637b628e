use Rattle.std.proofs.Common.{◌≡◌, ◌∙◌, suc, ◌+◌, ◌^◌, List, Option, ap, arith, length, map, subst, sym}
use Rattle.sq_words.specs.Lists.{numbers_to}
use Rattle.sq_graph.specs.declared.BoxWires.{BoxWires}
use Rattle.sq_graph.specs.Wires.{producer_of, producers_of}
use Rattle.sq_net.proofs.StreamLemmas.{boxes_count}
use Rattle.sq_place.proofs.Final.{streams_count}
use Rattle.sq_model.proofs.NumberLemmas.{stream_at_within}
use Rattle.sq_model.proofs.PlacedLemmas.{placed_of}
use Rattle.sq_slices.specs.declared.Reach.{Reach}
use Rattle.sq_slices.specs.Bounds.{AreLow}
use Rattle.sq_slices.specs.Reaches.{reach_numbered, reach_given, reach_within}
use Rattle.sq_slices.proofs.BoundLemmas.{boxes-low, listed-low}
use Rattle.sq_slices.proofs.FollowLemmas.{next-reaches}
use Rattle.sq_slices.proofs.rounds.reaches.Goals as goal

pub stream_of-streams-requires-clause-fits : goal.stream_of-streams-requires-clause-fits
stream_of-streams-requires-clause-fits c =
    let within = stream_at_within c.args.n.now.wires (length c.as_slice.result.now) in
    omega (arith, within, (placed_of c.args.n.now c.requires.sound).few_streams)

pub loop-round-init : goal.loop-round-init
loop-round-init c =
    let count = rw c.as_slice.ensures at c.stream_of-streams.ensures in
    c.in_ok-found.ensures ∙ ap (λ k. map (reach_within c.args.n.now c.args.delay 0) (numbers_to k)) (count ∙ streams_count c.args.n.now.wires)

pub next_reaches-requires-clause-low : goal.next_reaches-requires-clause-low
next_reaches-requires-clause-low c =
    let n = c.args.n.now in
    let sound = c.requires.sound in
    let is = ap (λ (bs : List BoxWires). length bs) c.as_slice.ensures in
    let many = boxes_count n sound in
    let few = boxes-low n sound c.args.delay c.requires.delay in
    let before = c.loop-round-test.true in
    subst (AreLow (2 ^ 59)) (sym (c.deref.ensures.value ∙ c.loop-round.invariant))
    (listed-low n sound c.args.delay c.requires.delay c.loop-round._round (omega (arith, is, many, few, before)) (numbers_to (length (producers_of n.wires))))

pub loop-round-preserved : goal.loop-round-preserved
loop-round-preserved c =
    let n = c.args.n.now in
    let w = n.wires in
    let streams = length (producers_of w) in
    let count = rw c.as_slice.ensures at c.stream_of-streams.ensures in
    c.in_ok-found-2.ensures
    ∙ ap (λ k. map (λ s. reach_given n c.args.delay (reach_numbered c.deref.result.now) (producer_of w s)) (numbers_to k)) (count ∙ streams_count w)
    ∙ ap (λ (found : List (Option Reach)). map (λ s. reach_given n c.args.delay (reach_numbered found) (producer_of w s)) (numbers_to streams)) (c.deref.ensures.value ∙ c.loop-round.invariant)
    ∙ next-reaches n c.args.delay c.loop-round._round
    ∙ ap (λ k. map (reach_within n c.args.delay k) (numbers_to streams)) (let e : suc c.loop-round._round ≡ c.loop-round._round + 1 = omega arith in e)
