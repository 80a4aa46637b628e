use Rattle.std.proofs.Common.{◌≡◌, ◌∙◌, ◌+◌, ◌-◌, List, [], ap, arith, drop, length, length-append, map, replicate, subst, take}
use Rattle.std.proofs.lemmas.List.{length-map, length-replicate, take_all, take_at, take_more}
use Rattle.std.proofs.lemmas.List.Elements.{All-append, All-replicate}
use Rattle.sq_value.specs.declared.Tuple.{Tuple}
use Rattle.sq_value.specs.Values.{IsStream}
use Rattle.sq_graph.specs.Order.{order_of}
use Rattle.sq_model.specs.StreamsSoFar.{Stands}
use Rattle.sq_model.proofs.NumberLemmas.{stream_at_within}
use Rattle.sq_model.proofs.OrderLemmas.{order_inside, order_next}
use Rattle.sq_model.proofs.StandingLemmas.{all_stand, sources_stand}
use Rattle.sq_model.proofs.streams.full_streams.Goals as goal
use Rattle.sq_place.proofs.Final.{streams_count}

pub stream_of-requires-clause-fits : goal.stream_of-requires-clause-fits
stream_of-requires-clause-fits c =
    let within = stream_at_within c.args.n.now.wires (length c.as_slice.result.now) in
    omega (arith, within, c.requires.placed.few_streams)

pub loop-at-init : goal.loop-at-init
loop-at-init c =
    let sources = map (λ t. t.items) c.args.sources.items in
    let ports = c.stream_of.result - c.args.n.now.wires.sources in
    let few : length sources ≡ c.args.n.now.wires.sources = length-map c.args.sources.items (λ t. t.items) ∙ c.requires.sources in
    let last = streams_count c.args.n.now.wires in
    let count = rw c.as_slice.ensures at c.stream_of.ensures in
    let long = length-map c.push_empty.new.streams.items (λ t. t.items) in
    let is = c.in_ok-push_empty.ensures in
    let none : List Tuple = [] in
    let empty = length-replicate ports none in
    let parts : length (map (λ t. t.items) c.push_empty.new.streams.items) ≡ length sources + length (replicate ports none) = ap (λ (xs : List (List Tuple)). length xs) is ∙ length-append sources (replicate ports none) in
    record {
      order = c.deref-at-items.ensures.value ∙ c.in_ok-order.ensures;
      room = omega (arith, long, parts, few, last, count, empty);
      stands = rw is (sources_stand c.args.n.now sources ports c.requires.placed few);
      streams = rw is (All-append IsStream sources (replicate ports none) c.requires.streams (All-replicate IsStream ports none tt));
    }

pub give_ports-requires-clause-there : goal.give_ports-requires-clause-there
give_ports-requires-clause-there c =
    rw c.loop-at.invariant.order
    (let low = order_inside c.args.n.now.wires c.loop-at.at-index 0 (rw c.loop-at.invariant.order at c.loop-at-test.true) in omega (arith, low))

pub give_ports-requires-clause-room : goal.give_ports-requires-clause-room
give_ports-requires-clause-room c = rw c.deref_mut.ensures.value c.loop-at.invariant.room

pub loop-at-preserved : goal.loop-at-preserved
loop-at-preserved c =
    let w = c.args.n.now.wires in
    let sources = map (λ t. t.items) c.args.sources.items in
    let len : length c.give_ports.new.streams ≡ c.loop-at.streams.len = c.give_ports.auto.streams ∙ c.deref_mut.ensures.len in
    let whole = take_at c.give_ports.new.streams (drop (length c.give_ports.new.streams) c.loop-at.streams.items) c.loop-at.streams.len len in
    let low = rw c.loop-at.invariant.order at c.loop-at-test.true in
    let next = order_next w c.loop-at.at-index 0 low in
    let stood = rw (← c.deref_mut.ensures.value) at c.loop-at.invariant.stands in
    let stands = (rw c.loop-at.invariant.order at c.in_ok-give_ports.ensures.given) sources (take c.loop-at.at-index (order_of w)) next stood in
    record {
      order = c.loop-at.invariant.order;
      room = rw whole (c.give_ports.auto.streams ∙ rw c.deref_mut.ensures.value c.loop-at.invariant.room);
      stands = rw (whole, take_more (order_of w) c.loop-at.at-index 0 low) stands;
      streams = rw whole c.in_ok-give_ports.ensures.streams;
    }

pub returns : goal.returns
returns c =
    let w = c.args.n.now.wires in
    let all : take c.loop-at.at-index (order_of w) ≡ order_of w = take_all c.loop-at.at-index (order_of w) (rw c.loop-at.invariant.order at c.loop-at-test.false) in
    all_stand c.args.n.now (map (λ t. t.items) c.args.sources.items) (map (λ t. t.items) c.loop-at.streams.items) c.requires.placed
    (length-map c.loop-at.streams.items (λ t. t.items) ∙ c.loop-at.invariant.room)
    (subst (λ front. Stands c.args.n.now (map (λ t. t.items) c.args.sources.items) front (map (λ t. t.items) c.loop-at.streams.items)) all c.loop-at.invariant.stands)
