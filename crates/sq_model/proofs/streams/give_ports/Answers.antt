use Rattle.std.proofs.Common.{◌≡◌, ◌+◌, ◌<◌, arith, length, map, subst}
use Rattle.std.proofs.lemmas.List.{map-set}
use Rattle.std.proofs.lemmas.List.Elements.{All-set}
use Rattle.sq_value.specs.Values.{IsStream}
use Rattle.sq_model.proofs.NumberLemmas.{port_within, stream_at_within}
use Rattle.sq_model.proofs.StandingLemmas.{Giving, giving_all, giving_next}
use Rattle.sq_model.proofs.StreamLemmas.{given_is_stream}
use Rattle.sq_model.proofs.streams.give_ports.Goals as goal
use Rattle.sq_words.proofs.Lists.{item_there}

pub stream_of-first-requires-clause-fits : goal.stream_of-first-requires-clause-fits
stream_of-first-requires-clause-fits c =
    let within = stream_at_within c.args.n.now.wires c.args.at in
    omega (arith, within, c.requires.placed.few_streams)

pub overflow_add-first : goal.overflow_add-first
overflow_add-first c =
    let low : c.args.at < length c.args.n.now.wires.boxes = omega arith in
    let there = item_there c.args.n.now.wires.boxes c.as_slice.result.now c.args.at c.index-as_slice-at.result c.as_slice.ensures low c.index-as_slice-at.is in
    let within = port_within c.args.n.now.wires c.args.at c.loop-port.port c.index-as_slice-at.result there c.loop-port-test.true in
    omega (arith, within, c.stream_of-first.ensures, c.requires.placed.few_streams)

pub bounds-streams-first : goal.bounds-streams-first
bounds-streams-first c =
    let low : c.args.at < length c.args.n.now.wires.boxes = omega arith in
    let there = item_there c.args.n.now.wires.boxes c.as_slice.result.now c.args.at c.index-as_slice-at.result c.as_slice.ensures low c.index-as_slice-at.is in
    let within = port_within c.args.n.now.wires c.args.at c.loop-port.port c.index-as_slice-at.result there c.loop-port-test.true in
    omega (arith, within, c.stream_of-first.ensures, c.requires.room, c.loop-port.auto.streams)

pub loop-port-preserved : goal.loop-port-preserved
loop-port-preserved c =
    let low : c.args.at < length c.args.n.now.wires.boxes = omega arith in
    let there = item_there c.args.n.now.wires.boxes c.as_slice.result.now c.args.at c.index-as_slice-at.result c.as_slice.ensures low c.index-as_slice-at.is in
    let node = item_there c.args.n.now.boxes c.as_slice-2.result.now c.args.at c.index-as_slice-at-2.result c.as_slice-2.ensures c.requires.there c.index-as_slice-at-2.is in
    record {
      giving = rw map-set
          (giving_next c.args.n.now c.args.at c.loop-port.port c.stream_of-first.result (map (λ t. t.items) c.args.streams.now) (map (λ t. t.items) c.loop-port.streams) c.in_ok-given.given.items
          c.index-as_slice-at.result c.index-as_slice-at-2.result c.requires.placed there node c.loop-port-test.true c.stream_of-first.ensures
          (rw c.as_slice-in-loop-port.ensures at c.in_ok-given.ensures) c.loop-port.invariant.giving);
      streams = rw map-set (All-set IsStream (map (λ t. t.items) c.loop-port.streams) (c.stream_of-first.result + c.loop-port.port) c.in_ok-given.given.items
          (rw c.in_ok-given.ensures (given_is_stream c.index-as_slice-at-2.result.body c.loop-port.port (map (λ t. t.items) c.loop-port.streams) c.as_slice-in-loop-port.result.now c.loop-port.invariant.streams))
          c.loop-port.invariant.streams);
    }

pub returns-clause-given : goal.returns-clause-given
returns-clause-given c =
    let low : c.args.at < length c.args.n.now.wires.boxes = omega arith in
    let there = item_there c.args.n.now.wires.boxes c.as_slice.result.now c.args.at c.index-as_slice-at.result c.as_slice.ensures low c.index-as_slice-at.is in
    let same : c.loop-port.port ≡ c.index-as_slice-at.result.ports = omega arith in
    giving_all c.args.n.now c.args.at (map (λ t. t.items) c.args.streams.now) (map (λ t. t.items) c.loop-port.streams) c.index-as_slice-at.result there
    (subst (λ k. Giving c.args.n.now c.args.at k (map (λ t. t.items) c.args.streams.now) (map (λ t. t.items) c.loop-port.streams)) same c.loop-port.invariant.giving)
