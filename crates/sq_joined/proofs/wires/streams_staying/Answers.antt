use Rattle.std.proofs.Common.{◌∙◌, ap, arith, length, take, List}
use Rattle.std.specs.List.{filter}
use Rattle.std.proofs.lemmas.List.{take_all}
use Rattle.sq_graph.specs.declared.BoxWires.{BoxWires}
use Rattle.sq_graph.specs.Wires.{producers_of, stream_at}
use Rattle.sq_place.proofs.Final.{streams_count}
use Rattle.sq_joined.specs.Staying.{is_kept}
use Rattle.sq_joined.proofs.wires.streams_staying.Goals as goal

pub stream_of-streams-requires-clause-fits : goal.stream_of-streams-requires-clause-fits
stream_of-streams-requires-clause-fits c =
    let count = streams_count c.args.w.now in
    let same = ap (λ (bs : List BoxWires). stream_at c.args.w.now (length bs) 0) c.as_slice.ensures in
    let low = c.requires.streams in
    omega (arith, count, same, low)

pub returns-clause-number : goal.returns-clause-number
returns-clause-number c =
    c.stream_moved.ensures.number
    ∙ ap (λ k. length (filter (is_kept c.args.keep.now) (take k (producers_of c.args.w.now))))
    (c.stream_of-streams.ensures ∙ ap (λ (bs : List BoxWires). stream_at c.args.w.now (length bs) 0) c.as_slice.ensures ∙ streams_count c.args.w.now)
    ∙ ap (λ ps. length (filter (is_kept c.args.keep.now) ps)) (take_all (length (producers_of c.args.w.now)) (producers_of c.args.w.now) (omega arith))

pub returns-clause-low : goal.returns-clause-low
returns-clause-low c =
    let count = c.stream_of-streams.ensures ∙ ap (λ (bs : List BoxWires). stream_at c.args.w.now (length bs) 0) c.as_slice.ensures ∙ streams_count c.args.w.now in
    let low = c.stream_moved.ensures.low in
    let few = c.requires.streams in
    omega (arith, count, low, few)
