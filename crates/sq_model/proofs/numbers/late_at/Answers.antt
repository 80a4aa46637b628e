use Rattle.std.proofs.Common.{◌≡◌, ◌∙◌, ◌-◌, ◌<◌, List, ap, arith, length, map, sym}
use Rattle.sq_graph.specs.Wires.{inputs_at, stream_at}
use Rattle.std.specs.List.{sum_by}
use Rattle.sq_value.specs.declared.Tuple.{Tuple}
use Rattle.sq_model.specs.FullCounts.{fed_from, late_at, late_by}
use Rattle.sq_model.proofs.LateLemmas.{late_other}
use Rattle.sq_model.proofs.NumberLemmas.{stream_at_within}
use Rattle.sq_model.proofs.numbers.late_at.Goals as goal
use Rattle.sq_words.specs.Lists.{nth}
use Rattle.sq_words.proofs.Lists.{item_there}

pub stream_of-requires-clause-fits : goal.stream_of-requires-clause-fits
stream_of-requires-clause-fits c =
    let within = stream_at_within c.args.n.now.wires c.args.at in
    omega (arith, within, c.requires.placed.few_streams)

pub returns-in-BSort : goal.returns-in-BSort
returns-in-BSort c =
    let streams = map (λ t. t.items) c.args.streams.now in
    let low : c.args.at < length c.args.n.now.wires.boxes = omega arith in
    let node = item_there c.args.n.now.boxes c.as_slice.result.now c.args.at c.index-as_slice-at.result c.as_slice.ensures c.requires.there c.index-as_slice-at.is in
    let there = item_there c.args.n.now.wires.boxes c.as_slice-2.result.now c.args.at c.index-as_slice-at-2.result c.as_slice-2.ensures low c.index-as_slice-at-2.is in
    let taken : c.number_in-taken.result ≡ fed_from c.args.n.now streams c.args.at =
    rw c.as_slice-in-BSort.ensures at c.number_in-taken.ensures ∙ ap (λ o. sum_by (λ s. length (nth streams s)) (inputs_at o)) (sym there) in
    let given : c.number_of-given.result ≡ length (nth streams (stream_at c.args.n.now.wires c.args.at 0)) =
    c.number_of-given.ensures.number ∙ ap (λ (xs : List Tuple). length xs) c.stream_in.ensures ∙ ap (λ s. length (nth streams s)) c.stream_of.ensures in
    c.saturating_sub.ensures
    ∙ ap (λ k. k - c.number_of-given.result) taken
    ∙ ap (λ k. fed_from c.args.n.now streams c.args.at - k) given
    ∙ sym (ap (λ o. late_at o (fed_from c.args.n.now streams c.args.at) (length (nth streams (stream_at c.args.n.now.wires c.args.at 0)))) node
    ∙ ap (λ b. late_by b (fed_from c.args.n.now streams c.args.at) (length (nth streams (stream_at c.args.n.now.wires c.args.at 0)))) c.in-BSort.is)

pub returns-in_default : goal.returns-in_default
returns-in_default c =
    let node = item_there c.args.n.now.boxes c.as_slice.result.now c.args.at c.index-as_slice-at.result c.as_slice.ensures c.requires.there c.index-as_slice-at.is in
    let taken = fed_from c.args.n.now (map (λ t. t.items) c.args.streams.now) c.args.at in
    let given = length (nth (map (λ t. t.items) c.args.streams.now) (stream_at c.args.n.now.wires c.args.at 0)) in
    sym (ap (λ o. late_at o taken given) node ∙ late_other c.index-as_slice-at.result.body taken given c.in_default.not-BSort)
