use Rattle.std.proofs.Common.{◌≡◌, ◌∙◌, ap, length, map, sym}
use Rattle.std.specs.List.{sum_by}
use Rattle.sq_graph.specs.Wires.{inputs_at}
use Rattle.sq_model.specs.FullCounts.{fed_from}
use Rattle.sq_model.proofs.NumberLemmas.{numbered_more}
use Rattle.sq_model.proofs.numbers.fed.Goals as goal
use Rattle.sq_words.specs.Lists.{nth}
use Rattle.sq_words.proofs.Lists.{item_there}

pub loop-wires-preserved : goal.loop-wires-preserved
loop-wires-preserved c =
    let streams = map (λ t. t.items) c.args.streams.now in
    let at = c.loop-wires.wires-index in
    let low = rw c.as_slice-wires-items.ensures at c.loop-wires-test.true in
    let there = item_there c.args.n.now.wires.boxes c.as_slice-wires-items.result.now at c.wires-item.result c.as_slice-wires-items.ensures low c.wires-item.is in
    let taken = rw c.as_slice.ensures at c.number_in.ensures in
    let here : c.number_in.result ≡ fed_from c.args.n.now streams at = taken ∙ ap (λ o. sum_by (λ s. length (nth streams s)) (inputs_at o)) (sym there) in
    numbered_more (fed_from c.args.n.now streams) at c.number_in.result c.loop-wires.all.items c.push.new.self.items c.in_ok-push.ensures.items c.loop-wires.invariant here
