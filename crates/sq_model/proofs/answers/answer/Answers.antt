use Rattle.std.proofs.Common.{map, arith}
use Rattle.std.proofs.lemmas.Result.{IfOk-weaker}
use Rattle.sq_place.proofs.Wires.{outputs-there}
use Rattle.sq_points.proofs.Bounds.{few_arcs}
use Rattle.sq_model.proofs.answers.answer.Goals as goal

pub output_arc-requires : goal.output_arc-requires
output_arc-requires c =
    let same = c.requires.sound.agrees.outputs in
    let low = outputs-there c.args.n.now.wires c.args.output (let there = c.requires.there in omega (arith, there, same)) in
    let few = few_arcs c.args.n.now c.requires.sound in
    omega (arith, low, few)

pub returns : goal.returns
returns c =
    IfOk-weaker c.answer_in.result _ _
    (λ v h. h (record { network = c.args.n.now; sources = map (λ t. t.items) c.args.sources.now; entries = c.args.c.now; seed = c.args.seed }) c.in_ok-known.ensures.known c.output_arc.ensures)
    c.answer_in.ensures
