use Rattle.sq_place.proofs.Numbering.{numbered_more}
use Rattle.sq_graph.specs.Wires.{producer_of}
use Rattle.sq_slices.specs.Reaches.{reach_numbered, reach_given}
use Rattle.sq_slices.proofs.rounds.next_reaches.Goals as goal

pub loop-stream-preserved : goal.loop-stream-preserved
loop-stream-preserved c =
    numbered_more (λ s. reach_given c.args.n.now c.args.delay (reach_numbered c.args.reaches.now) (producer_of c.args.n.now.wires s))
    c.loop-stream.stream c.in_ok-reach_given.field-0 c.loop-stream.next.items c.push.new.self.items c.in_ok-push.ensures.items c.loop-stream.invariant c.in_ok-reach_given.ensures
