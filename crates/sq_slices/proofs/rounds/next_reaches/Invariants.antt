use Rattle.std.proofs.Common.{◌≡◌, map}
use Rattle.sq_words.specs.Lists.{numbers_to}
use Rattle.sq_graph.specs.Wires.{producer_of}
use Rattle.sq_slices.specs.Reaches.{reach_numbered, reach_given}
use Rattle.sq_slices.proofs.rounds.next_reaches.Given as goal

abbrev pub invariant-loop-stream : goal.invariant-loop-stream
invariant-loop-stream l = l.next.items ≡ map (λ s. reach_given l.n l.delay (reach_numbered l.reaches) (producer_of l.n.wires s)) (numbers_to l.stream)
