use Rattle.std.proofs.Common.{◌≡◌, length, map}
use Rattle.sq_words.specs.Lists.{numbers_to}
use Rattle.sq_graph.specs.Wires.{producers_of}
use Rattle.sq_slices.specs.Reaches.{reach_within}
use Rattle.sq_slices.proofs.rounds.reaches.Given as goal

abbrev pub invariant-loop-round : goal.invariant-loop-round
invariant-loop-round l = l.found.items ≡ map (reach_within l.n l.delay l._round) (numbers_to (length (producers_of l.n.wires)))
