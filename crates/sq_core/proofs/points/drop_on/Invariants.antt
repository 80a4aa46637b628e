use Rattle.std.proofs.Common.{◌≡◌, drop}
use Rattle.sq_place.specs.Places.{own_arcs}
use Rattle.sq_core.proofs.points.drop_on.Given as goal
use Rattle.sq_words.specs.Lists.{contains_number}
use Rattle.sq_points.specs.Above.{first_drop, drop_on_arc}

abbrev pub invariant-loop-number : goal.invariant-loop-number
invariant-loop-number l = drop_on_arc l.n l.arc ≡ first_drop (λ p. contains_number (own_arcs l.n.wires p.at) l.arc) l.number (drop l.number l.points)
