-- The order of the boxes, and cycles: words of the proofs alone.
use Rattle.std.specs.Prelude.{Bool, length, not}
use Rattle.sq_graph.specs.declared.Wiring.{Wiring}
use Rattle.sq_graph.specs.Order.{is_on_cycle}
use Rattle.std.specs.List.{list_all}
use Rattle.sq_words.specs.Lists.{numbers_to}

abbrev pub is_acyclic : Wiring → Bool
is_acyclic w = list_all (λ at. not (is_on_cycle w at)) (numbers_to (length w.boxes))
