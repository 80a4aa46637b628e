-- Marks and tuples as they come at the ports of an operator.
use Rattle.std.specs.Prelude.{ℕ, List, [], ◌∷◌}
use Rattle.sq_item.specs.declared.Item.{Item}
use Rattle.sq_item.specs.Things.{Thing, spread}

-- a mark or a tuple that comes at a port
pub record Entry : Type 0 where
  pub port : ℕ
  pub thing : Thing

abbrev pub at_port : ℕ → List Thing → List Entry
at_port port [] = []
at_port port (thing ∷ things) = record { port = port; thing = thing } ∷ at_port port things

-- an item as it comes at a port
abbrev pub entries : ℕ → Item → List Entry
entries port item = at_port port (spread item)
