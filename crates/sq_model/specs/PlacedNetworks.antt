-- What is asked of a network whose streams are worked out; a sound network is so.
use Rattle.std.specs.Prelude.{◌≡◌, ℕ, ◌<◌, ◌≤◌, ◌^◌, true, length}
use Rattle.std.specs.List.{All}
use Rattle.sq_graph.specs.Wires.{producers_of, producer_of}
use Rattle.sq_graph.specs.Order.{is_there, IsWired, LiesOnCycle}
use Rattle.sq_net.specs.declared.Network.{Network}
use Rattle.sq_net.specs.SoundNetworks.{HasWindow}

-- each box is wired, each stream that is taken or shown is there, no box lies on a cycle, a box takes at most 8 streams, and an
-- Aggregate's window is one
pub record IsPlaced (n : Network) : Type 0 where
  pub boxes : length n.wires.boxes ≡ length n.boxes
  pub wired : IsWired n.wires
  pub shown : All (λ s. is_there (producer_of n.wires s) ≡ true) n.wires.outputs
  pub acyclic : (at : ℕ) → LiesOnCycle n.wires at → ⊥
  pub few_boxes : length n.wires.boxes < 2 ^ 32
  pub few_streams : length (producers_of n.wires) < 2 ^ 32
  pub few_inputs : All (λ b. length b.inputs ≤ 8) n.wires.boxes
  pub windows : All (λ b. HasWindow b.body) n.boxes
