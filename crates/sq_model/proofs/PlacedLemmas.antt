-- A sound network is placed.
use Rattle.std.proofs.Common.{◌≤◌, length, arith}
use Rattle.std.proofs.lemmas.List.Elements.{All-from_recursion}
use Rattle.sq_graph.specs.declared.BoxWires.{BoxWires}
use Rattle.sq_net.specs.declared.Network.{Network}
use Rattle.sq_net.specs.SoundNetworks.{IsSound}
use Rattle.sq_net.proofs.StreamLemmas.{boxes_count, boxes_few}
use Rattle.sq_points.proofs.Bounds.{all_take_few, takes_all, few_streams}
use Rattle.sq_model.specs.PlacedNetworks.{IsPlaced}

pub placed_of : (n : Network) → IsSound n → IsPlaced n
placed_of n sound = record {
  boxes = boxes_count n sound;
  wired = sound.agrees.wired;
  shown = sound.agrees.shown;
  acyclic = sound.acyclic;
  few_boxes = boxes_few n sound;
  few_streams = (let few = few_streams n sound in omega (arith, few));
  few_inputs = All-from_recursion (λ (b : BoxWires). length b.inputs ≤ 8) n.wires.boxes (all_take_few n.wires.boxes (takes_all n sound.within));
  windows = sound.windows;
}
