-- The streams of a sound network are few.
use Rattle.std.proofs.Common.{◌≡◌, ◌∙◌, ap, sym, ℕ, ◌<◌, ◌^◌, true, false, List, length, arith, inl, inr}
use Rattle.std.specs.List.{All}
use Rattle.std.proofs.lemmas.Bool.{cases_lt}
use Rattle.std.proofs.lemmas.List.Elements.{recursion_from_All, All-from_recursion}
use Rattle.std.proofs.lemmas.Option.{slice_get_past}
use Rattle.sq_graph.specs.declared.BoxWires.{BoxWires}
use Rattle.sq_graph.specs.Wires.{producers_of, producer_of}
use Rattle.sq_graph.specs.Order.{is_there}
use Rattle.sq_net.specs.declared.Network.{Network}
use Rattle.sq_net.specs.SoundNetworks.{IsSound}
use Rattle.sq_points.proofs.Bounds.{few_streams}
use Rattle.sq_words.proofs.Alls.{all_weaker}

there_low : (n : Network) → IsSound n → (s : ℕ) → is_there (producer_of n.wires s) ≡ true → s < 2 ^ 30
there_low n sound s there =
    elim (cases_lt s (length (producers_of n.wires))) [
      | inl low ↦ (let few = few_streams n sound in omega (arith, low, few))
      | inr past ↦ (let never : false ≡ true = ap is_there (sym (slice_get_past (producers_of n.wires) s past)) ∙ there in absurd (cc never))
    ]

all_low : (n : Network) → IsSound n → (ss : List ℕ) → All (λ s. is_there (producer_of n.wires s) ≡ true) ss → All (λ s. s < 2 ^ 30) ss
all_low n sound ss h =
    All-from_recursion (λ s. s < 2 ^ 30) ss
    (all_weaker (λ s. is_there (producer_of n.wires s) ≡ true) (λ s. s < 2 ^ 30) (there_low n sound) ss (recursion_from_All (λ s. is_there (producer_of n.wires s) ≡ true) ss h))

pub inputs_low : (n : Network) → IsSound n → All (λ (b : BoxWires). All (λ s. s < 2 ^ 30) b.inputs) n.wires.boxes
inputs_low n sound =
    All-from_recursion (λ (b : BoxWires). All (λ s. s < 2 ^ 30) b.inputs) n.wires.boxes
    (all_weaker (λ (b : BoxWires). All (λ s. is_there (producer_of n.wires s) ≡ true) b.inputs) (λ (b : BoxWires). All (λ s. s < 2 ^ 30) b.inputs) (λ b h. all_low n sound b.inputs h) n.wires.boxes
    (recursion_from_All (λ (b : BoxWires). All (λ s. is_there (producer_of n.wires s) ≡ true) b.inputs) n.wires.boxes sound.agrees.wired))

pub outputs_low : (n : Network) → IsSound n → All (λ s. s < 2 ^ 30) n.wires.outputs
outputs_low n sound = all_low n sound n.wires.outputs sound.agrees.shown

pub streams_low : (n : Network) → IsSound n → length (producers_of n.wires) < 2 ^ 30
streams_low n sound = (let few = few_streams n sound in omega (arith, few))
