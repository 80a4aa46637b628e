-- In a sound network each stream has columns.
use Rattle.std.proofs.Common.{◌≡◌, ◌∙◌, sym, ap, refl, ℕ, ◌<◌, ◌≤◌, ◌^◌, true, List, [], ◌∷◌, map, length, Option, Some, None, slice_get, arith}
use Rattle.std.specs.Option.{option_map}
use Rattle.std.proofs.lemmas.Bool.Decides.{nat_tests}
use Rattle.std.proofs.lemmas.List.{length-map}
use Rattle.std.proofs.lemmas.Option.{slice_get-map, slice_get_within}
use Rattle.sq_value.specs.Values.{Columns}
use Rattle.sq_graph.specs.declared.BoxKind.{BoxKind}
use Rattle.sq_graph.specs.declared.BoxWires.{BoxWires}
use Rattle.sq_graph.specs.Wires.{producer_of}
use Rattle.sq_graph.specs.declared.Producer.{Producer}
use Rattle.sq_graph.specs.declared.Producer.TheVariants.{Source, Port}
use Rattle.sq_graph.specs.Order.{is_there}
use Rattle.sq_graph.proofs.Producers.{IsProducer, producer_is}
use Rattle.sq_net.specs.declared.Network.{Network}
use Rattle.sq_net.specs.declared.Node.{Node}
use Rattle.sq_net.specs.declared.Source as declared
use Rattle.sq_net.specs.SoundNetworks.{IsSound, is_between, kind_of_body}
use Rattle.sq_net.specs.Streams.{IsTyped, columns_given, columns_of_port}
use Rattle.sq_words.proofs.Bools.{and_true}
use Rattle.sq_words.proofs.Lists.{has_item}

-- as many wired boxes as boxes
pub boxes_count : (n : Network) → IsSound n → length n.wires.boxes ≡ length n.boxes
boxes_count n sound =
    sym (length-map n.wires.boxes (λ (b : BoxWires). b.kind))
    ∙ (ap (λ (ks : List BoxKind). length ks) sound.agrees.kinds ∙ length-map n.boxes (λ (b : Node). kind_of_body b.body))

-- the boxes are few
pub boxes_few : (n : Network) → IsSound n → length n.wires.boxes < 2 ^ 32
boxes_few n sound =
    let few : is_between 0 128 (length n.boxes) ≡ true = (and_true _ _ (and_true _ _ (and_true _ _ (and_true _ _ (and_true _ _ (and_true _ _ (and_true _ _ (and_true _ _ sound.within).0).0).0).0).0).0).0).1 in
    let count = boxes_count n sound in
    let low : length n.boxes ≤ 128 = at_most (length n.boxes) few in
    omega (arith, low, count)
  where
    at_most : (k : ℕ) → is_between 0 128 k ≡ true → k ≤ 128
    at_most k h = grind (arith, nat_tests)

source_typed : (n : Network) → IsSound n → (s : ℕ) → s < n.wires.sources → (cs : Columns) × (columns_given n (Some (Source s)) ≡ Some cs)
source_typed n sound s low =
    let count = sound.agrees.sources in
    let one = has_item n.sources s (omega (arith, low, count)) in
    (one.0.schema, ap (λ (o : Option declared.Source). option_map (λ (source : declared.Source). source.schema) o) one.1)

port_typed : (n : Network) → IsSound n → (at port : ℕ) (w : BoxWires) → slice_get n.wires.boxes at ≡ Some w → port < w.ports → (cs : Columns) × (columns_given n (Some (Port at port)) ≡ Some cs)
port_typed n sound at port w there low =
    let inside = slice_get_within n.wires.boxes at w there in
    let count = boxes_count n sound in
    let box = has_item n.boxes at (omega (arith, inside, count)) in
    let wired : slice_get (map (λ (b : BoxWires). b.ports) n.wires.boxes) at ≡ Some w.ports =
    slice_get-map (λ (b : BoxWires). b.ports) n.wires.boxes at ∙ ap (λ (o : Option BoxWires). option_map (λ (b : BoxWires). b.ports) o) there in
    let typed : slice_get (map (λ (b : Node). length b.schemas) n.boxes) at ≡ Some (length box.0.schemas) =
    slice_get-map (λ (b : Node). length b.schemas) n.boxes at ∙ ap (λ (o : Option Node). option_map (λ (b : Node). length b.schemas) o) box.1 in
    let ports : slice_get (map (λ (b : BoxWires). b.ports) n.wires.boxes) at ≡ slice_get (map (λ (b : Node). length b.schemas) n.boxes) at =
    ap (λ (ks : List ℕ). slice_get ks at) sound.agrees.ports in
    let same : w.ports ≡ length box.0.schemas = cc in
    let one = has_item box.0.schemas port (omega (arith, low, same)) in
    (one.0, ap (λ (o : Option Node). columns_of_port o port) box.1 ∙ one.1)

pub stream_typed : (n : Network) (s : ℕ) → IsSound n → is_there (producer_of n.wires s) ≡ true → IsTyped n s
stream_typed n s sound there = by_case (producer_of n.wires s) refl there
  where
    by_case : (p : Option Producer) → producer_of n.wires s ≡ p → is_there p ≡ true → (cs : Columns) × (columns_given n (producer_of n.wires s) ≡ Some cs)
    by_case None e there = cc
    by_case (Some (Source k)) e there =
        let one = source_typed n sound k (producer_is n.wires s (Source k) e) in
        (one.0, ap (λ (p : Option Producer). columns_given n p) e ∙ one.1)
    by_case (Some (Port at port)) e there =
        let is : IsProducer n.wires (Port at port) = producer_is n.wires s (Port at port) e in
        let one = port_typed n sound at port is.0 is.1.0 is.1.1 in
        (one.0, ap (λ (p : Option Producer). columns_given n p) e ∙ one.1)
