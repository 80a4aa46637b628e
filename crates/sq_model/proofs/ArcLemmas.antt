-- Arcs carry the streams that boxes take, and those that outputs show.
use Rattle.std.proofs.Common.{◌≡◌, ◌∙◌, ap, sym, refl, ℕ, ◌+◌, ◌<◌, true, List, [], ◌∷◌, ◌++◌, map, length, get_or, arith, inl, inr}
use Rattle.std.specs.List.{All, enumerate_from, flat_map}
use Rattle.std.proofs.lemmas.Bool.{cases_lt}
use Rattle.std.proofs.lemmas.List.{get_or-map, length-map, map-append}
use Rattle.std.proofs.lemmas.List.Elements.{All-append, All-get_or, All-head, All-nil, All-tail}
use Rattle.std.proofs.lemmas.Option.{slice_get-get_or, slice_get_past}
use Rattle.sq_value.specs.declared.Tuple.{Tuple}
use Rattle.sq_graph.specs.declared.BoxWires.{BoxWires}
use Rattle.sq_graph.specs.declared.Wiring.{Wiring}
use Rattle.sq_graph.specs.Wires.{Arc, Taker, Input, Output, arcs_of, producers_of, producer_of}
use Rattle.sq_graph.specs.Order.{is_there}
use Rattle.sq_net.specs.declared.Network.{Network}
use Rattle.sq_model.specs.FullStreams.{full_arc, full_on, full_stream, full_streams}
use Rattle.sq_model.specs.PlacedNetworks.{IsPlaced}
use Rattle.sq_model.proofs.FullLemmas.{full_count, full_listed}
use Rattle.sq_words.specs.Lists.{nth}

abbrev stream_of : Arc → ℕ
stream_of a = a.stream

-- the arcs of numbered streams
arcs_to : (taker : ℕ → Taker) (k : ℕ) (streams : List ℕ) → map stream_of (map (λ i. record { stream = i.1; taker = taker i.0 }) (enumerate_from k streams)) ≡ streams
arcs_to taker k [] = refl
arcs_to taker k (s ∷ streams) = ap (λ xs. s ∷ xs) (arcs_to taker (k + 1) streams)

abbrev into : ℕ × BoxWires → List Arc
into b = map (λ i. record { stream = i.1; taker = Input b.0 i.0 }) (enumerate_from 0 (b.1).inputs)

arcs_into : (k : ℕ) (boxes : List BoxWires) → map stream_of (flat_map into (enumerate_from k boxes)) ≡ flat_map (λ b. b.inputs) boxes
arcs_into k [] = refl
arcs_into k (b ∷ boxes) =
    map-append stream_of (into (k, b)) (flat_map into (enumerate_from (k + 1) boxes))
    ∙ ap (λ xs. xs ++ map stream_of (flat_map into (enumerate_from (k + 1) boxes))) (arcs_to (Input k) 0 b.inputs)
    ∙ ap (λ xs. b.inputs ++ xs) (arcs_into (k + 1) boxes)

abbrev shown : Wiring → List Arc
shown w = map (λ o. record { stream = o.1; taker = Output o.0 }) (enumerate_from 0 w.outputs)

pub arcs_carry : (w : Wiring) → map (λ a. a.stream) (arcs_of w) ≡ flat_map (λ b. b.inputs) w.boxes ++ w.outputs
arcs_carry w =
    map-append stream_of (flat_map into (enumerate_from 0 w.boxes)) (shown w)
    ∙ ap (λ xs. xs ++ map stream_of (shown w)) (arcs_into 0 w.boxes)
    ∙ ap (λ xs. flat_map (λ b. b.inputs) w.boxes ++ xs) (arcs_to Output 0 w.outputs)

-- each stream that an arc carries is there
all_taken : (P : ℕ → Type 0) (boxes : List BoxWires) → All (λ (b : BoxWires). All P b.inputs) boxes → All P (flat_map (λ b. b.inputs) boxes)
all_taken P [] h = All-nil P
all_taken P (b ∷ boxes) h =
    All-append P b.inputs (flat_map (λ c. c.inputs) boxes) (All-head (λ (c : BoxWires). All P c.inputs) b boxes h)
    (all_taken P boxes (All-tail (λ (c : BoxWires). All P c.inputs) b boxes h))

pub arc_there : (n : Network) (arc d : ℕ) → IsPlaced n → arc < length (arcs_of n.wires) → get_or (map (λ a. a.stream) (arcs_of n.wires)) arc d < length (producers_of n.wires)
arc_there n arc d placed low =
    rw (arcs_carry n.wires)
    (inside (get_or (flat_map (λ b. b.inputs) n.wires.boxes ++ n.wires.outputs) arc d)
    (All-get_or Is (flat_map (λ b. b.inputs) n.wires.boxes ++ n.wires.outputs) arc d within
    (All-append Is (flat_map (λ b. b.inputs) n.wires.boxes) n.wires.outputs (all_taken Is n.wires.boxes placed.wired) placed.shown)))
  where
    Is : ℕ → Type 0
    Is s = is_there (producer_of n.wires s) ≡ true

    within : arc < length (flat_map (λ b. b.inputs) n.wires.boxes ++ n.wires.outputs)
    within = rw (← arcs_carry n.wires) (let long = length-map (arcs_of n.wires) stream_of in omega (arith, low, long))

    inside : (s : ℕ) → Is s → s < length (producers_of n.wires)
    inside s there = elim (cases_lt s (length (producers_of n.wires))) [
      | inl low ↦ low
      | inr past ↦ (let none = slice_get_past (producers_of n.wires) s past in let never = rw none at there in cc)
    ]

-- among the full streams stands that of an arc
pub arc_held : (n : Network) (sources streams : List (List Tuple)) (arc s : ℕ) → IsPlaced n → arc < length (arcs_of n.wires) → s ≡ get_or (map (λ a. a.stream) (arcs_of n.wires)) arc s
    → streams ≡ full_streams n sources → (s < length streams) × (nth streams s ≡ full_arc n sources arc)
arc_held n sources streams arc s placed low is full = (
  (let there = arc_there n arc s placed low in
      let held = ap (λ (xs : List (List Tuple)). length xs) full in
      let count = full_count n sources in
      omega (arith, is, there, held, count)),
  ap (λ xs. nth xs s) full
      ∙ full_listed n sources placed s
      ∙ ap (full_stream n sources) (is ∙ get_or-map stream_of (arcs_of n.wires) arc none s low)
      ∙ ap (full_on n sources) (sym (slice_get-get_or (arcs_of n.wires) arc none low)),
)
  where
    none : Arc
    none = record { stream = 0; taker = Output 0 }
