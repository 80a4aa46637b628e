-- Streams that stand stay so while boxes are worked out, one port after another.
use Rattle.std.proofs.Common.{◌≡◌, ◌∙◌, ap, sym, refl, ℕ, ◌+◌, ◌<◌, true, ◌==◌, ◌||◌, false, List, [], ◌∷◌, ◌++◌, map, length, set, replicate, Option, Some, None, slice_get, get_or, arith, inl, inr}
use Rattle.std.proofs.lemmas.Bool.{cases_lt, cases_eq}
use Rattle.std.proofs.lemmas.Bool.Decides.{nat_tests}
use Rattle.std.proofs.lemmas.List.{ext_get_or, get_or-set_same, get_or-set_other, get_or_append_left, set_past, length-set}
use Rattle.std.proofs.lemmas.List.Folds.{list_any-append}
use Rattle.std.proofs.lemmas.Option.{slice_get-get_or, slice_get_within}
use Rattle.sq_value.specs.declared.Tuple.{Tuple}
use Rattle.sq_graph.specs.declared.BoxWires.{BoxWires}
use Rattle.sq_graph.specs.Wires.{producers_of, producer_of, inputs_at, inputs_of, stream_at}
use Rattle.sq_graph.specs.declared.Producer.{Producer}
use Rattle.sq_graph.specs.declared.Producer.TheVariants.{Source, Port}
use Rattle.sq_graph.specs.Order.{can_be_next, is_given, order_of}
use Rattle.sq_graph.proofs.Producers.{producer_is}
use Rattle.sq_net.specs.declared.Network.{Network}
use Rattle.sq_net.specs.declared.Node.{Node}
use Rattle.sq_model.specs.FullStreams.{box_list, produced, full_stream, full_streams, box_list_at}
use Rattle.sq_model.specs.PlacedNetworks.{IsPlaced}
use Rattle.sq_model.specs.StreamsSoFar.{Stands}
use Rattle.sq_model.proofs.NumberLemmas.{producer_at, producer_has_number}
use Rattle.sq_model.proofs.FullLemmas.{full_count, full_follows, full_listed, is_given_in_order, ports_alike}
use Rattle.sq_words.specs.Lists.{contains_number, nth}
use Rattle.sq_words.proofs.Bools.{or_cases}

-- a stream that is put in its place leaves what stands
put_keeps : (streams : List (List Tuple)) (k s : ℕ) (v full : List Tuple) → (s ≡ k → v ≡ full) → nth streams s ≡ full → nth (set streams k v) s ≡ full
put_keeps streams k s v full is stands =
    elim (cases_eq s k) [
      | inl same ↦ elim (cases_lt k (length streams)) [
        | inl low ↦ (let here : get_or (set streams k v) k [] ≡ v = get_or-set_same streams k v [] low in ap (λ i. nth (set streams k v) i) same ∙ here ∙ is same)
        | inr past ↦ ap (λ xs. nth xs s) (set_past streams k v past) ∙ stands
      ]
      | inr other ↦ get_or-set_other streams k s v [] other ∙ stands
    ]

-- the streams while the ports of a box are given, those before this one
pub record Giving (n : Network) (at port : ℕ) (before streams : List (List Tuple)) : Type 0 where
  pub room : length streams ≡ length (producers_of n.wires)
  pub kept : (sources : List (List Tuple)) (front : List ℕ) → can_be_next n.wires front at ≡ true → Stands n sources front before → Stands n sources front streams
  pub given : (sources : List (List Tuple)) (front : List ℕ) → can_be_next n.wires front at ≡ true → Stands n sources front before
      → (p : ℕ) → p < port → nth streams (stream_at n.wires at p) ≡ full_stream n sources (stream_at n.wires at p)

pub giving_none : (n : Network) (at : ℕ) (streams : List (List Tuple)) → length streams ≡ length (producers_of n.wires) → Giving n at 0 streams streams
giving_none n at streams room = record {
  room = room;
  kept = λ sources front next stands. stands;
  given = λ sources front next stands p low. absurd (omega arith);
}

-- what a box gives at a port, from these streams
abbrev pub given_at : Network → ℕ → ℕ → List (List Tuple) → List Tuple
given_at n at port streams = box_list_at (slice_get n.boxes at) port (map (nth streams) (inputs_of n.wires at))

pub giving_more : (n : Network) (at port : ℕ) (before streams : List (List Tuple)) (b : BoxWires) → IsPlaced n → slice_get n.wires.boxes at ≡ Some b → port < b.ports
    → Giving n at port before streams
    → Giving n at (port + 1) before (set streams (stream_at n.wires at port) (given_at n at port streams))
giving_more n at port before streams b placed there low giving = record {
  room = length-set streams (stream_at n.wires at port) (given_at n at port streams) ∙ giving.room;
  kept = λ sources front next stands s has. keeps sources front next stands s (giving.kept sources front next stands s has);
  given = λ sources front next stands p few. elim (cases_lt p port) [
    | inl sooner ↦ keeps sources front next stands (stream_at n.wires at p) (giving.given sources front next stands p sooner)
    | inr later ↦ (
        let same : p ≡ port = omega arith in
        rw same (get_or-set_same streams (stream_at n.wires at port) (given_at n at port streams) [] inside ∙ is sources front next stands))
  ];
}
  where
    inside : stream_at n.wires at port < length streams
    inside = (let here = slice_get_within (producers_of n.wires) (stream_at n.wires at port) (Port at port) (producer_at n.wires at port b there low) in let room = giving.room in omega (arith, here, room))

    is : (sources : List (List Tuple)) (front : List ℕ) → can_be_next n.wires front at ≡ true → Stands n sources front before → given_at n at port streams ≡ full_stream n sources (stream_at n.wires at port)
    is sources front next stands =
        ports_alike n sources front at port (nth streams) (full_stream n sources) next (giving.kept sources front next stands)
        ∙ sym (full_follows n sources placed (stream_at n.wires at port) ∙ ap (produced n sources (full_stream n sources)) (producer_at n.wires at port b there low))

    keeps : (sources : List (List Tuple)) (front : List ℕ) → can_be_next n.wires front at ≡ true → Stands n sources front before
        → (s : ℕ) → nth streams s ≡ full_stream n sources s → nth (set streams (stream_at n.wires at port) (given_at n at port streams)) s ≡ full_stream n sources s
    keeps sources front next stands s stood =
        put_keeps streams (stream_at n.wires at port) s (given_at n at port streams) (full_stream n sources s)
        (λ same. is sources front next stands ∙ ap (full_stream n sources) (sym same)) stood

-- the same, as it is worked out
pub giving_next : (n : Network) (at port first : ℕ) (before streams : List (List Tuple)) (v : List Tuple) (b : BoxWires) (d : Node) → IsPlaced n
    → slice_get n.wires.boxes at ≡ Some b → slice_get n.boxes at ≡ Some d → port < b.ports → first ≡ stream_at n.wires at 0
    → v ≡ box_list d.body port (map (nth streams) b.inputs) → Giving n at port before streams
    → Giving n at (port + 1) before (set streams (first + port) v)
giving_next n at port first before streams v b d placed there node low begins given giving =
    let number : stream_at n.wires at port ≡ first + port = omega arith in
    let list : given_at n at port streams ≡ v =
    ap (λ o. box_list_at o port (map (nth streams) (inputs_of n.wires at))) node
    ∙ ap (λ o. box_list d.body port (map (nth streams) (inputs_at o))) there
    ∙ sym given in
    rw (← number, ← list) (giving_more n at port before streams b placed there low giving)

pub giving_all : (n : Network) (at : ℕ) (before streams : List (List Tuple)) (b : BoxWires) → slice_get n.wires.boxes at ≡ Some b → Giving n at b.ports before streams
    → (sources : List (List Tuple)) (front : List ℕ) → can_be_next n.wires front at ≡ true → Stands n sources front before → Stands n sources (front ++ at ∷ []) streams
giving_all n at before streams b there giving sources front next stands s has = by_producer (producer_of n.wires s) refl has
  where
    same_from : (c d : ℕ) → (c == d) ≡ true → c ≡ d
    same_from c d e = grind (arith, nat_tests)

    by_producer : (p : Option Producer) → producer_of n.wires s ≡ p → is_given (front ++ at ∷ []) p ≡ true → nth streams s ≡ full_stream n sources s
    by_producer None is has = cc
    by_producer (Some (Source k)) is has = giving.kept sources front next stands s (ap (is_given front) is)
    by_producer (Some (Port c port)) is has =
        elim (or_cases (contains_number front c) ((at == c) || false) (sym (list_any-append (λ x. x == c) front (at ∷ [])) ∙ has)) [
          | inl old ↦ giving.kept sources front next stands s (ap (is_given front) is ∙ old)
          | inr new ↦ (
              let here : at ≡ c = elim (or_cases (at == c) false new) [ inl e ↦ same_from at c e | inr e ↦ cc ] in
              let is_there = producer_is n.wires s (Port c port) is in
              let box : Some is_there.0 ≡ Some b = sym is_there.1.0 ∙ (ap (λ i. slice_get n.wires.boxes i) (sym here) ∙ there) in
              let few : port < b.ports = (let same : is_there.0 ≡ b = cc in rw (← same) is_there.1.1) in
              let number : s ≡ stream_at n.wires at port = producer_has_number n.wires s (Port c port) is ∙ ap (λ i. stream_at n.wires i port) (sym here) in
              rw number (giving.given sources front next stands port few))
        ]

-- at first the sources stand, and at last all streams
pub sources_stand : (n : Network) (sources : List (List Tuple)) (many : ℕ) → IsPlaced n → length sources ≡ n.wires.sources → Stands n sources [] (sources ++ replicate many [])
sources_stand n sources many placed count s has = by_producer (producer_of n.wires s) refl has
  where
    by_producer : (p : Option Producer) → producer_of n.wires s ≡ p → is_given [] p ≡ true → nth (sources ++ replicate many []) s ≡ full_stream n sources s
    by_producer None is has = cc
    by_producer (Some (Port c port)) is has = cc
    by_producer (Some (Source k)) is has =
        let number = producer_has_number n.wires s (Source k) is in
        let low : s < length sources = (let few = number.1 in omega (arith, few, count)) in
        get_or_append_left sources (replicate many []) [] s low
        ∙ ap (nth sources) number.0
        ∙ sym (full_follows n sources placed s ∙ ap (produced n sources (full_stream n sources)) is)

pub all_stand : (n : Network) (sources streams : List (List Tuple)) → IsPlaced n → length streams ≡ length (producers_of n.wires) → Stands n sources (order_of n.wires) streams
    → streams ≡ full_streams n sources
all_stand n sources streams placed room stands =
    ext_get_or [] streams (full_streams n sources) (room ∙ sym (full_count n sources))
    (λ s low. stands s (has s low) ∙ sym (full_listed n sources placed s))
  where
    has : (s : ℕ) → s < length streams → is_given (order_of n.wires) (producer_of n.wires s) ≡ true
    has s low =
        let there = slice_get-get_or (producers_of n.wires) s (Source 0) (omega (arith, low, room)) in
        ap (is_given (order_of n.wires)) there ∙ is_given_in_order n placed s (get_or (producers_of n.wires) s (Source 0)) there
