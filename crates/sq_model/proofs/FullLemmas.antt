-- Streams that are worked out in rounds are settled after as many rounds as there are boxes.
use Rattle.std.proofs.Common.{◌≡◌, ◌∙◌, ap, sym, refl, ℕ, zero, suc, ◌+◌, ◌<◌, ◌≤◌, true, not, List, [], ◌∷◌, ◌++◌, map, length, Option, Some, None, slice_get, arith, inl, inr, append-nil, append_assoc, length-append}
use Rattle.std.specs.List.{list_all}
use Rattle.std.proofs.lemmas.Bool.{cases_lt}
use Rattle.std.proofs.lemmas.List.{get_or_past}
use Rattle.std.proofs.lemmas.List.FromFn.{get_or-map-range_with_len, length-map-range_with_len}
use Rattle.std.proofs.lemmas.Option.{slice_get_past}
use Rattle.sq_value.specs.declared.Tuple.{Tuple}
use Rattle.sq_graph.specs.Wires.{producers_of, producer_of, inputs_of}
use Rattle.sq_graph.specs.declared.Producer.{Producer}
use Rattle.sq_graph.specs.declared.Producer.TheVariants.{Source, Port}
use Rattle.sq_graph.specs.Order.{can_be_next, is_given, order_of}
use Rattle.sq_graph.proofs.Following.{order_follows}
use Rattle.sq_graph.proofs.Reach.{port_is_box}
use Rattle.sq_net.specs.declared.Network.{Network}
use Rattle.sq_model.specs.FullStreams.{produced, full_within, full_stream, full_streams, box_list_at}
use Rattle.sq_model.specs.PlacedNetworks.{IsPlaced}
use Rattle.sq_model.specs.Laws.{FollowsBoxes, AreFull}
use Rattle.sq_model.proofs.OrderLemmas.{order_counts, parts_around}
use Rattle.sq_words.specs.Lists.{contains_number, nth}
use Rattle.sq_words.proofs.Bools.{and_true}
use Rattle.sq_place.proofs.Ranks.{order-has}

-- each round is worked out from the one before
abbrev Rounds : Network → List (List Tuple) → (ℕ → ℕ → List Tuple) → Type 0
Rounds n sources f = (k s : ℕ) → f (suc k) s ≡ produced n sources (f k) (producer_of n.wires s)

-- where all streams that a box may take are alike, so are those that it takes
taken_alike : (n : Network) (front : List ℕ) (f g : ℕ → List Tuple) → ((s : ℕ) → is_given front (producer_of n.wires s) ≡ true → f s ≡ g s)
    → (inputs : List ℕ) → list_all (λ s. is_given front (producer_of n.wires s)) inputs ≡ true → map f inputs ≡ map g inputs
taken_alike n front f g alike [] given = refl
taken_alike n front f g alike (s ∷ inputs) given =
    let parts = and_true (is_given front (producer_of n.wires s)) (list_all (λ s. is_given front (producer_of n.wires s)) inputs) given in
    ap (λ x. x ∷ map f inputs) (alike s parts.0) ∙ ap (λ xs. g s ∷ xs) (taken_alike n front f g alike inputs parts.1)

pub ports_alike : (n : Network) (sources : List (List Tuple)) (front : List ℕ) (at port : ℕ) (f g : ℕ → List Tuple) → can_be_next n.wires front at ≡ true
    → ((s : ℕ) → is_given front (producer_of n.wires s) ≡ true → f s ≡ g s)
    → produced n sources f (Some (Port at port)) ≡ produced n sources g (Some (Port at port))
ports_alike n sources front at port f g next alike =
    let given = (and_true (not (contains_number front at)) (list_all (λ s. is_given front (producer_of n.wires s)) (inputs_of n.wires at)) next).1 in
    ap (box_list_at (slice_get n.boxes at) port) (taken_alike n front f g alike (inputs_of n.wires at) given)

-- two ways to work them out agree, as soon as there were as many rounds as boxes in front
produced_alike : (n : Network) (sources : List (List Tuple)) (front rest : List ℕ) (f g : ℕ → List Tuple) → order_of n.wires ≡ front ++ rest
    → ((before after : List ℕ) → order_of n.wires ≡ before ++ after → length before < length front → (s : ℕ) → is_given before (producer_of n.wires s) ≡ true → f s ≡ g s)
    → (p : Option Producer) → is_given front p ≡ true → produced n sources f p ≡ produced n sources g p
produced_alike n sources front rest f g order alike None given = cc
produced_alike n sources front rest f g order alike (Some (Source s)) given = refl
produced_alike n sources front rest f g order alike (Some (Port at port)) given =
    let around = parts_around front at given in
    let placed : order_of n.wires ≡ around.0 ++ at ∷ (around.1 ++ rest) = order ∙ ap (λ xs. xs ++ rest) around.2 ∙ append_assoc around.0 (at ∷ around.1) rest in
    let fewer : length around.0 < length front = (let e = ap (λ (xs : List ℕ). length xs) around.2 in omega (arith, e, length-append around.0 (at ∷ around.1))) in
    ports_alike n sources around.0 at port f g (order_follows n.wires around.0 (around.1 ++ rest) at placed)
    (alike around.0 (at ∷ (around.1 ++ rest)) placed fewer)

rounds_alike : (n : Network) (sources : List (List Tuple)) (f g : ℕ → ℕ → List Tuple) → Rounds n sources f → Rounds n sources g
    → (most : ℕ) (front rest : List ℕ) → length front ≤ most → order_of n.wires ≡ front ++ rest
    → (k m s : ℕ) → length front < k → length front < m → is_given front (producer_of n.wires s) ≡ true → f k s ≡ g m s
rounds_alike n sources f g fs gs most front rest few order zero m s low high given = absurd (omega arith)
rounds_alike n sources f g fs gs most front rest few order (suc k) zero s low high given = absurd (omega arith)
rounds_alike n sources f g fs gs zero front rest few order (suc k) (suc m) s low high given =
    fs k s
    ∙ produced_alike n sources front rest (f k) (g m) order (λ before after e fewer t h. absurd (omega arith)) (producer_of n.wires s) given
    ∙ sym (gs m s)
rounds_alike n sources f g fs gs (suc most) front rest few order (suc k) (suc m) s low high given =
    fs k s
    ∙ produced_alike n sources front rest (f k) (g m) order
    (λ before after e fewer t h. rounds_alike n sources f g fs gs most before after (omega arith) e k m t (omega arith) (omega arith) h)
    (producer_of n.wires s) given
    ∙ sym (gs m s)

-- a stream that is there is given by the boxes in the order
pub is_given_in_order : (n : Network) → IsPlaced n → (s : ℕ) (p : Producer) → producer_of n.wires s ≡ Some p → is_given (order_of n.wires) (Some p) ≡ true
is_given_in_order n placed s (Source k) given = refl
is_given_in_order n placed s (Port at port) given = order-has n.wires placed.wired placed.acyclic at (port_is_box n.wires s at port given)

settled : (n : Network) (sources : List (List Tuple)) → IsPlaced n → (f g : ℕ → ℕ → List Tuple) → Rounds n sources f → Rounds n sources g
    → (k m s : ℕ) → length n.boxes < k → length n.boxes < m → f k s ≡ g m s
settled n sources placed f g fs gs zero m s low high = absurd (omega arith)
settled n sources placed f g fs gs (suc k) zero s low high = absurd (omega arith)
settled n sources placed f g fs gs (suc k) (suc m) s low high = by_producer (producer_of n.wires s) refl
  where
    count : length (order_of n.wires) ≡ length n.boxes
    count = order_counts n.wires placed.wired placed.acyclic ∙ placed.boxes

    by_producer : (p : Option Producer) → producer_of n.wires s ≡ p → f (suc k) s ≡ g (suc m) s
    by_producer None is = fs k s ∙ ap (produced n sources (f k)) is ∙ sym (gs m s ∙ ap (produced n sources (g m)) is)
    by_producer (Some p) is =
        rounds_alike n sources f g fs gs (length (order_of n.wires)) (order_of n.wires) [] (omega arith) (sym (append-nil (order_of n.wires)))
        (suc k) (suc m) s (omega (arith, count, low)) (omega (arith, count, high))
        (ap (is_given (order_of n.wires)) is ∙ is_given_in_order n placed s p is)

full_rounds : (n : Network) (sources : List (List Tuple)) → Rounds n sources (full_within n sources)
full_rounds n sources k s = refl

pub full_follows : (n : Network) (sources : List (List Tuple)) → IsPlaced n → FollowsBoxes n sources (full_stream n sources)
full_follows n sources placed s =
    settled n sources placed (full_within n sources) (full_within n sources) (full_rounds n sources) (full_rounds n sources)
    (length n.boxes + 1) (suc (length n.boxes + 1)) s (omega arith) (omega arith)

full_only : (n : Network) (sources : List (List Tuple)) → IsPlaced n → (stream : ℕ → List Tuple) → FollowsBoxes n sources stream → (s : ℕ) → stream s ≡ full_stream n sources s
full_only n sources placed stream follows s =
    settled n sources placed (λ k. stream) (full_within n sources) (λ k. follows) (full_rounds n sources)
    (length n.boxes + 1) (length n.boxes + 1) s (omega arith) (omega arith)

pub full_count : (n : Network) (sources : List (List Tuple)) → length (full_streams n sources) ≡ length (producers_of n.wires)
full_count n sources = length-map-range_with_len (full_stream n sources) 0 (length (producers_of n.wires))

pub full_listed : (n : Network) (sources : List (List Tuple)) → IsPlaced n → (s : ℕ) → nth (full_streams n sources) s ≡ full_stream n sources s
full_listed n sources placed s =
    elim (cases_lt s (length (producers_of n.wires))) [
      | inl low ↦ get_or-map-range_with_len (full_stream n sources) 0 (length (producers_of n.wires)) s s [] low (omega arith)
      | inr past ↦ (
          let many = full_count n sources in
          get_or_past (full_streams n sources) s [] (omega (arith, many, past))
          ∙ sym (full_follows n sources placed s ∙ ap (produced n sources (full_stream n sources)) (slice_get_past (producers_of n.wires) s past)))
    ]

pub are_full : (n : Network) (sources : List (List Tuple)) → IsPlaced n → AreFull n sources
are_full n sources placed = record {
  follow = full_follows n sources placed;
  only = full_only n sources placed;
  listed = full_listed n sources placed;
}
