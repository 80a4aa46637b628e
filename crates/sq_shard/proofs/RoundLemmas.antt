-- What is worked out in rounds, each from the one before, is settled after as many rounds as there are boxes.
use Rattle.std.proofs.Common.{◌≡◌, ℕ, zero, suc, ◌+◌, ◌<◌, ◌≤◌, true, not, List, [], ◌∷◌, ◌++◌, map, length, Option, Some, None, refl, ap, sym, ◌∙◌, arith, inl, inr, append-nil, append_assoc, length-append}
use Rattle.std.specs.Prelude.{slice_index_or}
use Rattle.std.specs.List.{list_all}
use Rattle.std.proofs.lemmas.Bool.{cases_lt}
use Rattle.std.proofs.lemmas.List.{get_or_past}
use Rattle.std.proofs.lemmas.List.FromFn.{get_or-map-range_with_len, length-map-range_with_len}
use Rattle.std.proofs.lemmas.Option.{slice_get_past}
use Rattle.sq_words.specs.Lists.{numbers_to, contains_number}
use Rattle.sq_words.proofs.Bools.{and_true}
use Rattle.sq_graph.specs.Wires.{producers_of, producer_of, inputs_of}
use Rattle.sq_graph.specs.declared.Producer.{Producer}
use Rattle.sq_graph.specs.declared.Producer.TheVariants.{Source, Port}
use Rattle.sq_graph.specs.Order.{can_be_next, is_given, order_of}
use Rattle.sq_graph.proofs.Following.{order_follows}
use Rattle.sq_net.specs.declared.Network.{Network}
use Rattle.sq_model.specs.PlacedNetworks.{IsPlaced}
use Rattle.sq_model.proofs.FullLemmas.{is_given_in_order}
use Rattle.sq_model.proofs.OrderLemmas.{order_counts, parts_around}

-- given: what a producer gives, where f is what stands for each stream. It asks f for the inputs of the box alone
module _ {X : Type 0} (n : Network) (none : X) (given : (ℕ → X) → Option Producer → X)
    (given-none : (f : ℕ → X) → given f None ≡ none)
    (given-source : (f g : ℕ → X) (k : ℕ) → given f (Some (Source k)) ≡ given g (Some (Source k)))
    (given-port : (f g : ℕ → X) (at port : ℕ) → map f (inputs_of n.wires at) ≡ map g (inputs_of n.wires at) → given f (Some (Port at port)) ≡ given g (Some (Port at port)))
    (within : ℕ → ℕ → X) (first : (s : ℕ) → within zero s ≡ none) (next : (k s : ℕ) → within (suc k) s ≡ given (within k) (producer_of n.wires s)) where
  map-alike : (f g : ℕ → X) → ((s : ℕ) → f s ≡ g s) → (inputs : List ℕ) → map f inputs ≡ map g inputs
  map-alike f g h [] = refl
  map-alike f g h (s ∷ inputs) = ap (λ x. x ∷ map f inputs) (h s) ∙ ap (λ xs. g s ∷ xs) (map-alike f g h inputs)

  pub given-alike : (f g : ℕ → X) → ((s : ℕ) → f s ≡ g s) → (p : Option Producer) → given f p ≡ given g p
  given-alike f g h None = given-none f ∙ sym (given-none g)
  given-alike f g h (Some (Source k)) = given-source f g k
  given-alike f g h (Some (Port at port)) = given-port f g at port (map-alike f g h (inputs_of n.wires at))

  abbrev streams : ℕ
  streams = length (producers_of n.wires)

  abbrev listed : ℕ → List X
  listed k = map (within k) (numbers_to streams)

  abbrev in_list : List X → ℕ → X
  in_list xs s = slice_index_or xs s none

  past-none : (k s : ℕ) → streams ≤ s → within k s ≡ none
  past-none zero s past = first s
  past-none (suc k) s past = next k s ∙ ap (given (within k)) (slice_get_past (producers_of n.wires) s past) ∙ given-none (within k)

  pub within-listed : (k s : ℕ) → in_list (listed k) s ≡ within k s
  within-listed k s =
      elim (cases_lt s streams) [
        | inl low ↦ get_or-map-range_with_len (within k) 0 streams s s none low (omega arith)
        | inr past ↦ (
            let many = length-map-range_with_len (within k) 0 streams in
            get_or_past (listed k) s none (omega (arith, many, past)) ∙ sym (past-none k s past))
      ]

  -- one round more
  pub next-round : (k : ℕ) → map (λ s. given (in_list (listed k)) (producer_of n.wires s)) (numbers_to streams) ≡ listed (suc k)
  next-round k = map-alike (λ s. given (in_list (listed k)) (producer_of n.wires s)) (within (suc k))
      (λ s. given-alike (in_list (listed k)) (within k) (within-listed k) (producer_of n.wires s) ∙ sym (next k s)) (numbers_to streams)

  module _ (placed : IsPlaced n) where
    taken-alike : (before : List ℕ) (f g : ℕ → X) → ((s : ℕ) → is_given before (producer_of n.wires s) ≡ true → f s ≡ g s)
        → (inputs : List ℕ) → list_all (λ s. is_given before (producer_of n.wires s)) inputs ≡ true → map f inputs ≡ map g inputs
    taken-alike before f g alike [] given = refl
    taken-alike before f g alike (s ∷ inputs) given =
        let parts = and_true (is_given before (producer_of n.wires s)) (list_all (λ s. is_given before (producer_of n.wires s)) inputs) given in
        ap (λ x. x ∷ map f inputs) (alike s parts.0) ∙ ap (λ xs. g s ∷ xs) (taken-alike before f g alike inputs parts.1)

    abbrev Alike : ℕ → Type 0
    Alike most = (front rest : List ℕ) → length front ≤ most → order_of n.wires ≡ front ++ rest
        → (k m s : ℕ) → length front < k → length front < m → is_given front (producer_of n.wires s) ≡ true → within k s ≡ within m s

    -- two rounds agree on what boxes in front give, as soon as those behind which the boxes stand do
    step : (most : ℕ) → ((before after : List ℕ) → length before < most → order_of n.wires ≡ before ++ after
        → (k m s : ℕ) → length before < k → length before < m → is_given before (producer_of n.wires s) ≡ true → within k s ≡ within m s) → Alike most
    step most sooner front rest few order zero m s low high there = absurd (omega (arith, low))
    step most sooner front rest few order (suc k) zero s low high there = absurd (omega (arith, high))
    step most sooner front rest few order (suc k) (suc m) s low high there = next k s ∙ by_producer (producer_of n.wires s) there ∙ sym (next m s)
      where
        by_producer : (p : Option Producer) → is_given front p ≡ true → given (within k) p ≡ given (within m) p
        by_producer None g = absurd (cc g)
        by_producer (Some (Source i)) g = given-source (within k) (within m) i
        by_producer (Some (Port at port)) g =
            let around = parts_around front at g in
            let count = ap (λ (xs : List ℕ). length xs) around.2 in
            let fewer : length around.0 < length front = omega (arith, count, length-append around.0 (at ∷ around.1)) in
            let place : order_of n.wires ≡ around.0 ++ at ∷ (around.1 ++ rest) = order ∙ ap (λ xs. xs ++ rest) around.2 ∙ append_assoc around.0 (at ∷ around.1) rest in
            let can : can_be_next n.wires around.0 at ≡ true = order_follows n.wires around.0 (around.1 ++ rest) at place in
            let taken = (and_true (not (contains_number around.0 at)) (list_all (λ s. is_given around.0 (producer_of n.wires s)) (inputs_of n.wires at)) can).1 in
            given-port (within k) (within m) at port
            (taken-alike around.0 (within k) (within m)
            (λ t there. sooner around.0 (at ∷ (around.1 ++ rest)) (omega (arith, fewer, few)) place k m t (omega (arith, fewer, low)) (omega (arith, fewer, high)) there)
            (inputs_of n.wires at) taken)

    alike : (most : ℕ) → Alike most
    alike zero = step zero (λ before after fewer. absurd (omega (arith, fewer)))
    alike (suc most) = step (suc most) (λ before after fewer place k m s low high there. alike most before after (omega (arith, fewer)) place k m s low high there)

    settled : (s : ℕ) → within (length n.boxes + 1) s ≡ within (suc (length n.boxes + 1)) s
    settled s = by_producer (producer_of n.wires s) refl
      where
        count : length (order_of n.wires) ≡ length n.boxes
        count = order_counts n.wires placed.wired placed.acyclic ∙ placed.boxes

        none-of : (k : ℕ) → producer_of n.wires s ≡ None → within k s ≡ none
        none-of zero is = first s
        none-of (suc k) is = next k s ∙ ap (given (within k)) is ∙ given-none (within k)

        by_producer : (p : Option Producer) → producer_of n.wires s ≡ p → within (length n.boxes + 1) s ≡ within (suc (length n.boxes + 1)) s
        by_producer None is = none-of (length n.boxes + 1) is ∙ sym (none-of (suc (length n.boxes + 1)) is)
        by_producer (Some p) is =
            alike (length (order_of n.wires)) (order_of n.wires) [] (omega arith) (sym (append-nil (order_of n.wires)))
            (length n.boxes + 1) (suc (length n.boxes + 1)) s (omega (arith, count)) (omega (arith, count))
            (ap (is_given (order_of n.wires)) is ∙ is_given_in_order n placed s p is)

    pub settles : (s : ℕ) → within (length n.boxes + 1) s ≡ given (within (length n.boxes + 1)) (producer_of n.wires s)
    settles s = settled s ∙ next (length n.boxes + 1) s

    -- the last round follows the boxes
    pub follows : (s : ℕ) → in_list (listed (length n.boxes + 1)) s ≡ given (in_list (listed (length n.boxes + 1))) (producer_of n.wires s)
    follows s =
        within-listed (length n.boxes + 1) s ∙ settled s ∙ next (length n.boxes + 1) s
        ∙ given-alike (within (length n.boxes + 1)) (in_list (listed (length n.boxes + 1))) (λ t. sym (within-listed (length n.boxes + 1) t)) (producer_of n.wires s)
