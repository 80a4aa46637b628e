-- A sound network can be planned for.
use Rattle.std.proofs.Common.{◌≡◌, ℕ, zero, suc, ◌<◌, ◌≤◌, ◌^◌, Bool, true, false, not, ◌&&◌, ◌==◌, cond, List, [], ◌∷◌, map, length, Some, slice_get, refl, ap, sym, ◌∙◌, inl, inr, arith}
use Rattle.std.specs.Prelude.{nat_le}
use Rattle.std.specs.List.{All, AllByRecursion, filter, list_all, list_any, sum, sum_by}
use Rattle.std.specs.List.Sorted.{IsNonDecreasing}
use Rattle.std.proofs.lemmas.Bool.Decides.{nat_tests}
use Rattle.std.proofs.lemmas.List.Elements.{All-from_recursion}
use Rattle.std.proofs.lemmas.List.Sums.{length-filter, count_by-le-length, sum_by-cons}
use Rattle.std.proofs.lemmas.List.FromFn.{length-range_with_len}
use Rattle.sq_words.specs.Lists.{numbers_to, contains_number}
use Rattle.sq_graph.specs.declared.Wiring.{Wiring}
use Rattle.sq_graph.specs.Wires.{output_arc_at, input_arcs_of}
use Rattle.sq_place.specs.declared.DropAt.{DropAt}
use Rattle.sq_place.specs.declared.DropPoint.{DropPoint}
use Rattle.sq_place.specs.Places.{Windows, is_reached, boxes_below, outputs_below, is_candidate, lies_below, places_of, candidates_of, drop_places_of}
use Rattle.sq_place.specs.Points.{point_at}
use Rattle.sq_place.specs.Ranks.{Somewhere}
use Rattle.sq_place.specs.Laws.{AreApart}
use Rattle.sq_place.proofs.Lists.{All-mapped, All-every, map-agree, contains-range}
use Rattle.sq_place.proofs.ApartLaws.{are_apart}
use Rattle.sq_place.proofs.Differing.{one_number}
use Rattle.sq_plan.specs.declared.Toll.{Toll}
use Rattle.sq_plan.specs.Plans.{Entries}
use Rattle.sq_plan.specs.Flows.{AreTolls}
use Rattle.sq_plan.specs.Settings.{IsPlannable}
use Rattle.sq_net.specs.declared.Network.{Network}
use Rattle.sq_net.specs.declared.Node.{Node}
use Rattle.sq_net.specs.declared.Output.{Output}
use Rattle.sq_net.specs.SoundNetworks.{IsSound, node_within, output_within}
use Rattle.sq_net.proofs.StreamLemmas.{boxes_count}
use Rattle.sq_points.specs.Points.{windows_of, points_of, tolls_of, losses_below, setting_of}
use Rattle.sq_points.specs.Losses.{loss_table, losses_in, most_lost, AreFalls}
use Rattle.sq_points.proofs.Bounds.{at_most, all_take_few, takes_all, counts, few_outputs, few_streams, nodes_within}
use Rattle.sq_points.proofs.Sharing.{IsAlone, shared, sum-mapped, sum-agree, sum-at-most, few-by-sum}
use Rattle.sq_points.proofs.Falls.{lost_by, lost-low, in-order, all-lost, by-table}
use Rattle.sq_words.proofs.Bools.{and_true, and_first}
use Rattle.sq_words.proofs.Lists.{contains_filter, length_map}
use Rattle.sq_words.proofs.Alls.{all_weaker}

-- ---- places apart

module _ (w : Wiring) (ws : Windows) (apart : AreApart w ws) where
  abbrev shows : DropAt → ℕ → Bool
  shows p o = is_reached w ws p (output_arc_at w o)

  is-somewhere : (xs : List DropAt) (i : ℕ) (p : DropAt) → slice_get xs i ≡ Some p → Somewhere (λ x. x ≡ p) xs
  is-somewhere [] i p e = absurd (cc e)
  is-somewhere (x ∷ xs) zero p e = inl (cc e)
  is-somewhere (x ∷ xs) (suc i) p e = inr (is-somewhere xs i p e)

  stands : (p : DropAt) (o : ℕ) → o < length w.outputs → shows p o ≡ true → contains_number (outputs_below w ws p) o ≡ true
  stands p o lt e =
      contains_filter (shows p) (numbers_to (length w.outputs)) o
      ∙ ap (λ b. b && shows p o) (contains-range 0 (length w.outputs) o (omega arith) (omega (arith, lt))) ∙ e

  alone : (o : ℕ) → o < length w.outputs → IsAlone shows (λ x. x) (drop_places_of w ws) o
  alone o lt i j p q at_i at_j e k =
      let same : p ≡ q = apart.outputs o p q (is-somewhere (drop_places_of w ws) i p at_i) (is-somewhere (drop_places_of w ws) j q at_j) (stands p o lt e) (stands q o lt k) in
      one_number w ws i j q (at_i ∙ ap Some same) at_j

  -- what is summed over the outputs below each drop place is no more than over all outputs
  pub shared-outputs : (f : ℕ → ℕ) → sum_by (λ p. sum_by f (outputs_below w ws p)) (drop_places_of w ws) ≤ sum_by f (numbers_to (length w.outputs))
  shared-outputs f = shared shows f (drop_places_of w ws) 0 (length w.outputs) (λ o low high. alone o (omega (arith, high)))

candidates-filtered : (w : Wiring) (ws : Windows) (t : DropAt → Bool) (xs : List DropAt) → AllByRecursion (λ p. is_candidate w ws p ≡ true) (filter t (filter (is_candidate w ws) xs))
candidates-filtered w ws t [] = tt
candidates-filtered w ws t (x ∷ xs) = by (candidates-filtered w ws t xs) (is_candidate w ws x) refl
  where
    rest : AllByRecursion (λ p. is_candidate w ws p ≡ true) (filter t (filter (is_candidate w ws) xs)) → is_candidate w ws x ≡ true → (c : Bool)
        → AllByRecursion (λ p. is_candidate w ws p ≡ true) (cond c (x ∷ filter t (filter (is_candidate w ws) xs)) (filter t (filter (is_candidate w ws) xs)))
    rest more e true = (e, more)
    rest more e false = more

    by : AllByRecursion (λ p. is_candidate w ws p ≡ true) (filter t (filter (is_candidate w ws) xs)) → (b : Bool) → is_candidate w ws x ≡ b
        → AllByRecursion (λ p. is_candidate w ws p ≡ true) (filter t (cond b (x ∷ filter (is_candidate w ws) xs) (filter (is_candidate w ws) xs)))
    by more true e = rest more e (t x)
    by more false e = more

some-output : (w : Wiring) (ws : Windows) (p : DropAt) → is_candidate w ws p ≡ true → 1 ≤ sum_by (λ o. 1) (outputs_below w ws p)
some-output w ws p e = by (outputs_below w ws p) (and_first _ _ (and_first _ _ e))
  where
    by : (os : List ℕ) → not (length os == 0) ≡ true → 1 ≤ sum_by (λ o. 1) os
    by [] h = absurd (cc h)
    by (o ∷ os) h = let all = sum_by-cons (λ o. 1) o os in omega (arith, all)

module _ (n : Network) (sound : IsSound n) where
  abbrev places : List DropAt
  places = drop_places_of n.wires (windows_of n)

  apart : AreApart n.wires (windows_of n)
  apart = are_apart n.wires (windows_of n) sound.agrees.wired sound.acyclic

  outputs-low : length n.wires.outputs ≤ 32
  outputs-low = let few = few_outputs n sound in let same = sound.agrees.outputs in omega (arith, few, same)

  few-places : length places ≤ 32
  few-places =
      let few = few-by-sum (λ p. sum_by (λ o. 1) (outputs_below n.wires (windows_of n) p)) places
      (all_weaker (λ p. is_candidate n.wires (windows_of n) p ≡ true) (λ p. 1 ≤ sum_by (λ o. 1) (outputs_below n.wires (windows_of n) p)) (some-output n.wires (windows_of n)) places
      (candidates-filtered n.wires (windows_of n) (λ q. not (list_any (lies_below n.wires (windows_of n) q) (candidates_of n.wires (windows_of n)))) (places_of n.wires))) in
      let share = shared-outputs n.wires (windows_of n) apart (λ o. 1) in
      let all = sum-at-most (λ o. 1) 1 (numbers_to (length n.wires.outputs)) (λ o. omega arith) in
      let many = length-range_with_len 0 (length n.wires.outputs) in
      omega (arith, few, share, all, many, outputs-low)

  -- each drop point has an output of its own
  pub few-points : length (points_of n) ≤ 32
  few-points = (let few = few-places in let same = length_map (point_at n.wires (windows_of n) n.batch) places in omega (arith, few, same))

  boxes-low : length n.wires.boxes ≤ 128
  boxes-low = let low = at_most 0 128 (length n.boxes) (counts n sound.within).1 in let same = boxes_count n sound in omega (arith, low, same)

  below-low : (p : DropAt) → length (boxes_below n.wires (windows_of n) p) ≤ 128
  below-low p =
      let test = λ (b : ℕ). list_any (is_reached n.wires (windows_of n) p) (input_arcs_of n.wires b) in
      let one = length-filter test (numbers_to (length n.wires.boxes)) in
      let two = count_by-le-length test (numbers_to (length n.wires.boxes)) in
      let many = length-range_with_len 0 (length n.wires.boxes) in
      omega (arith, one, two, many, boxes-low)

  tolls-low : (bs : List Node) → list_all node_within bs ≡ true → AreTolls (map (λ b. record { cost = b.cost; selectivity = b.selectivity }) bs)
  tolls-low [] h = tt
  tolls-low (b ∷ bs) h =
      let parts = and_true (node_within b) (list_all node_within bs) h in
      (at_most 0 1000 b.cost (and_true _ _ (and_true _ _ parts.0).0).1, tolls-low bs parts.1)

  module _ (falls : AreFalls (loss_table n)) where
    together : sum_by sum (map (λ p. losses_below n p.outputs) (points_of n)) < 2 ^ 63
    together =
        let one = sum-mapped sum (λ (p : DropPoint). losses_below n p.outputs) (points_of n) in
        let two = sum-mapped (λ (p : DropPoint). sum (losses_below n p.outputs)) (point_at n.wires (windows_of n) n.batch) places in
        let three = sum-agree (λ p. sum (losses_below n (outputs_below n.wires (windows_of n) p))) (λ p. sum_by (lost_by n falls) (outputs_below n.wires (windows_of n) p)) places
        (λ p. all-lost n falls (outputs_below n.wires (windows_of n) p)) in
        let share = shared-outputs n.wires (windows_of n) apart (lost_by n falls) in
        let all = sum-at-most (lost_by n falls) most_lost (numbers_to (length n.wires.outputs)) (lost-low n falls) in
        let many = length-range_with_len 0 (length n.wires.outputs) in
        omega (arith, one, two, three, share, all, many, outputs-low)

    pub plannable : (es : Entries) → IsPlannable (setting_of n es)
    plannable es = record {
      few_boxes = boxes-low;
      few_inputs = all_take_few n.wires.boxes (takes_all n sound.within);
      few_streams = (let few = few_streams n sound in omega (arith, few));
      wired = sound.agrees.wired;
      acyclic = sound.acyclic;
      tolls = tolls-low n.boxes (nodes_within n sound.within);
      paired = sym (length_map (λ (p : DropPoint). losses_below n p.outputs) (points_of n));
      few_points = (let few = few-points in omega (arith, few));
      few_below = All-from_recursion (λ (p : DropPoint). length p.boxes ≤ 128) (points_of n)
          (All-mapped (λ (p : DropPoint). length p.boxes ≤ 128) (point_at n.wires (windows_of n) n.batch) places (All-every (λ p. length (boxes_below n.wires (windows_of n) p) ≤ 128) below-low places));
      in_order = All-from_recursion IsNonDecreasing (map (λ p. losses_below n p.outputs) (points_of n))
          (All-mapped IsNonDecreasing (λ (p : DropPoint). losses_below n p.outputs) (points_of n) (All-every (λ (p : DropPoint). IsNonDecreasing (losses_below n p.outputs)) (λ p. in-order n falls p.outputs) (points_of n)));
      together = together;
    }

-- ---- outputs

weights-low : (os : List Output) → list_all output_within os ≡ true → AllByRecursion (λ (o : Output). o.weight ≤ 1000) os
weights-low [] h = tt
weights-low (o ∷ os) h =
    let parts = and_true (output_within o) (list_all output_within os) h in
    (low o.weight (and_true _ _ parts.0).0, weights-low os parts.1)
  where
    low : (k : ℕ) → nat_le k 1000 ≡ true → k ≤ 1000
    low k h = grind (arith, nat_tests)

pub weights : (n : Network) → IsSound n → All (λ (o : Output). o.weight ≤ 1000) n.outputs
weights n sound = All-from_recursion (λ (o : Output). o.weight ≤ 1000) n.outputs (weights-low n.outputs (and_true _ _ (and_true _ _ sound.within).0).1)

-- ---- what is given to a planner is the setting of the network

pub given-is : (n : Network) (tolls : List Toll) (points below : List DropPoint) (table losses : List (List ℕ)) (es : Entries)
    → tolls ≡ tolls_of n → points ≡ points_of n → below ≡ points_of n → table ≡ loss_table n → losses ≡ map (λ p. losses_in table p.outputs) below
    → record { wires = n.wires; tolls = tolls; points = points; losses = losses; entries = es } ≡ setting_of n es
given-is n tolls points below table losses es t p q b l =
    let all : losses ≡ map (λ p. losses_below n p.outputs) (points_of n) =
    l ∙ ap (λ ts. map (λ (p : DropPoint). losses_in ts p.outputs) below) b ∙ ap (map (λ (p : DropPoint). losses_in (loss_table n) p.outputs)) q
    ∙ map-agree (λ (p : DropPoint). losses_in (loss_table n) p.outputs) (λ p. losses_below n p.outputs) (points_of n) (All-every (λ (p : DropPoint). losses_in (loss_table n) p.outputs ≡ losses_below n p.outputs) (λ p. by-table n p.outputs) (points_of n)) in
    rw (t, p, all) refl
