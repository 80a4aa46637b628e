-- Drop points are at places that are there, and those that keep the limits can be counted with.
use Rattle.std.proofs.Common.{◌≡◌, ℕ, ◌+◌, ◌*◌, ◌≤◌, ◌<◌, eqb, ltb, max, Bool, true, false, cond, ◌&&◌, ◌||◌, List, [], ◌∷◌, map, length, refl, ap, sym, ◌∙◌, subst, arith}
use Rattle.std.specs.List.{All, AllByRecursion, filter, flat_map}
use Rattle.std.proofs.lemmas.Bool.Decides.{nat_tests}
use Rattle.std.proofs.lemmas.List.Elements.{All-from_recursion, recursion_from_All}
use Rattle.sq_words.specs.Lists.{max_by, numbers_to, contains_number}
use Rattle.sq_graph.specs.Wires.{producers_of, arcs_of, output_arc_at}
use Rattle.sq_place.specs.declared.DropAt.{DropAt}
use Rattle.sq_place.specs.declared.DropAt.TheVariants as at
use Rattle.sq_place.specs.declared.DropPoint.{DropPoint}
use Rattle.sq_place.specs.Places.{stream_on, arc_numbers, arcs_leaving, is_reached, reached_arcs, outputs_below, places_of_stream, places_of, drop_places_of}
use Rattle.sq_place.specs.Points.{point_at, dist_of, keep_for, last_advances}
use Rattle.sq_place.specs.Refusals.{IsFine}
use Rattle.sq_place.specs.Windows.{IsAdvance}
use Rattle.sq_place.proofs.Lists.{All-mapped, contains-range}
use Rattle.sq_place.proofs.Multiples.{lcm-all-positive, positive}
use Rattle.sq_place.proofs.SeenLaws.{advances-small}
use Rattle.sq_place.proofs.Wires.{outputs-there, range-below}
use Rattle.sq_net.specs.declared.Network.{Network}
use Rattle.sq_net.specs.SoundNetworks.{IsSound}
use Rattle.sq_points.specs.Points.{windows_of, points_of}
use Rattle.sq_points.specs.Limits.{KeepsDropLimits}
use Rattle.sq_points.proofs.Bounds.{batch_low, small_windows}
use Rattle.sq_model.specs.GivenLevels.{IsMeasured, IsAt}
use Rattle.sq_model.proofs.Alls.{All-append, All-kept}
use Rattle.sq_words.proofs.Lists.{contains_filter}
use Rattle.sq_words.proofs.Alls.{all_weaker}
use Rattle.sq_words.proofs.Numbers.{ltb_not}
use Rattle.sq_seen.specs.Numbers.{lcm_of_all}

flat-all : {X Y : Type 0} (P : Y → Type 0) (f : X → List Y) (xs : List X) → AllByRecursion (λ x. AllByRecursion P (f x)) xs → AllByRecursion P (flat_map f xs)
flat-all P f [] all = tt
flat-all P f (x ∷ xs) all = All-append P (f x) (flat_map f xs) all.0 (flat-all P f xs all.1)

pub numbers-low : (n : ℕ) → AllByRecursion (λ k. k < n) (numbers_to n)
numbers-low n = all_weaker (λ k. k < 0 + n) (λ k. k < n) (λ k lt. omega (arith, lt)) (numbers_to n) (range-below 0 n)

-- ---- places

module _ (n : Network) where
  leaving-there : (s : ℕ) → AllByRecursion (IsAt n) (map at.Arc (arcs_leaving n.wires s))
  leaving-there s =
      All-mapped (IsAt n) at.Arc (arcs_leaving n.wires s)
      (All-kept (λ a. a < length (arcs_of n.wires)) (λ a. eqb (stream_on n.wires a) s) (arc_numbers n.wires) (numbers-low (length (arcs_of n.wires))))

  stream-there : (s : ℕ) → s < length (producers_of n.wires) → AllByRecursion (IsAt n) (places_of_stream n.wires s)
  stream-there s low = (low, by (ltb 1 (length (arcs_leaving n.wires s))))
    where
      by : (b : Bool) → AllByRecursion (IsAt n) (cond b (map at.Arc (arcs_leaving n.wires s)) [])
      by true = leaving-there s
      by false = tt

  pub places-there : AllByRecursion (IsAt n) (places_of n.wires)
  places-there =
      flat-all (IsAt n) (places_of_stream n.wires) (numbers_to (length (producers_of n.wires)))
      (all_weaker (λ s. s < length (producers_of n.wires)) (λ s. AllByRecursion (IsAt n) (places_of_stream n.wires s)) stream-there (numbers_to (length (producers_of n.wires)))
      (numbers-low (length (producers_of n.wires))))

-- ---- numbers

pub max-low : (f : ℕ → ℕ) (xs : List ℕ) (m : ℕ) → AllByRecursion (λ x. f x ≤ m) xs → max_by f xs ≤ m
max-low f [] m all = omega arith
max-low f (x ∷ xs) m all = let h = all.0 in let more = max-low f xs m all.1 in omega (arith, h, more)

pub max-pairs : (f : ℕ → ℕ) (xs : List ℕ) → max_by (λ (d : ℕ × ℕ). d.1) (map (λ a. (a, f a)) xs) ≡ max_by f xs
max-pairs f [] = refl
max-pairs f (x ∷ xs) = ap (max (f x)) (max-pairs f xs)

pub max-contains : (f : ℕ → ℕ) (xs : List ℕ) (a : ℕ) → contains_number xs a ≡ true → f a ≤ max_by f xs
max-contains f [] a h = absurd (cc h)
max-contains f (x ∷ xs) a h = by (max-contains f xs a) (eqb x a) refl h
  where
    same : (a b : ℕ) → eqb a b ≡ true → a ≡ b
    same a b h = grind (arith, nat_tests)

    by : (contains_number xs a ≡ true → f a ≤ max_by f xs) → (b : Bool) → eqb x a ≡ b → (b || contains_number xs a) ≡ true → f a ≤ max (f x) (max_by f xs)
    by more true e h = let is : f x ≡ f a = ap f (same x a e) in omega (arith, is)
    by more false e h = let m = more h in omega (arith, m)

pub filter-both : (t : ℕ → Bool) (P : ℕ → Type 0) (xs : List ℕ) → AllByRecursion P xs → AllByRecursion (λ x. P x × (t x ≡ true)) (filter t xs)
filter-both t P [] all = tt
filter-both t P (x ∷ xs) all = by (t x) refl (filter-both t P xs all.1)
  where
    by : (b : Bool) → t x ≡ b → AllByRecursion (λ x. P x × (t x ≡ true)) (filter t xs) → AllByRecursion (λ x. P x × (t x ≡ true)) (cond b (x ∷ filter t xs) (filter t xs))
    by true e more = ((all.0, e), more)
    by false e more = more

module _ (n : Network) (sound : IsSound n) (place : DropAt) where
  abbrev point : DropPoint
  point = point_at n.wires (windows_of n) n.batch place

  abbrev far : ℕ → ℕ
  far a = dist_of n.wires (windows_of n) n.batch place a

  advances : AllByRecursion IsAdvance (flat_map (last_advances n.wires (windows_of n) n.batch place) (outputs_below n.wires (windows_of n) place))
  advances = flat-all IsAdvance (last_advances n.wires (windows_of n) n.batch place) (outputs_below n.wires (windows_of n) place) (each (outputs_below n.wires (windows_of n) place))
    where
      each : (os : List ℕ) → AllByRecursion (λ o. AllByRecursion IsAdvance (last_advances n.wires (windows_of n) n.batch place o)) os
      each [] = tt
      each (o ∷ os) = (advances-small (windows_of n) (small_windows n sound) _, each os)

  length-positive : 1 ≤ point.length
  length-positive =
      positive n.batch (lcm_of_all (flat_map (last_advances n.wires (windows_of n) n.batch place) (outputs_below n.wires (windows_of n) place))) (batch_low n sound).0
      (lcm-all-positive (flat_map (last_advances n.wires (windows_of n) n.batch place) (outputs_below n.wires (windows_of n) place)) advances)

  -- an output below is no farther than the farthest arc
  near : (o : ℕ) → o < length n.wires.outputs → is_reached n.wires (windows_of n) place (output_arc_at n.wires o) ≡ true
      → keep_for n.wires (windows_of n) n.batch place o ≤ max_by far (reached_arcs n.wires (windows_of n) place) + 1
  near o low h =
      let there = outputs-there n.wires o low in
      let in-list = contains_filter (is_reached n.wires (windows_of n) place) (arc_numbers n.wires) (output_arc_at n.wires o)
      ∙ ap (λ b. b && is_reached n.wires (windows_of n) place (output_arc_at n.wires o)) (contains-range 0 (length (arcs_of n.wires)) (output_arc_at n.wires o) (omega arith) (omega (arith, there))) ∙ h in
      let most = max-contains far (reached_arcs n.wires (windows_of n) place) (output_arc_at n.wires o) in-list in
      omega (arith, most)

  keep-low : point.keep ≤ max_by (λ (d : ℕ × ℕ). d.1) point.reach + 1
  keep-low =
      subst (λ m. point.keep ≤ m + 1) (sym (max-pairs far (reached_arcs n.wires (windows_of n) place)))
      (max-low (keep_for n.wires (windows_of n) n.batch place) (outputs_below n.wires (windows_of n) place) (max_by far (reached_arcs n.wires (windows_of n) place) + 1)
      (all_weaker (λ o. (o < length n.wires.outputs) × (is_reached n.wires (windows_of n) place (output_arc_at n.wires o) ≡ true))
      (λ o. keep_for n.wires (windows_of n) n.batch place o ≤ max_by far (reached_arcs n.wires (windows_of n) place) + 1) (λ o h. near o h.0 h.1)
      (outputs_below n.wires (windows_of n) place)
      (filter-both (λ o. is_reached n.wires (windows_of n) place (output_arc_at n.wires o)) (λ o. o < length n.wires.outputs) (numbers_to (length n.wires.outputs)) (numbers-low (length n.wires.outputs)))))

  pub place-measured : IsFine point → IsMeasured point
  place-measured fine =
      let long = ltb_not 17179869184 point.length fine.0 in
      let wide = ltb_not (4096 * point.length) (max_by (λ (d : ℕ × ℕ). d.1) point.reach + 1) fine.1 in
      let low = keep-low in
      record { least = length-positive; most = long; keep = omega (arith, long, wide, low) }

fine-measured : (n : Network) → IsSound n → (ps : List DropAt) → AllByRecursion IsFine (map (point_at n.wires (windows_of n) n.batch) ps) → AllByRecursion IsMeasured (map (point_at n.wires (windows_of n) n.batch) ps)
fine-measured n sound [] h = tt
fine-measured n sound (p ∷ ps) h = (place-measured n sound p h.0, fine-measured n sound ps h.1)

pub all-measured : (n : Network) → IsSound n → KeepsDropLimits n → All IsMeasured (points_of n)
all-measured n sound limits =
    All-from_recursion IsMeasured (points_of n) (fine-measured n sound (drop_places_of n.wires (windows_of n)) (recursion_from_All IsFine (points_of n) limits))
