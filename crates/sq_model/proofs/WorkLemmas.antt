-- The work is a sum over all arcs and over all drops.
use Rattle.std.proofs.Common.{◌≡◌, ℕ, zero, suc, ◌+◌, ◌≤◌, ◌<◌, List, [], ◌∷◌, ◌++◌, map, length, take, get_or, Some, slice_get, refl, ap, sym, ◌∙◌, arith}
use Rattle.std.specs.List.{sum_by, range_with_len}
use Rattle.std.proofs.lemmas.List.{length-map, take_all}
use Rattle.std.proofs.lemmas.List.Sums.{sum_by-cons, sum_by-append, sum_by_more}
use Rattle.sq_value.specs.declared.Tuple.{Tuple}
use Rattle.sq_words.specs.Lists.{numbers_to}
use Rattle.sq_graph.specs.declared.BoxWires.{BoxWires}
use Rattle.sq_graph.specs.declared.Wiring.{Wiring}
use Rattle.sq_graph.specs.Wires.{Arc, arcs_of, output_arc_at, inputs_at, inputs_of, input_arcs_of}
use Rattle.sq_place.specs.declared.DropPoint.{DropPoint}
use Rattle.sq_points.specs.Points.{points_of}
use Rattle.sq_model.specs.Shedding.{Replay, full_at}
use Rattle.sq_model.specs.KeptTuples.{kept_of, work_of}
use Rattle.sq_model.proofs.ArcCounts.{arcs_count}
use Rattle.sq_net.proofs.StreamLemmas.{boxes_count}
use Rattle.sq_model.specs.declared.known.Known.{Known}
use Rattle.sq_model.specs.KnownStreams.{stream_at_place, IsKnown}
use Rattle.sq_model.proofs.ShedLemmas.{place_is}
use Rattle.sq_words.proofs.Ranges.{range_split}

pub sum_map : {X : Type 0} (f : X → ℕ) (xs : List X) → sum_by (λ (k : ℕ). k) (map f xs) ≡ sum_by f xs
sum_map f [] = refl
sum_map f (x ∷ xs) = sum_by-cons (λ (k : ℕ). k) (f x) (map f xs) ∙ ap (λ n. f x + n) (sum_map f xs) ∙ sym (sum_by-cons f x xs)

moved_range : (base i m : ℕ) → map (λ p. base + p) (range_with_len i m) ≡ range_with_len (base + i) m
moved_range base i zero = refl
moved_range base i (suc m) = let same : base + (i + 1) ≡ base + i + 1 = omega arith in ap (λ l. (base + i) ∷ l) (moved_range base (i + 1) m ∙ ap (λ k. range_with_len k m) same)

from_start : (base m : ℕ) → map (λ p. base + p) (numbers_to m) ≡ range_with_len base m
from_start base m = let same : base + 0 ≡ base = omega arith in moved_range base 0 m ∙ ap (λ k. range_with_len k m) same

some_at : {X : Type 0} (xs : List X) (i : ℕ) → i < length xs → (x : X) × (slice_get xs i ≡ Some x) × (get_or xs i x ≡ x)
some_at [] i h = absurd (omega (arith, h))
some_at (x ∷ xs) zero h = (x, refl, refl)
some_at (x ∷ xs) (suc i) h = some_at xs i (omega (arith, h))

abbrev before : Wiring → ℕ → ℕ
before w k = sum_by (λ (b : BoxWires). length b.inputs) (take k w.boxes)

module _ (K : ℕ → ℕ) (w : Wiring) where
  sum_split : (m n : ℕ) → sum_by K (numbers_to (m + n)) ≡ sum_by K (numbers_to m) + sum_by K (range_with_len m n)
  sum_split m n =
      let flat : 0 + m ≡ m = omega arith in
      ap (sum_by K) (range_split 0 m n ∙ ap (λ k. numbers_to m ++ range_with_len k n) flat) ∙ sum_by-append K (numbers_to m) (range_with_len m n)

  box_arcs : (k : ℕ) → sum_by K (input_arcs_of w k) ≡ sum_by K (range_with_len (before w k) (length (inputs_of w k)))
  box_arcs k = ap (sum_by K) (from_start (before w k) (length (inputs_of w k)))

  one_more : (k : ℕ) → k < length w.boxes → before w (k + 1) ≡ before w k + length (inputs_of w k)
  one_more k low =
      let found = some_at w.boxes k low in
      sum_by_more (λ (b : BoxWires). length b.inputs) w.boxes k found.0 low
      ∙ ap (λ (b : BoxWires). before w k + length b.inputs) found.2
      ∙ sym (ap (λ o. before w k + length (inputs_at o)) found.1)

  boxes_sum : (k : ℕ) → k ≤ length w.boxes → sum_by (λ b. sum_by K (input_arcs_of w b)) (numbers_to k) ≡ sum_by K (numbers_to (before w k))
  boxes_sum zero h = refl
  boxes_sum (suc k) h =
      let next : suc k ≡ k + 1 = omega arith in
      let flat : 0 + k ≡ k = omega arith in
      let low : k < length w.boxes = omega (arith, h) in
      ap (λ n. sum_by (λ b. sum_by K (input_arcs_of w b)) (numbers_to n)) next
      ∙ ap (sum_by (λ b. sum_by K (input_arcs_of w b))) (range_split 0 k 1 ∙ ap (λ z. numbers_to k ++ range_with_len z 1) flat)
      ∙ sum_by-append (λ b. sum_by K (input_arcs_of w b)) (numbers_to k) (k ∷ [])
      ∙ ap (λ n. n + sum_by (λ b. sum_by K (input_arcs_of w b)) (k ∷ [])) (boxes_sum k (omega (arith, h)))
      ∙ ap (λ n. sum_by K (numbers_to (before w k)) + n) (sum_by-cons (λ b. sum_by K (input_arcs_of w b)) k [] ∙ (let nothing : sum_by K (input_arcs_of w k) + 0 ≡ sum_by K (input_arcs_of w k) = omega arith in nothing) ∙ box_arcs k)
      ∙ sym (sum_split (before w k) (length (inputs_of w k)))
      ∙ ap (λ n. sum_by K (numbers_to n)) (sym (one_more k low) ∙ ap (before w) (sym next))

  -- the arcs of all boxes, then those of the outputs
  arcs_sum : sum_by K (numbers_to (length (arcs_of w)))
      ≡ sum_by (λ b. sum_by K (input_arcs_of w b)) (numbers_to (length w.boxes)) + sum_by (λ o. K (output_arc_at w o)) (numbers_to (length w.outputs))
  arcs_sum =
      let whole : before w (length w.boxes) ≡ sum_by (λ (b : BoxWires). length b.inputs) w.boxes = ap (sum_by (λ (b : BoxWires). length b.inputs)) (take_all (length w.boxes) w.boxes (omega arith)) in
      ap (λ n. sum_by K (numbers_to n)) (arcs_count w)
      ∙ sum_split (sum_by (λ (b : BoxWires). length b.inputs) w.boxes) (length w.outputs)
      ∙ ap (λ n. sum_by K (numbers_to n) + sum_by K (range_with_len (sum_by (λ (b : BoxWires). length b.inputs) w.boxes) (length w.outputs))) (sym whole)
      ∙ ap (λ n. n + sum_by K (range_with_len (sum_by (λ (b : BoxWires). length b.inputs) w.boxes) (length w.outputs))) (sym (boxes_sum (length w.boxes) (omega arith)))
      ∙ ap (λ n. sum_by (λ b. sum_by K (input_arcs_of w b)) (numbers_to (length w.boxes)) + n)
      (ap (sum_by K) (sym (from_start (sum_by (λ (b : BoxWires). length b.inputs) w.boxes) (length w.outputs))) ∙ outputs (numbers_to (length w.outputs)))
    where
      outputs : (os : List ℕ) → sum_by K (map (λ p. sum_by (λ (b : BoxWires). length b.inputs) w.boxes + p) os) ≡ sum_by (λ o. K (output_arc_at w o)) os
      outputs [] = refl
      outputs (o ∷ os) =
          sum_by-cons K (output_arc_at w o) (map (λ p. sum_by (λ (b : BoxWires). length b.inputs) w.boxes + p) os)
          ∙ ap (λ n. K (output_arc_at w o) + n) (outputs os)
          ∙ sym (sum_by-cons (λ o. K (output_arc_at w o)) o os)

module _ (k : Known) (r : Replay) (known : IsKnown k r) where
  points_same : (ps : List DropPoint) → sum_by (λ (p : DropPoint). length (stream_at_place k p.at)) ps ≡ sum_by (λ (p : DropPoint). length (full_at r p.at)) ps
  points_same [] = refl
  points_same (p ∷ ps) =
      sum_by-cons (λ (p : DropPoint). length (stream_at_place k p.at)) p ps
      ∙ ap (λ (l : List Tuple). length l + sum_by (λ (p : DropPoint). length (stream_at_place k p.at)) ps) (place_is k r known p.at)
      ∙ ap (λ m. length (full_at r p.at) + m) (points_same ps)
      ∙ sym (sum_by-cons (λ (p : DropPoint). length (full_at r p.at)) p ps)

  abbrev kept_at : ℕ → ℕ
  kept_at a = length (kept_of r a)

  abbrev boxes_fed : ℕ
  boxes_fed = sum_by (λ b. sum_by kept_at (input_arcs_of r.network.wires b)) (numbers_to (length r.network.wires.boxes))

  abbrev outputs_fed : ℕ
  outputs_fed = sum_by (λ o. kept_at (output_arc_at r.network.wires o)) (numbers_to (length r.network.wires.outputs))

  abbrev drops_fed : ℕ
  drops_fed = sum_by (λ (p : DropPoint). length (full_at r p.at)) (points_of r.network)

  pub work_is : (kept given : List ℕ) → kept ≡ map (λ a. length (kept_of r a)) (numbers_to (length k.arcs.items)) → given ≡ map (λ (p : DropPoint). length (stream_at_place k p.at)) k.points.items
      → sum_by (λ (k : ℕ). k) kept + sum_by (λ (k : ℕ). k) given ≡ work_of r
  work_is kept given one two =
      let arcs : length k.arcs.items ≡ length (arcs_of r.network.wires) = ap (λ (l : List ℕ). length l) known.arcs ∙ length-map (arcs_of r.network.wires) (λ (a : Arc). a.stream) in
      let first : sum_by (λ (k : ℕ). k) kept ≡ boxes_fed + outputs_fed =
      ap (sum_by (λ (k : ℕ). k)) one ∙ sum_map kept_at (numbers_to (length k.arcs.items)) ∙ ap (λ m. sum_by kept_at (numbers_to m)) arcs ∙ arcs_sum kept_at r.network.wires in
      let second : sum_by (λ (k : ℕ). k) given ≡ drops_fed =
      ap (sum_by (λ (k : ℕ). k)) two ∙ sum_map (λ (p : DropPoint). length (stream_at_place k p.at)) k.points.items ∙ points_same k.points.items
      ∙ ap (sum_by (λ (p : DropPoint). length (full_at r p.at))) known.points in
      let boxes = ap (λ m. sum_by (λ b. sum_by kept_at (input_arcs_of r.network.wires b)) (numbers_to m)) (boxes_count r.network known.sound) in
      let outputs = ap (λ m. sum_by (λ o. kept_at (output_arc_at r.network.wires o)) (numbers_to m)) known.sound.agrees.outputs in
      omega (arith, first, second, boxes, outputs)
