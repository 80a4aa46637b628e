-- What is asked of the outputs of a sound network.
use Rattle.std.proofs.Common.{◌≡◌, ℕ, suc, ◌+◌, ◌<◌, ◌≤◌, ◌^◌, Bool, true, false, cond, List, [], ◌∷◌, ◌++◌, length, map, refl, ap, sym, ◌∙◌, arith, Option, Some, None}
use Rattle.std.specs.Prelude.{slice_get, slice_index, option_map, IfSome}
use Rattle.std.specs.List.{All, AllByRecursion, enumerate_from, flat_map, sum_by}
use Rattle.std.proofs.lemmas.List.{length-append}
use Rattle.std.proofs.lemmas.List.Sums.{sum_by-cons}
use Rattle.std.proofs.lemmas.List.Elements.{All-from_recursion, recursion_from_All}
use Rattle.std.proofs.lemmas.Option.{same_Some, slice_get-get_or, slice_get-map, slice_get_within}
use Rattle.sq_value.specs.declared.Tuple.{Tuple}
use Rattle.sq_words.specs.Lists.{are_distinct, contains_number, nth}
use Rattle.sq_graph.specs.declared.BoxWires.{BoxWires}
use Rattle.sq_graph.specs.Wires.{Arc, arcs_of, output_arc_at}
use Rattle.sq_place.specs.declared.DropPoint.{DropPoint}
use Rattle.sq_place.specs.Points.{point_at}
use Rattle.sq_place.specs.Places.{drop_places_of}
use Rattle.sq_place.proofs.Final.{drops-few}
use Rattle.sq_net.specs.declared.Network.{Network}
use Rattle.sq_net.specs.declared.Output.{Output}
use Rattle.sq_net.specs.SoundNetworks.{IsSound}
use Rattle.sq_points.specs.Limits.{KeepsDropLimits}
use Rattle.sq_points.specs.Points.{drops_in, points_of, windows_of}
use Rattle.sq_points.proofs.Bounds.{few_outputs, few_places}
use Rattle.sq_model.specs.FullStreams.{full_arc, full_on, full_stream, full_streams}
use Rattle.sq_model.specs.GivenLevels.{IsMeasured}
use Rattle.sq_model.proofs.ArcLemmas.{arcs_carry}
use Rattle.sq_model.proofs.FullLemmas.{full_listed}
use Rattle.sq_model.proofs.MeasuredLemmas.{all-measured}
use Rattle.sq_model.proofs.PlacedLemmas.{placed_of}
use Rattle.sq_wanted.specs.declared.wanted.Wanted.{Wanted}
use Rattle.sq_wanted.specs.Showing.{IsBelow}
use Rattle.sq_audit.specs.Audits.{above_of, wanted_of, wanted_one}
use Rattle.sq_words.proofs.Alls.{all_at}
use Rattle.sq_words.proofs.Lists.{length_map}
use Rattle.sq_points.specs.Above.{first_drop, drop_above_output}

pub points_few : (n : Network) → IsSound n → length (points_of n) < 2 ^ 32
points_few n sound =
    let many = length_map (point_at n.wires (windows_of n) n.batch) (drop_places_of n.wires (windows_of n)) in
    let few = drops-few n.wires (windows_of n) in
    let all = few_places n sound in
    omega (arith, many, few, all)

pub outputs_even : (n : Network) → IsSound n → length n.outputs ≡ length n.wires.outputs
outputs_even n sound = sym sound.agrees.outputs

pub outputs_few : (n : Network) → IsSound n → length n.outputs < 2 ^ 32
outputs_few n sound = let few = few_outputs n sound in omega (arith, few)

-- ---- names

names_same : (n : Network) (k : ℕ) (os : List Output) → map (λ (o : Wanted). o.name) (map (wanted_one n) (enumerate_from k os)) ≡ map (λ (o : Output). o.name) os
names_same n k [] = refl
names_same n k (o ∷ os) = ap (λ x. o.name ∷ x) (names_same n (k + 1) os)

pub names_differ : (n : Network) → IsSound n → are_distinct (map (λ (o : Wanted). o.name) (wanted_of n)) ≡ true
names_differ n sound = ap are_distinct (names_same n 0 n.outputs) ∙ sound.distinct

-- ---- the drop that is found is one of them

pub record Among (ps : List DropPoint) (k : ℕ) (d : ℕ × DropPoint) : Type 0 where
  pub at : ℕ
  pub is : d.0 ≡ k + at
  pub there : slice_get ps at ≡ Some d.1

among_first : (t : Bool) (test : DropPoint → Bool) (k : ℕ) (p : DropPoint) (ps : List DropPoint) (d : ℕ × DropPoint) → (first_drop test (k + 1) ps ≡ Some d → Among ps (k + 1) d)
    → cond t (Some (k, p)) (first_drop test (k + 1) ps) ≡ Some d → Among (p ∷ ps) k d
among_first true test k p ps d more h =
    let same : (k, p) ≡ d = own (k, p) d h in
    record { at = 0; is = sym (ap (λ (x : ℕ × DropPoint). x.0) same) ∙ (let e : k ≡ k + 0 = omega arith in e); there = ap (λ (x : ℕ × DropPoint). Some x.1) same }
  where
    own : (a b : ℕ × DropPoint) → Some a ≡ Some b → a ≡ b
    own a b e = cc
among_first false test k p ps d more h =
    let m = more h in
    record { at = suc m.at; is = m.is ∙ (let e : k + 1 + m.at ≡ k + suc m.at = omega arith in e); there = m.there }

pub among : (test : DropPoint → Bool) (k : ℕ) (ps : List DropPoint) (d : ℕ × DropPoint) → first_drop test k ps ≡ Some d → Among ps k d
among test k [] d h = cc
among test k (p ∷ ps) d h = among_first (test p) test k p ps d (among test (k + 1) ps d) h

-- the drop above an output, by its own number
pub above_there : (n : Network) (o : ℕ) (d : ℕ × DropPoint) → drop_above_output n o ≡ Some d → slice_get (points_of n) d.0 ≡ Some d.1
above_there n o d h =
    let m = among (λ p. contains_number p.outputs o) 0 (points_of n) d h in
    ap (slice_get (points_of n)) (m.is ∙ (let z : 0 + m.at ≡ m.at = omega arith in z)) ∙ m.there

module _ (n : Network) (sound : IsSound n) (limits : KeepsDropLimits n) where
  pub measured_at : (w : ℕ) (p : DropPoint) → slice_get (points_of n) w ≡ Some p → IsMeasured p
  measured_at w p there = all_at IsMeasured (points_of n) w p (recursion_from_All IsMeasured (points_of n) (all-measured n sound limits)) there

  abbrev IsFine : ℕ × ℕ → Type 0
  IsFine d = (d.0 < drops_in n) × (1 ≤ d.1)

  below_at : (x : Option (ℕ × DropPoint)) → ((d : ℕ × DropPoint) → x ≡ Some d → slice_get (points_of n) d.0 ≡ Some d.1) → IfSome (above_of x) IsFine
  below_at None h = tt
  below_at (Some d) h =
      let there = h d refl in
      (slice_get_within (points_of n) d.0 d.1 there, (measured_at d.0 d.1 there).least)

  below_from : (k : ℕ) (os : List Output) → AllByRecursion (IsBelow (drops_in n)) (map (wanted_one n) (enumerate_from k os))
  below_from k [] = tt
  below_from k (o ∷ os) = (below_at (drop_above_output n k) (above_there n k), below_from (k + 1) os)

  pub below_all : All (IsBelow (drops_in n)) (wanted_of n)
  below_all = All-from_recursion (IsBelow (drops_in n)) (wanted_of n) (below_from 0 n.outputs)

-- ---- the stream of an output is that of its arc

get-append : {X : Type 0} (xs ys : List X) (k : ℕ) → slice_get (xs ++ ys) (length xs + k) ≡ slice_get ys k
get-append [] ys k = let e : 0 + k ≡ k = omega arith in ap (slice_get ys) e
get-append (x ∷ xs) ys k = let e : suc (length xs) + k ≡ suc (length xs + k) = omega arith in ap (slice_get (x ∷ xs ++ ys)) e ∙ get-append xs ys k

inputs-count : (bs : List BoxWires) → length (flat_map (λ (b : BoxWires). b.inputs) bs) ≡ sum_by (λ (b : BoxWires). length b.inputs) bs
inputs-count [] = refl
inputs-count (b ∷ bs) =
    let one = length-append b.inputs (flat_map (λ (c : BoxWires). c.inputs) bs) in
    let more = inputs-count bs in
    let all = sum_by-cons (λ (c : BoxWires). length c.inputs) b bs in
    omega (arith, one, more, all)

module _ (n : Network) (sources : List (List Tuple)) (sound : IsSound n) (o : ℕ) (there : o < length n.wires.outputs) where
  abbrev s : ℕ
  s = slice_index n.wires.outputs o

  carried : option_map (λ (a : Arc). a.stream) (slice_get (arcs_of n.wires) (output_arc_at n.wires o)) ≡ Some s
  carried =
      sym (slice_get-map (λ (a : Arc). a.stream) (arcs_of n.wires) (output_arc_at n.wires o))
      ∙ ap (λ xs. slice_get xs (output_arc_at n.wires o)) (arcs_carry n.wires)
      ∙ ap (λ k. slice_get (flat_map (λ (b : BoxWires). b.inputs) n.wires.boxes ++ n.wires.outputs) (k + o)) (sym (inputs-count n.wires.boxes))
      ∙ get-append (flat_map (λ (b : BoxWires). b.inputs) n.wires.boxes) n.wires.outputs o
      ∙ slice_get-get_or n.wires.outputs o 0 there

  by_arc : (a : Option Arc) → option_map (λ (x : Arc). x.stream) a ≡ Some s → full_stream n sources s ≡ full_on n sources a
  by_arc None e = cc
  by_arc (Some a) e = ap (full_stream n sources) (sym (same_Some a.stream s e))

  pub stream_of_arc : nth (full_streams n sources) s ≡ full_arc n sources (output_arc_at n.wires o)
  stream_of_arc = full_listed n sources (placed_of n sound) s ∙ by_arc (slice_get (arcs_of n.wires) (output_arc_at n.wires o)) carried
