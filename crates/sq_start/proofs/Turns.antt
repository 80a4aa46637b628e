-- How many marks and tuples the operators take in all: the work, and no more marks than one for each touched batch on each arc
-- below a drop.
use Rattle.std.proofs.Common.{◌≡◌, ℕ, zero, suc, ◌+◌, ◌*◌, ◌≤◌, eqb, Bool, true, false, cond, ◌||◌, List, [], ◌∷◌, ◌++◌, map, take, length, Option, Some, None, refl, ap, ◌∙◌, length-append, arith}
use Rattle.std.specs.Prelude.{slice_get}
use Rattle.std.specs.List.{sum_by, list_any}
use Rattle.std.proofs.lemmas.List.{take_all}
use Rattle.std.proofs.lemmas.List.Sums.{sum_by-cons}
use Rattle.sq_words.specs.Lists.{numbers_to}
use Rattle.sq_item.specs.Things.{Thing}
use Rattle.sq_oper.specs.Entries.{Entry, at_port}
use Rattle.sq_oper.specs.Order.{earlier, merge_under, merge_two, merge_from}
use Rattle.sq_oper.specs.Streams.{thing_of, things}
use Rattle.sq_tagged.specs.TaggedStreams.{Timed, Tagged, mark_thing, thing_sooner, spread_of, lessened}
use Rattle.sq_graph.specs.declared.BoxWires.{BoxWires}
use Rattle.sq_graph.specs.declared.Wiring.{Wiring}
use Rattle.sq_graph.specs.Wires.{inputs_at, inputs_of, arc_at, input_arcs_of, output_arc_at}
use Rattle.sq_place.specs.declared.DropPoint.{DropPoint}
use Rattle.sq_place.specs.Points.{until_of}
use Rattle.sq_points.specs.Points.{points_of}
use Rattle.sq_model.specs.FullStreams.{full_arc}
use Rattle.sq_model.specs.Shedding.{Replay, touched_batches, full_at, is_dropped}
use Rattle.sq_model.specs.KeptTuples.{needed, kept_of, fed_of}
use Rattle.sq_tagged.specs.Boxes.{mark_of}
use Rattle.sq_below.specs.ArcStreams.{drop_marks, marked_arc}
use Rattle.sq_below.specs.ArcContents.{Drop, standing, on_arc, box_fed, drop_fed, output_fed}
use Rattle.sq_start.proofs.Sums.{total, total-fewer, total-added, total-split, sum-total, total-once}
use Rattle.sq_oper.proofs.PortLemmas.{entries_length}
use Rattle.sq_words.proofs.Lists.{length_map}
use Rattle.sq_words.proofs.Sorting.{length_sort}
use Rattle.sq_points.specs.Above.{first_drop, drop_above_arc, distance_of}

-- ---- the length of a merge

length-under : (x : Entry) (more : List Entry → List Entry) (k : ℕ) → ((zs : List Entry) → length (more zs) ≡ k + length zs) → (ys : List Entry) → length (merge_under x more ys) ≡ suc (k + length ys)
length-under x more k h [] = (let none = h [] in omega (arith, none))
length-under x more k h (y ∷ ys) = by (earlier y x) (length-under x more k h ys)
  where
    by : (b : Bool) → length (merge_under x more ys) ≡ suc (k + length ys) → length (cond b (y ∷ merge_under x more ys) (x ∷ more (y ∷ ys))) ≡ suc (k + suc (length ys))
    by true later = omega (arith, later)
    by false later = (let all = h (y ∷ ys) in omega (arith, all))

length-two : (xs ys : List Entry) → length (merge_two xs ys) ≡ length xs + length ys
length-two [] ys = omega arith
length-two (x ∷ xs) ys = (let e = length-under x (merge_two xs) (length xs) (λ zs. length-two xs zs) ys in omega (arith, e))

length-from : (p : ℕ) (ins : List (List Thing)) → length (merge_from p ins) ≡ sum_by (λ xs. length xs) ins
length-from p [] = refl
length-from p (xs ∷ ins) =
    let both = length-two (at_port p xs) (merge_from (p + 1) ins) in
    let here = entries_length p xs in
    let more = length-from (p + 1) ins in
    let sum = sum_by-cons (λ (ys : List Thing). length ys) xs ins in
    omega (arith, both, here, more, sum)

-- ---- the marks on an arc

abbrev pub marks_below : Replay → Option Drop → ℕ
marks_below r None = 0
marks_below r (Some d) = length (touched_batches r d.1)

abbrev pub marks_on : Replay → ℕ → ℕ
marks_on r a = marks_below r (drop_above_arc r.network a)

length-spread : (x : Tagged) → length (spread_of x) ≡ length x.marks + length x.tuples
length-spread x =
    length_sort thing_sooner (map mark_thing x.marks ++ things x.tuples)
    ∙ length-append (map mark_thing x.marks) (things x.tuples)
    ∙ (let a = length_map mark_thing x.marks in let b = length_map thing_of x.tuples in omega (arith, a, b))

length-on-by : (r : Replay) (a : ℕ) (o : Option Drop) → drop_above_arc r.network a ≡ o → length (standing r o a) ≡ length (kept_of r a) + marks_below r o
length-on-by r a None e =
    let all = length_map thing_of (full_arc r.network r.sources a) in
    let kept = ap (λ z. length (needed r z a (full_arc r.network r.sources a))) e in
    omega (arith, all, kept)
length-on-by r a (Some d) e =
    let all = length-spread (marked_arc r d.0 d.1 a) in
    let less = length_map {Y = Timed} (λ (m : Timed). (m.0, lessened (distance_of d.1 a) m.1)) (drop_marks r d.0 d.1) in
    let marks = length_map (mark_of (is_dropped r d.0 d.1) (until_of d.1) (d.1).length) (touched_batches r d.1) in
    omega (arith, all, less, marks)

pub length-on : (r : Replay) (a : ℕ) → length (on_arc r a) ≡ length (kept_of r a) + marks_on r a
length-on r a = length-on-by r a (drop_above_arc r.network a) refl

-- ---- what operators take

sum-on : (r : Replay) (arcs : List ℕ) → sum_by (λ xs. length xs) (map (on_arc r) arcs) ≡ sum_by (λ a. length (kept_of r a)) arcs + sum_by (marks_on r) arcs
sum-on r [] = refl
sum-on r (a ∷ arcs) =
    let here = length-on r a in
    let more = sum-on r arcs in
    let x = sum_by-cons (λ (xs : List Thing). length xs) (on_arc r a) (map (on_arc r) arcs) in
    let y = sum_by-cons (λ a. length (kept_of r a)) a arcs in
    let z = sum_by-cons (marks_on r) a arcs in
    omega (arith, here, more, x, y, z)

pub box-takes : (r : Replay) (b : ℕ) → length (box_fed r b) ≡ fed_of r b + sum_by (marks_on r) (input_arcs_of r.network.wires b)
box-takes r b = length-from 0 (map (on_arc r) (input_arcs_of r.network.wires b)) ∙ sum-on r (input_arcs_of r.network.wires b)

pub drop-takes : (r : Replay) (p : DropPoint) → length (drop_fed r p) ≡ length (full_at r p.at)
drop-takes r p =
    let all = length-from 0 (things (full_at r p.at) ∷ []) in
    let one = sum_by-cons (λ (xs : List Thing). length xs) (things (full_at r p.at)) [] in
    let same = length_map thing_of (full_at r p.at) in
    omega (arith, all, one, same)

pub output-takes : (r : Replay) (o : ℕ) → length (output_fed r o) ≡ length (kept_of r (output_arc_at r.network.wires o)) + marks_on r (output_arc_at r.network.wires o)
output-takes r o =
    let a = output_arc_at r.network.wires o in
    let all = length-from 0 (on_arc r a ∷ []) in
    let one = sum_by-cons (λ (xs : List Thing). length xs) (on_arc r a) [] in
    let here = length-on r a in
    omega (arith, all, one, here)

-- ---- each arc counts once

-- the arcs of the boxes are all before those of the outputs
take-more : (bs : List BoxWires) (k : ℕ) → sum_by (λ b. length b.inputs) (take (suc k) bs) ≡ sum_by (λ b. length b.inputs) (take k bs) + length (inputs_at (slice_get bs k))
take-more [] k = none k
  where
    none : (k : ℕ) → sum_by (λ (b : BoxWires). length b.inputs) (take (suc k) []) ≡ sum_by (λ (b : BoxWires). length b.inputs) (take k []) + 0
    none zero = refl
    none (suc k) = refl
take-more (b ∷ bs) zero = (let one = sum_by-cons (λ (b : BoxWires). length b.inputs) b [] in omega (arith, one))
take-more (b ∷ bs) (suc k) =
    let more = take-more bs k in
    let x = sum_by-cons (λ (b : BoxWires). length b.inputs) b (take (suc k) bs) in
    let y = sum_by-cons (λ (b : BoxWires). length b.inputs) b (take k bs) in
    omega (arith, more, x, y)

arcs-total : (w : Wiring) (f : ℕ → ℕ) (b : ℕ) → sum_by f (input_arcs_of w b) ≡ total (λ i. f (arc_at w b i)) (length (inputs_of w b))
arcs-total w f b = mapped (numbers_to (length (inputs_of w b))) ∙ sum-total (λ i. f (arc_at w b i)) (length (inputs_of w b))
  where
    mapped : (xs : List ℕ) → sum_by f (map (arc_at w b) xs) ≡ sum_by (λ i. f (arc_at w b i)) xs
    mapped [] = refl
    mapped (x ∷ xs) =
        let more = mapped xs in
        let x' = sum_by-cons f (arc_at w b x) (map (arc_at w b) xs) in
        let y' = sum_by-cons (λ i. f (arc_at w b i)) x xs in
        omega (arith, more, x', y')

boxes-total : (w : Wiring) (f : ℕ → ℕ) (k : ℕ) → total (λ b. sum_by f (input_arcs_of w b)) k ≡ total f (sum_by (λ b. length b.inputs) (take k w.boxes))
boxes-total w f zero = refl
boxes-total w f (suc k) =
    let more = boxes-total w f k in
    let here = arcs-total w f k in
    let split = total-split f (sum_by (λ b. length b.inputs) (take k w.boxes)) (length (inputs_of w k)) in
    let all = ap (total f) (take-more w.boxes k) in
    omega (arith, more, here, split, all)

pub each-once : (w : Wiring) (f : ℕ → ℕ) (outputs : ℕ)
    → total (λ b. sum_by f (input_arcs_of w b)) (length w.boxes) + total (λ o. f (output_arc_at w o)) outputs ≡ total f (sum_by (λ b. length b.inputs) w.boxes + outputs)
each-once w f outputs =
    let boxes = boxes-total w f (length w.boxes) in
    let whole = ap (λ bs. total f (sum_by (λ b. length b.inputs) bs)) (take_all (length w.boxes) w.boxes (omega arith)) in
    let split = total-split f (sum_by (λ b. length b.inputs) w.boxes) outputs in
    omega (arith, boxes, whole, split)

-- ---- marks stand on the arcs below a drop alone

reach-marks : (t : ℕ) (reach : List (ℕ × ℕ)) (n : ℕ) → total (λ a. cond (list_any (λ z. eqb z.0 a) reach) t 0) n ≤ t * length reach
reach-marks t [] n = (let none = nothing n in omega (arith, none))
  where
    nothing : (n : ℕ) → total (λ a. 0) n ≡ 0
    nothing zero = refl
    nothing (suc n) = (let more = nothing n in omega (arith, more))
reach-marks t (z ∷ reach) n =
    let less = total-fewer (λ a. cond (eqb z.0 a || list_any (λ y. eqb y.0 a) reach) t 0) (λ a. cond (eqb z.0 a) t 0 + cond (list_any (λ y. eqb y.0 a) reach) t 0) n (λ a. either (eqb z.0 a) (list_any (λ y. eqb y.0 a) reach)) in
    let both = total-added (λ a. cond (eqb z.0 a) t 0) (λ a. cond (list_any (λ y. eqb y.0 a) reach) t 0) n in
    let once = total-once z.0 t n in
    let more = reach-marks t reach n in
    let product : t * suc (length reach) ≡ t + t * length reach = omega arith in
    omega (arith, less, both, once, more, product)
  where
    either : (b c : Bool) → cond (b || c) t 0 ≤ cond b t 0 + cond c t 0
    either true c = omega arith
    either false true = omega arith
    either false false = omega arith

points-marks : (r : Replay) (first : ℕ) (ps : List DropPoint) (n : ℕ)
    → total (λ a. marks_below r (first_drop (λ p. list_any (λ z. eqb z.0 a) p.reach) first ps)) n ≤ sum_by (λ p. length (touched_batches r p) * length p.reach) ps
points-marks r first [] n = (let none = nothing n in omega (arith, none))
  where
    nothing : (n : ℕ) → total (λ a. 0) n ≡ 0
    nothing zero = refl
    nothing (suc n) = (let more = nothing n in omega (arith, more))
points-marks r first (q ∷ ps) n =
    let t = length (touched_batches r q) in
    let less = total-fewer (λ a. marks_below r (first_drop (λ p. list_any (λ z. eqb z.0 a) p.reach) first (q ∷ ps)))
    (λ a. cond (list_any (λ z. eqb z.0 a) q.reach) t 0 + marks_below r (first_drop (λ p. list_any (λ z. eqb z.0 a) p.reach) (first + 1) ps)) n
    (λ a. either (list_any (λ z. eqb z.0 a) q.reach) (first_drop (λ p. list_any (λ z. eqb z.0 a) p.reach) (first + 1) ps)) in
    let both = total-added (λ a. cond (list_any (λ z. eqb z.0 a) q.reach) t 0) (λ a. marks_below r (first_drop (λ p. list_any (λ z. eqb z.0 a) p.reach) (first + 1) ps)) n in
    let here = reach-marks t q.reach n in
    let more = points-marks r (first + 1) ps n in
    let sum = sum_by-cons (λ (p : DropPoint). length (touched_batches r p) * length p.reach) q ps in
    omega (arith, less, both, here, more, sum)
  where
    either : (b : Bool) (o : Option Drop) → marks_below r (cond b (Some (first, q)) o) ≤ cond b (length (touched_batches r q)) 0 + marks_below r o
    either true o = omega arith
    either false o = omega arith

pub marks-few : (r : Replay) (n : ℕ) → total (marks_on r) n ≤ sum_by (λ p. length (touched_batches r p) * length p.reach) (points_of r.network)
marks-few r n = points-marks r 0 (points_of r.network) n
