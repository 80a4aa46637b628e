-- Arcs and distances, one after another.
use Rattle.std.proofs.Common.{◌≡◌, ℕ, zero, suc, ◌+◌, ◌*◌, ◌^◌, ◌<◌, ◌≤◌, max, true, false, take, List, [], ◌∷◌, ◌++◌, length, get_or, Option, Some, None, refl, ap, sym, ◌∙◌, subst, arith}
use Rattle.std.specs.Prelude.{slice_get}
use Rattle.std.specs.Option.{option_map}
use Rattle.std.proofs.lemmas.List.Elements.{recursion_from_All}
use Rattle.std.proofs.lemmas.List.FromFn.{length-range_with_len}
use Rattle.std.proofs.Math.Seq.{take-suc}
use Rattle.std.proofs.lemmas.Option.{slice_get-get_or}
use Rattle.sq_words.specs.Lists.{max_by, numbers_to, contains_number}
use Rattle.sq_graph.specs.declared.BoxWires.{BoxWires}
use Rattle.sq_graph.specs.declared.BoxKind.TheVariants as kinds
use Rattle.sq_graph.specs.Wires.{arc_at, inputs_at, inputs_of, input_arcs_of}
use Rattle.sq_place.specs.declared.DropPoint.{DropPoint}
use Rattle.sq_place.specs.Refusals.{IsFine}
use Rattle.sq_place.proofs.Wires.{input-there}
use Rattle.sq_net.specs.declared.Network.{Network}
use Rattle.sq_net.specs.SoundNetworks.{IsSound}
use Rattle.sq_points.specs.Points.{points_of}
use Rattle.sq_points.specs.Limits.{KeepsDropLimits}
use Rattle.sq_points.proofs.Bounds.{few_arcs}
use Rattle.sq_windrop.specs.Gates.{IsLength}
use Rattle.sq_model.specs.Shedding.{Replay}
use Rattle.sq_below.specs.Laws.{PointsMeasured}
use Rattle.sq_below.specs.ArcContents.{Drop}
use Rattle.sq_start.specs.Starts.{IsDropAbove, AreLags, lags_below, length_above}
use Rattle.sq_start.proofs.PointLemmas.{first-found}
use Rattle.sq_words.proofs.Alls.{all_at}
use Rattle.sq_words.proofs.Lists.{length_map}
use Rattle.sq_points.specs.Above.{first_drop, drop_above_output, found_at, drop_above_box}

pub max-more : (f : ℕ → ℕ) (xs : List ℕ) (x : ℕ) → max_by f (xs ++ x ∷ []) ≡ max (max_by f xs) (f x)
max-more f [] x = omega arith
max-more f (y ∷ xs) x = (let more = max-more f xs x in omega (arith, more))

pub max-at : (f : ℕ → ℕ) (xs : List ℕ) (i d : ℕ) → i < length xs → f (get_or xs i d) ≤ max_by f xs
max-at f [] i d low = absurd (omega (arith, low))
max-at f (x ∷ xs) zero d low = omega arith
max-at f (x ∷ xs) (suc i) d low = (let more = max-at f xs i d (omega (arith, low)) in omega (arith, more))

-- the greatest so far, and one more
pub max-step : (f : ℕ → ℕ) (xs : List ℕ) (i most here next : ℕ) → i < length xs → most ≡ max_by f (take i xs) → here ≡ f (get_or xs i 0) → next ≡ max most here → next ≡ max_by f (take (i + 1) xs)
max-step f xs i most here next low so_far is step =
    let one : i + 1 ≡ suc i = omega arith in
    let more = ap (λ k. max_by f (take k xs)) one ∙ ap (max_by f) (take-suc xs i 0 low) ∙ max-more f (take i xs) (get_or xs i 0) in
    omega (arith, so_far, is, step, more)

no_box : BoxWires
no_box = record { kind = kinds.Map; inputs = []; ports = 0 }

-- the arcs of a box's inputs are few
pub arc-low : (n : Network) → IsSound n → (b port : ℕ) → b < length n.wires.boxes → port < length (inputs_of n.wires b) → arc_at n.wires b port < 2 ^ 20
arc-low n sound b port low within =
    let there = slice_get-get_or n.wires.boxes b no_box low in
    let inside = subst (λ o. port < length (inputs_at o)) there within in
    let arc = input-there n.wires b port (get_or n.wires.boxes b no_box) there inside in
    let few = few_arcs n sound in
    omega (arith, arc, few)

pub item-there : (ws vs : List BoxWires) (b : ℕ) (x : BoxWires) → vs ≡ ws → b < length ws → x ≡ get_or vs b x → slice_get ws b ≡ Some x
item-there ws vs b x same low is = slice_get-get_or ws b x low ∙ ap Some (ap (λ l. get_or l b x) (sym same) ∙ sym is)

pub port-low : (n : Network) → IsSound n → (b port : ℕ) (x : BoxWires) → b < length n.wires.boxes → slice_get n.wires.boxes b ≡ Some x → port < length x.inputs → (port < 2 ^ 20) × (arc_at n.wires b port < 2 ^ 20)
port-low n sound b port x low there within =
    let arc = arc-low n sound b port low (subst (λ o. port < length (inputs_at o)) (sym there) within) in
    (omega (arith, arc), arc)

-- ---- what holds of the points

-- any replay of a network
abbrev some-replay : Network → Replay
some-replay n = record { network = n; sources = []; entries = []; seed = 0 }

abbrev pub Measured : Type 0
Measured = (r : Replay) → IsSound r.network → PointsMeasured r

pub point-fine : Measured → (n : Network) → IsSound n → KeepsDropLimits n → (w : ℕ) (p : DropPoint) → slice_get (points_of n) w ≡ Some p → (1 ≤ p.length) × (p.keep < 4096 * p.length)
point-fine law n sound limits w p there =
    let fine : IsFine p = all_at IsFine (points_of n) w p (recursion_from_All IsFine (points_of n) limits) there in
    let points = law (some-replay n) sound in
    ((points.measured p (w, there) fine.0 fine.1).least, points.narrow p (w, there) fine.1)

pub length-fine : Measured → (n : Network) → IsSound n → KeepsDropLimits n → (o : ℕ) → IsLength (length_above (drop_above_output n o))
length-fine law n sound limits o = by (drop_above_output n o) refl
  where
    by : (x : Option Drop) → drop_above_output n o ≡ x → IsLength (length_above x)
    by None e = tt
    by (Some d) e =
        let f = first-found (λ p. contains_number p.outputs o) 0 (points_of n) d e in
        (point-fine law n sound limits f.place d.1 f.there).0

-- ---- what a box is told

found-none : (n : Network) (b : ℕ) (points : List DropPoint) → points ≡ points_of n → first_drop (λ p. contains_number p.boxes b) 0 points ≡ None → drop_above_box n b ≡ None
found-none n b points is none = ap (first_drop (λ p. contains_number p.boxes b) 0) (sym is) ∙ none

found-some : (n : Network) (b w : ℕ) (p : DropPoint) (points : List DropPoint) → points ≡ points_of n → first_drop (λ p. contains_number p.boxes b) 0 points ≡ found_at (Some w) points → slice_get points w ≡ Some p
    → drop_above_box n b ≡ Some (w, p)
found-some n b w p points is some there = ap (first_drop (λ p. contains_number p.boxes b) 0) (sym is) ∙ some ∙ ap (option_map (λ (x : DropPoint). (w, x))) there

pub none-told : (n : Network) (b : ℕ) (points : List DropPoint) (arcs lags : List ℕ) → points ≡ points_of n → first_drop (λ p. contains_number p.boxes b) 0 points ≡ None
    → arcs ≡ input_arcs_of n.wires b → length lags ≡ length arcs → IsDropAbove false (drop_above_box n b) × AreLags n b lags (drop_above_box n b)
none-told n b points arcs lags is none of many =
    let e = found-none n b points is none in
    let count : length (input_arcs_of n.wires b) ≡ length (inputs_of n.wires b) =
    length_map (arc_at n.wires b) (numbers_to (length (inputs_of n.wires b))) ∙ length-range_with_len 0 (length (inputs_of n.wires b)) in
    (subst (IsDropAbove false) (sym e) refl, subst (AreLags n b lags) (sym e) (many ∙ ap (λ (l : List ℕ). length l) of ∙ count))

pub some-told : (n : Network) (b w : ℕ) (p : DropPoint) (points : List DropPoint) (arcs lags : List ℕ) → points ≡ points_of n → first_drop (λ p. contains_number p.boxes b) 0 points ≡ found_at (Some w) points → slice_get points w ≡ Some p
    → arcs ≡ input_arcs_of n.wires b → lags ≡ lags_below p arcs → IsDropAbove true (drop_above_box n b) × AreLags n b lags (drop_above_box n b)
some-told n b w p points arcs lags is some there of are =
    let e = found-some n b w p points is some there in
    (subst (IsDropAbove true) (sym e) refl, subst (AreLags n b lags) (sym e) (are ∙ ap (lags_below p) of))
