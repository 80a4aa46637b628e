-- The drop points of a network: where they are found, what stands above a box's arcs, and their own arcs.
use Rattle.std.proofs.Common.{◌≡◌, ℕ, zero, suc, ◌+◌, ◌<◌, ◌⊎◌, eqb, Bool, true, false, cond, not, ◌&&◌, ◌||◌, List, [], ◌∷◌, length, Option, Some, None, refl, ap, sym, ◌∙◌, subst, inl, inr, arith}
use Rattle.std.specs.Prelude.{slice_get, is_some}
use Rattle.std.specs.List.{filter, filter_map, list_any, cons_option}
use Rattle.std.specs.Option.{option_map}
use Rattle.std.proofs.lemmas.Bool.Decides.{nat_tests}
use Rattle.std.proofs.lemmas.Option.{slice_get-map}
use Rattle.sq_words.specs.Lists.{numbers_to, contains_number}
use Rattle.sq_graph.specs.declared.Wiring.{Wiring}
use Rattle.sq_graph.specs.Wires.{arcs_of, input_arcs_of, output_arc_at}
use Rattle.sq_place.specs.declared.DropAt.{DropAt}
use Rattle.sq_place.specs.declared.DropAt.TheVariants as at
use Rattle.sq_place.specs.declared.DropPoint.{DropPoint}
use Rattle.sq_place.specs.Places.{Windows, window_at, stream_on, own_arcs, arc_numbers, box_before, through, dist_within, is_reached, reached_arcs, outputs_below, is_candidate, candidates_of, places_of, lies_below, drop_places_of, greatest, reach_added}
use Rattle.sq_place.specs.Points.{point_at, dist_of}
use Rattle.sq_place.proofs.Lists.{any-map, contains-range, range-contains}
use Rattle.sq_net.specs.declared.Network.{Network}
use Rattle.sq_points.specs.Points.{windows_of, points_of}
use Rattle.sq_model.specs.GivenLevels.{IsAt}
use Rattle.sq_below.specs.ArcContents.{Drop}
use Rattle.sq_start.specs.Numbers.{place_stream}
use Rattle.sq_words.proofs.Bools.{and_second, and_first}
use Rattle.sq_words.proofs.Lists.{contains_filter}
use Rattle.sq_points.specs.Above.{first_drop, drop_above_arc, drop_on_arc, drop_above_box}

-- ---- the first drop that passes a test

pub record Found (t : DropPoint → Bool) (first : ℕ) (ps : List DropPoint) (d : Drop) : Type 0 where
  pub place : ℕ
  pub number : d.0 ≡ first + place
  pub there : slice_get ps place ≡ Some d.1
  pub passes : t d.1 ≡ true

pub first-found : (t : DropPoint → Bool) (first : ℕ) (ps : List DropPoint) (d : Drop) → first_drop t first ps ≡ Some d → Found t first ps d
first-found t first [] d e = absurd (cc e)
first-found t first (q ∷ ps) d e = by (t q) refl (first-found t (first + 1) ps d) e
  where
    by : (b : Bool) → t q ≡ b → (first_drop t (first + 1) ps ≡ Some d → Found t (first + 1) ps d) → cond b (Some (first, q)) (first_drop t (first + 1) ps) ≡ Some d → Found t first (q ∷ ps) d
    by true k more e =
        let pair : ◌≡◌ {A = ℕ × DropPoint} (first, q) d = cc e in
        let same : q ≡ d.1 = ap (λ z. z.1) pair in
        let here : first ≡ d.0 = ap (λ z. z.0) pair in
        record { place = 0; number = omega (arith, here); there = ap Some same; passes = ap t (sym same) ∙ k }
    by false k more e =
        let f = more e in
        record { place = suc f.place; number = (let is = f.number in omega (arith, is)); there = f.there; passes = f.passes }

-- a point that passes is found, or one before it
pub first-some : (t : DropPoint → Bool) (first : ℕ) (ps : List DropPoint) (k : ℕ) (p : DropPoint) → slice_get ps k ≡ Some p → t p ≡ true → (d : Drop) × (first_drop t first ps ≡ Some d)
first-some t first [] k p there passes = absurd (cc there)
first-some t first (q ∷ ps) k p there passes = by (t q) refl (λ j e. first-some t (first + 1) ps j p e passes) k there
  where
    by : (b : Bool) → t q ≡ b → ((j : ℕ) → slice_get ps j ≡ Some p → (d : Drop) × (first_drop t (first + 1) ps ≡ Some d)) → (k : ℕ) → slice_get (q ∷ ps) k ≡ Some p
        → (d : Drop) × (cond b (Some (first, q)) (first_drop t (first + 1) ps) ≡ Some d)
    by true k more j e = ((first, q), refl)
    by false k more zero e = let same : q ≡ p = cc e in let bad : true ≡ false = sym passes ∙ ap t (sym same) ∙ k in absurd (cc bad)
    by false k more (suc j) e = more j e

-- ---- the place of a point

pub record PlaceOf (n : Network) (p : DropPoint) : Type 0 where
  pub place : DropAt
  pub is : point_at n.wires (windows_of n) n.batch place ≡ p
  pub candidate : is_candidate n.wires (windows_of n) place ≡ true

filter-from : {X : Type 0} (t : X → Bool) (xs : List X) (k : ℕ) (x : X) → slice_get (filter t xs) k ≡ Some x → (j : ℕ) × (slice_get xs j ≡ Some x) × (t x ≡ true)
filter-from t [] k x e = absurd (cc e)
filter-from t (y ∷ ys) k x e = by (t y) refl (λ j. filter-from t ys j x) k e
  where
    by : (b : Bool) → t y ≡ b → ((j : ℕ) → slice_get (filter t ys) j ≡ Some x → (i : ℕ) × (slice_get ys i ≡ Some x) × (t x ≡ true))
        → (k : ℕ) → slice_get (cond b (y ∷ filter t ys) (filter t ys)) k ≡ Some x → (j : ℕ) × (slice_get (y ∷ ys) j ≡ Some x) × (t x ≡ true)
    by true h more zero e = let same : y ≡ x = cc e in (0, ap Some same, ap t (sym same) ∙ h)
    by true h more (suc k) e = let m = more k e in (suc m.0, m.1, m.2)
    by false h more k e = let m = more k e in (suc m.0, m.1, m.2)

pub place-of : (n : Network) (k : ℕ) (p : DropPoint) → slice_get (points_of n) k ≡ Some p → PlaceOf n p
place-of n k p there = by (slice_get (drop_places_of n.wires (windows_of n)) k) refl (sym (slice_get-map (point_at n.wires (windows_of n) n.batch) (drop_places_of n.wires (windows_of n)) k) ∙ there)
  where
    by : (o : Option DropAt) → slice_get (drop_places_of n.wires (windows_of n)) k ≡ o → option_map (point_at n.wires (windows_of n) n.batch) o ≡ Some p → PlaceOf n p
    by None e is = absurd (cc is)
    by (Some place) e is =
        let outer = filter-from (λ q. not (list_any (lies_below n.wires (windows_of n) q) (candidates_of n.wires (windows_of n)))) (candidates_of n.wires (windows_of n)) k place e in
        let inner = filter-from (is_candidate n.wires (windows_of n)) (places_of n.wires) outer.0 place outer.1 in
        record { place = place; is = cc is; candidate = inner.2 }

-- ---- the arcs of a box that lies below no drop

any-contains : (f : ℕ → Bool) (xs : List ℕ) (c : ℕ) → contains_number xs c ≡ true → f c ≡ true → list_any f xs ≡ true
any-contains f [] c h k = absurd (cc h)
any-contains f (x ∷ xs) c h k = by (eqb x c) refl (any-contains f xs c) h
  where
    eq : (a k : ℕ) → eqb a k ≡ true → a ≡ k
    eq a k h = grind (arith, nat_tests)

    last : (b : Bool) → (b || true) ≡ true
    last true = refl
    last false = refl

    by : (b : Bool) → eqb x c ≡ b → (contains_number xs c ≡ true → f c ≡ true → list_any f xs ≡ true) → (b || contains_number xs c) ≡ true → list_any f (x ∷ xs) ≡ true
    by true e more h = ap (λ b. b || list_any f xs) (ap f (eq x c e) ∙ k)
    by false e more h = ap (λ b. f x || b) (more h k) ∙ last (f x)

pub arc-alone : (n : Network) (b c : ℕ) → b < length n.wires.boxes → drop_above_box n b ≡ None → contains_number (input_arcs_of n.wires b) c ≡ true → drop_above_arc n c ≡ None
arc-alone n b c low none has = by (drop_above_arc n c) refl
  where
    never : (d : Drop) → drop_above_arc n c ≡ Some d → ⊥
    never d e =
        let ws = windows_of n in
        let f = first-found (λ p. list_any (λ z. eqb z.0 c) p.reach) 0 (points_of n) d e in
        let p = place-of n f.place d.1 f.there in
        let listed : list_any (λ z. eqb z.0 c) (point_at n.wires ws n.batch p.place).reach ≡ true = subst (λ (x : DropPoint). list_any (λ z. eqb z.0 c) x.reach ≡ true) (sym p.is) f.passes in
        let inside : contains_number (reached_arcs n.wires ws p.place) c ≡ true = sym (any-map (dist_of n.wires ws n.batch p.place) (reached_arcs n.wires ws p.place) c) ∙ listed in
        let reached : is_reached n.wires ws p.place c ≡ true = and_second (contains_number (arc_numbers n.wires) c) (is_reached n.wires ws p.place c) (sym (contains_filter (is_reached n.wires ws p.place) (arc_numbers n.wires) c) ∙ inside) in
        let any = any-contains (is_reached n.wires ws p.place) (input_arcs_of n.wires b) c has reached in
        let below : contains_number (point_at n.wires ws n.batch p.place).boxes b ≡ true =
        contains_filter (λ x. list_any (is_reached n.wires ws p.place) (input_arcs_of n.wires x)) (numbers_to (length n.wires.boxes)) b
        ∙ ap (λ z. z && list_any (is_reached n.wires ws p.place) (input_arcs_of n.wires b)) (contains-range 0 (length n.wires.boxes) b (omega arith) (omega (arith, low))) ∙ any in
        let some = first-some (λ x. contains_number x.boxes b) 0 (points_of n) f.place d.1 f.there (subst (λ (x : DropPoint). contains_number x.boxes b ≡ true) p.is below) in
        let bad : Some some.0 ≡ None = sym some.1 ∙ none in
        cc bad

    by : (o : Option Drop) → drop_above_arc n c ≡ o → drop_above_arc n c ≡ None
    by None e = e
    by (Some d) e = absurd (never d e)

-- ---- the own arcs of a point

-- where a place has no arc, nothing is reached from it
none-reached : (w : Wiring) (ws : Windows) (p : DropAt) → ((a : ℕ) → contains_number (own_arcs w p) a ≡ false) → (fuel a : ℕ) → dist_within w ws p fuel a ≡ None
none-reached w ws p none zero a = ap (λ b. cond b (Some 0) None) (none a)
none-reached w ws p none (suc fuel) a =
    ap (λ b. cond b (Some 0) (through w ws p (dist_within w ws p fuel) (box_before w a))) (none a) ∙ by (λ x. none-reached w ws p none fuel x) (box_before w a)
  where
    nothing : ((x : ℕ) → dist_within w ws p fuel x ≡ None) → (xs : List ℕ) → filter_map (dist_within w ws p fuel) xs ≡ []
    nothing less [] = refl
    nothing less (x ∷ xs) = ap (λ o. cons_option o (filter_map (dist_within w ws p fuel) xs)) (less x) ∙ nothing less xs

    by : ((x : ℕ) → dist_within w ws p fuel x ≡ None) → (o : Option ℕ) → through w ws p (dist_within w ws p fuel) o ≡ None
    by less None = refl
    by less (Some b) = ap (λ xs. option_map (λ d. d + reach_added (window_at ws b)) (greatest xs)) (nothing less (input_arcs_of w b))

-- each point has an arc of its own
pub record OwnArc (n : Network) (p : DropPoint) : Type 0 where
  pub arc : ℕ
  pub there : arc < length (arcs_of n.wires)
  pub own : contains_number (own_arcs n.wires p.at) arc ≡ true
  pub stream : stream_on n.wires arc ≡ place_stream n p.at

first-in : (xs : List ℕ) → ((a : ℕ) → contains_number xs a ≡ false) ⊎ ((a : ℕ) × (contains_number xs a ≡ true))
first-in [] = inl (λ a. refl)
first-in (x ∷ xs) = inr (x, ap (λ b. b || contains_number xs x) (same x))
  where
    same : (x : ℕ) → eqb x x ≡ true
    same x = grind (arith, nat_tests)

-- a candidate has an output below it, so an arc
some-own : (w : Wiring) (ws : Windows) (p : DropAt) → is_candidate w ws p ≡ true → (a : ℕ) × (contains_number (own_arcs w p) a ≡ true)
some-own w ws p candidate = by (first-in (own_arcs w p))
  where
    first : not (eqb (length (outputs_below w ws p)) 0) ≡ true
    first = and_first (not (eqb (length (outputs_below w ws p)) 0)) _ (and_first _ _ candidate)

    nothing : ((a : ℕ) → contains_number (own_arcs w p) a ≡ false) → (os : List ℕ) → filter (λ o. is_reached w ws p (output_arc_at w o)) os ≡ []
    nothing none [] = refl
    nothing none (o ∷ os) =
        ap (λ b. cond b (o ∷ filter (λ o. is_reached w ws p (output_arc_at w o)) os) (filter (λ o. is_reached w ws p (output_arc_at w o)) os)) (ap is_some (none-reached w ws p none (length w.boxes) (output_arc_at w o)))
        ∙ nothing none os

    by : ((a : ℕ) → contains_number (own_arcs w p) a ≡ false) ⊎ ((a : ℕ) × (contains_number (own_arcs w p) a ≡ true)) → (a : ℕ) × (contains_number (own_arcs w p) a ≡ true)
    by (inl none) =
        let bad : false ≡ true = sym (ap (λ (os : List ℕ). not (eqb (length os) 0)) (nothing none (numbers_to (length w.outputs)))) ∙ first in
        absurd (cc bad)
    by (inr some) = some

pub own-arc : (n : Network) (k : ℕ) (p : DropPoint) → slice_get (points_of n) k ≡ Some p → IsAt n p.at → OwnArc n p
own-arc n k p there fine =
    let o = place-of n k p there in
    let found = some-own n.wires (windows_of n) o.place o.candidate in
    let same : o.place ≡ p.at = ap (λ z. z.at) o.is in
    of p.at fine found.0 (subst (λ z. contains_number (own_arcs n.wires z) found.0 ≡ true) same found.1) refl
  where
    eq : (a k : ℕ) → eqb a k ≡ true → a ≡ k
    eq a k h = grind (arith, nat_tests)

    or-false : (x : Bool) → (x || false) ≡ true → x ≡ true
    or-false true h = refl
    or-false false h = h

    of : (place : DropAt) → IsAt n place → (a : ℕ) → contains_number (own_arcs n.wires place) a ≡ true → p.at ≡ place → OwnArc n p
    of (at.Stream s) fine a own is =
        let both : (contains_number (arc_numbers n.wires) a && eqb (stream_on n.wires a) s) ≡ true = sym (contains_filter (λ c. eqb (stream_on n.wires c) s) (arc_numbers n.wires) a) ∙ own in
        let low = range-contains 0 (length (arcs_of n.wires)) a (and_first (contains_number (arc_numbers n.wires) a) (eqb (stream_on n.wires a) s) both) in
        let on = eq (stream_on n.wires a) s (and_second (contains_number (arc_numbers n.wires) a) (eqb (stream_on n.wires a) s) both) in
        record { arc = a; there = omega (arith, low); own = ap (λ z. contains_number (own_arcs n.wires z) a) is ∙ own; stream = on ∙ ap (place_stream n) (sym is) }
    of (at.Arc x) fine a own is =
        let same : x ≡ a = eq x a (or-false (eqb x a) own) in
        record { arc = a; there = subst (λ z. z < length (arcs_of n.wires)) same fine; own = ap (λ z. contains_number (own_arcs n.wires z) a) is ∙ own; stream = ap (stream_on n.wires) (sym same) ∙ ap (place_stream n) (sym is) }

-- a drop stands on it
pub own-drop : (n : Network) (k : ℕ) (p : DropPoint) → slice_get (points_of n) k ≡ Some p → (o : OwnArc n p) → (d : Drop) × (drop_on_arc n o.arc ≡ Some d)
own-drop n k p there o = first-some (λ q. contains_number (own_arcs n.wires q.at) o.arc) 0 (points_of n) k p there o.own
