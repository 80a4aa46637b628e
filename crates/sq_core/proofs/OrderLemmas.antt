-- The outputs, then the boxes with their drops, the last first, are an order in which each reads earlier ones.
use Rattle.std.proofs.Common.{◌≡◌, ◌≢◌, ℕ, zero, suc, ◌+◌, ◌<◌, ◌≤◌, eqb, cond, Bool, true, false, not, ◌||◌, List, [], ◌∷◌, ◌++◌, map, length, Option, Some, None, Vec, slice_get, refl, ap, sym, ◌∙◌, subst, arith, append_assoc, append-nil, inl, inr}
use Rattle.std.specs.List.{list_all, AllByRecursion}
use Rattle.std.specs.declared.alloc.Global.{Global}
use Rattle.std.proofs.lemmas.Bool.{cases_lt, or_right}
use Rattle.std.proofs.lemmas.Option.{slice_get_within}
use Rattle.sq_graph.specs.Wires.{producer_of, inputs_of, input_arcs_of, output_arc_at}
use Rattle.sq_graph.specs.declared.Producer.{Producer}
use Rattle.sq_graph.specs.declared.Producer.TheVariants.{Source, Port}
use Rattle.sq_graph.specs.Order.{is_given, can_be_next, order_of}
use Rattle.sq_graph.proofs.Cycles.{has_is}
use Rattle.sq_graph.proofs.Placing.{order_placed}
use Rattle.sq_graph.proofs.Following.{order_follows}
use Rattle.sq_place.specs.declared.DropPoint.{DropPoint}
use Rattle.sq_place.specs.declared.DropAt.{DropAt}
use Rattle.sq_place.specs.declared.DropAt.TheVariants as at
use Rattle.sq_place.specs.Places.{stream_on, own_arcs, arc_numbers, box_of}
use Rattle.sq_place.proofs.Wires.{arcs-inputs}
use Rattle.sq_net.specs.declared.Network.{Network}
use Rattle.sq_net.specs.SoundNetworks.{IsSound}
use Rattle.sq_net.proofs.StreamLemmas.{boxes_count}
use Rattle.sq_points.specs.Points.{points_of, drops_in}
use Rattle.sq_below.specs.ArcContents.{Drop}
use Rattle.sq_below.specs.Actors.{giver, from_drop}
use Rattle.sq_start.specs.Numbers.{IsThere, first_output, ops_of, seat_of_actor, actor_at, place_stream}
use Rattle.sq_start.proofs.NumberLemmas.{box-at, drop-at, giver-there, output-at, which}
use Rattle.sq_start.proofs.PointLemmas.{first-found}
use Rattle.sq_core.specs.declared.join.Feed.{Feed}
use Rattle.sq_core.specs.Joining.{feeds_of, known_by, AllKnown, ReadsEarlier, IsActorOrder}
use Rattle.sq_core.specs.Table.{arc_feed, place_feed, point_row, feeds_row, feed_table, turned, same_box, box_giving, drops_from, drops_behind, with_boxes, with_outputs, actors_of}
use Rattle.sq_core.proofs.JoinLemmas.{there-cases}
use Rattle.sq_core.proofs.TableLemmas.{row-is, count-is}
use Rattle.sq_words.specs.Lists.{contains_number}
use Rattle.sq_words.proofs.Bools.{and_true, and_second, or_cases, or_false}
use Rattle.std.proofs.lemmas.Map.Views.{exact_unsigned_eq}
use Rattle.sq_words.proofs.Lists.{contains_filter, contains_middle, has_item}
use Rattle.sq_words.proofs.Numbers.{eqb_true}
use Rattle.sq_place.proofs.Ranks.{order-has}
use Rattle.sq_points.specs.Above.{drop_on_arc}

known-replay : (replay : ℕ) (order : List ℕ) → known_by replay order replay ≡ true
known-replay replay [] = eqb_true replay replay refl
known-replay replay (x ∷ order) = or_right (eqb replay x) _ (known-replay replay order)

known-here : (replay x : ℕ) (order : List ℕ) → known_by replay (x ∷ order) x ≡ true
known-here replay x order = ap (λ b. b || known_by replay order x) (eqb_true x x refl)

known-more : (replay x y : ℕ) (order : List ℕ) → known_by replay order x ≡ true → known_by replay (y ∷ order) x ≡ true
known-more replay x y order h = or_right (eqb x y) _ h

-- what is known, or among the rest, is known once the rest is turned
turned-old : (replay x : ℕ) (done rest : List ℕ) → known_by replay done x ≡ true → known_by replay (turned done rest) x ≡ true
turned-old replay x done [] h = h
turned-old replay x done (y ∷ rest) h = turned-old replay x (y ∷ done) rest (known-more replay x y done h)

turned-new : (replay x : ℕ) (done rest : List ℕ) → contains_number rest x ≡ true → known_by replay (turned done rest) x ≡ true
turned-new replay x done [] h = cc h
turned-new replay x done (y ∷ rest) h =
    elim (or_cases (eqb y x) (contains_number rest x) h) [
      | inl e ↦ turned-old replay x (y ∷ done) rest (subst (λ z. known_by replay (y ∷ done) z ≡ true) (exact_unsigned_eq y x e) (known-here replay y done))
      | inr more ↦ turned-new replay x (y ∷ done) rest more
    ]

-- and nothing else
turned-only : (P : ℕ → Type 0) (replay : ℕ) (done rest : List ℕ) → ((x : ℕ) → known_by replay done x ≡ true → P x) → ((x : ℕ) → contains_number rest x ≡ true → P x)
    → (x : ℕ) → known_by replay (turned done rest) x ≡ true → P x
turned-only P replay done [] old new x k = old x k
turned-only P replay done (y ∷ rest) old new x k =
    turned-only P replay (y ∷ done) rest
    (λ z h. elim (or_cases (eqb z y) (known_by replay done z) h) [
      | inl e ↦ subst P (sym (exact_unsigned_eq z y e)) (new y (ap (λ b. b || contains_number rest y) (eqb_true y y refl)))
      | inr more ↦ old z more
    ])
    (λ z h. new z (or_right (eqb y z) _ h)) x k

-- a drop stands on arcs of its own stream
own-stream : (n : Network) (place : DropAt) (a : ℕ) → contains_number (own_arcs n.wires place) a ≡ true → stream_on n.wires a ≡ place_stream n place
own-stream n (at.Stream s) a own =
    exact_unsigned_eq (stream_on n.wires a) s
    (and_second (contains_number (arc_numbers n.wires) a) (eqb (stream_on n.wires a) s) (sym (contains_filter (λ c. eqb (stream_on n.wires c) s) (arc_numbers n.wires) a) ∙ own))
own-stream n (at.Arc x) a own = ap (stream_on n.wires) (sym (exact_unsigned_eq x a (sym (or_false (eqb x a)) ∙ own)))

all-mapped : (t : ℕ → Bool) (f : ℕ → ℕ) (xs : List ℕ) → list_all t (map f xs) ≡ true → AllByRecursion (λ x. t (f x) ≡ true) xs
all-mapped t f [] h = _
all-mapped t f (x ∷ xs) h = (let parts = and_true (t (f x)) (list_all t (map f xs)) h in (parts.0, all-mapped t f xs parts.1))

-- a box that gives a stream is among these; a source is there from the start
abbrev is_ready : List ℕ → Option ℕ → Bool
is_ready front None = true
is_ready front (Some b) = contains_number front b

module _ (n : Network) (sound : IsSound n) (feeds : List (Vec Feed Global)) (rows : (actor : ℕ) → actor < ops_of n → feeds_of feeds actor ≡ feeds_row n (actor_at n actor))
    (below : (x : ℕ) → contains_number (order_of n.wires) x ≡ true → x < length n.boxes)
    (has : (x : ℕ) → x < length n.boxes → contains_number (order_of n.wires) x ≡ true) where
  abbrev ops : ℕ
  ops = ops_of n

  -- what stands where these boxes are placed with their drops
  record Placed (front done : List ℕ) : Type 0 where
    reads : ReadsEarlier ops feeds done
    boxes : (x : ℕ) → contains_number front x ≡ true → known_by ops done x ≡ true
    drops : (w : ℕ) (p : DropPoint) → slice_get (points_of n) w ≡ Some p → is_ready front (box_giving n p) ≡ true → known_by ops done (length n.boxes + w) ≡ true
    only : (x : ℕ) → known_by ops done x ≡ true → x < ops + 1

  -- ---- drops are added

  abbrev IsRest : ℕ → List DropPoint → Type 0
  IsRest k ps = (i : ℕ) → slice_get ps i ≡ slice_get (points_of n) (k + i)

  rest-next : (k : ℕ) (p : DropPoint) (ps : List DropPoint) → IsRest k (p ∷ ps) → IsRest (k + 1) ps
  rest-next k p ps rest i = (let e : k + suc i ≡ k + 1 + i = omega arith in rest (suc i) ∙ ap (slice_get (points_of n)) e)

  rest-here : (k : ℕ) (p : DropPoint) (ps : List DropPoint) → IsRest k (p ∷ ps) → slice_get (points_of n) k ≡ Some p
  rest-here k p ps rest = (let e : k ≡ k + 0 = omega arith in ap (slice_get (points_of n)) e ∙ sym (rest 0))

  giver-known : (done : List ℕ) (box : Option ℕ) → ((b : ℕ) → same_box (Some b) box ≡ true → known_by ops done b ≡ true)
      → (p : Option Producer) → same_box (box_of p) box ≡ true → known_by ops done (seat_of_actor n (giver p).0) ≡ true
  giver-known done box knows None h = known-replay ops done
  giver-known done box knows (Some (Source s)) h = known-replay ops done
  giver-known done box knows (Some (Port b q)) h = knows b h

  drops-earlier : (box : Option ℕ) (first k : ℕ) (ps : List DropPoint) (done : List ℕ) → first ≡ length n.boxes + k → IsRest k ps → ((b : ℕ) → same_box (Some b) box ≡ true → known_by ops done b ≡ true)
      → ReadsEarlier ops feeds done → ReadsEarlier ops feeds (turned done (drops_from n box first ps))
  drops-earlier box first k [] done is rest knows reads = reads
  drops-earlier box first k (p ∷ ps) done is rest knows reads =
      by (same_box (box_giving n p) box) refl
      (λ more r m. drops-earlier box (first + 1) (k + 1) ps more (omega (arith, is)) (rest-next k p ps rest) m r)
    where
      here : slice_get (points_of n) k ≡ Some p
      here = rest-here k p ps rest

      low : k < drops_in n
      low = slice_get_within (points_of n) k p here

      row : feeds_of feeds first ≡ place_feed n p ∷ []
      row =
          rows first (omega (arith, is, low)) ∙ ap (λ x. feeds_row n (actor_at n x)) is ∙ ap (feeds_row n) (drop-at n k low)
          ∙ ap (point_row n) here

      by : (b : Bool) → same_box (box_giving n p) box ≡ b
          → ((more : List ℕ) → ReadsEarlier ops feeds more → ((b : ℕ) → same_box (Some b) box ≡ true → known_by ops more b ≡ true) → ReadsEarlier ops feeds (turned more (drops_from n box (first + 1) ps)))
          → ReadsEarlier ops feeds (turned done (cond b (first ∷ drops_from n box (first + 1) ps) (drops_from n box (first + 1) ps)))
      by true same next =
          next (first ∷ done)
          ((λ e. omega (arith, is, low, e)), subst (AllKnown ops done) (sym row) (giver-known done box knows (producer_of n.wires (place_stream n p.at)) same, _), reads)
          (λ b h. known-more ops b first done (knows b h))
      by false same next = next done reads knows

  drops-has : (box : Option ℕ) (first : ℕ) (ps : List DropPoint) (i : ℕ) (p : DropPoint) → slice_get ps i ≡ Some p → same_box (box_giving n p) box ≡ true → contains_number (drops_from n box first ps) (first + i) ≡ true
  drops-has box first [] i p is same = cc is
  drops-has box first (q ∷ ps) zero p is same =
      let e : q ≡ p = cc is in
      let z : first ≡ first + 0 = omega arith in
      ap (λ b. contains_number (cond b (first ∷ drops_from n box (first + 1) ps) (drops_from n box (first + 1) ps)) (first + 0)) (ap (λ x. same_box (box_giving n x) box) e ∙ same)
      ∙ ap (λ b. b || contains_number (drops_from n box (first + 1) ps) (first + 0)) (eqb_true first (first + 0) z)
  drops-has box first (q ∷ ps) (suc i) p is same =
      let e : first + 1 + i ≡ first + suc i = omega arith in
      by (same_box (box_giving n q) box) (subst (λ x. contains_number (drops_from n box (first + 1) ps) x ≡ true) e (drops-has box (first + 1) ps i p is same))
    where
      by : (b : Bool) → contains_number (drops_from n box (first + 1) ps) (first + suc i) ≡ true → contains_number (cond b (first ∷ drops_from n box (first + 1) ps) (drops_from n box (first + 1) ps)) (first + suc i) ≡ true
      by true h = or_right (eqb first (first + suc i)) _ h
      by false h = h

  drops-low : (box : Option ℕ) (first : ℕ) (ps : List DropPoint) (x : ℕ) → contains_number (drops_from n box first ps) x ≡ true → x < first + length ps
  drops-low box first [] x h = cc h
  drops-low box first (q ∷ ps) x h = by (same_box (box_giving n q) box) (λ k. (let low = drops-low box (first + 1) ps x k in omega (arith, low))) h
    where
      by : (b : Bool) → (contains_number (drops_from n box (first + 1) ps) x ≡ true → x < first + suc (length ps))
          → contains_number (cond b (first ∷ drops_from n box (first + 1) ps) (drops_from n box (first + 1) ps)) x ≡ true → x < first + suc (length ps)
      by true more k =
          elim (or_cases (eqb first x) _ k) [
            | inl e ↦ (let same = exact_unsigned_eq first x e in omega (arith, same))
            | inr later ↦ more later
          ]
      by false more k = more k

  all-points : IsRest 0 (points_of n)
  all-points i = (let e : i ≡ 0 + i = omega arith in ap (slice_get (points_of n)) e)

  behind-earlier : (box : Option ℕ) (done : List ℕ) → ((b : ℕ) → same_box (Some b) box ≡ true → known_by ops done b ≡ true) → ReadsEarlier ops feeds done → ReadsEarlier ops feeds (turned done (drops_behind n box))
  behind-earlier box done knows reads = drops-earlier box (length n.boxes) 0 (points_of n) done (omega arith) all-points knows reads

  behind-new : (box : Option ℕ) (done : List ℕ) (w : ℕ) (p : DropPoint) → slice_get (points_of n) w ≡ Some p → same_box (box_giving n p) box ≡ true → known_by ops (turned done (drops_behind n box)) (length n.boxes + w) ≡ true
  behind-new box done w p is same = turned-new ops (length n.boxes + w) done (drops_behind n box) (drops-has box (length n.boxes) (points_of n) w p is same)

  behind-only : (box : Option ℕ) (done : List ℕ) → ((x : ℕ) → known_by ops done x ≡ true → x < ops + 1) → (x : ℕ) → known_by ops (turned done (drops_behind n box)) x ≡ true → x < ops + 1
  behind-only box done old x k = turned-only (λ z. z < ops + 1) ops done (drops_behind n box) old (λ z h. (let low = drops-low box (length n.boxes) (points_of n) z h in omega (arith, low))) x k

  -- ---- boxes are added

  at-first : Placed [] (turned [] (drops_behind n None))
  at-first =
      record {
        reads = behind-earlier None [] (λ b h. cc h) _;
        boxes = λ x h. cc h;
        drops = λ w p is h. behind-new None [] w p is (by (box_giving n p) h);
        only = behind-only None [] (λ x k. (let e = exact_unsigned_eq x ops k in omega (arith, e)));
      }
    where
      by : (o : Option ℕ) → is_ready [] o ≡ true → same_box o None ≡ true
      by None h = refl
      by (Some b) h = h

  module _ (front done : List ℕ) (placed : Placed front done) where
    given-known : (p : Option Producer) → is_ready front (box_of p) ≡ true → known_by ops done (seat_of_actor n (giver p).0) ≡ true
    given-known None h = known-replay ops done
    given-known (Some (Source k)) h = known-replay ops done
    given-known (Some (Port b q)) h = placed.boxes b h

    arc-known : (a : ℕ) → is_ready front (box_of (producer_of n.wires (stream_on n.wires a))) ≡ true → known_by ops done (arc_feed n a).from ≡ true
    arc-known a ready = by (drop_on_arc n a) refl
      where
        by : (o : Option Drop) → drop_on_arc n a ≡ o → known_by ops done (seat_of_actor n (from_drop n o a).0) ≡ true
        by None is = given-known (producer_of n.wires (stream_on n.wires a)) ready
        by (Some d) is =
            let f = first-found (λ p. contains_number (own_arcs n.wires p.at) a) 0 (points_of n) d is in
            let here : slice_get (points_of n) d.0 ≡ Some d.1 = (let e : d.0 ≡ f.place = (let k = f.number in omega (arith, k)) in ap (slice_get (points_of n)) e ∙ f.there) in
            placed.drops d.0 d.1 here (ap (λ s. is_ready front (box_of (producer_of n.wires s))) (sym (own-stream n (d.1).at a f.passes)) ∙ ready)

    given-ready : (p : Option Producer) → is_given front p ≡ true → is_ready front (box_of p) ≡ true
    given-ready None h = cc h
    given-ready (Some (Source k)) h = refl
    given-ready (Some (Port b q)) h = h

    all-arcs : (arcs : List ℕ) → AllByRecursion (λ a. is_given front (producer_of n.wires (stream_on n.wires a)) ≡ true) arcs → AllKnown ops done (map (arc_feed n) arcs)
    all-arcs [] h = _
    all-arcs (a ∷ arcs) h = (arc-known a (given-ready (producer_of n.wires (stream_on n.wires a)) h.0), all-arcs arcs h.1)

    -- a box that can be next, with its drops
    next-placed : (at : ℕ) (rest : List ℕ) → order_of n.wires ≡ front ++ at ∷ rest → Placed (front ++ at ∷ []) (turned (at ∷ done) (drops_behind n (Some at)))
    next-placed at rest is =
        record {
          reads = behind-earlier (Some at) (at ∷ done) (λ b h. subst (λ z. known_by ops (at ∷ done) z ≡ true) (sym (exact_unsigned_eq b at h)) (known-here ops at done)) (away, known-rows, placed.reads);
          boxes = λ x h. turned-old ops x (at ∷ done) (drops_behind n (Some at)) (known-front x h);
          drops = λ w p there h. drops-known w p there (box_giving n p) refl h;
          only = behind-only (Some at) (at ∷ done) (λ x k. elim (or_cases (eqb x at) (known_by ops done x) k) [
            | inl e ↦ (let same = exact_unsigned_eq x at e in omega (arith, same, low))
            | inr more ↦ placed.only x more
          ]);
        }
      where
        next : can_be_next n.wires front at ≡ true
        next = order_follows n.wires front rest at is

        low : at < length n.boxes
        low = below at (ap (λ l. contains_number l at) is ∙ contains_middle front rest at)

        away : at ≢ ops
        away e = omega (arith, low, e)

        givens : AllByRecursion (λ a. is_given front (producer_of n.wires (stream_on n.wires a)) ≡ true) (input_arcs_of n.wires at)
        givens =
            all-mapped (λ s. is_given front (producer_of n.wires s)) (stream_on n.wires) (input_arcs_of n.wires at)
            (ap (list_all (λ s. is_given front (producer_of n.wires s))) (arcs-inputs n.wires at)
            ∙ (and_true (not (contains_number front at)) (list_all (λ s. is_given front (producer_of n.wires s)) (inputs_of n.wires at)) next).1)

        known-rows : AllKnown ops done (feeds_of feeds at)
        known-rows = subst (AllKnown ops done) (sym (rows at (omega (arith, low)) ∙ ap (feeds_row n) (box-at n at low))) (all-arcs (input_arcs_of n.wires at) givens)

        known-front : (x : ℕ) → contains_number (front ++ at ∷ []) x ≡ true → known_by ops (at ∷ done) x ≡ true
        known-front x h =
            elim (there-cases front at x h) [
              | inl old ↦ known-more ops x at done (placed.boxes x old)
              | inr same ↦ subst (λ z. known_by ops (at ∷ done) z ≡ true) same (known-here ops at done)
            ]

        drops-known : (w : ℕ) (p : DropPoint) → slice_get (points_of n) w ≡ Some p → (o : Option ℕ) → box_giving n p ≡ o → is_ready (front ++ at ∷ []) (box_giving n p) ≡ true
            → known_by ops (turned (at ∷ done) (drops_behind n (Some at))) (length n.boxes + w) ≡ true
        drops-known w p there None is-box h =
            turned-old ops (length n.boxes + w) (at ∷ done) (drops_behind n (Some at)) (known-more ops (length n.boxes + w) at done (placed.drops w p there (ap (is_ready front) is-box)))
        drops-known w p there (Some b) is-box h =
            elim (there-cases front at b (sym (ap (is_ready (front ++ at ∷ [])) is-box) ∙ h)) [
              | inl old ↦ turned-old ops (length n.boxes + w) (at ∷ done) (drops_behind n (Some at))
                  (known-more ops (length n.boxes + w) at done (placed.drops w p there (ap (is_ready front) is-box ∙ old)))
              | inr same ↦ behind-new (Some at) (at ∷ done) w p there (ap (λ z. same_box z (Some at)) is-box ∙ eqb_true b at (sym same))
            ]

  all-placed : (done front rest : List ℕ) → order_of n.wires ≡ front ++ rest → Placed front done → Placed (order_of n.wires) (with_boxes n rest done)
  all-placed done front [] is placed = subst (λ l. Placed l done) (sym (is ∙ append-nil front)) placed
  all-placed done front (at ∷ rest) is placed =
      all-placed (turned (at ∷ done) (drops_behind n (Some at))) (front ++ at ∷ []) rest (is ∙ sym (append_assoc front (at ∷ []) rest)) (next-placed front done placed at rest is)

  abbrev placed-boxes : List ℕ
  placed-boxes = with_boxes n (order_of n.wires) (turned [] (drops_behind n None))

  whole : Placed (order_of n.wires) placed-boxes
  whole = all-placed (turned [] (drops_behind n None)) [] (order_of n.wires) refl at-first

  -- ---- outputs are added

  box-there : (s b : ℕ) → box_of (producer_of n.wires s) ≡ Some b → b < length n.boxes
  box-there s b = by (producer_of n.wires s) (giver-there n sound s)
    where
      by : (p : Option Producer) → IsThere n (giver p).0 → box_of p ≡ Some b → b < length n.boxes
      by None there h = cc h
      by (Some (Source k)) there h = cc h
      by (Some (Port c q)) there h = (let same : c ≡ b = cc h in omega (arith, there, same))

  ready-all : (s : ℕ) → is_ready (order_of n.wires) (box_of (producer_of n.wires s)) ≡ true
  ready-all s = by (box_of (producer_of n.wires s)) refl
    where
      by : (o : Option ℕ) → box_of (producer_of n.wires s) ≡ o → is_ready (order_of n.wires) o ≡ true
      by None is = refl
      by (Some b) is = has b (box-there s b is)

  outputs-old : (k x : ℕ) → known_by ops placed-boxes x ≡ true → known_by ops (with_outputs (first_output n) k placed-boxes) x ≡ true
  outputs-old zero x h = h
  outputs-old (suc k) x h = known-more ops x (first_output n + k) _ (outputs-old k x h)

  outputs-earlier : (k : ℕ) → k ≤ length n.wires.outputs → ReadsEarlier ops feeds (with_outputs (first_output n) k placed-boxes)
  outputs-earlier zero low = whole.reads
  outputs-earlier (suc k) low = (
    (λ e. omega (arith, e, low)),
    subst (AllKnown ops (with_outputs (first_output n) k placed-boxes)) (sym (rows (first_output n + k) (omega (arith, low)) ∙ ap (feeds_row n) (output-at n k (omega (arith, low)))))
        (outputs-old k _ (arc-known (order_of n.wires) placed-boxes whole (output_arc_at n.wires k) (ready-all (stream_on n.wires (output_arc_at n.wires k)))), _),
    outputs-earlier k (omega (arith, low)),
  )

  outputs-only : (k x : ℕ) → k ≤ length n.wires.outputs → known_by ops (with_outputs (first_output n) k placed-boxes) x ≡ true → x < ops + 1
  outputs-only zero x low h = whole.only x h
  outputs-only (suc k) x low h =
      elim (or_cases (eqb x (first_output n + k)) _ h) [
        | inl e ↦ (let s = exact_unsigned_eq x (first_output n + k) e in omega (arith, s, low))
        | inr more ↦ outputs-only k x (omega (arith, low)) more
      ]

  outputs-new : (k o : ℕ) → o < k → known_by ops (with_outputs (first_output n) k placed-boxes) (first_output n + o) ≡ true
  outputs-new zero o low = absurd (omega (arith, low))
  outputs-new (suc k) o low =
      elim (cases_lt o k) [
        | inl less ↦ known-more ops (first_output n + o) (first_output n + k) _ (outputs-new k o less)
        | inr past ↦ (let e : k ≡ o = omega (arith, low, past) in subst (λ z. known_by ops (with_outputs (first_output n) (suc k) placed-boxes) (first_output n + z) ≡ true) e (known-here ops (first_output n + k) _))
      ]

  all-ordered : (actor : ℕ) → actor < ops → known_by ops (actors_of n) actor ≡ true
  all-ordered actor low =
      elim (which n actor low) [
        | inl box ↦ outputs-old (length n.wires.outputs) actor (whole.boxes actor (has actor box))
        | inr (inl drop) ↦ (
            let p = has_item (points_of n) drop.0 drop.2 in
            subst (λ x. known_by ops (actors_of n) x ≡ true) (sym drop.1)
            (outputs-old (length n.wires.outputs) (length n.boxes + drop.0) (whole.drops drop.0 p.0 p.1 (ready-all (place_stream n (p.0).at)))))
        | inr (inr output) ↦ subst (λ x. known_by ops (actors_of n) x ≡ true) (sym output.1) (outputs-new (length n.wires.outputs) output.0 output.2)
      ]

  pub order-all : IsActorOrder ops feeds (actors_of n)
  order-all =
      record {
        earlier = outputs-earlier (length n.wires.outputs) (omega arith);
        listed = λ actor k. outputs-only (length n.wires.outputs) actor (omega arith) k;
        ordered = all-ordered;
      }

pub network-order : (n : Network) → IsSound n → (feeds : List (Vec Feed Global)) → map (λ f. f.items) feeds ≡ feed_table n → IsActorOrder (length feeds) feeds (actors_of n)
network-order n sound feeds table =
    subst (λ k. IsActorOrder k feeds (actors_of n)) (sym (count-is n sound feeds table))
    (order-all n sound feeds (row-is n sound feeds table)
    (λ x h. (let low = (order_placed n.wires).below x (sym (has_is (order_of n.wires) x) ∙ h) in let e = boxes_count n sound in omega (arith, low, e)))
    (λ x low. order-has n.wires sound.agrees.wired sound.acyclic x (let e = boxes_count n sound in omega (arith, low, e))))
