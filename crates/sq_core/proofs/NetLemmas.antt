-- Wires that are measured join the actors of a network, and what comes on them may come.
use Rattle.std.proofs.Common.{◌≡◌, ℕ, zero, suc, ◌-◌, ◌<◌, ◌≤◌, true, false, List, [], ◌∷◌, map, length, Option, Some, None, slice_get, refl, ap, sym, ◌∙◌, subst, arith, inl, inr, ◌⊎◌}
use Rattle.std.specs.Prelude.{is_some}
use Rattle.std.proofs.lemmas.Bool.Decides.{nat_tests}
use Rattle.std.proofs.lemmas.List.{length-map}
use Rattle.std.proofs.lemmas.List.FromFn.{length-map-range_with_len}
use Rattle.sq_value.specs.declared.Value.{Value}
use Rattle.sq_value.specs.Values.{fields_fit, kinds_fit}
use Rattle.sq_graph.specs.declared.BoxKind.{BoxKind}
use Rattle.sq_graph.specs.declared.BoxKind.TheVariants as kinds
use Rattle.sq_graph.specs.declared.BoxWires.{BoxWires}
use Rattle.sq_graph.specs.Wires.{producer_of, inputs_at, inputs_of, input_arcs_of, output_arc_at, arc_at as graph_arc}
use Rattle.sq_graph.specs.Order.{is_there}
use Rattle.sq_place.specs.declared.DropPoint.{DropPoint}
use Rattle.sq_place.specs.Places.{stream_on}
use Rattle.sq_place.proofs.Wires.{arcs-inputs, outputs-there}
use Rattle.sq_net.specs.declared.Network.{Network}
use Rattle.sq_net.specs.SoundNetworks.{IsSound, takes_within}
use Rattle.sq_net.specs.Streams.{columns_of_stream}
use Rattle.sq_net.proofs.StreamLemmas.{stream_typed, boxes_count}
use Rattle.sq_points.specs.Points.{points_of}
use Rattle.sq_points.proofs.Bounds.{at_least, takes_all}
use Rattle.sq_model.specs.GivenLevels.{IsAt}
use Rattle.sq_below.specs.Actors.{Actor, Sources, Box, WindowDrop, OutputGate, arc_from}
use Rattle.sq_start.specs.Numbers.{IsThere, ops_of, seat_of_actor, actor_at, place_stream, reads_of, window_drop_reads}
use Rattle.sq_start.proofs.NumberLemmas.{which}
use Rattle.sq_start.specs.Nets.{ComesFrom, AllCome, Joins}
use Rattle.sq_start.specs.Arrivals.{arcs_to, point_streams, streams_to, TakesArcs, MarksAreTaken, TuplesAreTaken}
use Rattle.sq_start.specs.NewOperators.{actor_marks, actor_fits}
use Rattle.sq_flow.specs.declared.wires.Arc.{Arc}
use Rattle.sq_flow.specs.declared.wires.Wires.{Wires}
use Rattle.sq_flow.specs.Wiring.{net_of, arcs_read, arc_wired, from_of, arc_port, marked_of, fits_on}
use Rattle.sq_core.specs.declared.join.Feed.{Feed}
use Rattle.sq_core.specs.Joining.{IsOf}
use Rattle.sq_core.specs.Table.{kinds_on, arc_feed, place_feed, point_row, feeds_row, IsTabled}
use Rattle.sq_core.proofs.TableLemmas.{arc_stream_there, place_stream_there, input-low, row-box, row-drop, row-output}
use Rattle.sq_value.proofs.FitLemmas.{fields_count, kinds_fit_is}
use Rattle.std.specs.Option.{option_map}
use Rattle.std.proofs.lemmas.Option.{slice_get-map, slice_get_past}
use Rattle.sq_words.proofs.Lists.{has_item, list_all_at}
use Rattle.sq_points.specs.Above.{drop_above_arc}

-- ---- lists

mapped : {A B : Type 0} (F : A → B) (xs : List A) (i : ℕ) (x : A) → slice_get xs i ≡ Some x → slice_get (map F xs) i ≡ Some (F x)
mapped F xs i x is = slice_get-map F xs i ∙ ap (option_map F) is

pub unmapped : {A B : Type 0} (F : A → B) (xs : List A) (i : ℕ) (y : B) → slice_get (map F xs) i ≡ Some y → (x : A) × (slice_get xs i ≡ Some x) × (F x ≡ y)
unmapped F [] i y is = cc is
unmapped F (x ∷ xs) zero y is = (x, refl, cc is)
unmapped F (x ∷ xs) (suc i) y is = unmapped F xs i y is

high : {A : Type 0} (xs : List A) (i : ℕ) → slice_get xs i ≡ None → length xs ≤ i
high [] i is = omega arith
high (x ∷ xs) zero is = cc is
high (x ∷ xs) (suc i) is = (let h = high xs i is in omega (arith, h))

module _ (n : Network) where
  -- a marked feed is of an arc below a drop
  row-arc : (x : Actor) (port : ℕ) (f : Feed) → slice_get (feeds_row n x) port ≡ Some f → f.marked ≡ true → (a : ℕ) × (slice_get (arcs_to n x) port ≡ Some a) × (is_some (drop_above_arc n a) ≡ true)
  row-arc Sources port f is marked = cc is
  row-arc (Box b) port f is marked = (let a = unmapped (arc_feed n) (input_arcs_of n.wires b) port f is in (a.0, a.1, ap (λ (g : Feed). g.marked) a.2 ∙ marked))
  row-arc (WindowDrop w) port f is marked = by (slice_get (points_of n) w) port is
    where
      by : (o : Option DropPoint) (port : ℕ) → slice_get (point_row n o) port ≡ Some f → (a : ℕ) × (slice_get (arcs_to n (WindowDrop w)) port ≡ Some a) × (is_some (drop_above_arc n a) ≡ true)
      by None port is = cc is
      by (Some p) zero is = (let e : place_feed n p ≡ f = cc is in let bad : false ≡ true = ap (λ (g : Feed). g.marked) e ∙ marked in cc bad)
      by (Some p) (suc port) is = cc is
  row-arc (OutputGate o) zero f is marked = (let e : arc_feed n (output_arc_at n.wires o) ≡ f = cc is in (output_arc_at n.wires o, refl, ap (λ (g : Feed). g.marked) e ∙ marked))
  row-arc (OutputGate o) (suc port) f is marked = cc is

  arc-row : (x : Actor) (port a : ℕ) → slice_get (arcs_to n x) port ≡ Some a → slice_get (feeds_row n x) port ≡ Some (arc_feed n a)
  arc-row Sources port a is = cc is
  arc-row (Box b) port a is = mapped (arc_feed n) (input_arcs_of n.wires b) port a is
  arc-row (WindowDrop w) port a is = cc is
  arc-row (OutputGate o) zero a is = (let e : output_arc_at n.wires o ≡ a = cc is in ap (λ z. Some (arc_feed n z)) e)
  arc-row (OutputGate o) (suc port) a is = cc is

  record OfStream (x : Actor) (port : ℕ) (f : Feed) : Type 0 where
    stream : ℕ
    there : slice_get (streams_to n x) port ≡ Some stream
    given : is_there (producer_of n.wires stream) ≡ true
    typed : f.kinds ≡ kinds_on (columns_of_stream n stream)

  module _ (sound : IsSound n) (places : (w : ℕ) (p : DropPoint) → slice_get (points_of n) w ≡ Some p → IsAt n p.at) where
    row-stream : (x : Actor) → IsThere n x → (port : ℕ) (f : Feed) → slice_get (feeds_row n x) port ≡ Some f → OfStream x port f
    row-stream Sources t port f is = cc is
    row-stream (Box b) t port f is =
        let a = unmapped (arc_feed n) (input_arcs_of n.wires b) port f is in
        let boxes = boxes_count n sound in
        record {
          stream = stream_on n.wires a.0;
          there = ap (λ l. slice_get l port) (sym (arcs-inputs n.wires b)) ∙ mapped (stream_on n.wires) (input_arcs_of n.wires b) port a.0 a.1;
          given = arc_stream_there n sound a.0 (input-low n b port a.0 (omega (arith, boxes, t)) a.1);
          typed = ap (λ (g : Feed). g.kinds) (sym a.2);
        }
    row-stream (WindowDrop w) t port f is = by (slice_get (points_of n) w) refl port is
      where
        by : (o : Option DropPoint) → slice_get (points_of n) w ≡ o → (port : ℕ) → slice_get (point_row n o) port ≡ Some f → OfStream (WindowDrop w) port f
        by None here port is = cc is
        by (Some p) here zero is =
            let e : place_feed n p ≡ f = cc is in
            record {
              stream = place_stream n p.at;
              there = ap (λ o. slice_get (point_streams n o) 0) here;
              given = place_stream_there n sound p.at (places w p here);
              typed = ap (λ (g : Feed). g.kinds) (sym e);
            }
        by (Some p) here (suc port) is = cc is
    row-stream (OutputGate o) t zero f is =
        let e : arc_feed n (output_arc_at n.wires o) ≡ f = cc is in
        record {
          stream = stream_on n.wires (output_arc_at n.wires o);
          there = refl;
          given = arc_stream_there n sound (output_arc_at n.wires o) (outputs-there n.wires o t);
          typed = ap (λ (g : Feed). g.kinds) (sym e);
        }
    row-stream (OutputGate o) t (suc port) f is = cc is

  stream-row : (x : Actor) (port s : ℕ) → slice_get (streams_to n x) port ≡ Some s → (f : Feed) × (slice_get (feeds_row n x) port ≡ Some f) × (f.kinds ≡ kinds_on (columns_of_stream n s))
  stream-row Sources port s is = cc is
  stream-row (Box b) port s is =
      let a = unmapped (stream_on n.wires) (input_arcs_of n.wires b) port s (ap (λ l. slice_get l port) (arcs-inputs n.wires b) ∙ is) in
      (arc_feed n a.0, mapped (arc_feed n) (input_arcs_of n.wires b) port a.0 a.1, ap (λ z. kinds_on (columns_of_stream n z)) a.2)
  stream-row (WindowDrop w) port s is = by (slice_get (points_of n) w) port is
    where
      by : (o : Option DropPoint) (port : ℕ) → slice_get (point_streams n o) port ≡ Some s → (f : Feed) × (slice_get (point_row n o) port ≡ Some f) × (f.kinds ≡ kinds_on (columns_of_stream n s))
      by None port is = cc is
      by (Some p) zero is = (let e : place_stream n p.at ≡ s = cc is in (place_feed n p, refl, ap (λ z. kinds_on (columns_of_stream n z)) e))
      by (Some p) (suc port) is = cc is
  stream-row (OutputGate o) zero s is = (let e : stream_on n.wires (output_arc_at n.wires o) ≡ s = cc is in (arc_feed n (output_arc_at n.wires o), refl, ap (λ z. kinds_on (columns_of_stream n z)) e))
  stream-row (OutputGate o) (suc port) s is = cc is

-- ---- what wires say of a port

takes-of : (o : Option Arc) (f : Feed) → IsOf o (Some f) → marked_of o ≡ f.marked
takes-of None f of = absurd of
takes-of (Some a) f of = of.3

fits-of : (o : Option Arc) (f : Feed) (fields : List Value) → IsOf o (Some f) → fits_on o fields ≡ kinds_fit f.kinds fields
fits-of None f fields of = absurd of
fits-of (Some a) f fields of = ap (λ ks. kinds_fit ks fields) of.2

module _ (n : Network) (sound : IsSound n) (places : (w : ℕ) (p : DropPoint) → slice_get (points_of n) w ≡ Some p → IsAt n p.at) (w : Wires) (measured : IsTabled n w) (actor : ℕ) (low : actor < ops_of n) (there : IsThere n (actor_at n actor)) where
  abbrev x : Actor
  x = actor_at n actor

  abbrev on : ℕ → Option Arc
  on port = arc_wired w (slice_get (arcs_read w actor) port)

  feed-or-none : (port : ℕ) → ((f : Feed) × (slice_get (feeds_row n x) port ≡ Some f) × IsOf (on port) (Some f)) ⊎ (on port ≡ None)
  feed-or-none port = by (slice_get (feeds_row n x) port) refl
    where
      by : (o : Option Feed) → slice_get (feeds_row n x) port ≡ o → ((f : Feed) × (slice_get (feeds_row n x) port ≡ Some f) × IsOf (on port) (Some f)) ⊎ (on port ≡ None)
      by (Some f) is = inl (f, is, measured.each actor port f low is)
      by None is = (let far = high (feeds_row n x) port is in let m = measured.many actor low in inr (ap (arc_wired w) (slice_get_past (arcs_read w actor) port (omega (arith, far, m)))))

  pub takes-arcs : TakesArcs n x ((net_of w).takes actor) ((net_of w).fits actor)
  takes-arcs =
      record {
        marked = λ port a is below. takes-of (on port) (arc_feed n a) (measured.each actor port (arc_feed n a) low (arc-row n x port a is)) ∙ below;
        wide = λ port s cs fields is columns fit.
            let f = stream-row n x port s is in
            fits-of (on port) f.0 fields (measured.each actor port f.0 low f.1)
            ∙ ap (λ ks. kinds_fit ks fields) (f.2 ∙ ap kinds_on columns) ∙ kinds_fit_is cs fields ∙ fit;
      }

  pub marks-come : MarksAreTaken → (port : ℕ) → (net_of w).takes actor port ≡ true → actor_marks n x port ≡ true
  marks-come law port h =
      elim (feed-or-none port) [
        | inl f ↦ (let a = row-arc n x port f.0 f.1 (sym (takes-of (on port) f.0 f.2) ∙ h) in law n x port a.0 sound a.1 a.2)
        | inr none ↦ (let bad : false ≡ true = ap marked_of (sym none) ∙ h in cc bad)
      ]

  pub tuples-come : TuplesAreTaken → (port : ℕ) (fields : List Value) → (net_of w).fits actor port fields ≡ true → actor_fits n x port fields ≡ true
  tuples-come law port fields h =
      elim (feed-or-none port) [
        | inl f ↦ (
            let s = row-stream n sound places x there port f.0 f.1 in
            let typed = stream_typed n s.stream sound s.given in
            let ks = ap (λ ks. kinds_fit ks fields) (s.typed ∙ ap kinds_on typed.1) in
            let fit : fields_fit typed.0 fields ≡ true = sym (kinds_fit_is typed.0 fields) ∙ sym ks ∙ sym (fits-of (on port) f.0 fields f.2) ∙ h in
            law n x port s.stream typed.0 fields sound there s.there typed.1 (fields_count typed.0 fields fit))
        | inr none ↦ (let bad : false ≡ true = ap (λ o. fits_on o fields) (sym none) ∙ h in cc bad)
      ]

-- ---- how they join the actors

abbrev Same : Network → List (Actor × ℕ) → List Feed → Type 0
Same n [] [] = Unit {0}
Same n [] (f ∷ fs) = ⊥
Same n (y ∷ ys) [] = ⊥
Same n (y ∷ ys) (f ∷ fs) = (f.from ≡ seat_of_actor n y.0) × (f.port ≡ y.1) × Same n ys fs

rows-same : (n : Network) (x : Actor) → Same n (reads_of n x) (feeds_row n x)
rows-same n Sources = _
rows-same n (Box b) = each (input_arcs_of n.wires b)
  where
    each : (arcs : List ℕ) → Same n (map (arc_from n) arcs) (map (arc_feed n) arcs)
    each [] = _
    each (a ∷ arcs) = (refl, refl, each arcs)
rows-same n (WindowDrop w) = by (slice_get (points_of n) w)
  where
    by : (o : Option DropPoint) → Same n (window_drop_reads n o) (point_row n o)
    by None = _
    by (Some p) = (refl, refl, _)
rows-same n (OutputGate o) = (refl, refl, _)

comes : (n : Network) (w : Wires) (y : Actor × ℕ) (f : Feed) (arc : ℕ) (o : Option Arc) → slice_get w.arcs.items arc ≡ o → f.from ≡ seat_of_actor n y.0 → f.port ≡ y.1 → IsOf o (Some f) → ComesFrom n (net_of w) y arc
comes n w y f arc None is from port of = absurd of
comes n w y f arc (Some a) is from port of = (ap from_of is ∙ of.0 ∙ from, ap arc_port is ∙ of.1 ∙ port)

all-come : (n : Network) (w : Wires) (ys : List (Actor × ℕ)) (fs : List Feed) (arcs : List ℕ) → Same n ys fs → length arcs ≡ length fs
    → ((port : ℕ) (f : Feed) → slice_get fs port ≡ Some f → IsOf (arc_wired w (slice_get arcs port)) (Some f)) → AllCome n (net_of w) ys arcs
all-come n w [] [] [] same len of = _
all-come n w [] [] (arc ∷ arcs) same len of = absurd (omega (arith, len))
all-come n w [] (f ∷ fs) arcs same len of = absurd same
all-come n w (y ∷ ys) [] arcs same len of = absurd same
all-come n w (y ∷ ys) (f ∷ fs) [] same len of = absurd (omega (arith, len))
all-come n w (y ∷ ys) (f ∷ fs) (arc ∷ arcs) same len of = (
  comes n w y f arc (slice_get w.arcs.items arc) refl same.0 same.1 (of 0 f refl),
  all-come n w ys fs arcs same.2 (omega (arith, len)) (λ port g is. of (suc port) g is),
)

pub joins-all : (n : Network) (w : Wires) → IsTabled n w → w.replay ≡ ops_of n → Joins n (net_of w)
joins-all n w measured replay =
    record {
      replay = replay;
      arcs = λ actor low. all-come n w (reads_of n (actor_at n actor)) (feeds_row n (actor_at n actor)) (arcs_read w actor) (rows-same n (actor_at n actor)) (measured.many actor low) (λ port f is. measured.each actor port f low is);
      no_more = λ actor far. measured.no_more actor (omega (arith, far));
    }

-- ---- each operator reads an arc

takes-some : (kind : BoxKind) (k : ℕ) → takes_within kind k ≡ true → 1 ≤ k
takes-some kinds.Filter k h = grind (arith, nat_tests)
takes-some kinds.Map k h = grind (arith, nat_tests)
takes-some kinds.Union k h = at_least 1 8 k h
takes-some kinds.BSort k h = grind (arith, nat_tests)
takes-some kinds.Aggregate k h = grind (arith, nat_tests)
takes-some kinds.Join k h = grind (arith, nat_tests)
takes-some kinds.Resample k h = grind (arith, nat_tests)

box-reads : (n : Network) → IsSound n → (b : ℕ) → b < length n.boxes → 1 ≤ length (feeds_row n (Box b))
box-reads n sound b low = by (slice_get n.wires.boxes b) refl
  where
    row : length (feeds_row n (Box b)) ≡ length (inputs_of n.wires b)
    row =
        let a = length-map (input_arcs_of n.wires b) (arc_feed n) in
        let c = length-map-range_with_len (graph_arc n.wires b) 0 (length (inputs_of n.wires b)) in
        omega (arith, a, c)

    by : (o : Option BoxWires) → slice_get n.wires.boxes b ≡ o → 1 ≤ length (feeds_row n (Box b))
    by None is = (let far = high n.wires.boxes b is in let boxes = boxes_count n sound in absurd (omega (arith, far, boxes, low)))
    by (Some x) is =
        let some = takes-some x.kind (length x.inputs) (list_all_at (λ (z : BoxWires). takes_within z.kind (length z.inputs)) n.wires.boxes b x (takes_all n sound.within) is) in
        let same = ap (λ o. length (inputs_at o)) is in
        let many = row in
        omega (arith, some, same, many)

pub reads-some : (n : Network) → IsSound n → (actor : ℕ) → actor < ops_of n → 1 ≤ length (feeds_row n (actor_at n actor))
reads-some n sound actor low =
    elim (which n actor low) [
      | inl box ↦ subst (λ l. 1 ≤ length l) (sym (row-box n actor box)) (box-reads n sound actor box)
      | inr (inl drop) ↦ (
          let p = has_item (points_of n) drop.0 drop.2 in
          let is = drop.1 in
          let k : drop.0 ≡ actor - length n.boxes = omega (arith, is) in
          let one = ap (λ (l : List Feed). length l) (row-drop n actor p.0 (omega (arith, is)) (ap (slice_get (points_of n)) (sym k) ∙ p.1)) in
          omega (arith, one))
      | inr (inr output) ↦ (
          let is = output.1 in
          let one = ap (λ (l : List Feed). length l) (row-output n actor (omega (arith, is)) low) in
          omega (arith, one))
    ]
