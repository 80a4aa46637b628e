-- The table of a network can be joined, and wires of it join the network.
use Rattle.std.proofs.Common.{◌≡◌, ℕ, zero, suc, ◌+◌, ◌-◌, ◌<◌, ◌≤◌, Bool, true, List, [], ◌∷◌, ◌++◌, map, length, Option, Some, None, Vec, slice_get, refl, ap, sym, ◌∙◌, subst, arith, inl, inr}
use Rattle.std.specs.Prelude.{is_some}
use Rattle.std.specs.Option.{option_map}
use Rattle.std.specs.List.{All, AllByRecursion, flat_map, range_with_len}
use Rattle.std.specs.declared.alloc.Global.{Global}
use Rattle.std.proofs.lemmas.Bool.{cases_lt}
use Rattle.std.proofs.lemmas.Option.{slice_get_within}
use Rattle.std.proofs.lemmas.List.{length-map}
use Rattle.std.proofs.lemmas.List.FromFn.{length-map-range_with_len}
use Rattle.std.proofs.lemmas.List.Elements.{recursion_from_All}
use Rattle.sq_value.specs.declared.Kind.{Kind}
use Rattle.sq_words.specs.Lists.{numbers_to}
use Rattle.sq_graph.specs.declared.BoxWires.{BoxWires}
use Rattle.sq_graph.specs.Wires.{producer_of, producers_of, arcs_of, arc_at, inputs_at, inputs_of, input_arcs_of, output_arc_at}
use Rattle.sq_graph.specs.declared.Producer.{Producer}
use Rattle.sq_graph.specs.declared.Producer.TheVariants.{Source, Port}
use Rattle.sq_graph.specs.Order.{is_there}
use Rattle.sq_place.specs.declared.DropAt.{DropAt}
use Rattle.sq_place.specs.declared.DropAt.TheVariants as at
use Rattle.sq_place.specs.declared.DropPoint.{DropPoint}
use Rattle.sq_place.specs.Places.{stream_on}
use Rattle.sq_place.proofs.Exact.{range-get}
use Rattle.sq_place.proofs.Numbering.{numbered_more}
use Rattle.sq_place.proofs.Wires.{arcs-there}
use Rattle.sq_net.specs.declared.Network.{Network}
use Rattle.sq_net.specs.SoundNetworks.{IsSound}
use Rattle.sq_points.specs.Points.{points_of}
use Rattle.sq_points.proofs.Plannable.{few-points}
use Rattle.sq_model.specs.GivenLevels.{IsAt}
use Rattle.sq_model.proofs.PlacedLemmas.{placed_of}
use Rattle.sq_below.specs.ArcContents.{Drop}
use Rattle.sq_below.specs.Actors.{Actor, Sources, Box, WindowDrop, OutputGate, giver, from_drop, arc_from}
use Rattle.sq_start.specs.Numbers.{IsThere, first_output, ops_of, seat_of_actor, actor_at, place_stream}
use Rattle.sq_start.proofs.NumberLemmas.{box-at, drop-at, output-at, giver-there, from-there}
use Rattle.sq_flow.specs.declared.wires.Wires.{Wires}
use Rattle.sq_flow.specs.Wiring.{arcs_read, arc_wired as wire_at}
use Rattle.sq_core.specs.declared.join.Feed.{Feed}
use Rattle.sq_core.specs.Joining.{feeds_of, IsGiver, AreFeeds, IsOf, IsJoined}
use Rattle.sq_core.specs.Table.{arc_feed, place_feed, feed_from, point_row, feeds_row, feed_table, IsTabled}
use Rattle.sq_core.proofs.PointLemmas.{streams_are}
use Rattle.sq_core.proofs.ShapeLemmas.{no-feeds}
use Rattle.sq_points.proofs.Bounds.{at_most, counts, few_outputs}
use Rattle.sq_words.proofs.Alls.{all_append, all_at}
use Rattle.sq_words.proofs.Lists.{has_item, map_append}
use Rattle.sq_points.specs.Above.{drop_above_arc, drop_on_arc}

-- ---- how many

pub boxes_low : (n : Network) → IsSound n → length n.boxes ≤ 128
boxes_low n sound = at_most 0 128 (length n.boxes) (counts n sound.within).1

pub outputs_low : (n : Network) → IsSound n → length n.wires.outputs ≤ 32
outputs_low n sound = subst (λ k. k ≤ 32) (sym sound.agrees.outputs) (few_outputs n sound)

pub points_low : (n : Network) → IsSound n → length (points_of n) ≤ 32
points_low n sound = few-points n sound

-- ---- the streams of arcs are there

all-mapped : (P : ℕ → Type 0) (f : ℕ → ℕ) (xs : List ℕ) → AllByRecursion P (map f xs) → AllByRecursion (λ x. P (f x)) xs
all-mapped P f [] h = _
all-mapped P f (x ∷ xs) h = (h.0, all-mapped P f xs h.1)

range-all : (P : ℕ → Type 0) (first len i : ℕ) → AllByRecursion P (range_with_len first len) → i < len → P (first + i)
range-all P first zero i h low = absurd (omega (arith, low))
range-all P first (suc len) zero h low = (let e : first ≡ first + 0 = omega arith in subst P e h.0)
range-all P first (suc len) (suc i) h low = (let e : first + 1 + i ≡ first + suc i = omega arith in subst P e (range-all P (first + 1) len i h.1 (omega (arith, low))))

all-inputs : (P : ℕ → Type 0) (bs : List BoxWires) → AllByRecursion (λ (b : BoxWires). All P b.inputs) bs → AllByRecursion P (flat_map (λ b. b.inputs) bs)
all-inputs P [] h = _
all-inputs P (b ∷ bs) h = all_append P b.inputs (flat_map (λ b. b.inputs) bs) (recursion_from_All P b.inputs h.0) (all-inputs P bs h.1)

few-at : (bs : List BoxWires) (at : ℕ) → AllByRecursion (λ b. length b.inputs ≤ 8) bs → length (inputs_at (slice_get bs at)) ≤ 8
few-at [] at h = omega arith
few-at (b ∷ bs) zero h = h.0
few-at (b ∷ bs) (suc at) h = few-at bs at h.1

-- ---- rows of the table

abbrev list_in : Option (List Feed) → List Feed
list_in None = []
list_in (Some fs) = fs

rows-at : (feeds : List (Vec Feed Global)) (actor : ℕ) → feeds_of feeds actor ≡ list_in (slice_get (map (λ f. f.items) feeds) actor)
rows-at [] actor = refl
rows-at (f ∷ feeds) zero = refl
rows-at (f ∷ feeds) (suc actor) = rows-at feeds actor

map-at : (F : ℕ → Feed) (P : Feed → Type 0) → ((s : ℕ) → P (F s)) → (ss : List ℕ) (port : ℕ) (f : Feed) → slice_get (map F ss) port ≡ Some f → P f
map-at F P each [] port f is = cc is
map-at F P each (s ∷ ss) zero f is = (let e : F s ≡ f = cc is in subst P e (each s))
map-at F P each (s ∷ ss) (suc port) f is = map-at F P each ss port f is

abbrev IsNoOutput : Actor → Type 0
IsNoOutput Sources = Unit {0}
IsNoOutput (Box b) = Unit {0}
IsNoOutput (WindowDrop w) = Unit {0}
IsNoOutput (OutputGate o) = ⊥

module _ (n : Network) (sound : IsSound n) where
  abbrev There : ℕ → Type 0
  There s = is_there (producer_of n.wires s) ≡ true

  pub arc_stream_there : (a : ℕ) → a < length (arcs_of n.wires) → is_there (producer_of n.wires (stream_on n.wires a)) ≡ true
  arc_stream_there a low =
      let all = all_append There _ n.wires.outputs
      (all-inputs There n.wires.boxes (recursion_from_All (λ (b : BoxWires). All There b.inputs) n.wires.boxes sound.agrees.wired)) (recursion_from_All There n.wires.outputs sound.agrees.shown) in
      let z : 0 + a ≡ a = omega arith in
      subst (λ x. There (stream_on n.wires x)) z (range-all (λ x. There (stream_on n.wires x)) 0 (length (arcs_of n.wires)) a
      (all-mapped There (stream_on n.wires) (numbers_to (length (arcs_of n.wires))) (subst (AllByRecursion There) (streams_are n) all)) low)

  pub place_stream_there : (place : DropAt) → IsAt n place → is_there (producer_of n.wires (place_stream n place)) ≡ true
  place_stream_there (at.Stream s) low = (let p = has_item (producers_of n.wires) s low in ap is_there p.1)
  place_stream_there (at.Arc a) low = arc_stream_there a low

  -- a fact of all feeds
  pub row-feeds : (P : Feed → Type 0) → ((a : ℕ) → P (arc_feed n a)) → ((p : DropPoint) → P (place_feed n p)) → (x : Actor) (port : ℕ) (f : Feed) → slice_get (feeds_row n x) port ≡ Some f → P f
  row-feeds P arc place Sources port f is = cc is
  row-feeds P arc place (Box b) port f is = map-at (arc_feed n) P arc (input_arcs_of n.wires b) port f is
  row-feeds P arc place (WindowDrop w) port f is = by (slice_get (points_of n) w) port is
    where
      by : (o : Option DropPoint) (port : ℕ) → slice_get (point_row n o) port ≡ Some f → P f
      by None port is = cc is
      by (Some p) zero is = (let e : place_feed n p ≡ f = cc is in subst P e (place p))
      by (Some p) (suc port) is = cc is
  row-feeds P arc place (OutputGate o) zero f is = (let e : arc_feed n (output_arc_at n.wires o) ≡ f = cc is in subst P e (arc (output_arc_at n.wires o)))
  row-feeds P arc place (OutputGate o) (suc port) f is = cc is

  few-in-row : (x : Actor) → length (feeds_row n x) ≤ 8
  few-in-row Sources = omega arith
  few-in-row (Box b) =
      let a = length-map (input_arcs_of n.wires b) (arc_feed n) in
      let c = length-map-range_with_len (arc_at n.wires b) 0 (length (inputs_of n.wires b)) in
      let f = few-at n.wires.boxes b (recursion_from_All (λ b. length b.inputs ≤ 8) n.wires.boxes (placed_of n sound).few_inputs) in
      omega (arith, a, c, f)
  few-in-row (WindowDrop w) = by (slice_get (points_of n) w)
    where
      by : (o : Option DropPoint) → length (point_row n o) ≤ 8
      by None = omega arith
      by (Some p) = omega arith
  few-in-row (OutputGate o) = omega arith

  giver-gives : (s : ℕ) → IsGiver (first_output n) (ops_of n) (seat_of_actor n (giver (producer_of n.wires s)).0)
  giver-gives s = by (giver (producer_of n.wires s)).0 (giver-there n sound s) (never-shown (producer_of n.wires s))
    where
      never-shown : (p : Option Producer) → IsNoOutput (giver p).0
      never-shown None = _
      never-shown (Some (Source s)) = _
      never-shown (Some (Port b q)) = _

      by : (x : Actor) → IsThere n x → IsNoOutput x → IsGiver (first_output n) (ops_of n) (seat_of_actor n x)
      by Sources t away = inr refl
      by (Box b) t away = inl (omega (arith, t))
      by (WindowDrop w) t away = inl (omega (arith, t))
      by (OutputGate o) t away = absurd away

  from-gives : (a : ℕ) → IsGiver (first_output n) (ops_of n) (seat_of_actor n (arc_from n a).0)
  from-gives a = by (drop_on_arc n a) (from-there n sound a)
    where
      by : (o : Option Drop) → IsThere n (from_drop n o a).0 → IsGiver (first_output n) (ops_of n) (seat_of_actor n (from_drop n o a).0)
      by None t = giver-gives (stream_on n.wires a)
      by (Some d) t = inl (omega (arith, t))

  module _ (feeds : List (Vec Feed Global)) (table : map (λ f. f.items) feeds ≡ feed_table n) where
    pub row-is : (actor : ℕ) → actor < ops_of n → feeds_of feeds actor ≡ feeds_row n (actor_at n actor)
    row-is actor low = rows-at feeds actor ∙ ap (λ t. list_in (slice_get t actor)) table ∙ ap list_in (range-get (λ k. feeds_row n (actor_at n k)) (ops_of n) actor low)

    pub count-is : length feeds ≡ ops_of n
    count-is =
        let a = length-map feeds (λ f. f.items) in
        let t = ap (λ (l : List (List Feed)). length l) table in
        let b = length-map-range_with_len (λ k. feeds_row n (actor_at n k)) 0 (ops_of n) in
        omega (arith, a, t, b)

    by-row : (P : List Feed → Type 0) → ((x : Actor) → P (feeds_row n x)) → P [] → (actor : ℕ) → P (feeds_of feeds actor)
    by-row P row none actor =
        elim (cases_lt actor (ops_of n)) [
          | inl low ↦ subst P (sym (row-is actor low)) (row (actor_at n actor))
          | inr past ↦ (let c = count-is in subst P (sym (no-feeds feeds actor (omega (arith, c, past)))) none)
        ]

    pub are-feeds : AreFeeds (first_output n) feeds
    are-feeds =
        record {
          few = (let c = count-is in let b = boxes_low n sound in let o = outputs_low n sound in let p = points_low n sound in omega (arith, c, b, o, p));
          ports = by-row (λ l. length l ≤ 8) few-in-row (omega arith);
          from_in = by-row (λ l. (port : ℕ) (f : Feed) → slice_get l port ≡ Some f → IsGiver (first_output n) (length feeds) f.from)
              (λ x port f is. subst (λ k. IsGiver (first_output n) k f.from) (sym count-is) (row-feeds (λ g. IsGiver (first_output n) (ops_of n) g.from) from-gives (λ p. giver-gives (place_stream n p.at)) x port f is))
              (λ port f is. cc is);
        }

    module _ (w : Wires) (joined : IsJoined feeds w) where
      ports-many : (actor : ℕ) → actor < ops_of n → length (arcs_read w actor) ≡ length (feeds_row n (actor_at n actor))
      ports-many actor low = joined.many actor ∙ ap (λ (l : List Feed). length l) (row-is actor low)

      none-in : (xs : List ℕ) → length xs ≡ 0 → xs ≡ []
      none-in [] h = refl
      none-in (x ∷ xs) h = absurd (omega (arith, h))

      pub measured-all : IsTabled n w
      measured-all =
          record {
            many = ports-many;
            each = λ actor port f low is.
                let inside = slice_get_within (feeds_row n (actor_at n actor)) port f is in
                let m = ports-many actor low in
                let a = has_item (arcs_read w actor) port (omega (arith, inside, m)) in
                let here : slice_get (feeds_of feeds actor) port ≡ Some f = ap (λ l. slice_get l port) (row-is actor low) ∙ is in
                subst (λ o. IsOf (wire_at w o) (Some f)) (sym a.1) (subst (IsOf (slice_get w.arcs.items a.0)) here (joined.fed actor port a.0 a.1));
            no_more = λ actor past. none-in (arcs_read w actor) (let c = count-is in joined.many actor ∙ ap (λ (l : List Feed). length l) (no-feeds feeds actor (omega (arith, c, past))));
          }

-- ---- a feed, and a row, as it is made

pub arc-feed-is : (n : Network) (a s : ℕ) (marked : Bool) (x : Actor × ℕ) (f : Feed) → f ≡ feed_from n s marked x → s ≡ stream_on n.wires a → marked ≡ is_some (drop_above_arc n a) → x ≡ arc_from n a → f ≡ arc_feed n a
arc-feed-is n a s marked x f is stream below from =
    is ∙ ap (λ z. feed_from n z marked x) stream ∙ ap (λ b. feed_from n (stream_on n.wires a) b x) below
    ∙ ap (feed_from n (stream_on n.wires a) (is_some (drop_above_arc n a))) from

pub feed-same : (from from' port : ℕ) (kinds kinds' : List Kind) (marked : Bool) → from ≡ from' → kinds ≡ kinds'
    → ◌≡◌ {A = Feed} (record { from = from; port = port; kinds = kinds; marked = marked }) (record { from = from'; port = port; kinds = kinds'; marked = marked })
feed-same from from' port kinds kinds' marked same alike =
    ap (λ k. record { from = k; port = port; kinds = kinds; marked = marked }) same ∙ ap (λ ks. record { from = from'; port = port; kinds = ks; marked = marked }) alike

pub from-drop : (n : Network) (a k : ℕ) → Some k ≡ option_map (λ d. d.0) (drop_on_arc n a) → arc_from n a ≡ (WindowDrop k, 0)
from-drop n a k = by (drop_on_arc n a)
  where
    by : (o : Option Drop) → Some k ≡ option_map (λ d. d.0) o → from_drop n o a ≡ (WindowDrop k, 0)
    by None is = cc is
    by (Some d) is = (let e : k ≡ d.0 = cc is in ap (λ w. (WindowDrop w, 0)) (sym e))

pub from-giver : (n : Network) (a : ℕ) → None ≡ option_map (λ (d : Drop). d.0) (drop_on_arc n a) → arc_from n a ≡ giver (producer_of n.wires (stream_on n.wires a))
from-giver n a = by (drop_on_arc n a)
  where
    by : (o : Option Drop) → None ≡ option_map (λ (d : Drop). d.0) o → from_drop n o a ≡ giver (producer_of n.wires (stream_on n.wires a))
    by None is = refl
    by (Some d) is = cc is

pub row-box : (n : Network) (actor : ℕ) → actor < length n.boxes → feeds_row n (actor_at n actor) ≡ feeds_row n (Box actor)
row-box n actor low = ap (feeds_row n) (box-at n actor low)

pub row-drop : (n : Network) (actor : ℕ) (p : DropPoint) → length n.boxes ≤ actor → slice_get (points_of n) (actor - length n.boxes) ≡ Some p → feeds_row n (actor_at n actor) ≡ place_feed n p ∷ []
row-drop n actor p high there =
    let low = slice_get_within (points_of n) (actor - length n.boxes) p there in
    let e : actor ≡ length n.boxes + (actor - length n.boxes) = omega (arith, high) in
    ap (λ k. feeds_row n (actor_at n k)) e ∙ ap (feeds_row n) (drop-at n (actor - length n.boxes) low) ∙ ap (point_row n) there

pub row-output : (n : Network) (actor : ℕ) → first_output n ≤ actor → actor < ops_of n → feeds_row n (actor_at n actor) ≡ arc_feed n (output_arc_at n.wires (actor - first_output n)) ∷ []
row-output n actor high low =
    let e : actor ≡ first_output n + (actor - first_output n) = omega (arith, high) in
    ap (λ k. feeds_row n (actor_at n k)) e ∙ ap (feeds_row n) (output-at n (actor - first_output n) (omega (arith, high, low)))

pub row-more : (f : ℕ → List Feed) (k : ℕ) (row : Vec Feed Global) (old new : List (Vec Feed Global)) → new ≡ old ++ row ∷ [] → map (λ v. v.items) old ≡ map f (numbers_to k) → row.items ≡ f k → map (λ v. v.items) new ≡ map f (numbers_to (k + 1))
row-more f k row old new more so-far is =
    numbered_more f k row.items (map (λ v. v.items) old) (map (λ v. v.items) new) (ap (map (λ v. v.items)) more ∙ map_append (λ (v : Vec Feed Global). v.items) old (row ∷ [])) so-far is

-- an input's arc is there
pub input-low : (n : Network) (at port a : ℕ) → at < length n.wires.boxes → slice_get (input_arcs_of n.wires at) port ≡ Some a → a < length (arcs_of n.wires)
input-low n at port a low is = (let b = has_item n.wires.boxes at low in all_at (λ x. x < length (arcs_of n.wires)) (input_arcs_of n.wires at) port a (arcs-there n.wires at b.0 b.1) is)
