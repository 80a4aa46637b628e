-- The late tuples of a BSort: it lies below no drop, so it is fed its full stream, and gives its box's.
use Rattle.std.proofs.Common.{◌≡◌, ℕ, zero, suc, ◌-◌, ◌<◌, eqb, Bool, true, false, ◌||◌, List, [], ◌∷◌, map, length, Option, Some, None, refl, ap, sym, ◌∙◌, subst, arith}
use Rattle.std.specs.Prelude.{slice_get}
use Rattle.std.specs.List.{sum_by, list_all}
use Rattle.std.proofs.lemmas.Bool.Decides.{nat_tests}
use Rattle.std.proofs.lemmas.List.Sums.{sum_by-cons}
use Rattle.std.proofs.lemmas.Option.{slice_get_within, slice_get_past}
use Rattle.sq_value.specs.declared.Tuple.{Tuple}
use Rattle.sq_lists.specs.Sorting.{bsort_list_of}
use Rattle.sq_item.specs.Things.{Thing}
use Rattle.sq_oper.specs.Entries.{at_port}
use Rattle.sq_oper.specs.Order.{merge, merge_two}
use Rattle.sq_oper.specs.Streams.{tuples_of, thing_of, things}
use Rattle.sq_graph.specs.declared.BoxKind.TheVariants as kinds
use Rattle.sq_graph.specs.declared.BoxWires.{BoxWires}
use Rattle.sq_graph.specs.Wires.{Arc, producers_of, arcs_of, inputs_at, inputs_of, input_arcs_of, stream_at}
use Rattle.sq_place.specs.Places.{stream_or, stream_on}
use Rattle.sq_place.proofs.Wires.{arcs-inputs}
use Rattle.sq_net.specs.declared.Body.TheVariants.{BSort}
use Rattle.sq_net.specs.declared.Node.{Node}
use Rattle.sq_net.specs.declared.Network.{Network}
use Rattle.sq_net.specs.SoundNetworks.{IsSound, kind_of_body, takes_within}
use Rattle.sq_net.proofs.StreamLemmas.{boxes_count}
use Rattle.sq_model.specs.FullStreams.{box_list, produced, full_on, full_arc, full_stream, full_streams, box_list_at}
use Rattle.sq_model.specs.FullCounts.{full_fed_of, late_at, late_by, late_of}
use Rattle.sq_model.specs.Shedding.{Replay}
use Rattle.sq_model.proofs.FullLemmas.{full_follows, full_listed}
use Rattle.sq_model.proofs.PlacedLemmas.{placed_of}
use Rattle.sq_below.specs.ArcContents.{standing, on_arc, box_fed}
use Rattle.sq_below.specs.Ports.{FuturesWiden}
use Rattle.sq_start.specs.Starts.{IsBox}
use Rattle.sq_start.proofs.BoxFacts.{Ready, none-above}
use Rattle.sq_start.proofs.PointLemmas.{arc-alone}
use Rattle.sq_words.specs.Lists.{contains_number, nth}
use Rattle.sq_words.proofs.Bools.{and_true}
use Rattle.sq_model.proofs.LateLemmas.{same_sum, bsort_gives}
use Rattle.sq_oper.proofs.PortLemmas.{of-port}
use Rattle.sq_words.proofs.Lists.{map_map, length_map}
use Rattle.sq_points.specs.Above.{drop_above_box}

-- ---- one stream

alone : (p : ℕ) (xs : List Tuple) → merge_two (at_port p (things xs)) [] ≡ at_port p (things xs)
alone p [] = refl
alone p (x ∷ xs) = ap (λ l. record { port = p; thing = thing_of x } ∷ l) (alone p xs)

one-stream : (ins : List (List Tuple)) → length ins ≡ 1 → tuples_of (merge (map things ins)) ≡ nth ins 0
one-stream [] h = absurd (omega (arith, h))
one-stream (xs ∷ []) h = ap tuples_of (alone 0 xs) ∙ of-port 0 xs
one-stream (xs ∷ ys ∷ ins) h = absurd (omega (arith, h))

one-sum : (f : ℕ → List Tuple) (ss : List ℕ) → length ss ≡ 1 → sum_by (λ s. length (f s)) ss ≡ length (nth (map f ss) 0)
one-sum f [] h = absurd (omega (arith, h))
one-sum f (s ∷ []) h = (let one = sum_by-cons (λ s. length (f s)) s [] in omega (arith, one))
one-sum f (s ∷ t ∷ ss) h = absurd (omega (arith, h))

one-of : (k : ℕ) → eqb k 1 ≡ true → k ≡ 1
one-of k h = grind (arith, nat_tests)

takes-at : (ws : List BoxWires) (bs : List Node) (at by slack : ℕ) (b : Node) → map (λ w. w.kind) ws ≡ map (λ b. kind_of_body b.body) bs → list_all (λ w. takes_within w.kind (length w.inputs)) ws ≡ true
    → slice_get bs at ≡ Some b → b.body ≡ BSort by slack → length (inputs_at (slice_get ws at)) ≡ 1
takes-at ws [] at by slack b same h there is = cc there
takes-at [] (y ∷ bs) at by slack b same h there is = cc same
takes-at (w ∷ ws) (y ∷ bs) zero by slack b same h there is =
    let e : y ≡ b = cc there in
    let k : w.kind ≡ kind_of_body y.body = cc same in
    let sort : w.kind ≡ kinds.BSort = k ∙ ap (λ (z : Node). kind_of_body z.body) e ∙ ap kind_of_body is in
    one-of (length w.inputs) (subst (λ z. takes_within z (length w.inputs) ≡ true) sort (and_true (takes_within w.kind (length w.inputs)) (list_all (λ w. takes_within w.kind (length w.inputs)) ws) h).0)
takes-at (w ∷ ws) (y ∷ bs) (suc at) by slack b same h there is =
    takes-at ws bs at by slack b (cc same) (and_true (takes_within w.kind (length w.inputs)) (list_all (λ w. takes_within w.kind (length w.inputs)) ws) h).1 there is

no_wires : BoxWires
no_wires = record { kind = kinds.BSort; inputs = []; ports = 0 }

agree-on : (f g : ℕ → List Thing) (xs : List ℕ) → ((c : ℕ) → contains_number xs c ≡ true → f c ≡ g c) → map f xs ≡ map g xs
agree-on f g [] same = refl
agree-on f g (x ∷ xs) same = ap (λ y. y ∷ map f xs) (same x (ap (λ b. b || contains_number xs x) (self x))) ∙ ap (λ ys. g x ∷ ys) (agree-on f g xs (λ c h. same c (ap (λ b. eqb x c || b) h ∙ last (eqb x c))))
  where
    self : (x : ℕ) → eqb x x ≡ true
    self x = grind (arith, nat_tests)

    last : (b : Bool) → (b || true) ≡ true
    last true = refl
    last false = refl

-- an arc has the full stream of its stream
full-arc-is : (n : Network) → IsSound n → (sources : List (List Tuple)) (a : ℕ) → full_arc n sources a ≡ full_stream n sources (stream_on n.wires a)
full-arc-is n sound sources a = of (slice_get (arcs_of n.wires) a)
  where
    none : [] ≡ full_stream n sources (length (producers_of n.wires))
    none = sym (full_follows n sources (placed_of n sound) (length (producers_of n.wires)) ∙ ap (produced n sources (full_stream n sources)) (slice_get_past (producers_of n.wires) (length (producers_of n.wires)) (omega arith)))

    of : (o : Option Arc) → full_on n sources o ≡ full_stream n sources (stream_or (length (producers_of n.wires)) o)
    of None = none
    of (Some x) = refl

-- a box below no drop is fed its full streams
fed-alone : (r : Replay) → IsSound r.network → (b : ℕ) → b < length r.network.wires.boxes → drop_above_box r.network b ≡ None
    → box_fed r b ≡ merge (map things (map (full_stream r.network r.sources) (inputs_of r.network.wires b)))
fed-alone r sound b low none =
    let arcs = input_arcs_of r.network.wires b in
    ap merge
    (agree-on (on_arc r) (λ c. things (full_stream r.network r.sources (stream_on r.network.wires c))) arcs
    (λ c has. ap (λ z. standing r z c) (arc-alone r.network b c low none has) ∙ ap things (full-arc-is r.network sound r.sources c))
    ∙ sym (map_map things (λ c. full_stream r.network r.sources (stream_on r.network.wires c)) arcs)
    ∙ ap (map things) (sym (map_map (full_stream r.network r.sources) (stream_on r.network.wires) arcs) ∙ ap (map (full_stream r.network r.sources)) (arcs-inputs r.network.wires b)))

pub late-sorted : Ready → FuturesWiden → (r : Replay) (b by slack : ℕ) (lags : List ℕ) (marked : Bool) → IsBox r b (BSort by slack) lags marked
    → length (tuples_of (box_fed r b)) - length (bsort_list_of by slack (tuples_of (box_fed r b))) ≡ late_of r.network r.sources b
late-sorted readies widen r b by slack lags marked h =
    let n = r.network in
    let sound = h.read.sound in
    let placed = placed_of n sound in
    let full = full_stream n r.sources in
    let ss = inputs_of n.wires b in
    let within = slice_get_within n.boxes b h.node h.there in
    let count = boxes_count n sound in
    let none = none-above readies widen r b (BSort by slack) lags marked h refl in
    let one : length ss ≡ 1 = takes-at n.wires.boxes n.boxes b by slack h.node sound.agrees.kinds (and_true _ _ sound.within).1 h.there h.is in
    let many : length (map full ss) ≡ 1 = length_map full ss ∙ one in
    let all : tuples_of (box_fed r b) ≡ nth (map full ss) 0 = ap tuples_of (fed-alone r sound b (omega (arith, within, count)) none) ∙ one-stream (map full ss) many in
    let taken : length (tuples_of (box_fed r b)) ≡ full_fed_of n r.sources b =
    ap (λ (xs : List Tuple). length xs) all ∙ sym (same_sum (nth (full_streams n r.sources)) full (λ s. full_listed n r.sources placed s) ss ∙ one-sum full ss one) in
    let s = stream_at n.wires b 0 in
    let stream : nth (full_streams n r.sources) s ≡ bsort_list_of by slack (nth (map full ss) 0) =
    full_listed n r.sources placed s
    ∙ full_follows n r.sources placed s
    ∙ ap (produced n r.sources full) (bsort_gives n sound b by slack h.node h.there h.is)
    ∙ ap (λ o. box_list_at o 0 (map full ss)) h.there
    ∙ ap (λ k. box_list k 0 (map full ss)) h.is in
    let given : length (bsort_list_of by slack (tuples_of (box_fed r b))) ≡ length (nth (full_streams n r.sources) s) =
    ap (λ xs. length (bsort_list_of by slack xs)) all ∙ ap (λ (xs : List Tuple). length xs) (sym stream) in
    ap (λ k. k - length (bsort_list_of by slack (tuples_of (box_fed r b)))) taken
    ∙ ap (λ k. full_fed_of n r.sources b - k) given
    ∙ sym (ap (λ o. late_at o (full_fed_of n r.sources b) (length (nth (full_streams n r.sources) s))) h.there ∙ ap (λ k. late_by k (full_fed_of n r.sources b) (length (nth (full_streams n r.sources) s))) h.is)
