-- Operators by number, and that those that are read are there.
use Rattle.std.proofs.Common.{◌≡◌, ℕ, ◌+◌, ◌-◌, ◌<◌, ◌≤◌, ◌⊎◌, false, List, [], ◌∷◌, map, length, Option, Some, None, refl, ap, inl, inr, arith}
use Rattle.std.specs.Prelude.{slice_get, nat_lt}
use Rattle.std.specs.List.{AllByRecursion}
use Rattle.std.proofs.lemmas.Bool.{cases_lt}
use Rattle.std.proofs.lemmas.Bool.Decides.{nat_tests}
use Rattle.std.proofs.lemmas.Option.{slice_get_within}
use Rattle.sq_graph.specs.Wires.{producer_of, input_arcs_of, output_arc_at}
use Rattle.sq_graph.specs.declared.Producer.{Producer}
use Rattle.sq_graph.specs.declared.Producer.TheVariants.{Source, Port}
use Rattle.sq_graph.proofs.Producers.{producer_is}
use Rattle.sq_net.specs.declared.Network.{Network}
use Rattle.sq_net.specs.SoundNetworks.{IsSound}
use Rattle.sq_net.proofs.StreamLemmas.{boxes_count}
use Rattle.sq_place.specs.declared.DropPoint.{DropPoint}
use Rattle.sq_place.specs.Places.{stream_on}
use Rattle.sq_points.specs.Points.{points_of, drops_in}
use Rattle.sq_below.specs.ArcContents.{Drop}
use Rattle.sq_below.specs.Actors.{Actor, Sources, Box, WindowDrop, OutputGate, giver, from_drop, arc_from}
use Rattle.sq_start.specs.Numbers.{IsThere, first_output, ops_of, seat_of_actor, actor_at, place_stream, window_drop_reads, reads_of}
use Rattle.sq_start.proofs.PointLemmas.{first-found}
use Rattle.sq_words.proofs.Numbers.{nat_lt_true}
use Rattle.sq_points.specs.Above.{drop_on_arc}

not-less : (a b : ℕ) → b ≤ a → nat_lt a b ≡ false
not-less a b h = grind (arith, nat_tests)

pub box-at : (n : Network) (b : ℕ) → b < length n.boxes → actor_at n b ≡ Box b
box-at n b low = rw (nat_lt_true b (length n.boxes) low) refl

pub drop-at : (n : Network) (w : ℕ) → w < drops_in n → actor_at n (length n.boxes + w) ≡ WindowDrop w
drop-at n w low =
    let past = not-less (length n.boxes + w) (length n.boxes) (omega arith) in
    let before = nat_lt_true (length n.boxes + w) (first_output n) (omega (arith, low)) in
    let place : length n.boxes + w - length n.boxes ≡ w = omega arith in
    rw (past, before) (ap WindowDrop place)

pub output-at : (n : Network) (o : ℕ) → o < length n.wires.outputs → actor_at n (first_output n + o) ≡ OutputGate o
output-at n o low =
    let past = not-less (first_output n + o) (length n.boxes) (omega arith) in
    let behind = not-less (first_output n + o) (first_output n) (omega arith) in
    let before = nat_lt_true (first_output n + o) (ops_of n) (omega (arith, low)) in
    let place : first_output n + o - first_output n ≡ o = omega arith in
    rw (past, behind, before) (ap OutputGate place)

pub replay-at : (n : Network) → actor_at n (ops_of n) ≡ Sources
replay-at n =
    let past = not-less (ops_of n) (length n.boxes) (omega arith) in
    let behind = not-less (ops_of n) (first_output n) (omega arith) in
    let last = not-less (ops_of n) (ops_of n) (omega arith) in
    rw (past, behind, last) refl

-- an operator is a box, a drop or an output
abbrev pub Which : Network → ℕ → Type 0
Which n k =
    (k < length n.boxes) ⊎ (((w : ℕ) × (k ≡ length n.boxes + w) × (w < drops_in n)) ⊎ ((o : ℕ) × (k ≡ first_output n + o) × (o < length n.wires.outputs)))

pub which : (n : Network) (k : ℕ) → k < ops_of n → Which n k
which n k low =
    elim (cases_lt k (length n.boxes)) [
      | inl a ↦ inl a
      | inr a ↦ (
          elim (cases_lt k (first_output n)) [
            | inl b ↦ inr (inl (k - length n.boxes, omega (arith, a), omega (arith, a, b)))
            | inr b ↦ inr (inr (k - first_output n, omega (arith, b), omega (arith, b, low)))
          ])
    ]

pub there-at : (n : Network) (x : Actor) → IsThere n x → (seat_of_actor n x ≤ ops_of n) × (actor_at n (seat_of_actor n x) ≡ x)
there-at n Sources h = (omega arith, replay-at n)
there-at n (Box b) h = (omega (arith, h), box-at n b h)
there-at n (WindowDrop w) h = (omega (arith, h), drop-at n w h)
there-at n (OutputGate o) h = (omega (arith, h), output-at n o h)

-- what gives a stream is there
pub giver-there : (n : Network) → IsSound n → (s : ℕ) → IsThere n (giver (producer_of n.wires s)).0
giver-there n sound s = by (producer_of n.wires s) refl
  where
    by : (o : Option Producer) → producer_of n.wires s ≡ o → IsThere n (giver o).0
    by None e = tt
    by (Some (Source i)) e = tt
    by (Some (Port b q)) e =
        let p = producer_is n.wires s (Port b q) e in
        let low = slice_get_within n.wires.boxes b p.0 p.1.0 in
        let count = boxes_count n sound in
        omega (arith, low, count)

pub from-there : (n : Network) → IsSound n → (a : ℕ) → IsThere n (arc_from n a).0
from-there n sound a = by (drop_on_arc n a) refl
  where
    by : (o : Option Drop) → drop_on_arc n a ≡ o → IsThere n (from_drop n o a).0
    by None e = giver-there n sound (stream_on n.wires a)
    by (Some d) e =
        let f = first-found _ 0 (points_of n) d e in
        let low = slice_get_within (points_of n) f.place d.1 f.there in
        let is = f.number in
        omega (arith, is, low)

pub reads-there : (n : Network) → IsSound n → (x : Actor) → AllByRecursion (λ (y : Actor × ℕ). IsThere n y.0) (reads_of n x)
reads-there n sound Sources = tt
reads-there n sound (Box b) = each (input_arcs_of n.wires b)
  where
    each : (arcs : List ℕ) → AllByRecursion (λ (y : Actor × ℕ). IsThere n y.0) (map (arc_from n) arcs)
    each [] = tt
    each (a ∷ arcs) = (from-there n sound a, each arcs)
reads-there n sound (WindowDrop w) = by (slice_get (points_of n) w)
  where
    by : (o : Option DropPoint) → AllByRecursion (λ (y : Actor × ℕ). IsThere n y.0) (window_drop_reads n o)
    by None = tt
    by (Some p) = (giver-there n sound (place_stream n p.at), tt)
reads-there n sound (OutputGate o) = (from-there n sound (output_arc_at n.wires o), tt)
