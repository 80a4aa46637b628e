-- Where drops stand, and the streams of arcs.
use Rattle.std.proofs.Common.{◌≡◌, ℕ, zero, suc, ◌<◌, eqb, true, ◌&&◌, List, [], ◌∷◌, ◌++◌, length, Option, Some, None, option_map, refl, ap, ◌∙◌, zero-le, arith}
use Rattle.std.specs.Prelude.{slice_get, slice_index_or, is_some, IfSome}
use Rattle.std.specs.List.{flat_map}
use Rattle.std.proofs.lemmas.List.FromFn.{length-map-range_with_len, get_or-map-range_with_len}
use Rattle.sq_graph.specs.declared.Wiring.{Wiring}
use Rattle.sq_graph.specs.Wires.{arcs_of}
use Rattle.sq_place.specs.declared.DropAt.TheVariants as at
use Rattle.sq_place.specs.declared.DropPoint.{DropPoint}
use Rattle.sq_place.specs.Places.{stream_on, arc_numbers, own_arcs}
use Rattle.sq_place.proofs.Lists.{contains-range}
use Rattle.sq_place.proofs.Numbering.{streams-are}
use Rattle.sq_net.specs.declared.Network.{Network}
use Rattle.sq_points.specs.Above.{found_at}
use Rattle.sq_core.specs.Table.{streams_on}
use Rattle.sq_words.specs.Lists.{contains_number}
use Rattle.sq_words.proofs.Bools.{or_false}
use Rattle.sq_words.proofs.Lists.{contains_filter}

-- all arcs of a stream are its own
pub owns_stream : (w : Wiring) (s a : ℕ) → a < length (arcs_of w) → contains_number (own_arcs w (at.Stream s)) a ≡ eqb (stream_on w a) s
owns_stream w s a low = contains_filter (λ x. eqb (stream_on w x) s) (arc_numbers w) a ∙ ap (λ b. b && eqb (stream_on w a) s) (contains-range 0 (length (arcs_of w)) a zero-le (omega (arith, low)))

pub owns_arc : (w : Wiring) (x a : ℕ) → contains_number (own_arcs w (at.Arc x)) a ≡ eqb x a
owns_arc w x a = or_false (eqb x a)

pub streams_are : (n : Network) → flat_map (λ b. b.inputs) n.wires.boxes ++ n.wires.outputs ≡ streams_on n
streams_are n = streams-are n.wires

pub streams_many : (n : Network) → length (streams_on n) ≡ length (arcs_of n.wires)
streams_many n = length-map-range_with_len (stream_on n.wires) 0 (length (arcs_of n.wires))

pub stream_at : (n : Network) (a d : ℕ) → a < length (arcs_of n.wires) → slice_index_or (streams_on n) a d ≡ stream_on n.wires a
stream_at n a d low = get_or-map-range_with_len (stream_on n.wires) 0 (length (arcs_of n.wires)) a a d low (omega arith)

-- the number of a drop among these finds it
module _ (number : ℕ) where
  there : (ps : List DropPoint) (w : ℕ) → w < length ps → is_some {T = ℕ × DropPoint} (option_map (λ p. (number, p)) (slice_get ps w)) ≡ true
  there [] w low = absurd (omega (arith, low))
  there (p ∷ ps) zero low = refl
  there (p ∷ ps) (suc w) low = there ps w (omega (arith, low))

pub is_found : (ps : List DropPoint) (o : Option ℕ) → IfSome o (λ w. w < length ps) → is_some (found_at o ps) ≡ is_some o
is_found ps None inside = refl
is_found ps (Some w) inside = there w ps w inside
