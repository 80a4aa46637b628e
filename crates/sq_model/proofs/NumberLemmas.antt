-- Streams by number: the sources', then those of the boxes' ports.
use Rattle.std.proofs.Common.{◌≡◌, ◌∙◌, ap, sym, refl, subst, ℕ, zero, suc, ◌+◌, ◌-◌, ◌<◌, ◌≤◌, List, [], ◌∷◌, ◌++◌, map, length, take, Some, slice_get, arith, inl, inr, length-append}
use Rattle.std.specs.List.{sum_by}
use Rattle.std.proofs.lemmas.Bool.{cases_lt}
use Rattle.std.proofs.lemmas.List.Sums.{sum_by-cons, sum_by-take-le}
use Rattle.std.proofs.lemmas.List.FromFn.{length-map-range_with_len, map-range_with_len_more}
use Rattle.std.proofs.lemmas.Option.{slice_get_within}
use Rattle.sq_words.specs.Lists.{numbers_to}
use Rattle.sq_graph.specs.declared.BoxWires.{BoxWires}
use Rattle.sq_graph.specs.declared.Wiring.{Wiring}
use Rattle.sq_graph.specs.Wires.{producers_of, producer_of, stream_at}
use Rattle.sq_graph.specs.declared.Producer.{Producer}
use Rattle.sq_graph.specs.declared.Producer.TheVariants.{Source, Port}
use Rattle.sq_graph.proofs.Streams.{get_front, get_past, ports_from, stream_of_source, stream_of_box}

abbrev ports_before : ℕ → List BoxWires → ℕ
ports_before at boxes = sum_by (λ b. b.ports) (take at boxes)

one_more : (at : ℕ) (b : BoxWires) (boxes : List BoxWires) → ports_before (suc at) (b ∷ boxes) ≡ b.ports + ports_before at boxes
one_more at b boxes = sum_by-cons (λ (c : BoxWires). c.ports) b (take at boxes)

-- a port is given at its number
port_given : (boxes : List BoxWires) (a at port : ℕ) (b : BoxWires) → slice_get boxes at ≡ Some b → port < b.ports
    → slice_get (ports_from a boxes) (ports_before at boxes + port) ≡ Some (Port (a + at) port)
port_given [] a at port b there low = cc
port_given (c ∷ boxes) a zero port b there low =
    let same : c ≡ b = cc in
    let few : port < c.ports = (rw same low) in
    let here : 0 + port ≡ port = omega arith in
    let first : a ≡ a + 0 = omega arith in
    ap (slice_get (ports_from a (c ∷ boxes))) here ∙ get_front (Port a) c.ports port (ports_from (a + 1) boxes) few ∙ ap (λ k. Some (Port k port)) first
port_given (c ∷ boxes) a (suc at) port b there low =
    let more = one_more at c boxes in
    let past : c.ports ≤ ports_before (suc at) (c ∷ boxes) + port = omega (arith, more) in
    let left : ports_before (suc at) (c ∷ boxes) + port - c.ports ≡ ports_before at boxes + port = omega (arith, more) in
    let next : a + 1 + at ≡ a + suc at = omega arith in
    get_past (Port a) c.ports (ports_before (suc at) (c ∷ boxes) + port) (ports_from (a + 1) boxes) past
    ∙ ap (slice_get (ports_from (a + 1) boxes)) left
    ∙ port_given boxes (a + 1) at port b there low
    ∙ ap (λ k. Some (Port k port)) next

-- what is given at a number is the port of that number
port_found : (boxes : List BoxWires) (a s : ℕ) (p : Producer) → slice_get (ports_from a boxes) s ≡ Some p
    → (at port : ℕ) × (p ≡ Port (a + at) port) × (s ≡ ports_before at boxes + port)
port_found [] a s p given = cc
port_found (c ∷ boxes) a s p given =
    elim (cases_lt s c.ports) [
      | inl here ↦ (
          let is = sym (get_front (Port a) c.ports s (ports_from (a + 1) boxes) here) ∙ given in
          let first : a ≡ a + 0 = omega arith in
          (0, s, (let same : Port a s ≡ p = cc in sym same ∙ ap (λ k. Port k s) first), omega arith))
      | inr later ↦ (
          let more = port_found boxes (a + 1) (s - c.ports) p (sym (get_past (Port a) c.ports s (ports_from (a + 1) boxes) later) ∙ given) in
          let next : a + 1 + more.0 ≡ a + suc more.0 = omega arith in
          (suc more.0, more.1, more.2 ∙ ap (λ k. Port k more.1) next, (let far = more.3 in omega (arith, far, later, one_more more.0 c boxes))))
    ]

pub producer_at : (w : Wiring) (at port : ℕ) (b : BoxWires) → slice_get w.boxes at ≡ Some b → port < b.ports → producer_of w (stream_at w at port) ≡ Some (Port at port)
producer_at w at port b there low =
    let past : w.sources ≤ stream_at w at port = omega arith in
    let left : stream_at w at port - w.sources ≡ ports_before at w.boxes + port = omega arith in
    let first : 0 + at ≡ at = omega arith in
    stream_of_box w (stream_at w at port) past
    ∙ ap (slice_get (ports_from 0 w.boxes)) left
    ∙ port_given w.boxes 0 at port b there low
    ∙ ap (λ k. Some (Port k port)) first

-- the number of what gives a stream: a source's own, and a port's
abbrev pub IsNumber : Wiring → ℕ → Producer → Type 0
IsNumber w s (Source k) = (s ≡ k) × (s < w.sources)
IsNumber w s (Port at port) = s ≡ stream_at w at port

pub producer_has_number : (w : Wiring) (s : ℕ) (p : Producer) → producer_of w s ≡ Some p → IsNumber w s p
producer_has_number w s p given =
    elim (cases_lt s w.sources) [
      | inl low ↦ (let is : Source s ≡ p = (let e = sym (stream_of_source w s low) ∙ given in cc) in subst (IsNumber w s) is (refl, low))
      | inr high ↦ (
          let port = port_found w.boxes 0 (s - w.sources) p (sym (stream_of_box w s high) ∙ given) in
          let first : 0 + port.0 ≡ port.0 = omega arith in
          let is : Port port.0 port.1 ≡ p = ap (λ k. Port k port.1) (sym first) ∙ sym port.2 in
          let same : s ≡ stream_at w port.0 port.1 = (let far = port.3 in omega (arith, far, high)) in
          subst (IsNumber w s) is same)
    ]

-- how many streams there are
pub streams_count : (w : Wiring) → length (producers_of w) ≡ w.sources + sum_by (λ b. b.ports) w.boxes
streams_count w =
    length-append (map Source (numbers_to w.sources)) (ports_from 0 w.boxes)
    ∙ ap (λ k. k + length (ports_from 0 w.boxes)) (length-map-range_with_len Source 0 w.sources)
    ∙ ap (λ k. w.sources + k) (ports_count 0 w.boxes)
  where
    ports_count : (a : ℕ) (boxes : List BoxWires) → length (ports_from a boxes) ≡ sum_by (λ b. b.ports) boxes
    ports_count a [] = refl
    ports_count a (b ∷ boxes) =
        length-append (map (Port a) (numbers_to b.ports)) (ports_from (a + 1) boxes)
        ∙ ap (λ k. k + length (ports_from (a + 1) boxes)) (length-map-range_with_len (Port a) 0 b.ports)
        ∙ ap (λ k. b.ports + k) (ports_count (a + 1) boxes)
        ∙ sym (sum_by-cons (λ (c : BoxWires). c.ports) b boxes)

pub stream_at_within : (w : Wiring) (at : ℕ) → stream_at w at 0 ≤ length (producers_of w)
stream_at_within w at =
    let few = sum_by-take-le (λ (b : BoxWires). b.ports) w.boxes at in
    let count = streams_count w in
    omega (arith, few, count)

pub port_within : (w : Wiring) (at port : ℕ) (b : BoxWires) → slice_get w.boxes at ≡ Some b → port < b.ports → stream_at w at 0 + port < length (producers_of w)
port_within w at port b there low =
    let here = slice_get_within (producers_of w) (stream_at w at port) (Port at port) (producer_at w at port b there low) in
    omega (arith, here)

-- one more of what is worked out number by number
pub numbered_more : (f : ℕ → ℕ) (k x : ℕ) (old new : List ℕ) → new ≡ old ++ x ∷ [] → old ≡ map f (numbers_to k) → x ≡ f k → new ≡ map f (numbers_to (k + 1))
numbered_more f k x old new more so_far is =
    more ∙ ap (λ xs. xs ++ x ∷ []) so_far ∙ ap (λ y. map f (numbers_to k) ++ y ∷ []) is ∙ sym (map-range_with_len_more f 0 k k (omega arith))
