-- What gives the stream of a number: the streams are counted box by box.
use Rattle.std.proofs.Common.{◌≡◌, ◌∙◌, ap, sym, ℕ, zero, suc, ◌+◌, ◌-◌, ◌<◌, ◌≤◌, List, ◌∷◌, ◌++◌, map, length, drop, get_or, slice_get, Some, arith}
use Rattle.std.specs.List.{flat_map, enumerate_from, range_with_len}
use Rattle.std.proofs.lemmas.List.{drop_more}
use Rattle.sq_words.specs.Lists.{numbers_to}
use Rattle.sq_graph.specs.declared.BoxWires.{BoxWires}
use Rattle.sq_graph.specs.declared.Wiring.{Wiring}
use Rattle.sq_graph.specs.Wires.{producer_of}
use Rattle.sq_graph.specs.declared.Producer.{Producer}
use Rattle.sq_graph.specs.declared.Producer.TheVariants.{Source, Port}

get_front_from : {X : Type 0} (f : ℕ → X) (a n s : ℕ) (rest : List X) → s < n → slice_get (map f (range_with_len a n) ++ rest) s ≡ Some (f (a + s))
get_front_from f a zero s rest h = absurd (omega arith)
get_front_from f a (suc n) zero rest h = (let same : a ≡ a + 0 = omega arith in ap (λ k. Some (f k)) same)
get_front_from f a (suc n) (suc s) rest h =
    let low : s < n = omega arith in
    let same : a + 1 + s ≡ a + suc s = omega arith in
    get_front_from f (a + 1) n s rest low ∙ ap (λ k. Some (f k)) same

-- the first n items of a list that begins with the images of 0, 1, .. below n, and what comes after them
pub get_front : {X : Type 0} (f : ℕ → X) (n s : ℕ) (rest : List X) → s < n → slice_get (map f (numbers_to n) ++ rest) s ≡ Some (f s)
get_front f n s rest h = get_front_from f 0 n s rest h ∙ (let same : 0 + s ≡ s = omega arith in ap (λ k. Some (f k)) same)

get_past_from : {X : Type 0} (f : ℕ → X) (a n s : ℕ) (rest : List X) → n ≤ s → slice_get (map f (range_with_len a n) ++ rest) s ≡ slice_get rest (s - n)
get_past_from f a zero s rest h = (let same : s ≡ s - 0 = omega arith in ap (slice_get rest) same)
get_past_from f a (suc n) zero rest h = absurd (omega arith)
get_past_from f a (suc n) (suc s) rest h =
    let low : n ≤ s = omega arith in
    let same : s - n ≡ suc s - suc n = omega arith in
    get_past_from f (a + 1) n s rest low ∙ ap (slice_get rest) same

pub get_past : {X : Type 0} (f : ℕ → X) (n s : ℕ) (rest : List X) → n ≤ s → slice_get (map f (numbers_to n) ++ rest) s ≡ slice_get rest (s - n)
get_past f n s rest h = get_past_from f 0 n s rest h

-- what gives the streams of the boxes, from box `at` on
abbrev pub ports_from : ℕ → List BoxWires → List Producer
ports_from at boxes = flat_map (λ b. map (Port b.0) (numbers_to (b.1).ports)) (enumerate_from at boxes)

pub stream_of_source : (w : Wiring) (s : ℕ) → s < w.sources → producer_of w s ≡ Some (Source s)
stream_of_source w s h = get_front Source w.sources s (ports_from 0 w.boxes) h

pub stream_of_box : (w : Wiring) (s : ℕ) → w.sources ≤ s → producer_of w s ≡ slice_get (ports_from 0 w.boxes) (s - w.sources)
stream_of_box w s h = get_past Source w.sources s (ports_from 0 w.boxes) h

pub port_here : (boxes : List BoxWires) (at left : ℕ) (b : BoxWires) → at < length boxes → b ≡ get_or boxes at b → left < b.ports → slice_get (ports_from at (drop at boxes)) left ≡ Some (Port at left)
port_here boxes at left b low is h =
    let more : drop at boxes ≡ b ∷ drop (at + 1) boxes = drop_more boxes at b low ∙ ap (λ x. x ∷ drop (at + 1) boxes) (sym is) in
    ap (λ bs. slice_get (ports_from at bs) left) more ∙ get_front (Port at) b.ports left (ports_from (at + 1) (drop (at + 1) boxes)) h

pub port_later : (boxes : List BoxWires) (at left : ℕ) (b : BoxWires) → at < length boxes → b ≡ get_or boxes at b → b.ports ≤ left → slice_get (ports_from at (drop at boxes)) left ≡ slice_get (ports_from (at + 1) (drop (at + 1) boxes)) (left - b.ports)
port_later boxes at left b low is h =
    let more : drop at boxes ≡ b ∷ drop (at + 1) boxes = drop_more boxes at b low ∙ ap (λ x. x ∷ drop (at + 1) boxes) (sym is) in
    ap (λ bs. slice_get (ports_from at bs) left) more ∙ get_past (Port at) b.ports left (ports_from (at + 1) (drop (at + 1) boxes)) h
