-- What gives a stream is there: a source, or a port of a box.
use Rattle.std.proofs.Common.{◌≡◌, ◌∙◌, sym, ap, refl, ℕ, zero, suc, ◌+◌, ◌<◌, ◌≤◌, List, [], ◌∷◌, map, Some, slice_get, arith}
use Rattle.std.specs.List.{AllByRecursion, enumerate_from, flat_map, range_with_len}
use Rattle.sq_words.specs.Lists.{numbers_to}
use Rattle.sq_graph.specs.declared.BoxWires.{BoxWires}
use Rattle.sq_graph.specs.declared.Wiring.{Wiring}
use Rattle.sq_graph.specs.Wires.{producers_of, producer_of}
use Rattle.sq_graph.specs.declared.Producer.{Producer}
use Rattle.sq_graph.specs.declared.Producer.TheVariants.{Source, Port}
use Rattle.sq_graph.proofs.Givers.{ports_of_box}
use Rattle.sq_words.proofs.Alls.{all_append, all_at}

-- a source of this wiring, or a port of one of its boxes
abbrev pub IsProducer : Wiring → Producer → Type 0
IsProducer w (Source s) = s < w.sources
IsProducer w (Port at port) = (b : BoxWires) × ((slice_get w.boxes at ≡ Some b) × (port < b.ports))

sources_are : (w : Wiring) (a n : ℕ) → a + n ≤ w.sources → AllByRecursion (IsProducer w) (map Source (range_with_len a n))
sources_are w a zero h = tt
sources_are w a (suc n) h = (omega arith, sources_are w (a + 1) n (omega arith))

ports_are : (w : Wiring) (at : ℕ) (b : BoxWires) → slice_get w.boxes at ≡ Some b → (a n : ℕ) → a + n ≤ b.ports → AllByRecursion (IsProducer w) (map (Port at) (range_with_len a n))
ports_are w at b there a zero h = tt
ports_are w at b there a (suc n) h = ((b, (there, omega arith)), ports_are w at b there (a + 1) n (omega arith))

boxes_are : (w : Wiring) (i : ℕ) (boxes : List BoxWires) → ((j : ℕ) (b : BoxWires) → slice_get boxes j ≡ Some b → slice_get w.boxes (i + j) ≡ Some b)
    → AllByRecursion (IsProducer w) (flat_map ports_of_box (enumerate_from i boxes))
boxes_are w i [] h = tt
boxes_are w i (b ∷ boxes) h =
    let here : i + 0 ≡ i = omega arith in
    let there : slice_get w.boxes i ≡ Some b = ap (λ (k : ℕ). slice_get w.boxes k) (sym here) ∙ h zero b refl in
    all_append (IsProducer w) (ports_of_box (i, b)) (flat_map ports_of_box (enumerate_from (i + 1) boxes))
    (ports_are w i b there 0 b.ports (omega arith))
    (boxes_are w (i + 1) boxes (λ j c e. (let next : (i + 1) + j ≡ i + suc j = omega arith in ap (λ (k : ℕ). slice_get w.boxes k) next ∙ h (suc j) c e)))

pub producer_is : (w : Wiring) (s : ℕ) (p : Producer) → producer_of w s ≡ Some p → IsProducer w p
producer_is w s p e =
    all_at (IsProducer w) (producers_of w) s p
    (all_append (IsProducer w) (map Source (numbers_to w.sources)) (flat_map ports_of_box (enumerate_from 0 w.boxes))
    (sources_are w 0 w.sources (omega arith))
    (boxes_are w 0 w.boxes (λ j b e. (let same : 0 + j ≡ j = omega arith in ap (λ (k : ℕ). slice_get w.boxes k) same ∙ e))))
    e
