-- The losses of a drop: they don't fall from step to step, and are together what the outputs below it lose.
use Rattle.std.proofs.Common.{◌≡◌, ℕ, zero, suc, ◌+◌, ◌<◌, ◌≤◌, List, [], ◌∷◌, map, length, Option, None, slice_get, get_or, refl, sym, ◌∙◌, arith}
use Rattle.std.specs.Prelude.{slice_index}
use Rattle.std.specs.List.{AllByRecursion, sum, sum_by, range_with_len}
use Rattle.std.specs.List.Sorted.{IsNonDecreasing}
use Rattle.std.proofs.lemmas.List.Sums.{sum-map, get_or-le-sum_by, sum_by-le-sum_by}
use Rattle.std.proofs.lemmas.List.FromFn.{get_or-map-range_with_len, length-map-range_with_len, fill_by_all}
use Rattle.std.proofs.lemmas.List.Elements.{recursion_from_All}
use Rattle.sq_qos.specs.Graphs.{loss_step, loss_steps_of}
use Rattle.sq_net.specs.declared.Network.{Network}
use Rattle.sq_net.specs.declared.Output.{Output}
use Rattle.sq_points.specs.Points.{loss_at, loss_below, losses_below}
use Rattle.sq_points.specs.Losses.{loss_table, loss_in, losses_in, most_lost, IsFall, AreFalls}
use Rattle.sq_points.proofs.Sharing.{sum-agree, sums-swapped}

-- what is read of a table of falls is low
pub loss-low : (l : List ℕ) (k : ℕ) → IsFall l → k < length l → slice_index l k ≤ most_lost
loss-low l k fall lt =
    let part = get_or-le-sum_by (λ x. x) l k 0 lt in
    let all = fall.together in
    omega (arith, part, all)

pub are-losses : (table : List (List ℕ)) (os losses : List ℕ) → length losses ≡ 20 → ((k : ℕ) → k < 20 → get_or losses k 0 ≡ sum_by (loss_in table k) os) → losses ≡ losses_in table os
unfolding losses_in
are-losses table os losses long each = fill_by_all (λ k. sum_by (loss_in table k) os) losses 20 0 long each

-- the table read at an output and a step is what the output loses by the step
in-table : (outputs : List Output) (o k : ℕ) → k < 20 → loss_in (map (λ (o : Output). loss_steps_of o.graph o.weight) outputs) k o ≡ loss_at (slice_get outputs o) (k + 1)
in-table [] o k lt = refl
in-table (x ∷ xs) zero k lt = get_or-map-range_with_len (loss_step x.graph x.weight) 1 20 k (k + 1) 0 lt (omega arith)
in-table (x ∷ xs) (suc o) k lt = in-table xs o k lt

pub by-table : (n : Network) (os : List ℕ) → losses_in (loss_table n) os ≡ losses_below n os
unfolding losses_in
by-table n os = sym (are-losses (loss_table n) os (losses_below n os) (length-map-range_with_len (loss_below n os) 1 20)
    (λ k lt. get_or-map-range_with_len (loss_below n os) 1 20 k (k + 1) 0 lt (omega arith) ∙ sym (sum-agree (loss_in (loss_table n) k) (λ o. loss_at (slice_get n.outputs o) (k + 1)) os (λ o. in-table n.outputs o k lt))))

-- ---- each output

abbrev pub falls_of : Option Output → List ℕ
falls_of o = map (loss_at o) (range_with_len 1 20)

no-fall : IsFall (falls_of None)
no-fall = record {
  in_order = λ i j d le lt. (let a = get_or-map-range_with_len (loss_at None) 1 20 i (1 + i) d (omega (arith, le, lt)) refl in
      let b = get_or-map-range_with_len (loss_at None) 1 20 j (1 + j) d (omega (arith, lt)) refl in omega (arith, a, b));
  together = omega arith;
}

fall-at : (outputs : List Output) → AllByRecursion IsFall (map (λ (o : Output). loss_steps_of o.graph o.weight) outputs) → (o : ℕ) → IsFall (falls_of (slice_get outputs o))
fall-at [] h o = no-fall
fall-at (x ∷ xs) h zero = h.0
fall-at (x ∷ xs) h (suc o) = fall-at xs h.1 o

module _ (n : Network) (falls : AreFalls (loss_table n)) where
  fall : (o : ℕ) → IsFall (falls_of (slice_get n.outputs o))
  fall = fall-at n.outputs (recursion_from_All IsFall (loss_table n) falls)

  -- what an output loses by all steps
  abbrev pub lost_by : ℕ → ℕ
  lost_by o = sum (falls_of (slice_get n.outputs o))

  pub lost-low : (o : ℕ) → lost_by o ≤ most_lost
  lost-low o = (fall o).together

  later-more : (o i j : ℕ) → i ≤ j → j < 20 → loss_at (slice_get n.outputs o) (1 + i) ≤ loss_at (slice_get n.outputs o) (1 + j)
  later-more o i j le lt =
      let a = get_or-map-range_with_len (loss_at (slice_get n.outputs o)) 1 20 i (1 + i) 0 (omega (arith, le, lt)) refl in
      let b = get_or-map-range_with_len (loss_at (slice_get n.outputs o)) 1 20 j (1 + j) 0 lt refl in
      let many = length-map-range_with_len (loss_at (slice_get n.outputs o)) 1 20 in
      let up = (fall o).in_order i j 0 le (omega (arith, many, lt)) in
      omega (arith, a, b, up)

  pub in-order : (os : List ℕ) → IsNonDecreasing (losses_below n os)
  in-order os i j d le lt =
      let many = length-map-range_with_len (loss_below n os) 1 20 in
      let a = get_or-map-range_with_len (loss_below n os) 1 20 i (1 + i) d (omega (arith, le, lt, many)) refl in
      let b = get_or-map-range_with_len (loss_below n os) 1 20 j (1 + j) d (omega (arith, lt, many)) refl in
      let up = sum_by-le-sum_by (λ o. loss_at (slice_get n.outputs o) (1 + i)) (λ o. loss_at (slice_get n.outputs o) (1 + j)) os (λ o. later-more o i j le (omega (arith, lt, many))) in
      omega (arith, a, b, up)

  pub all-lost : (os : List ℕ) → sum (losses_below n os) ≡ sum_by lost_by os
  all-lost os =
      sum-map (loss_below n os) (range_with_len 1 20)
      ∙ sums-swapped (λ o k. loss_at (slice_get n.outputs o) k) os (range_with_len 1 20)
      ∙ sum-agree (λ o. sum_by (loss_at (slice_get n.outputs o)) (range_with_len 1 20)) lost_by os (λ o. sym (sum-map (loss_at (slice_get n.outputs o)) (range_with_len 1 20)))
