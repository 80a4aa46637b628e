-- What falls with each step.
use Rattle.std.proofs.Common.{◌≡◌, ℕ, zero, suc, ◌+◌, ◌≤◌, cond, true, false, ◌||◌, List, [], ◌∷◌, ◌++◌, length, set, Option, Some, None, refl, ap, sym, ◌∙◌, arith}
use Rattle.std.specs.Prelude.{slice_get, is_some}
use Rattle.std.proofs.lemmas.Option.{same_Some}
use Rattle.sq_value.specs.declared.Value.{Value}
use Rattle.sq_item.specs.declared.Item.{Item}
use Rattle.sq_item.specs.declared.Mark.{Mark}
use Rattle.sq_item.specs.Things.{spread, mark_part, body_part}
use Rattle.sq_item.specs.SoundItems.{IsSoundItem}
use Rattle.sq_flow.specs.declared.seats.Seat.{Seat}
use Rattle.sq_flow.specs.Flows.{open_seats}

-- a sound item counts
pub weighs : (item : Item) → IsSoundItem item → 1 ≤ length (spread item)
weighs item s = by item.mark item.body s.some
  where
    by : (k : Option Mark) (b : Option (List Value)) → (is_some k || is_some b) ≡ true → 1 ≤ length (mark_part item.time k ++ body_part item.time b)
    by None None s = cc
    by None (Some f) s = omega arith
    by (Some k) None s = omega arith
    by (Some k) (Some f) s = omega arith

-- a seat that stays open
pub open-same : {O : Type 0} (seats : List (Seat O)) (i : ℕ) (s s' : Seat O) → slice_get seats i ≡ Some s → s'.tally.running ≡ s.tally.running → open_seats (set seats i s') ≡ open_seats seats
open-same [] i s s' is same = refl
open-same (x ∷ seats) zero s s' is same = let e : x ≡ s = same_Some x s is in ap (λ b. cond b 1 0 + open_seats seats) (same ∙ ap (λ z. z.tally.running) (sym e))
open-same (x ∷ seats) (suc i) s s' is same = ap (λ n. cond x.tally.running 1 0 + n) (open-same seats i s s' is same)

-- a seat that is closed
pub open-less : {O : Type 0} (seats : List (Seat O)) (i : ℕ) (s s' : Seat O) → slice_get seats i ≡ Some s → s.tally.running ≡ true → s'.tally.running ≡ false
    → open_seats (set seats i s') + 1 ≡ open_seats seats
open-less [] i s s' is was now = cc
open-less (x ∷ seats) zero s s' is was now =
    let e : x ≡ s = same_Some x s is in
    let f : x.tally.running ≡ true = ap (λ z. z.tally.running) e ∙ was in
    let one : ◌≡◌ {A = ℕ} (cond x.tally.running 1 0) 1 = ap (λ b. cond b 1 0) f in
    let none : ◌≡◌ {A = ℕ} (cond s'.tally.running 1 0) 0 = ap (λ b. cond b 1 0) now in
    omega (arith, one, none)
open-less (x ∷ seats) (suc i) s s' is was now = let r = open-less seats i s s' is was now in omega (arith, r)
