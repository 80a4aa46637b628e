-- No level is above 1000: of each drop a road has 20 steps at most.
use Rattle.std.proofs.Common.{◌≡◌, ℕ, zero, suc, ◌+◌, ◌*◌, ◌%◌, ◌≤◌, ◌<◌, eqb, Bool, true, false, cond, List, [], ◌∷◌, ◌++◌, map, length, take, refl, arith}
use Rattle.std.proofs.lemmas.Bool.Decides.{nat_tests}
use Rattle.std.proofs.lemmas.List.Sums.{sum_by-cons}
use Rattle.std.proofs.lemmas.List.FromFn.{length-map-range_with_len}
use Rattle.std.specs.List.{zip, enumerate_from, count_by, AllByRecursion}
use Rattle.sq_words.specs.Lists.{insert_by, sort_by}
use Rattle.sq_road.specs.declared.Step.{Step}
use Rattle.sq_road.specs.Roads.{is_cheaper, steps_of, steps_of_drop, all_steps, level_in}
use Rattle.sq_plan.specs.Plans.{gain_of}
use Rattle.sq_plan.specs.Rates.{loads_of}
use Rattle.sq_place.specs.declared.DropPoint.{DropPoint}
use Rattle.sq_net.specs.declared.Network.{Network}
use Rattle.sq_points.specs.Points.{losses_below, loss_below, setting_of, points_of}
use Rattle.sq_model.specs.Shedding.{Replay, counts_in, batch_level}
use Rattle.sq_plan.specs.PlanRows.{taken_after}

module _ (w : ℕ) where
  abbrev bit : Bool → ℕ
  bit b = cond b 1 0

  -- how many steps are of drop w
  abbrev own : List Step → ℕ
  own ss = count_by (λ s. eqb s.drop w) ss

  abbrev one : Step → ℕ
  one s = bit (eqb s.drop w)

  own-cons : (s : Step) (ss : List Step) → own (s ∷ ss) ≡ one s + own ss
  own-cons s ss = sum_by-cons one s ss

  own-take : (r : ℕ) (ss : List Step) → own (take r ss) ≤ own ss
  own-take zero ss = omega arith
  own-take (suc r) [] = omega arith
  own-take (suc r) (s ∷ ss) =
      let more = own-take r ss in
      let a = own-cons s (take r ss) in
      let b = own-cons s ss in
      omega (arith, more, a, b)

  own-insert : (s : Step) (ss : List Step) → own (insert_by is_cheaper s ss) ≡ one s + own ss
  own-insert s [] = own-cons s []
  own-insert s (x ∷ ss) = by (own-insert s ss) (is_cheaper x s)
    where
      by : own (insert_by is_cheaper s ss) ≡ one s + own ss → (b : Bool) → own (cond b (x ∷ insert_by is_cheaper s ss) (s ∷ x ∷ ss)) ≡ one s + own (x ∷ ss)
      by more true =
          let a = own-cons x (insert_by is_cheaper s ss) in
          let b = own-cons x ss in
          omega (arith, more, a, b)
      by more false = own-cons s (x ∷ ss)

  own-sort : (ss : List Step) → own (sort_by is_cheaper ss) ≡ own ss
  own-sort [] = refl
  own-sort (s ∷ ss) =
      let a = own-insert s (sort_by is_cheaper ss) in
      let b = own-sort ss in
      let c = own-cons s ss in
      omega (arith, a, b, c)

  own-append : (xs ys : List Step) → own (xs ++ ys) ≡ own xs + own ys
  own-append [] ys = omega arith
  own-append (x ∷ xs) ys =
      let a = own-cons x (xs ++ ys) in
      let b = own-append xs ys in
      let c = own-cons x xs in
      omega (arith, a, b, c)

  abbrev step_with : ℕ → ℕ → ℕ × ℕ → Step
  step_with v gain l = record { drop = v; k = l.0; loss = l.1; gain = gain }

  one-low : (b : Bool) → bit b ≤ 1
  one-low true = omega arith
  one-low false = omega arith

  one-none : (b : Bool) → b ≡ false → bit b ≡ 0
  one-none true e = cc
  one-none false e = refl

  listed-low : (v gain k : ℕ) (losses : List ℕ) → own (map (step_with v gain) (enumerate_from k losses)) ≤ length losses
  listed-low v gain k [] = omega arith
  listed-low v gain k (l ∷ ls) =
      let more = listed-low v gain (k + 1) ls in
      let a = own-cons (step_with v gain (k, l)) (map (step_with v gain) (enumerate_from (k + 1) ls)) in
      let low = one-low (eqb v w) in
      omega (arith, more, a, low)

  listed-none : (v gain k : ℕ) (losses : List ℕ) → eqb v w ≡ false → own (map (step_with v gain) (enumerate_from k losses)) ≡ 0
  listed-none v gain k [] e = refl
  listed-none v gain k (l ∷ ls) e =
      let more = listed-none v gain (k + 1) ls e in
      let a = own-cons (step_with v gain (k, l)) (map (step_with v gain) (enumerate_from (k + 1) ls)) in
      let none = one-none (eqb v w) e in
      omega (arith, more, a, none)

  drop-low : (v gain : ℕ) (losses : List ℕ) → own (steps_of_drop v gain losses) ≤ length losses
  drop-low v zero losses = omega arith
  drop-low v (suc gain) losses = listed-low v (suc gain) 1 losses

  drop-none : (v gain : ℕ) (losses : List ℕ) → eqb v w ≡ false → own (steps_of_drop v gain losses) ≡ 0
  drop-none v zero losses e = refl
  drop-none v (suc gain) losses e = listed-none v (suc gain) 1 losses e

  abbrev all_of : ℕ → List ℕ → List (List ℕ) → List Step
  all_of k gains losses = all_steps (enumerate_from k (zip gains losses))

  behind-none : (k : ℕ) (gains : List ℕ) (losses : List (List ℕ)) → w < k → own (all_of k gains losses) ≡ 0
  behind-none k [] losses lt = refl
  behind-none k (g ∷ gs) [] lt = refl
  behind-none k (g ∷ gs) (l ∷ ls) lt =
      let a = own-append (steps_of_drop k g l) (all_of (k + 1) gs ls) in
      let other : eqb k w ≡ false = grind (arith, nat_tests, lt) in
      let b = drop-none k g l other in
      let c = behind-none (k + 1) gs ls (omega (arith, lt)) in
      omega (arith, a, b, c)

  all-low : (k : ℕ) (gains : List ℕ) (losses : List (List ℕ)) → AllByRecursion (λ l. length l ≡ 20) losses → own (all_of k gains losses) ≤ 20
  all-low k [] losses h = omega arith
  all-low k (g ∷ gs) [] h = omega arith
  all-low k (g ∷ gs) (l ∷ ls) h = by (all-low (k + 1) gs ls h.1) (eqb k w) refl
    where
      a : own (all_of k (g ∷ gs) (l ∷ ls)) ≡ own (steps_of_drop k g l) + own (all_of (k + 1) gs ls)
      a = own-append (steps_of_drop k g l) (all_of (k + 1) gs ls)

      by : own (all_of (k + 1) gs ls) ≤ 20 → (b : Bool) → eqb k w ≡ b → own (all_of k (g ∷ gs) (l ∷ ls)) ≤ 20
      by more true e =
          let same : k ≡ w = grind (arith, nat_tests, e) in
          let low = drop-low k g l in
          let long = h.0 in
          let rest = behind-none (k + 1) gs ls (omega (arith, same)) in
          omega (arith, a, low, long, rest)
      by more false e =
          let none = drop-none k g l e in
          omega (arith, a, none, more)

  level-low : (gains : List ℕ) (losses : List (List ℕ)) (r : ℕ) → AllByRecursion (λ l. length l ≡ 20) losses → level_in (steps_of gains losses) r w ≤ 1000
  level-low gains losses r h =
      let a = own-take r (steps_of gains losses) in
      let b = own-sort (all_of 0 gains losses) in
      let c = all-low 0 gains losses h in
      omega (arith, a, b, c)

twenty : (n : Network) (ps : List DropPoint) → AllByRecursion (λ l. length l ≡ 20) (map (λ (p : DropPoint). losses_below n p.outputs) ps)
twenty n [] = tt
twenty n (p ∷ ps) = (length-map-range_with_len (loss_below n p.outputs) 1 20, twenty n ps)

-- the levels of a replay are whole fifties, and 1000 at most
pub levels-low : (r : Replay) (e w : ℕ) → batch_level r e w ≤ 1000
levels-low r zero w = omega arith
levels-low r (suc e) w =
    let s = setting_of r.network r.entries in
    level-low w (map (gain_of (loads_of s.wires s.tolls (counts_in r e))) s.points) s.losses (taken_after s e (counts_in r e)) (twenty r.network (points_of r.network))

times-fifty : (c : ℕ) → (50 * c) % 50 ≡ 0
times-fifty c = omega arith

pub levels-whole : (r : Replay) (e w : ℕ) → batch_level r e w % 50 ≡ 0
levels-whole r zero w = refl
levels-whole r (suc e) w = times-fifty _
