-- The plans of a slice are those of the whole, as far as there are tuples behind them.
use Rattle.std.proofs.Common.{◌≡◌, ℕ, ◌+◌, ◌-◌, ◌*◌, ◌/◌, ◌<◌, ◌≤◌, min, leb, ltb, Bool, true, false, cond, ◌&&◌, List, [], ◌∷◌, Option, Some, None, refl, ap, sym, ◌∙◌, arith, inl, inr}
use Rattle.std.specs.Prelude.{◌==◌}
use Rattle.std.specs.List.{filter, flat_map}
use Rattle.std.proofs.Math.Nat.{div-mul-le_self}
use Rattle.std.proofs.lemmas.Bool.{cases_lt}
use Rattle.std.proofs.lemmas.Bool.Decides.{nat_tests}
use Rattle.sq_value.specs.declared.Tuple.{Tuple}
use Rattle.sq_words.specs.Lists.{numbers_to}
use Rattle.sq_words.proofs.Bools.{and_true}
use Rattle.sq_words.proofs.Numbers.{leb_from, times_up}
use Rattle.sq_road.specs.Roads.{road_row}
use Rattle.sq_plan.specs.declared.closing.Shown.{Shown}
use Rattle.sq_plan.specs.Rates.{load_of_all}
use Rattle.sq_plan.specs.Plans.{Setting, road_for, capacity_at}
use Rattle.sq_plan.specs.PlanRows.{is_quiet, shown_with, shown_from}
use Rattle.sq_points.specs.Points.{setting_of}
use Rattle.sq_model.specs.PlanLines.{last_epoch}
use Rattle.sq_model.specs.Shedding.{Replay, counts_in}
use Rattle.sq_shard.proofs.Lists.{filter-flat_map, flat_map-same, flat_map-wider}
use Rattle.sq_slices.specs.Drops.{of_part, epoch_before, plans_begun, PlansAgree, SlicesPlanTheSame}
use Rattle.sq_slices.proofs.DropLemmas.{counts-same}

-- a plan is for its epoch, so where that doesn't pass there is none
plan-passes : (s : Setting) (e : ℕ) (counts : List ℕ) (f : Shown → Bool) → ((p : Shown) → p.epoch ≡ e + 1 → f p ≡ false) → filter f (shown_from s e counts) ≡ []
plan-passes s e counts f none = by_quiet (is_quiet counts)
  where
    by_taken : (b : Bool) (p : Shown) → p.epoch ≡ e + 1 → filter f (cond b [] (p ∷ [])) ≡ []
    by_taken true p is = refl
    by_taken false p is = ap (λ c. cond c (p ∷ []) []) (none p is)

    by_capacity : (o : Option ℕ) → filter f (shown_with s (e + 1) counts o) ≡ []
    by_capacity None = refl
    by_capacity (Some c) =
        let load = load_of_all s.wires s.tolls counts in
        let row = road_row (road_for s counts) load c in
        by_taken (row.taken == 0) (record { epoch = e + 1; load = load; capacity = c; saved = row.saved; fits = row.fits }) refl

    by_quiet : (b : Bool) → filter f (cond b [] (shown_with s (e + 1) counts (capacity_at s.entries (e + 1)))) ≡ []
    by_quiet true = refl
    by_quiet false = by_capacity (capacity_at s.entries (e + 1))

module _ (r : Replay) (part : List (List Tuple)) (a b : ℕ) (agree : PlansAgree r part a b) where
  abbrev E : ℕ
  E = r.network.epoch

  abbrev v : Replay
  v = of_part r part

  abbrev begins : Shown → Bool
  begins p = leb a (p.epoch * E) && ltb (p.epoch * E) b

  -- the plans of the epoch behind one, where it begins in the slice
  abbrev plan : Replay → ℕ → List Shown
  plan x e = filter begins (shown_from (setting_of r.network r.entries) e (counts_in x e))

  plan-outside : (x : Replay) (e : ℕ) → (leb a ((e + 1) * E) && ltb ((e + 1) * E) b) ≡ false → plan x e ≡ []
  plan-outside x e out = plan-passes (setting_of r.network r.entries) e (counts_in x e) begins (λ p is. ap (λ k. leb a (k * E) && ltb (k * E) b) is ∙ out)

  once : (e k : ℕ) → (e + 1) * k ≡ e * k + k
  once e k = grind arith

  plan-same : (e : ℕ) → plan r e ≡ plan v e
  plan-same e = by (leb a ((e + 1) * E) && ltb ((e + 1) * E) b) refl
    where
      less : (t b : ℕ) → ltb t b ≡ true → t < b
      less t b h = grind (arith, nat_tests)

      -- the epoch is that before the slice or a later one
      from : a ≤ (e + 1) * E → epoch_before r a ≤ e * E
      from low = times_up (a / E - 1) e E (reach low)
        where
          reach : a ≤ (e + 1) * E → a / E - 1 ≤ e
          reach low =
              elim (cases_lt (e + 1) (a / E)) [
                | inl more ↦ (
                    let up = times_up (e + 1 + 1) (a / E) E (omega (arith, more)) in
                    let whole = div-mul-le_self a E in
                    let next = once (e + 1) E in
                    let some = agree.0 in
                    absurd (omega (arith, up, whole, next, some, low)))
                | inr past ↦ omega (arith, past)
              ]

      by : (c : Bool) → (leb a ((e + 1) * E) && ltb ((e + 1) * E) b) ≡ c → plan r e ≡ plan v e
      by true here =
          let parts = and_true (leb a ((e + 1) * E)) (ltb ((e + 1) * E) b) here in
          let low = leb_from a ((e + 1) * E) parts.0 in
          let high = less ((e + 1) * E) b parts.1 in
          ap (λ counts. filter begins (shown_from (setting_of r.network r.entries) e counts))
          (counts-same (epoch_before r a) b e E agree.0 (from low) (omega (arith, high)) r.sources part agree.1 agree.2)
      by false out = plan-outside r e out ∙ sym (plan-outside v e out)

  -- plans of epochs behind the slice's end aren't the slice's
  plan-late : (x : Replay) (e : ℕ) → b ≤ (e + 1) * E → plan x e ≡ []
  plan-late x e late = plan-outside x e (no a b ((e + 1) * E) late)
    where
      no : (a b t : ℕ) → b ≤ t → (leb a t && ltb t b) ≡ false
      no a b t h = grind (arith, nat_tests)

  -- where one list of epochs is longer, the slice ends before those that it has more
  longer : (m n : ℕ) → m < n → min b ((m + 1) * E) ≡ min b ((n + 1) * E) → flat_map (plan v) (numbers_to n) ≡ flat_map (plan v) (numbers_to m)
  longer m n less same = flat_map-wider (plan v) 0 m n (omega (arith, less)) (λ k late. plan-late v k (let up = times_up (m + 1) (k + 1) E (omega (arith, late)) in let e = end in omega (arith, up, e)))
    where
      end : b ≤ (m + 1) * E
      end =
          let up = times_up (m + 1 + 1) (n + 1) E (omega (arith, less)) in
          let next = once (m + 1) E in
          let some = agree.0 in
          omega (arith, up, next, some, same)

  lists-same : flat_map (plan v) (numbers_to (last_epoch r)) ≡ flat_map (plan v) (numbers_to (last_epoch v))
  lists-same =
      elim (cases_lt (last_epoch r) (last_epoch v)) [
        | inl less ↦ sym (longer (last_epoch r) (last_epoch v) less agree.3)
        | inr past ↦ elim (cases_lt (last_epoch v) (last_epoch r)) [
          | inl less ↦ longer (last_epoch v) (last_epoch r) less (sym agree.3)
          | inr more ↦ ap (λ n. flat_map (plan v) (numbers_to n)) (let e : last_epoch r ≡ last_epoch v = omega (arith, past, more) in e)
        ]
      ]

  pub plans-same : plans_begun r a b ≡ plans_begun v a b
  plans-same =
      filter-flat_map begins (λ e. shown_from (setting_of r.network r.entries) e (counts_in r e)) (numbers_to (last_epoch r))
      ∙ flat_map-same (plan r) (plan v) plan-same (numbers_to (last_epoch r)) ∙ lists-same
      ∙ sym (filter-flat_map begins (λ e. shown_from (setting_of r.network r.entries) e (counts_in v e)) (numbers_to (last_epoch v)))

pub plan-same-of : (r : Replay) → SlicesPlanTheSame r
plan-same-of r part a b agree = plans-same r part a b agree
