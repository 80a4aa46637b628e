-- An Aggregate and a Resample over slices: what they give there is what they give for wider ones.
use Rattle.std.proofs.Common.{◌≡◌, ℕ, ◌+◌, ◌-◌, ◌*◌, ◌/◌, ◌%◌, ◌≤◌, ◌<◌, leb, ltb, Bool, true, false, ◌&&◌, List, [], ◌∷◌, ◌++◌, map, refl, ap, sym, ◌∙◌, arith, inl, inr}
use Rattle.std.proofs.lemmas.Bool.{cases_lt}
use Rattle.std.proofs.lemmas.Bool.Decides.{nat_tests}
use Rattle.std.proofs.lemmas.Nat.{div-add-mod'}
use Rattle.std.specs.List.{AllByRecursion}
use Rattle.sq_value.specs.declared.Value.{Value}
use Rattle.sq_value.specs.declared.Tuple.{Tuple}
use Rattle.sq_words.specs.Lists.{numbers_to}
use Rattle.sq_words.proofs.Numbers.{eq_from, times_up}
use Rattle.sq_aggfn.specs.declared.WindowSpec.{WindowSpec}
use Rattle.sq_aggfn.specs.Windows.{start_of, started, covers}
use Rattle.sq_aggfn.proofs.StartLemmas.{starts_after, started_more}
use Rattle.sq_lists.specs.Windows.{in_window, in_group, groups_of, window_results, starts_of, aggregate_of}
use Rattle.sq_lists.specs.Resamples.{resampled, resample_of}
use Rattle.sq_place.proofs.Deciding.{filter-mapped}
use Rattle.sq_model.specs.Shedding.{last_of}
use Rattle.sq_shard.proofs.Windows.{late-window, last-filter}
use Rattle.sq_shard.proofs.Lists.{filter-under, filter-flat_map, filter-none, map-same, all-pass, flat_map-same, flat_map-map, flat_map-wider}
use Rattle.sq_slices.specs.Grids.{may_end}
use Rattle.sq_slices.specs.Slices.{in_slice, slice}
use Rattle.sq_slices.specs.Reaches.{starts}

-- a window that begins before a cut ends no further behind it than its size less an advance
pub ends-within : (w : WindowSpec) (b : ℕ) → may_end (starts w) b ≡ true → w.advance ≤ w.size → (k : ℕ) → start_of w k < b → start_of w k + w.size ≤ b + (w.size - w.advance)
ends-within w b cut longer k before =
    let parts : b / w.advance * w.advance + b % w.advance ≡ b = div-add-mod' b w.advance in
    let left = eq_from (b % w.advance) w.phase cut in
    let next = steps (b / w.advance) k w.advance (omega (arith, parts, left, before)) in
    omega (arith, parts, left, next, longer)
  where
    steps : (q k a : ℕ) → k * a < q * a → k * a + a ≤ q * a
    steps q k a h =
        elim (cases_lt k q) [
          | inl less ↦ (let up = times_up (k + 1) q a (omega (arith, less)) in let e = once-more k a in omega (arith, up, e))
          | inr past ↦ (let up = times_up q k a past in absurd (omega (arith, up, h)))
        ]
      where
        once-more : (k a : ℕ) → (k + 1) * a ≡ k * a + a
        once-more k a = grind arith

module _ (answers : List Tuple → List Value) (by : List ℕ) (w : WindowSpec) (moves : 1 ≤ w.advance) (a b lo hi : ℕ) (early : lo ≤ a)
    (late : (k : ℕ) → start_of w k < b → start_of w k + w.size ≤ hi) where
  abbrev results_in : List Tuple → ℕ → List Tuple
  results_in xs s = window_results answers by s (in_window w s xs)

  abbrev kept_in : List Tuple → ℕ → List Tuple
  kept_in xs s = slice a b (results_in xs s)

  constant : (c : Bool) (gs : List (List Value)) → c ≡ false → AllByRecursion (λ g. c ≡ false) gs
  constant c [] h = tt
  constant c (g ∷ gs) h = (h, constant c gs h)

  -- a window that begins outside gives nothing there
  outside : (xs : List Tuple) (s : ℕ) → (leb a s && ltb s b) ≡ false → kept_in xs s ≡ []
  outside xs s gone =
      let inside = in_window w s xs in
      let f : List Value → Tuple = λ g. record { time = s; fields = g ++ answers (in_group by g inside) } in
      filter-mapped (in_slice a b) f (groups_of by inside)
      ∙ ap (map f) (filter-none (λ g. leb a s && ltb s b) (groups_of by inside) (constant (leb a s && ltb s b) (groups_of by inside) gone))

  -- a window that begins inside lies in the wider slice
  covered : (s t : ℕ) → (leb a s && ltb s b) ≡ true → (s < b → s + w.size ≤ hi) → covers w s t ≡ true → (leb lo t && ltb t hi) ≡ true
  covered s t h end c = reach w.size h c (end (soon s h)) early
    where
      soon : (s : ℕ) → (leb a s && ltb s b) ≡ true → s < b
      soon s h = grind (arith, nat_tests)

      reach : (z : ℕ) → (leb a s && ltb s b) ≡ true → (leb s t && ltb t (s + z)) ≡ true → s + z ≤ hi → lo ≤ a → (leb lo t && ltb t hi) ≡ true
      reach z h c x y = grind (arith, nat_tests)

  kept-same : (xs : List Tuple) (k : ℕ) → kept_in xs (start_of w k) ≡ kept_in (slice lo hi xs) (start_of w k)
  kept-same xs k = by-case (leb a (start_of w k) && ltb (start_of w k) b) refl
    where
      by-case : (c : Bool) → (leb a (start_of w k) && ltb (start_of w k) b) ≡ c → kept_in xs (start_of w k) ≡ kept_in (slice lo hi xs) (start_of w k)
      by-case false gone = outside xs (start_of w k) gone ∙ sym (outside (slice lo hi xs) (start_of w k) gone)
      by-case true here =
          ap (λ zs. slice a b (window_results answers by (start_of w k) zs))
          (sym (filter-under (in_slice lo hi) (λ x. covers w (start_of w k) x.time) (λ x c. covered (start_of w k) x.time here (late k) c) xs))

  none-later : (xs : List Tuple) (k : ℕ) → started w (last_of xs) ≤ k → kept_in xs (start_of w k) ≡ []
  none-later xs k h = ap (λ zs. slice a b (window_results answers by (start_of w k) zs)) (late-window w (start_of w k) xs (starts_after w moves (last_of xs) k h))

  pub aggregate-sliced : (xs : List Tuple) → slice a b (aggregate_of answers by w xs) ≡ slice a b (aggregate_of answers by w (slice lo hi xs))
  aggregate-sliced xs =
      let ys = slice lo hi xs in
      let many = started w (last_of xs) in
      let few = started w (last_of ys) in
      filter-flat_map (in_slice a b) (results_in xs) (starts_of w xs)
      ∙ flat_map-map (kept_in xs) (start_of w) (numbers_to many)
      ∙ flat_map-same (λ k. kept_in xs (start_of w k)) (λ k. kept_in ys (start_of w k)) (λ k. kept-same xs k) (numbers_to many)
      ∙ flat_map-wider (λ k. kept_in ys (start_of w k)) 0 few many (started_more w moves (last_of ys) (last_of xs) (last-filter (in_slice lo hi) xs))
      (λ k h. none-later ys k (omega arith))
      ∙ sym (flat_map-map (kept_in ys) (start_of w) (numbers_to few))
      ∙ sym (filter-flat_map (in_slice a b) (results_in ys) (starts_of w ys))

-- each left tuple of the slice has the right ones near it in a slice that is wider by the size at both ends
module _ (answers : List Tuple → List Value) (size a b lo hi : ℕ) (early : lo ≤ a - size) (late : b + size ≤ hi) where
  nearby : (s t : ℕ) → (leb a s && ltb s b) ≡ true → leb ((s - t) + (t - s)) size ≡ true → (leb lo t && ltb t hi) ≡ true
  nearby s t h c = both (least early (left s t h c)) late
    where
      left : (s t : ℕ) → (leb a s && ltb s b) ≡ true → leb ((s - t) + (t - s)) size ≡ true → a ≤ t + size
      left s t h c = grind (arith, nat_tests)

      least : lo ≤ a - size → a ≤ t + size → lo ≤ t
      least h k = omega (arith, h, k)

      both : lo ≤ t → b + size ≤ hi → (leb lo t && ltb t hi) ≡ true
      both x y = let first = h in let second = c in grind (arith, nat_tests)

  pub resample-sliced : (ls rs : List Tuple) → slice a b (resample_of answers size ls rs) ≡ resample_of answers size (slice a b ls) (slice lo hi rs)
  resample-sliced ls rs =
      filter-mapped (in_slice a b) (resampled answers size rs) ls
      ∙ map-same (λ x. in_slice a b x ≡ true) (resampled answers size rs) (resampled answers size (slice lo hi rs))
      (λ x here. ap (λ zs. let t : Tuple = record { time = x.time; fields = x.fields ++ answers zs } in t) (sym (filter-under (in_slice lo hi) (λ y. leb ((x.time - y.time) + (y.time - x.time)) size) (λ y c. nearby x.time y.time here c) rs)))
      (slice a b ls) (all-pass (in_slice a b) ls)
