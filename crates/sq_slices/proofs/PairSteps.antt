-- A Join over a slice: a pair is of the time of its later tuple, and the other came at most the size before it.
use Rattle.std.proofs.Common.{◌≡◌, ℕ, ◌+◌, ◌-◌, ◌≤◌, ◌<◌, eqb, leb, ltb, max, Bool, true, false, not, cond, ◌&&◌, List, [], ◌∷◌, ◌++◌, map, refl, ap, sym, ◌∙◌, arith, append-nil}
use Rattle.std.proofs.lemmas.Bool.Decides.{nat_tests}
use Rattle.std.proofs.lemmas.List.Elements.{filter-append}
use Rattle.std.specs.Prelude.{if◌then◌else◌}
use Rattle.std.specs.List.{filter}
use Rattle.sq_value.specs.declared.Tuple.{Tuple}
use Rattle.sq_expr.specs.Trees.{Expr}
use Rattle.sq_expr.specs.Expressions.{holds_of, pair_of}
use Rattle.sq_lists.specs.Merge.{PortTuple, merge_tuples}
use Rattle.sq_lists.specs.Pairs.{meets, paired, pairs_of, pairs_from, join_list_of}
use Rattle.sq_model.proofs.Alls.{All-every}
use Rattle.sq_place.proofs.Deciding.{filter-mapped}
use Rattle.sq_shard.proofs.Lists.{filter-none}
use Rattle.sq_shard.proofs.Pairs.{filter-merge}
use Rattle.sq_words.proofs.Bools.{and_true}
use Rattle.sq_words.proofs.Numbers.{leb_from}
use Rattle.sq_slices.specs.Slices.{in_slice, slice}

-- what passes the first and the third of three tests would pass a fourth
fourth : {X : Type 0} (o h m k : X → Bool) → ((x : X) → m x ≡ true → o x ≡ true → k x ≡ true) → (xs : List X) → filter o (filter h (filter m xs)) ≡ filter o (filter h (filter m (filter k xs)))
fourth o h m k needs [] = refl
fourth {X} o h m k needs (x ∷ xs) = by (fourth o h m k needs xs) (m x) (h x) (o x) (k x) refl refl refl refl
  where
    by : filter o (filter h (filter m xs)) ≡ filter o (filter h (filter m (filter k xs))) → (a b c d : Bool) → m x ≡ a → h x ≡ b → o x ≡ c → k x ≡ d
        → filter o (filter h (cond a (x ∷ filter m xs) (filter m xs))) ≡ filter o (filter h (filter m (cond d (x ∷ filter k xs) (filter k xs))))
    by more false b c true ma hb oc kd = rw ma more
    by more false b c false ma hb oc kd = more
    by more true false c true ma hb oc kd = rw (ma, hb) more
    by more true false c false ma hb oc kd = rw hb more
    by more true true true true ma hb oc kd = rw (ma, hb, oc) (ap (λ zs. x ∷ zs) more)
    by more true true true false ma hb oc kd = let no : true ≡ false = sym (needs x ma oc) ∙ kd in absurd (cc no)
    by more true true false true ma hb oc kd = rw (ma, hb, oc) more
    by more true true false false ma hb oc kd = rw (hb, oc) more

module _ (keep : PortTuple → Bool) (out : Tuple → Bool) (size : ℕ) (on : Expr)
    (needs : (now before : PortTuple) → meets size now before ≡ true → out (paired now before) ≡ true → (keep now && keep before) ≡ true) where
  shape : (now : PortTuple) (xs : List PortTuple)
      → filter out (pairs_of size on xs now) ≡ map (paired now) (filter (λ b. out (paired now b)) (filter (λ b. holds_of on (paired now b)) (filter (meets size now) xs)))
  shape now xs =
      ap (filter out) (filter-mapped (holds_of on) (paired now) (filter (meets size now) xs))
      ∙ filter-mapped out (paired now) (filter (λ b. holds_of on (paired now b)) (filter (meets size now) xs))

  one-of : (before : List PortTuple) (now : PortTuple) → filter out (pairs_of size on before now) ≡ filter out (pairs_of size on (filter (λ b. keep now && keep b) before) now)
  one-of before now =
      shape now before
      ∙ ap (map (paired now)) (fourth (λ b. out (paired now b)) (λ b. holds_of on (paired now b)) (meets size now) (λ b. keep now && keep b) (needs now) before)
      ∙ sym (shape now (filter (λ b. keep now && keep b) before))

  none-kept : (before : List PortTuple) → filter (λ (b : PortTuple). false) before ≡ []
  none-kept before = filter-none (λ (b : PortTuple). false) before (All-every (λ (b : PortTuple). false ≡ false) (λ b. refl) before)

  pub pairs-under : (before later : List PortTuple) → filter out (pairs_from size on before later) ≡ filter out (pairs_from size on (filter keep before) (filter keep later))
  pairs-under before [] = refl
  pairs-under before (now ∷ later) =
      filter-append out (pairs_of size on before now) (pairs_from size on (before ++ now ∷ []) later)
      ∙ ap (λ ys. ys ++ filter out (pairs_from size on (before ++ now ∷ []) later)) (one-of before now)
      ∙ ap (λ ys. filter out (pairs_of size on (filter (λ e. keep now && keep e) before) now) ++ ys)
      (pairs-under (before ++ now ∷ []) later ∙ ap (λ ys. filter out (pairs_from size on ys (filter keep later))) (filter-append keep before (now ∷ [])))
      ∙ by (keep now) refl
    where
      by : (a : Bool) → keep now ≡ a
          → filter out (pairs_of size on (filter (λ e. keep now && keep e) before) now) ++ filter out (pairs_from size on (filter keep before ++ filter keep (now ∷ [])) (filter keep later))
          ≡ filter out (pairs_from size on (filter keep before) (cond a (now ∷ filter keep later) (filter keep later)))
      by true e = rw e (sym (filter-append out (pairs_of size on (filter keep before) now) (pairs_from size on (filter keep before ++ now ∷ []) (filter keep later))))
      by false e = rw (e, none-kept before, append-nil (filter keep before)) refl

module _ (size : ℕ) (on : Expr) (a b lo hi : ℕ) (early : lo ≤ a - size) (late : b ≤ hi) where
  close : (t u : ℕ) → (t - u) + (u - t) ≤ size → a ≤ max t u → max t u < b → ((lo ≤ t) × (t < hi)) × ((lo ≤ u) × (u < hi))
  close t u near least most =
      ((omega (arith, early, near, least), omega (arith, late, most)), (omega (arith, early, near, least), omega (arith, late, most)))

  within : (t : ℕ) → (lo ≤ t) × (t < hi) → (leb lo t && ltb t hi) ≡ true
  within t h = both lo hi t h.0 h.1
    where
      both : (lo hi t : ℕ) → lo ≤ t → t < hi → (leb lo t && ltb t hi) ≡ true
      both lo hi t x y = grind (arith, nat_tests)

  less : (t u : ℕ) → ltb t u ≡ true → t < u
  less t u h = grind (arith, nat_tests)

  both-true : (p q : Bool) → p ≡ true → q ≡ true → (p && q) ≡ true
  both-true p q h k = rw (h, k) refl

  -- the times of a pair, whichever side is the left one
  of-times : (t u : ℕ) → leb ((t - u) + (u - t)) size ≡ true → (leb a (max t u) && ltb (max t u) b) ≡ true → ((leb lo t && ltb t hi) && (leb lo u && ltb u hi)) ≡ true
  of-times t u near here =
      let parts = and_true (leb a (max t u)) (ltb (max t u) b) here in
      let inside = close t u (leb_from ((t - u) + (u - t)) size near) (leb_from a (max t u) parts.0) (less (max t u) b parts.1) in
      both-true (leb lo t && ltb t hi) (leb lo u && ltb u hi) (within t inside.0) (within u inside.1)

  time-of : (side : Bool) (x y : Tuple) → (if side then pair_of x y else pair_of y x).time ≡ max x.time y.time
  time-of true x y = refl
  time-of false x y = swapped y.time x.time
    where
      swapped : (t u : ℕ) → max t u ≡ max u t
      swapped t u = omega arith

  pair-needs : (now before : PortTuple) → meets size now before ≡ true → in_slice a b (paired now before) ≡ true → (in_slice lo hi now.1 && in_slice lo hi before.1) ≡ true
  pair-needs now before met here =
      let t = (now.1).time in
      let u = (before.1).time in
      let near = (and_true (not (eqb now.0 before.0)) (leb ((t - u) + (u - t)) size) met).1 in
      of-times t u near (sym (ap (λ z. leb a z && ltb z b) (time-of (eqb now.0 0) now.1 before.1)) ∙ here)

  pub join-sliced : (left right : List Tuple) → slice a b (join_list_of size on left right) ≡ slice a b (join_list_of size on (slice lo hi left) (slice lo hi right))
  join-sliced left right =
      pairs-under (λ e. in_slice lo hi e.1) (in_slice a b) size on pair-needs [] (merge_tuples (left ∷ right ∷ []))
      ∙ ap (λ es. slice a b (pairs_from size on [] es)) (filter-merge (λ port x. in_slice lo hi x) (left ∷ right ∷ []))
