-- What holds of slices as far as a reach says, and how the reaches of boxes say it.
use Rattle.std.proofs.Common.{◌≡◌, ℕ, zero, suc, ◌+◌, ◌-◌, ◌<◌, ◌≤◌, leb, Bool, true, false, cond, List, [], ◌∷◌, map, Option, Some, None, arith, subst, inl, inr}
use Rattle.std.specs.Prelude.{⊤}
use Rattle.std.proofs.lemmas.Bool.{cases_lt}
use Rattle.std.specs.Option.{IfSome, option_map}
use Rattle.std.specs.List.{AllByRecursion, range_with_len}
use Rattle.sq_value.specs.declared.Tuple.{Tuple}
use Rattle.sq_words.proofs.Alls.{all_weaker}
use Rattle.sq_slices.specs.declared.Grid.{Grid}
use Rattle.sq_slices.specs.declared.Reach.{Reach}
use Rattle.sq_slices.specs.Grids.{IsGrid, may_end, ahead_from}
use Rattle.sq_slices.specs.Slices.{AgreeIn}
use Rattle.sq_slices.specs.Reaches.{own_reach, beside_reach, both_reaches, both_if, union_reach}
use Rattle.sq_slices.proofs.GridLemmas.{end_from, end-cut, end-within}
use Rattle.sq_slices.proofs.SliceLemmas.{narrower}

module _ (lo hi : ℕ) where
  -- of each slice that reaches no further than what is there
  abbrev pub HoldsFor : (ℕ → ℕ → Type 0) → Reach → Type 0
  HoldsFor P r = IsGrid r.cuts × ((a b : ℕ) → may_end r.cuts b ≡ true → lo ≤ a - r.back → b + r.ahead ≤ hi → P a b)

  abbrev pub HoldsIf : (ℕ → ℕ → Type 0) → Option Reach → Type 0
  HoldsIf P None = ⊤
  HoldsIf P (Some r) = HoldsFor P r

  -- two streams agree there
  abbrev pub Agreed : Reach → List Tuple → List Tuple → Type 0
  Agreed r xs ys = HoldsFor (λ a b. AgreeIn a b xs ys) r

  abbrev pub AgreedIf : Option Reach → List Tuple → List Tuple → Type 0
  AgreedIf o xs ys = HoldsIf (λ a b. AgreeIn a b xs ys) o

  -- a stream that is needed in a wider slice, which ends behind a cut of another grid
  pub wide : (g : Grid) (before more : ℕ) (r : Reach) (xs ys : List Tuple) → Agreed r xs ys
      → (a b : ℕ) → may_end g b ≡ true → lo ≤ a - (before + r.back) → b + ahead_from g more r ≤ hi → AgreeIn (a - before) (b + more) xs ys
  wide g before more r xs ys good a b cut low high =
      let e = end_from b more r in
      let within = end-within g b more r good.0 cut in
      let far : b + more ≤ e = omega arith in
      narrower (a - before) e (a - before) (b + more) (omega arith) far xs ys
      (good.1 (a - before) e (end-cut b more r good.0) (omega (arith, low)) (omega (arith, within, high)))

  pub own-agreed : (xs ys : List Tuple) → AgreeIn lo hi xs ys → Agreed own_reach xs ys
  own-agreed xs ys e = (record { moves = omega arith; begins = omega arith }, λ a b cut low high. narrower lo hi a b (omega (arith, low)) (omega (arith, high)) xs ys e)

  -- where a box gives in a slice what it takes there
  pub same-reach : (r : Reach) (xs ys vs ws : List Tuple) → ((a b : ℕ) → AgreeIn a b xs ys → AgreeIn a b vs ws) → Agreed r xs ys → Agreed r vs ws
  same-reach r xs ys vs ws h good = (good.0, λ a b cut low high. h a b (good.1 a b cut low high))

  -- what holds of a slice holds of one that ends sooner
  abbrev pub Narrows : (ℕ → ℕ → Type 0) → Type 0
  Narrows P = (a b c : ℕ) → b ≤ c → P a c → P a b

  -- ---- two streams

  module _ (P : ℕ → ℕ → Type 0) (narrows : Narrows P) where
    beside-first : (r q : Reach) → HoldsFor P r → HoldsFor P (beside_reach r q)
    beside-first r q good = (good.0, λ a b cut low high. good.1 a b cut (omega (arith, low)) (omega (arith, high)))

    beside-second : (r q : Reach) → IsGrid r.cuts → HoldsFor P q → HoldsFor P (beside_reach r q)
    beside-second r q grid good = (
      grid,
      λ a b cut low high. (
          let e = end_from b 0 q in
          let within = end-within r.cuts b 0 q good.0 cut in
          narrows a b e (omega arith) (good.1 a e (end-cut b 0 q good.0) (omega (arith, low)) (omega (arith, within, high)))),
    )

    pub first-of-both : (r q : Reach) → IsGrid q.cuts → HoldsFor P r → HoldsFor P (both_reaches r q)
    first-of-both r q grid good = by (leb q.cuts.step r.cuts.step)
      where
        by : (c : Bool) → HoldsFor P (cond c (beside_reach r q) (beside_reach q r))
        by true = beside-first r q good
        by false = beside-second q r grid good

    pub second-of-both : (r q : Reach) → IsGrid r.cuts → HoldsFor P q → HoldsFor P (both_reaches r q)
    second-of-both r q grid good = by (leb q.cuts.step r.cuts.step)
      where
        by : (c : Bool) → HoldsFor P (cond c (beside_reach r q) (beside_reach q r))
        by true = beside-second r q grid good
        by false = beside-first q r good

  both-grid : (r q : Reach) → IsGrid r.cuts → IsGrid q.cuts → IsGrid (both_reaches r q).cuts
  both-grid r q first second = by (leb q.cuts.step r.cuts.step)
    where
      by : (c : Bool) → IsGrid (cond c (beside_reach r q) (beside_reach q r)).cuts
      by true = first
      by false = second

  -- what holds as far as one of several streams reaches, holds as far as all of them do
  module _ (P : ℕ → ℕ → Type 0) (narrows : Narrows P) (reaches : ℕ → Option Reach) (grids : (s : ℕ) → IfSome (reaches s) (λ q. IsGrid q.cuts)) where
    union-grid : (streams : List ℕ) → IfSome (union_reach (map reaches streams)) (λ q. IsGrid q.cuts)
    union-grid [] = record { moves = omega arith; begins = omega arith }
    union-grid (s ∷ streams) = one (reaches s) (union_reach (map reaches streams)) (grids s) (union-grid streams)
      where
        one : (o p : Option Reach) → IfSome o (λ q. IsGrid q.cuts) → IfSome p (λ q. IsGrid q.cuts) → IfSome (both_if o p) (λ q. IsGrid q.cuts)
        one None p first second = tt
        one (Some r) None first second = tt
        one (Some r) (Some q) first second = both-grid r q first second

    first-if : (o p : Option Reach) → IfSome p (λ q. IsGrid q.cuts) → HoldsIf P o → HoldsIf P (both_if o p)
    first-if None p grid good = tt
    first-if (Some r) None grid good = tt
    first-if (Some r) (Some q) grid good = first-of-both P narrows r q grid good

    second-if : (o p : Option Reach) → IfSome o (λ q. IsGrid q.cuts) → HoldsIf P p → HoldsIf P (both_if o p)
    second-if None p grid good = tt
    second-if (Some r) None grid good = tt
    second-if (Some r) (Some q) grid good = second-of-both P narrows r q grid good

    pub holds-for-all : (a n s : ℕ) → a ≤ s → s < a + n → HoldsIf P (reaches s) → HoldsIf P (union_reach (map reaches (range_with_len a n)))
    holds-for-all a zero s low high good = absurd (omega (arith, low, high))
    holds-for-all a (suc n) s low high good =
        elim (cases_lt a s) [
          | inl less ↦ second-if (reaches a) (union_reach (map reaches (range_with_len (a + 1) n))) (grids a) (holds-for-all (a + 1) n s (omega (arith, less)) (omega (arith, high)) good)
          | inr past ↦ (
              let here : s ≡ a = omega (arith, low, past) in
              first-if (reaches a) (union_reach (map reaches (range_with_len (a + 1) n))) (union-grid (range_with_len (a + 1) n)) (subst (λ z. HoldsIf P (reaches z)) here good))
        ]

  -- a box that takes two streams
  pub both-agreed : (P Q : ℕ → ℕ → Type 0) → Narrows P → Narrows Q → (o p : Option Reach) (vs ws : List Tuple)
      → ((r : Reach) → HoldsFor P r → HoldsFor Q r → Agreed r vs ws) → HoldsIf P o → HoldsIf Q p → AgreedIf (both_if o p) vs ws
  both-agreed P Q np nq None p vs ws h l r = tt
  both-agreed P Q np nq (Some q) None vs ws h l r = tt
  both-agreed P Q np nq (Some q) (Some s) vs ws h l r = h (both_reaches q s) (first-of-both P np q s r.0 l) (second-of-both Q nq q s l.0 r)

  pub mapped-holds : (P Q : ℕ → ℕ → Type 0) (f : Reach → Reach) (o : Option Reach) → ((r : Reach) → HoldsFor P r → HoldsFor Q (f r)) → HoldsIf P o → HoldsIf Q (option_map f o)
  mapped-holds P Q f None h good = tt
  mapped-holds P Q f (Some r) h good = h r good

  pub agree-narrows : (xs ys : List Tuple) → Narrows (λ a b. AgreeIn a b xs ys)
  agree-narrows xs ys a b c le e = narrower a c a b (omega arith) le xs ys e

  -- ---- several streams

  module _ (full part : ℕ → List Tuple) where
    abbrev pub AllAgreed : Option Reach → List ℕ → Type 0
    AllAgreed None inputs = ⊤
    AllAgreed (Some r) inputs = IsGrid r.cuts × AllByRecursion (λ s. Agreed r (full s) (part s)) inputs

    one-more : (o p : Option Reach) (s : ℕ) (inputs : List ℕ) → AgreedIf o (full s) (part s) → AllAgreed p inputs → AllAgreed (both_if o p) (s ∷ inputs)
    one-more None p s inputs here more = tt
    one-more (Some r) None s inputs here more = tt
    one-more (Some r) (Some q) s inputs here more =
        let first = first-of-both (λ a b. AgreeIn a b (full s) (part s)) (agree-narrows (full s) (part s)) r q more.0 here in (
          first.0,
          (
            first,
            all_weaker (λ s. Agreed q (full s) (part s)) (λ s. Agreed (both_reaches r q) (full s) (part s))
                (λ s good. second-of-both (λ a b. AgreeIn a b (full s) (part s)) (agree-narrows (full s) (part s)) r q here.0 good) inputs more.1,
          ),
        )

    pub union-agreed : (reaches : ℕ → Option Reach) (inputs : List ℕ) → AllByRecursion (λ s. AgreedIf (reaches s) (full s) (part s)) inputs → AllAgreed (union_reach (map reaches inputs)) inputs
    union-agreed reaches [] all = (record { moves = omega arith; begins = omega arith }, tt)
    union-agreed reaches (s ∷ inputs) all = one-more (reaches s) (union_reach (map reaches inputs)) s inputs all.0 (union-agreed reaches inputs all.1)
