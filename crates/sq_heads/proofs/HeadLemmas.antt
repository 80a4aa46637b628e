-- What one more port says of what an operator may do.
use Rattle.std.proofs.Common.{◌≡◌, ◌≢◌, ℕ, ◌+◌, ◌<◌, eqb, Bool, true, false, List, Option, Some, None, refl, ap, sym, ◌∙◌, subst, arith}
use Rattle.std.proofs.lemmas.Option.{same_Some}
use Rattle.std.specs.Prelude.{slice_get}
use Rattle.sq_paged.specs.declared.Head.TheVariants as head
use Rattle.sq_paged.specs.Fronts.{head_by}
use Rattle.sq_heads.specs.declared.Next.{Next}
use Rattle.sq_heads.specs.declared.Next.TheVariants.{Waits, Ended, Feed}
use Rattle.sq_left.specs.Heads.{UpTo}
use Rattle.sq_heads.specs.Heads.{FirstNotBefore, NextUpTo}
use Rattle.sq_left.proofs.MergeLemmas.{eqb-no}
use Rattle.std.proofs.lemmas.Map.Views.{exact_unsigned_eq}

pub UpTo-more : (arcs : List ℕ) (P : ℕ → ℕ → Type 0) (n arc : ℕ) → slice_get arcs n ≡ Some arc → P n arc → UpTo arcs P n → UpTo arcs P (n + 1)
UpTo-more arcs P n arc is here before port at h e = by (eqb port n) refl
  where
    by : (b : Bool) → eqb port n ≡ b → P port at
    by true t =
        let same : port ≡ n = exact_unsigned_eq port n t in
        let at_is : arc ≡ at = same_Some arc at (sym is ∙ ap (slice_get arcs) (sym same) ∙ e) in
        subst (λ q. P q at) (sym same) (subst (P n) at_is here)
    by false t = let ne : port ≢ n = eqb-no port n t in before port at (omega arith) e

pub head-ended : (b : Bool) (o : Option ℕ) → head.Ended ≡ head_by b o → (o ≡ None) × (b ≡ true)
head-ended true None e = (refl, refl)
head-ended false None e = cc
head-ended true (Some t) e = cc
head-ended false (Some t) e = cc

module _ (arcs : List ℕ) (first : ℕ → Option ℕ) (ended : ℕ → Bool) where
  pub waits-more : (n : ℕ) → NextUpTo arcs first ended n Waits → NextUpTo arcs first ended (n + 1) Waits
  waits-more n h = let low : h.0 < n + 1 = omega (arith, h.2) in (h.0, h.1, low, h.3, h.4, h.5)

  pub ended-more : (n arc : ℕ) (next : Next) → slice_get arcs n ≡ Some arc → (first arc ≡ None) × (ended arc ≡ true)
      → NextUpTo arcs first ended n next → NextUpTo arcs first ended (n + 1) next
  ended-more n arc Waits is d h = waits-more n h
  ended-more n arc Ended is d h = UpTo-more arcs (λ port arc. (first arc ≡ None) × (ended arc ≡ true)) n arc is d h
  ended-more n arc (Feed t p at) is d h =
      let here : FirstNotBefore (ended arc) t p n (first arc) = rw d.0 d.1 in
      (omega arith, h.1, h.2, UpTo-more arcs (λ port arc. FirstNotBefore (ended arc) t p port (first arc)) n arc is here h.3)
