-- The first drop that passes a test, and that no drop of a network that keeps the limits is refused.
use Rattle.std.proofs.Common.{◌≡◌, ℕ, suc, ◌+◌, ◌<◌, Bool, true, false, inl, inr, cond, List, [], ◌∷◌, length, get_or, slice_get, Some, option_map, refl, ap, sym, ◌∙◌, arith}
use Rattle.std.proofs.lemmas.Option.{slice_get-get_or}
use Rattle.sq_place.specs.declared.DropPoint.{DropPoint}
use Rattle.std.specs.List.{All, AllByRecursion, position, position_from}
use Rattle.std.proofs.lemmas.Iterator.Adapters.{position_from-zero}
use Rattle.std.proofs.lemmas.List.Elements.{recursion_from_All}
use Rattle.sq_place.specs.declared.PlaceErr.TheVariants as error
use Rattle.sq_place.specs.Refusals.{IsFine, Names, NamesRefusal}
use Rattle.sq_points.specs.Above.{first_drop, found_at}

pub there-in : (ps : List DropPoint) (w : ℕ) (p : DropPoint) → w < length ps → p ≡ get_or ps w p → slice_get ps w ≡ Some p
there-in ps w p low is = slice_get-get_or ps w p low ∙ ap Some (sym is)

-- the first that passes is the one that a search finds
module _ (t : DropPoint → Bool) (all : List DropPoint) where
  from : (w : ℕ) (ps : List DropPoint) → ((i : ℕ) → slice_get ps i ≡ slice_get all (w + i)) → first_drop t w ps ≡ found_at (position_from t w ps) all
  from w [] at = refl
  from w (p ∷ ps) at = by (from (w + 1) ps later) (t p)
    where
      here : Some p ≡ slice_get all w
      here = at 0 ∙ ap (slice_get all) (omega arith)

      later : (i : ℕ) → slice_get ps i ≡ slice_get all (w + 1 + i)
      later i = at (suc i) ∙ ap (slice_get all) (omega arith)

      by : first_drop t (w + 1) ps ≡ found_at (position_from t (w + 1) ps) all → (b : Bool) → cond b (Some (w, p)) (first_drop t (w + 1) ps) ≡ found_at (cond b (Some w) (position_from t (w + 1) ps)) all
      by more true = ap (option_map (λ q. (w, q))) here
      by more false = more

  pub first_found : first_drop t 0 all ≡ found_at (position t all) all
  first_found = from 0 all (λ i. ap (slice_get all) (omega arith)) ∙ ap (λ o. found_at o all) (sym (position_from-zero t all))

-- where every drop keeps the limits, none is refused
none_long : (ps : List DropPoint) (d e : ℕ) → AllByRecursion IsFine ps → Names d ps (error.LongBatch e) → ⊥
none_long [] d e fine names = names
none_long (p ∷ ps) d e fine (inl breaks) = let no : true ≡ false = sym breaks.1 ∙ fine.0.0 in absurd (cc no)
none_long (p ∷ ps) d e fine (inr more) = none_long ps (d + 1) e fine.1 more.1

none_wide : (ps : List DropPoint) (d e : ℕ) → AllByRecursion IsFine ps → Names d ps (error.WideExtent e) → ⊥
none_wide [] d e fine names = names
none_wide (p ∷ ps) d e fine (inl breaks) = let no : true ≡ false = sym breaks.2 ∙ fine.0.1 in absurd (cc no)
none_wide (p ∷ ps) d e fine (inr more) = none_wide ps (d + 1) e fine.1 more.1

pub not_long : (ps : List DropPoint) (e : ℕ) → All IsFine ps → NamesRefusal ps (error.LongBatch e) → ⊥
not_long ps e fine names = none_long ps 0 e (recursion_from_All IsFine ps fine) names

pub not_wide : (ps : List DropPoint) (e : ℕ) → All IsFine ps → NamesRefusal ps (error.WideExtent e) → ⊥
not_wide ps e fine names = none_wide ps 0 e (recursion_from_All IsFine ps fine) names
