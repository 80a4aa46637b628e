-- The rule on drop points by what their answer says.
use Rattle.std.proofs.Common.{◌≡◌, ◌∙◌, inl, inr, sym, ap, refl, ℕ, ◌+◌, not, List, [], ◌∷◌, Option, Some, None}
use Rattle.std.specs.Prelude.{Ok, Err}
use Rattle.std.specs.List.{AllByRecursion, position_from}
use Rattle.std.specs.Option.{option_map}
use Rattle.std.proofs.lemmas.Iterator.Adapters.{position_from-zero}
use Rattle.std.proofs.lemmas.List.Elements.{recursion_from_All}
use Rattle.sq_place.specs.declared.DropPoint.{DropPoint}
use Rattle.sq_place.specs.declared.PlaceErr.TheVariants as error
use Rattle.sq_place.specs.Refusals.{IsFine, Names}
use Rattle.sq_net.specs.declared.Network.{Network}
use Rattle.sq_net.specs.declared.NetErr.TheVariants as broken
use Rattle.sq_net.specs.declared.Part.TheVariants as part
use Rattle.sq_net.specs.declared.Place.{Place}
use Rattle.sq_points.specs.Points.{points_of}
use Rattle.sq_points.specs.Limits.{KeepsDropLimits}
use Rattle.sq_tables.specs.Places.{part_place}
use Rattle.sq_reader.specs.Drops.{drop_place, is_drop_within}
use Rattle.sq_rules.specs.Rules.{unless_at}
use Rattle.sq_reader.specs.Networks.{limited_network}

none_from : (d : ℕ) (ps : List DropPoint) → AllByRecursion IsFine ps → position_from (λ p. not (is_drop_within p)) d ps ≡ None
none_from d [] all = refl
none_from d (p ∷ ps) all = rw (all.0.0, all.0.1) (none_from (d + 1) ps all.1)

long_from : (d : ℕ) (ps : List DropPoint) (k : ℕ) → Names d ps (error.LongBatch k) → position_from (λ p. not (is_drop_within p)) d ps ≡ Some k
long_from d [] k h = absurd h
long_from d (p ∷ ps) k (inl (same, long)) = rw long (ap Some (sym same))
long_from d (p ∷ ps) k (inr (fine, more)) = rw (fine.0, fine.1) (long_from (d + 1) ps k more)

wide_from : (d : ℕ) (ps : List DropPoint) (k : ℕ) → Names d ps (error.WideExtent k) → position_from (λ p. not (is_drop_within p)) d ps ≡ Some k
wide_from d [] k h = absurd h
wide_from d (p ∷ ps) k (inl (same, short, wide)) = rw (short, wide) (ap Some (sym same))
wide_from d (p ∷ ps) k (inr (fine, more)) = rw (fine.0, fine.1) (wide_from (d + 1) ps k more)

at_place : (n : Network) (o : Option ℕ) → position_from (λ p. not (is_drop_within p)) 0 (points_of n) ≡ o → drop_place n ≡ option_map (part_place part.Drop) o
at_place n o e = ap (option_map (part_place part.Drop)) (position_from-zero (λ p. not (is_drop_within p)) (points_of n) ∙ e)

-- where all drop points keep the limits the network is accepted
pub limits_kept : (n : Network) → KeepsDropLimits n → limited_network n ≡ Ok n
limits_kept n keeps =
    ap (λ o. unless_at broken.Limit o (Ok n)) (at_place n None (none_from 0 (points_of n) (recursion_from_All IsFine (points_of n) keeps)))

refused_at : (n : Network) (k : ℕ) → position_from (λ p. not (is_drop_within p)) 0 (points_of n) ≡ Some k → limited_network n ≡ Err (broken.Limit (part_place part.Drop k))
refused_at n k e = ap (λ o. unless_at broken.Limit o (Ok n)) (at_place n (Some k) e)

-- and else the first that doesn't is told
pub long_refused : (n : Network) (k : ℕ) → Names 0 (points_of n) (error.LongBatch k) → limited_network n ≡ Err (broken.Limit (part_place part.Drop k))
long_refused n k h = refused_at n k (long_from 0 (points_of n) k h)

pub wide_refused : (n : Network) (k : ℕ) → Names 0 (points_of n) (error.WideExtent k) → limited_network n ≡ Err (broken.Limit (part_place part.Drop k))
wide_refused n k h = refused_at n k (wide_from 0 (points_of n) k h)

-- a network that is accepted is the one whose drop points were looked at
pub limited_same : (m n : Network) → limited_network m ≡ Ok n → m ≡ n
limited_same m n h = by (drop_place m) h
  where
    by : (o : Option Place) → unless_at broken.Limit o (Ok m) ≡ Ok n → m ≡ n
    by None e = cc
    by (Some p) e = absurd (cc)
