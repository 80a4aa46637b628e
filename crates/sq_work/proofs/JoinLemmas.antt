-- The rules of joining as tests: what they come to is what is joined, or the first rule that is broken.
use Rattle.std.proofs.Common.{◌≡◌, ◌≢◌, inl, inr, ℕ, ◌≤◌, ◌==◌, Bool, true, false, ◌&&◌, not, List, [], ◌∷◌, length, refl, sym, subst, arith, Option, None, Some}
use Rattle.std.specs.Prelude.{nat_le, Ok, Err}
use Rattle.std.specs.List.{AllByRecursion, list_all}
use Rattle.std.proofs.lemmas.Bool.{eqb-true, false_from_ne_true, true_from_ne_false}
use Rattle.std.proofs.lemmas.Bool.Decides.{nat_tests}
use Rattle.std.proofs.lemmas.List.Elements.{All-from_recursion, recursion_from_All}
use Rattle.sq_value.specs.Values.{kinds_of}
use Rattle.sq_net.specs.declared.Network.{Network}
use Rattle.sq_net.specs.SoundNetworks.{IsSound}
use Rattle.sq_place.specs.declared.DropPoint.{DropPoint}
use Rattle.sq_place.specs.Points.{is_long_batch, is_wide_extent}
use Rattle.sq_place.specs.Refusals.{IsFine}
use Rattle.sq_points.specs.Limits.{KeepsDropLimits}
use Rattle.sq_points.specs.Points.{points_of}
use Rattle.sq_reader.specs.Drops.{is_drop_within}
use Rattle.sq_tap.specs.declared.TapErr.{TapErr}
use Rattle.sq_tap.specs.declared.TapErr.TheVariants as error
use Rattle.sq_joined.specs.Joining.{boxes_in_front, columns, joined}
use Rattle.sq_tap.specs.Names.{stream_named}
use Rattle.sq_tap.specs.Rules.{BreaksFirst, HasOneSource, HasTheKinds, IsWithinLimits, KeepsRules}
use Rattle.sq_tap.proofs.Grafts.{sound_joined}
use Rattle.sq_tap.proofs.Naming.{named_there}
use Rattle.sq_tap.proofs.Steps.{kinds_differ}
use Rattle.sq_status.specs.declared.Status.{Status}
use Rattle.sq_status.specs.declared.Status.TheVariants as status
use Rattle.sq_work.specs.Taps.{Tapped, tapped, tapped_at, tapped_kinds, tapped_source, tapped_within, is_within_limits}
use Rattle.sq_expr.specs.Kinds.{same_kinds}
use Rattle.sq_words.proofs.Bools.{and_true}
use Rattle.sq_expr.proofs.KindLemmas.{same_kinds_is}
use Rattle.sq_work.specs.Refusals.{IsTapRefused, IsBadTap}

one_fine : (long wide : Bool) → (not long && not wide) ≡ true → (long ≡ false) × (wide ≡ false)
one_fine true wide h = cc
one_fine false true h = cc
one_fine false false h = (refl, refl)

fine_test : (ps : List DropPoint) → AllByRecursion IsFine ps → list_all is_drop_within ps ≡ true
fine_test [] all = refl
fine_test (p ∷ ps) all = rw (all.0.0, all.0.1, fine_test ps all.1) refl

fine_points : (ps : List DropPoint) → list_all is_drop_within ps ≡ true → AllByRecursion IsFine ps
fine_points [] h = tt
fine_points (p ∷ ps) h =
    let both = and_true (is_drop_within p) (list_all is_drop_within ps) h in (one_fine (is_long_batch p) (is_wide_extent p) both.0, fine_points ps both.1)

within_test : (net : Network) → IsWithinLimits net → is_within_limits net ≡ true
within_test net within =
    let few : nat_le (length net.boxes) 128 ≡ true = (let low = within.0 in grind (arith, nat_tests)) in
    rw (few, fine_test (points_of net) (recursion_from_All IsFine (points_of net) within.1)) refl

few_within : (k : ℕ) → nat_le k 128 ≡ true → k ≤ 128
few_within k h = grind (arith, nat_tests)

within_of : (net : Network) → is_within_limits net ≡ true → IsWithinLimits net
within_of net h =
    let both = and_true (nat_le (length net.boxes) 128) (list_all is_drop_within (points_of net)) h in
    (few_within (length net.boxes) both.0, All-from_recursion IsFine (points_of net) (fine_points (points_of net) both.1))

-- ---- one source

one_test : (k : ℕ) → k ≡ 1 → (k == 1) ≡ true
one_test k h = grind (arith, nat_tests)

module _ (n : Network) (stream from : ℕ) (q : Network) where
  abbrev joint : Tapped
  joint = record { network = joined n stream from q; first = boxes_in_front n stream }

  abbrev one : Bool
  one = length q.sources == 1

  abbrev alike : Bool
  alike = same_kinds (kinds_of (columns q 0)) (kinds_of (columns n stream))

  abbrev within : Bool
  within = is_within_limits (joined n stream from q)

  -- the tests of rules that are kept
  single_test : HasOneSource q → one ≡ true
  single_test h = one_test (length q.sources) h

  kinds_test : HasTheKinds n stream q → alike ≡ true
  kinds_test h = true_from_ne_false alike (λ differ. kinds_differ (kinds_of (columns q 0)) (kinds_of (columns n stream)) differ h)

  pub keeps_tapped : KeepsRules n stream from q → tapped_at n stream from q ≡ Ok joint
  keeps_tapped k = rw (single_test k.0, kinds_test k.1, within_test (joined n stream from q) k.2) refl

  pub breaks_tapped : (e : TapErr) → e ≢ error.Memory → BreaksFirst n stream from q e → tapped_at n stream from q ≡ Err e
  breaks_tapped error.NoStream other h = absurd h
  breaks_tapped error.Sources other h = rw (false_from_ne_true one (λ t. h (eqb-true (length q.sources) 1 t))) refl
  breaks_tapped error.Schema other h =
      rw (single_test h.0, false_from_ne_true alike (λ t. h.1 (same_kinds_is (kinds_of (columns q 0)) (kinds_of (columns n stream)) t))) refl
  breaks_tapped error.Limit other h =
      rw (single_test h.0, kinds_test h.1, false_from_ne_true within (λ t. h.2 (within_of (joined n stream from q) t))) refl
  breaks_tapped error.Memory other h = absurd (other refl)

  -- and what was joined kept them
  pub record Kept (t : Tapped) : Type 0 where
    pub single : one ≡ true
    pub kinds : alike ≡ true
    pub limits : within ≡ true
    pub is : joint ≡ t

  kept_within : (b : Bool) (t : Tapped) → within ≡ b → one ≡ true → alike ≡ true → tapped_within n stream from q b ≡ Ok t → Kept t
  kept_within true t e single kinds h = record { single = single; kinds = kinds; limits = e; is = cc }
  kept_within false t e single kinds h = absurd (cc)

  kept_kinds : (b : Bool) (t : Tapped) → alike ≡ b → one ≡ true → tapped_kinds n stream from q b ≡ Ok t → Kept t
  kept_kinds true t e single h = kept_within within t refl single e h
  kept_kinds false t e single h = absurd (cc)

  kept_source : (b : Bool) (t : Tapped) → one ≡ b → tapped_source n stream from q b ≡ Ok t → Kept t
  kept_source true t e h = kept_kinds alike t refl e h
  kept_source false t e h = absurd (cc)

  pub kept_one : (t : Tapped) → Kept t → HasOneSource q
  kept_one t k = eqb-true (length q.sources) 1 k.single

  pub kept_kinds_of : (t : Tapped) → Kept t → HasTheKinds n stream q
  kept_kinds_of t k = same_kinds_is (kinds_of (columns q 0)) (kinds_of (columns n stream)) k.kinds

  pub kept_limits : (t : Tapped) → Kept t → IsWithinLimits (joined n stream from q)
  kept_limits t k = within_of (joined n stream from q) k.limits

  pub kept_few : (t : Tapped) → Kept t → length (joined n stream from q).boxes ≤ 128
  kept_few t k = (kept_limits t k).0

  pub kept_at : (t : Tapped) → tapped_at n stream from q ≡ Ok t → Kept t
  kept_at t h = kept_source one t refl h

-- what is joined to a stream that has a name
module _ (n : Network) (name : List ℕ) (from : ℕ) (q : Network) where
  pub tapped_sound : (t : Tapped) → IsSound n → IsSound q → tapped n (stream_named n name) from q ≡ Ok t → IsSound t.network
  tapped_sound t sound asked h = by (stream_named n name) refl h
    where
      by : (o : Option ℕ) → stream_named n name ≡ o → tapped n o from q ≡ Ok t → IsSound t.network
      by None e h' = absurd (cc)
      by (Some s) e h' =
          let k = kept_at n s from q t h' in
          subst (λ (x : Tapped). IsSound x.network) k.is
          (sound_joined n s from q sound asked (named_there n name s sound e) (kept_one n s from q t k) (kept_kinds_of n s from q t k) (kept_few n s from q t k))

  pub tapped_limits : (t : Tapped) → tapped n (stream_named n name) from q ≡ Ok t → KeepsDropLimits t.network
  tapped_limits t h = by (stream_named n name) h
    where
      by : (o : Option ℕ) → tapped n o from q ≡ Ok t → KeepsDropLimits t.network
      by None h' = absurd (cc)
      by (Some s) h' = let k = kept_at n s from q t h' in subst (λ (x : Tapped). KeepsDropLimits x.network) k.is (kept_limits n s from q t k).1

  -- the sources are the network's
  pub tapped_sources : (t : Tapped) → tapped n (stream_named n name) from q ≡ Ok t → t.network.sources ≡ n.sources
  tapped_sources t h = by (stream_named n name) h
    where
      by : (o : Option ℕ) → tapped n o from q ≡ Ok t → t.network.sources ≡ n.sources
      by None h' = absurd (cc)
      by (Some s) h' = let k = kept_at n s from q t h' in subst (λ (x : Tapped). x.network.sources ≡ n.sources) k.is refl

  none_tapped : (o : Option ℕ) → o ≡ None → tapped n o from q ≡ Err error.NoStream
  none_tapped o e = rw e refl

  pub no_stream : None ≡ stream_named n name → IsBadTap (tapped n (stream_named n name) from q) (status.BadTap error.NoStream)
  no_stream e = inr (error.NoStream, (λ x. cc), none_tapped (stream_named n name) (sym e), refl)

  pub joined_tapped : (s : ℕ) (net : Network) (first : ℕ) → Some s ≡ stream_named n name → net ≡ joined n s from q → first ≡ boxes_in_front n s → KeepsRules n s from q
      → tapped n (stream_named n name) from q ≡ Ok (record { network = net; first = first })
  joined_tapped s net first named is counted kept = rw (sym named, is, counted) (keeps_tapped n s from q kept)

  pub refused_tapped : (s : ℕ) (e : TapErr) (result : Status) → Some s ≡ stream_named n name → BreaksFirst n s from q e → IsTapRefused e result
      → IsBadTap (tapped n (stream_named n name) from q) result
  refused_tapped s e result named breaks (inl memory) = inl memory.1
  refused_tapped s e result named breaks (inr rule) = inr (e, rule.0, rw (sym named) (breaks_tapped n s from q e rule.0 breaks), rule.1)
