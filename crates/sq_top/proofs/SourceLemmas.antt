-- The streams that the files of a sound network's sources are.
use Rattle.std.proofs.Common.{◌≡◌, ℕ, zero, suc, ◌≤◌, true, List, [], ◌∷◌, ◌++◌, length, refl, ap, subst, Some}
use Rattle.std.specs.Prelude.{slice_get}
use Rattle.std.specs.List.{AllByRecursion, list_all}
use Rattle.sq_value.specs.declared.Tuple.{Tuple}
use Rattle.sq_value.specs.Values.{Columns, IsStream, IsTuple, fields_fit}
use Rattle.sq_net.specs.declared.Network.{Network}
use Rattle.sq_net.specs.declared.Source.{Source}
use Rattle.sq_net.specs.SoundNetworks.{network_within, source_within}
use Rattle.sq_oper.specs.Streams.{IsSoundTuple}
use Rattle.sq_model.specs.FittingStreams.{FitsOption, SourcesFit}
use Rattle.sq_work.specs.SourceFiles.{AreRecorded}
use Rattle.sq_words.specs.Lists.{nth}
use Rattle.sq_words.proofs.Bools.{and_true}

pub sources_within : (n : Network) → network_within n ≡ true → list_all source_within n.sources ≡ true
sources_within n h = (and_true _ _ (and_true _ _ (and_true _ _ (and_true _ _ h).0).0).0).1

-- one stream more
pub streams_more : (xss : List (List Tuple)) (xs : List Tuple) → AllByRecursion IsStream xss → IsStream xs → AllByRecursion IsStream (xss ++ xs ∷ [])
streams_more [] xs h one = (one, tt)
streams_more (ys ∷ xss) xs h one = (h.0, streams_more xss xs h.1 one)

pub recorded_even : (ss : List Source) (xss : List (List Tuple)) → AreRecorded ss xss → length xss ≡ length ss
recorded_even [] [] all = refl
recorded_even [] (xs ∷ xss) all = absurd all
recorded_even (s ∷ ss) [] all = absurd all
recorded_even (s ∷ ss) (xs ∷ xss) all = ap suc (recorded_even ss xss all.1)

pub recorded_streams : (ss : List Source) (xss : List (List Tuple)) → AreRecorded ss xss → AllByRecursion IsStream xss
recorded_streams [] [] all = tt
recorded_streams [] (xs ∷ xss) all = absurd all
recorded_streams (s ∷ ss) [] all = absurd all
recorded_streams (s ∷ ss) (xs ∷ xss) all = (all.0.stream, recorded_streams ss xss all.1)

pub recorded_few : (ss : List Source) (xss : List (List Tuple)) → AreRecorded ss xss → AllByRecursion (λ xs. length xs ≤ 1000000) xss
recorded_few [] [] all = tt
recorded_few [] (xs ∷ xss) all = absurd all
recorded_few (s ∷ ss) [] all = absurd all
recorded_few (s ∷ ss) (xs ∷ xss) all = (all.0.few, recorded_few ss xss all.1)

sound_tuples : (xs : List Tuple) → AllByRecursion IsTuple xs → AllByRecursion IsSoundTuple xs
sound_tuples [] all = tt
sound_tuples (x ∷ xs) all = ((all.0.tick, (all.0.least, all.0.most)), sound_tuples xs all.1)

pub recorded_tuples : (ss : List Source) (xss : List (List Tuple)) → AreRecorded ss xss → AllByRecursion (AllByRecursion IsSoundTuple) xss
recorded_tuples [] [] all = tt
recorded_tuples [] (xs ∷ xss) all = absurd all
recorded_tuples (s ∷ ss) [] all = absurd all
recorded_tuples (s ∷ ss) (xs ∷ xss) all = (sound_tuples xs all.0.tuples, recorded_tuples ss xss all.1)

each_fits : (cs : Columns) (xs : List Tuple) → list_all (λ x. fields_fit cs x.fields) xs ≡ true → AllByRecursion (λ (x : Tuple). fields_fit cs x.fields ≡ true) xs
each_fits cs [] all = tt
each_fits cs (x ∷ xs) all =
    let both = and_true (fields_fit cs x.fields) (list_all (λ y. fields_fit cs y.fields) xs) all in (both.0, each_fits cs xs both.1)

fit_at : (ss : List Source) (xss : List (List Tuple)) → AreRecorded ss xss → (i : ℕ) (s : Source) → slice_get ss i ≡ Some s → FitsOption (Some s.schema) (nth xss i)
fit_at [] xss all i s at = absurd (cc)
fit_at (r ∷ ss) [] all i s at = absurd all
fit_at (r ∷ ss) (xs ∷ xss) all zero s at =
    let same : r ≡ s = cc in subst (λ (y : Source). FitsOption (Some y.schema) xs) same (each_fits r.schema xs all.0.fit)
fit_at (r ∷ ss) (xs ∷ xss) all (suc i) s at = fit_at ss xss all.1 i s at

pub recorded_fit : (n : Network) (xss : List (List Tuple)) → AreRecorded n.sources xss → SourcesFit n xss
recorded_fit n xss all i s at = fit_at n.sources xss all i s at
