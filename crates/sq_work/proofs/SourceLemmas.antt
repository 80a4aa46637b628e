-- The streams that the files of a sound network's sources are.
use Rattle.sq_work.specs.SourceFiles.{AreRecorded}
use Rattle.std.proofs.Common.{List, Some, ap, arith, get_or, length, refl, subst, suc, sym, take, true, zero, ℕ, [], ◌≡◌, ◌+◌, ◌≤◌, ◌<◌, ◌∷◌, ◌++◌, ◌∙◌}
use Rattle.std.specs.Prelude.{Ok, slice_get}
use Rattle.sq_replay.specs.Laws.{ReadsStreams}
use Rattle.sq_net.specs.declared.Network.{Network}
use Rattle.sq_net.specs.declared.Source.{Source}
use Rattle.sq_value.specs.declared.Tuple.{Tuple}
use Rattle.sq_words.proofs.Bools.{and_true}
use Rattle.sq_net.specs.SoundNetworks.{IsSound, is_between, source_within}
use Rattle.std.proofs.lemmas.Bool.Decides.{nat_tests}
use Rattle.sq_replay.specs.Streams.{stream_in}
use Rattle.sq_replay.proofs.FitLemmas.{streams_fit}
use Rattle.std.proofs.lemmas.List.{take_all, take_more}
use Rattle.std.proofs.lemmas.List.Sums.{AllPass-from_list_all}
use Rattle.std.proofs.lemmas.Option.{get_or_from_slice_get, slice_get_within}

between : (low high k : ℕ) → is_between low high k ≡ true → (low ≤ k) × (k ≤ high)
between low high k h = (grind (arith, nat_tests), grind (arith, nat_tests))

pub text_is_recorded : (s : Source) (bytes : List ℕ) (xs : List Tuple) → source_within s ≡ true → stream_in s.schema bytes ≡ Ok xs → ReadsStreams s.schema xs
text_is_recorded s bytes xs within read =
    let few = between 1 16 (length s.schema) (and_true (is_between 1 255 (length s.file)) (is_between 1 16 (length s.schema)) within).1 in
    streams_fit s.schema bytes xs few.0 few.1 read

recorded_both : (ss : List Source) (xss : List (List Tuple)) (s : Source) (xs : List Tuple) → AreRecorded ss xss → ReadsStreams s.schema xs → AreRecorded (ss ++ s ∷ []) (xss ++ xs ∷ [])
recorded_both [] [] s xs before one = (one, tt)
recorded_both [] (ys ∷ xss) s xs before one = absurd before
recorded_both (r ∷ ss) [] s xs before one = absurd before
recorded_both (r ∷ ss) (ys ∷ xss) s xs before one = (before.0, recorded_both ss xss s xs before.1 one)

-- one source more was read
pub recorded_more : (ss : List Source) (i : ℕ) (s : Source) (xss : List (List Tuple)) (xs : List Tuple) → i < length ss → s ≡ get_or ss i s → AreRecorded (take i ss) xss
    → ReadsStreams s.schema xs → AreRecorded (take (i + 1) ss) (xss ++ xs ∷ [])
recorded_more ss i s xss xs inside at before one =
    subst (λ ys. AreRecorded ys (xss ++ xs ∷ [])) (sym (take_more ss i s inside ∙ ap (λ (y : Source). take i ss ++ y ∷ []) (sym at)))
    (recorded_both (take i ss) xss s xs before one)

-- the sources in front of the last one, and the last one
module _ (all others : List Source) (last : Source) (is : all ≡ others ++ last ∷ []) where
  pub front_source : (i : ℕ) (s : Source) → i < length others → s ≡ get_or others i s → slice_get all i ≡ Some s
  front_source i s inside at = ap (λ (ss : List Source). slice_get ss i) is ∙ by others i inside ∙ ap (λ (x : Source). Some x) (sym at)
    where
      by : (ss : List Source) (i : ℕ) → i < length ss → slice_get (ss ++ last ∷ []) i ≡ Some (get_or ss i s)
      by [] i inside = absurd (omega arith)
      by (x ∷ ss) zero inside = refl
      by (x ∷ ss) (suc i) inside = by ss i (omega arith)

  pub last_source : (i : ℕ) → i ≡ length others → slice_get all i ≡ Some last
  last_source i there = ap (slice_get all) there ∙ ap (λ (ss : List Source). slice_get ss (length others)) is ∙ by others
    where
      by : (ss : List Source) → slice_get (ss ++ last ∷ []) (length ss) ≡ Some last
      by [] = refl
      by (x ∷ ss) = by ss

-- each source of a sound network keeps its limits
pub source_sound : (n : Network) (i : ℕ) (s : Source) → IsSound n → slice_get n.sources i ≡ Some s → source_within s ≡ true
source_sound n i s sound at =
    subst (λ (x : Source). source_within x ≡ true) (get_or_from_slice_get n.sources i s s at)
    (AllPass-from_list_all source_within n.sources (and_true _ _ (and_true _ _ (and_true _ _ (and_true _ _ sound.within).0).0).0).1 i s (slice_get_within n.sources i s at))

-- one source more was read
pub recorded_next : (ss : List Source) (i : ℕ) (s : Source) (xss : List (List Tuple)) (xs : List Tuple) → slice_get ss i ≡ Some s → AreRecorded (take i ss) xss
    → ReadsStreams s.schema xs → AreRecorded (take (i + 1) ss) (xss ++ xs ∷ [])
recorded_next ss i s xss xs at = recorded_more ss i s xss xs (slice_get_within ss i s at) (sym (get_or_from_slice_get ss i s s at))

pub recorded_all : (ss : List Source) (i : ℕ) (s : Source) (xss : List (List Tuple)) (xs : List Tuple) → slice_get ss i ≡ Some s → length ss ≤ i + 1 → AreRecorded (take i ss) xss
    → ReadsStreams s.schema xs → AreRecorded ss (xss ++ xs ∷ [])
recorded_all ss i s xss xs at last before one =
    subst (λ (ys : List Source). AreRecorded ys (xss ++ xs ∷ [])) (take_all (i + 1) ss last) (recorded_next ss i s xss xs at before one)
