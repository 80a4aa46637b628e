-- Slices one behind the other are the whole.
use Rattle.std.proofs.Common.{◌≡◌, ℕ, ◌+◌, ◌-◌, ◌≤◌, ◌<◌, ◌^◌, List, [], ◌∷◌, ◌++◌, Option, ap, sym, ◌∙◌, subst, arith}
use Rattle.std.specs.Prelude.{⊤}
use Rattle.std.specs.List.{All}
use Rattle.sq_value.specs.declared.Tuple.{Tuple}
use Rattle.sq_value.specs.Values.{IsStream}
use Rattle.sq_words.proofs.Alls.{all_weaker}
use Rattle.sq_lists.proofs.WindowLemmas.{stream_rises, stream_ticks}
use Rattle.sq_net.specs.declared.Network.{Network}
use Rattle.sq_net.specs.SoundNetworks.{IsSound}
use Rattle.sq_model.specs.FullStreams.{full_stream, full_streams}
use Rattle.sq_model.proofs.FullLemmas.{full_listed}
use Rattle.sq_model.proofs.PlacedLemmas.{placed_of}
use Rattle.sq_model.proofs.StreamLemmas.{stream_at_number, full_are_streams}
use Rattle.sq_slices.specs.declared.Reach.{Reach}
use Rattle.sq_slices.specs.Slices.{slice, AgreeIn}
use Rattle.sq_slices.specs.Laws.{AreInTime, Slice, last_end, answers_behind, AreSlices, AnswersSlices, MakesTheWhole}
use Rattle.sq_slices.proofs.SliceLemmas.{seam, slice-all, slice-nothing}

-- each answers its slice
abbrev pub AllAnswer : Network → ℕ → List (List Tuple) → ℕ → List Slice → Type 0
AllAnswer n s sources a [] = ⊤
AllAnswer n s sources a (p ∷ ps) = (a ≤ p.end) × AgreeIn a p.end (full_stream n sources s) (full_stream n p.sources s) × AllAnswer n s sources p.end ps

module _ (n : Network) (sound : IsSound n) (s : ℕ) (sources : List (List Tuple)) (streams : All IsStream sources) where
  pub stream : IsStream (full_stream n sources s)
  stream = subst IsStream (full_listed n sources (placed_of n sound) s) (stream_at_number (full_streams n sources) s (full_are_streams n sources streams))

  ends-rise : (a : ℕ) (slices : List Slice) → AllAnswer n s sources a slices → a ≤ last_end a slices
  ends-rise a [] all = omega arith
  ends-rise a (p ∷ ps) all = let more = ends-rise p.end ps all.2 in omega (arith, all.0, more)

  behind : (a : ℕ) (slices : List Slice) → AllAnswer n s sources a slices → answers_behind n s a slices ≡ slice a (last_end a slices) (full_stream n sources s)
  behind a [] all = sym (slice-nothing a (full_stream n sources s))
  behind a (p ∷ ps) all =
      ap (λ l. l ++ answers_behind n s p.end ps) (sym all.1)
      ∙ ap (λ l. slice a p.end (full_stream n sources s) ++ l) (behind p.end ps all.2)
      ∙ seam a p.end (last_end p.end ps) all.0 (ends-rise p.end ps all.2) 0 (full_stream n sources s) (stream_rises (full_stream n sources s) stream)

  pub whole : (slices : List Slice) → AllAnswer n s sources 0 slices → 2 ^ 40 ≤ last_end 0 slices → answers_behind n s 0 slices ≡ full_stream n sources s
  whole slices all far =
      behind 0 slices all
      ∙ slice-all (last_end 0 slices) (full_stream n sources s)
      (all_weaker (λ (x : Tuple). x.time < 2 ^ 40) (λ (x : Tuple). x.time < last_end 0 slices) (λ x h. omega (arith, h, far)) (full_stream n sources s) (stream_ticks (full_stream n sources s) stream))

all-answer : (n : Network) (delay : Option ℕ) (s : ℕ) (r : Reach) → AnswersSlices n delay s r → (sources : List (List Tuple)) → AreInTime n delay sources
    → (a : ℕ) (slices : List Slice) → AreSlices n delay r sources a slices → AllAnswer n s sources a slices
all-answer n delay s r answers sources calm a [] all = tt
all-answer n delay s r answers sources calm a (p ∷ ps) all = (
  all.0,
  answers sources p.sources (a - r.back) (p.end + r.ahead) all.2 calm all.3 a p.end all.1 (omega arith) (omega arith),
  all-answer n delay s r answers sources calm p.end ps all.4,
)

pub makes-whole : (n : Network) → IsSound n → (delay : Option ℕ) (s : ℕ) (r : Reach) → AnswersSlices n delay s r → MakesTheWhole n delay s r
makes-whole n sound delay s r answers sources streams calm slices all far = whole n sound s sources streams slices (all-answer n delay s r answers sources calm 0 slices all) far
