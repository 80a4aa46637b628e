-- What slices of a run answer, and that they make the whole.
use Rattle.std.specs.Prelude.{◌≡◌, ◌<◌, ◌≤◌, ◌+◌, ◌-◌, ◌^◌, ⊤, ℕ, true, false, List, [], ◌∷◌, ◌++◌, map, length, Option, Some, None, slice_get, is_some}
use Rattle.std.specs.List.{All, AllByRecursion}
use Rattle.std.specs.Option.{option_map}
use Rattle.sq_value.specs.declared.Tuple.{Tuple}
use Rattle.sq_value.specs.Values.{IsStream}
use Rattle.sq_words.specs.Lists.{nth, contains_number}
use Rattle.sq_graph.specs.Wires.{producers_of, producer_of, inputs_of}
use Rattle.sq_graph.specs.Order.{is_there}
use Rattle.sq_net.specs.declared.Network.{Network}
use Rattle.sq_net.specs.declared.Node.{Node}
use Rattle.sq_net.specs.declared.Body.{Body}
use Rattle.sq_net.specs.declared.Body.TheVariants.{BSort}
use Rattle.sq_model.specs.FullStreams.{full_stream}
use Rattle.sq_shard.specs.Laws.{NoneLate}
use Rattle.sq_slices.specs.declared.Reach.{Reach}
use Rattle.sq_slices.specs.Grids.{may_end}
use Rattle.sq_slices.specs.Slices.{AgreeIn, SourcesAgree, CameWithin, slice}
use Rattle.sq_slices.specs.Reaches.{earlier_reach, is_uncut, reaches_of, union_reach}

-- ---- what is asked of BSorts

abbrev pub FedWithin : ℕ → Body → List Tuple → Type 0
FedWithin delay (BSort by slack) xs = AllByRecursion (CameWithin delay by) xs
FedWithin delay b xs = ⊤

abbrev pub FedWithinAt : ℕ → Option Node → List Tuple → Type 0
FedWithinAt delay None xs = ⊤
FedWithinAt delay (Some b) xs = FedWithin delay b.body xs

-- what each BSort is fed came within the delay
abbrev pub NoneDelayed : Network → ℕ → List (List Tuple) → Type 0
NoneDelayed n delay sources = (at : ℕ) → FedWithinAt delay (slice_get n.boxes at) (nth (map (full_stream n sources) (inputs_of n.wires at)) 0)

-- where a delay is told, no BSort leaves out a tuple, nor is it fed one that came later than that
abbrev pub AreInTime : Network → Option ℕ → List (List Tuple) → Type 0
AreInTime n None sources = ⊤
AreInTime n (Some delay) sources = NoneLate n sources × NoneDelayed n delay sources

-- ---- slices of a run

-- where it ends, and what it has of the sources
pub record Slice : Type 0 where
  pub end : ℕ
  pub sources : List (List Tuple)

abbrev pub last_end : ℕ → List Slice → ℕ
last_end a [] = a
last_end a (p ∷ ps) = last_end p.end ps

-- of each slice the tuples from the end of the one before on, and before its own
abbrev pub answers_behind : Network → ℕ → ℕ → List Slice → List Tuple
answers_behind n s a [] = []
answers_behind n s a (p ∷ ps) = slice a p.end (full_stream n p.sources s) ++ answers_behind n s p.end ps

-- ---- laws

-- a part that agrees with the sources as far as a slice of a stream reaches answers that slice
abbrev pub AnswersSlices : Network → Option ℕ → ℕ → Reach → Type 0
AnswersSlices n delay s r =
    (sources part : List (List Tuple)) (lo hi : ℕ) → SourcesAgree lo hi sources part → AreInTime n delay sources → AreInTime n delay part
    → (a b : ℕ) → may_end r.cuts b ≡ true → lo ≤ a - r.back → b + r.ahead ≤ hi → AgreeIn a b (full_stream n sources s) (full_stream n part s)

abbrev pub SlicesAnswerSlices : Network → Option ℕ → (ℕ → Option Reach) → Type 0
SlicesAnswerSlices n delay reaches = (s : ℕ) (r : Reach) → reaches s ≡ Some r → AnswersSlices n delay s r

-- slices that end at cuts, each beginning where the one before it ends, and each with the sources as far as it reaches
abbrev pub AreSlices : Network → Option ℕ → Reach → List (List Tuple) → ℕ → List Slice → Type 0
AreSlices n delay r sources a [] = ⊤
AreSlices n delay r sources a (p ∷ ps) =
    (a ≤ p.end) × (may_end r.cuts p.end ≡ true) × SourcesAgree (a - r.back) (p.end + r.ahead) sources p.sources × AreInTime n delay p.sources
    × AreSlices n delay r sources p.end ps

-- the slices of all ticks, one behind the other, answer what the whole does, tuple by tuple. A tick is less than 2^40
abbrev pub MakesTheWhole : Network → Option ℕ → ℕ → Reach → Type 0
MakesTheWhole n delay s r =
    (sources : List (List Tuple)) → All IsStream sources → AreInTime n delay sources
    → (slices : List Slice) → AreSlices n delay r sources 0 slices → 2 ^ 40 ≤ last_end 0 slices
    → answers_behind n s 0 slices ≡ full_stream n sources s

abbrev pub SlicesMakeTheWhole : Network → Option ℕ → (ℕ → Option Reach) → Type 0
SlicesMakeTheWhole n delay reaches = (s : ℕ) (r : Reach) → reaches s ≡ Some r → MakesTheWhole n delay s r

-- the same slices for several streams, as for all outputs of a run
abbrev pub SlicesMakeThemAll : Network → Option ℕ → (ℕ → Option Reach) → Type 0
SlicesMakeThemAll n delay reaches =
    (streams : List ℕ) (r : Reach) → union_reach (map reaches streams) ≡ Some r → (s : ℕ) → contains_number streams s ≡ true → MakesTheWhole n delay s r

-- the reach of all streams of a network, and so many ticks before it
abbrev pub run_reach : Network → ℕ → Option Reach
run_reach n delay = option_map (earlier_reach delay) (union_reach (reaches_of n (Some delay)))

-- slices that reach so far tell by themselves: where each of them is in time, they make the whole
abbrev pub SlicesMakeTheRun : Network → ℕ → Type 0
SlicesMakeTheRun n delay =
    (sources : List (List Tuple)) → All IsStream sources
    → (r : Reach) → run_reach n delay ≡ Some r
    → (slices : List Slice) → AreSlices n (Some delay) r sources 0 slices → 2 ^ 40 ≤ last_end 0 slices
    → (s : ℕ) → s < length (producers_of n.wires) → answers_behind n s 0 slices ≡ full_stream n sources s

-- where a stream that is there can't be sliced, some box is the reason
abbrev pub UncutAreNamed : Network → Option ℕ → (ℕ → Option Reach) → Type 0
UncutAreNamed n delay reaches =
    (s : ℕ) → is_there (producer_of n.wires s) ≡ true → is_some (reaches s) ≡ false
    → (at : ℕ) × (at < length n.boxes) × (is_uncut n delay reaches at ≡ true)
