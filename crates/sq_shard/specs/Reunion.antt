-- The parts of a run put together are the whole, but for the order of tuples of one time and different parts.
--     in_part split k                                  the class of the keys of part k
--     put_together answered many                       the outputs of the parts, by time; those of one time part by part
--     AreTogether column split many whole together     what is so of them and of the whole output
use Rattle.std.specs.Prelude.{◌≡◌, ◌<◌, ◌==◌, ℕ, Bool, true, List, map, length, Option}
use Rattle.std.specs.List.{filter, All}
use Rattle.sq_value.specs.declared.Value.{Value}
use Rattle.sq_value.specs.declared.Tuple.{Tuple}
use Rattle.sq_value.specs.Values.{IsStream}
use Rattle.sq_words.specs.Lists.{Rising, numbers_to, contains_number}
use Rattle.sq_lists.specs.Merge.{union}
use Rattle.sq_net.specs.declared.Network.{Network}
use Rattle.sq_model.specs.FittingStreams.{SourcesFit}
use Rattle.sq_model.specs.FullStreams.{full_stream}
use Rattle.sq_model.specs.Unions.{tuple_sooner}
use Rattle.sq_shard.specs.Cuts.{KeyClass, is_in_class, AreParts}
use Rattle.sq_shard.specs.Laws.{NoneLate}
use Rattle.sq_shard.specs.declared.Cut.{Cut}
use Rattle.sq_shard.specs.declared.Cut.TheVariants.{By}

-- which part the keys go to
abbrev pub Split : Type 0
Split = Value → ℕ

abbrev pub in_part : Split → ℕ → KeyClass
in_part split k v = split v == k

-- what the parts 0, 1, .. answer, in order of time; of one time, part by part
abbrev pub put_together : (ℕ → List Tuple) → ℕ → List Tuple
put_together answered many = union (map answered (numbers_to many))

-- in order of time, each part's tuples in their order in the whole, and every tuple as often as there
pub record AreTogether (column : ℕ) (split : Split) (many : ℕ) (whole together : List Tuple) : Type 0 where
  pub ordered : Rising tuple_sooner together
  pub each : (k : ℕ) → k < many → filter (is_in_class (in_part split k) column) together ≡ filter (is_in_class (in_part split k) column) whole
  pub as_often : (test : Tuple → Bool) → length (filter test together) ≡ length (filter test whole)

-- for every way to split the keys into so many parts: the answers of the parts, put together by time, are the whole answer
abbrev pub PartsMakeTheWhole : Network → Network → List (Option ℕ) → Bool → (ℕ → Cut) → Type 0
PartsMakeTheWhole n whole by on_time cuts =
    (split : Split) (many : ℕ) (sources : List (List Tuple)) (part : ℕ → List (List Tuple))
    → ((v : Value) → split v < many) → SourcesFit whole sources → All IsStream sources
    → ((k : ℕ) → AreParts (in_part split k) by sources (part k))
    → (on_time ≡ true → NoneLate whole sources × ((k : ℕ) → NoneLate n (part k)))
    → (s column : ℕ) (columns : List ℕ) → cuts s ≡ By columns → contains_number columns column ≡ true
    → AreTogether column split many (full_stream whole sources s) (put_together (λ k. full_stream n (part k) s) many)
