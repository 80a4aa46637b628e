-- How many tuples boxes and outputs are fed, where nothing is dropped, and how many of them are late: words of the proofs alone.
use Rattle.std.specs.Prelude.{List, length, ℕ, ◌+◌}
use Rattle.sq_net.specs.declared.Network.{Network}
use Rattle.sq_value.specs.declared.Tuple.{Tuple}
use Rattle.sq_model.specs.FullCounts.{fed_from}
use Rattle.sq_model.specs.FullStreams.{full_streams}
use Rattle.sq_words.specs.Lists.{nth, numbers_to}
use Rattle.std.specs.List.{sum_by}

-- how many tuples all boxes and all outputs are fed
abbrev pub work_from : Network → List (List Tuple) → ℕ
work_from n streams =
    sum_by (fed_from n streams) (numbers_to (length n.boxes)) + sum_by (λ s. length (nth streams s)) n.wires.outputs

abbrev pub work_of : Network → List (List Tuple) → ℕ
work_of n sources = work_from n (full_streams n sources)
