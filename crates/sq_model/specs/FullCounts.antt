-- How many tuples boxes and outputs are fed, where nothing is dropped, and how many of them are late.
use Rattle.std.specs.Prelude.{ℕ, ◌+◌, ◌-◌, List, length, Option, None, Some, slice_get}
use Rattle.std.specs.List.{sum_by}
use Rattle.sq_value.specs.declared.Tuple.{Tuple}
use Rattle.sq_words.specs.Lists.{nth}
use Rattle.sq_graph.specs.Wires.{inputs_of, stream_at}
use Rattle.sq_net.specs.declared.Network.{Network}
use Rattle.sq_net.specs.declared.Node.{Node}
use Rattle.sq_net.specs.declared.Body.{Body}
use Rattle.sq_net.specs.declared.Body.TheVariants.{BSort}
use Rattle.sq_model.specs.FullStreams.{full_streams}

-- how many tuples a box is fed over all its inputs, where these are the streams by number
abbrev pub fed_from : Network → List (List Tuple) → ℕ → ℕ
fed_from n streams at = sum_by (λ s. length (nth streams s)) (inputs_of n.wires at)

-- what a BSort takes less what it gives; no other box has late tuples
abbrev pub late_by : Body → ℕ → ℕ → ℕ
late_by (BSort by slack) taken given = taken - given
late_by b taken given = 0

abbrev pub late_at : Option Node → ℕ → ℕ → ℕ
late_at None taken given = 0
late_at (Some b) taken given = late_by b.body taken given

-- how many late tuples a box has, by what it is fed and by the stream of its first port
abbrev pub late_from : Network → List (List Tuple) → ℕ → ℕ
late_from n streams at = late_at (slice_get n.boxes at) (fed_from n streams at) (length (nth streams (stream_at n.wires at 0)))

-- the same of the full streams
abbrev pub full_fed_of : Network → List (List Tuple) → ℕ → ℕ
full_fed_of n sources at = fed_from n (full_streams n sources) at

abbrev pub late_of : Network → List (List Tuple) → ℕ → ℕ
late_of n sources at = late_from n (full_streams n sources) at
