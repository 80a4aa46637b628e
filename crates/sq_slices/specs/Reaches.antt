-- How far a slice of a stream reaches into the sources.
--     box_reach delay body ins          the reach of what a box gives, where its inputs have these; none where it can't be sliced
--     FollowsReaches n delay reaches    reaches of all streams of a network that follow the boxes; reaches_of n delay are these
--     is_uncut n delay reaches at       a box gives what can't be sliced, though what it takes can
-- `delay` is how many ticks after its time a tuple may come to a BSort; none where that isn't known.
use Rattle.std.specs.Prelude.{◌≡◌, ℕ, zero, suc, ◌+◌, ◌-◌, ◌&&◌, nat_le, max, Bool, not, if◌then◌else◌, List, [], ◌∷◌, map, length, Option, Some, None, slice_get, slice_index_or, is_some}
use Rattle.std.specs.List.{find, list_all}
use Rattle.std.specs.Option.{option_map}
use Rattle.sq_words.specs.Lists.{numbers_to}
use Rattle.sq_aggfn.specs.declared.WindowSpec.{WindowSpec}
use Rattle.sq_graph.specs.Wires.{producers_of, producer_of, inputs_of}
use Rattle.sq_graph.specs.declared.Producer.{Producer}
use Rattle.sq_graph.specs.declared.Producer.TheVariants.{Source, Port}
use Rattle.sq_net.specs.declared.Network.{Network}
use Rattle.sq_net.specs.declared.Node.{Node}
use Rattle.sq_net.specs.declared.Body.{Body}
use Rattle.sq_net.specs.declared.Body.TheVariants.{Filter, Map, Union, BSort, Aggregate, Join, Resample}
use Rattle.sq_slices.specs.declared.Grid.{Grid}
use Rattle.sq_slices.specs.declared.Reach.{Reach}
use Rattle.sq_slices.specs.Grids.{ahead_from}

-- a slice of a source, wherever it ends
abbrev pub own_reach : Reach
own_reach = record { back = 0; ahead = 0; cuts = record { step = 1; phase = 0 } }

-- a stream that is needed from so many ticks earlier on
abbrev pub earlier_reach : ℕ → Reach → Reach
earlier_reach before r = record { back = before + r.back; ahead = r.ahead; cuts = r.cuts }

-- a stream that is needed up to so many ticks later
abbrev pub later_reach : ℕ → Reach → Reach
later_reach more r = record { back = r.back; ahead = ahead_from r.cuts more r; cuts = r.cuts }

-- two streams, cut as the first is
abbrev pub beside_reach : Reach → Reach → Reach
beside_reach r q = record { back = max r.back q.back; ahead = max r.ahead (ahead_from r.cuts 0 q); cuts = r.cuts }

-- two streams, cut as that with the greater step is
abbrev pub both_reaches : Reach → Reach → Reach
both_reaches r q = if nat_le q.cuts.step r.cuts.step then beside_reach r q else beside_reach q r

abbrev pub starts : WindowSpec → Grid
starts w = record { step = w.advance; phase = w.phase }

-- cut where windows begin: those that began before a cut end no further behind it than their size less an advance
abbrev pub windowed : WindowSpec → Reach → Reach
windowed w r = record { back = r.back; ahead = ahead_from (starts w) (w.size - w.advance) r; cuts = starts w }

abbrev pub both_if : Option Reach → Option Reach → Option Reach
both_if None q = None
both_if (Some r) None = None
both_if (Some r) (Some q) = Some (both_reaches r q)

abbrev pub union_reach : List (Option Reach) → Option Reach
union_reach [] = Some own_reach
union_reach (r ∷ rs) = both_if r (union_reach rs)

abbrev pub sorted_reach : Option ℕ → Option Reach → Option Reach
sorted_reach None r = None
sorted_reach (Some delay) r = option_map (later_reach delay) r

abbrev pub reach_numbered : List (Option Reach) → ℕ → Option Reach
reach_numbered reaches i = slice_index_or reaches i None

-- a pair is of the time of the later tuple, and the other came at most the size before it; a left tuple of a Resample is
-- answered by right ones at both sides of it
abbrev pub box_reach : Option ℕ → Body → List (Option Reach) → Option Reach
box_reach delay (Filter preds) ins = reach_numbered ins 0
box_reach delay (Map exprs) ins = reach_numbered ins 0
box_reach delay Union ins = union_reach ins
box_reach delay (BSort by slack) ins = sorted_reach delay (reach_numbered ins 0)
box_reach delay (Aggregate funcs group window) ins = option_map (windowed window) (reach_numbered ins 0)
box_reach delay (Join size on) ins = option_map (earlier_reach size) (both_if (reach_numbered ins 0) (reach_numbered ins 1))
box_reach delay (Resample size funcs) ins = both_if (reach_numbered ins 0) (option_map (λ r. earlier_reach size (later_reach size r)) (reach_numbered ins 1))

abbrev pub box_reach_at : Option ℕ → Option Node → List (Option Reach) → Option Reach
box_reach_at delay None ins = None
box_reach_at delay (Some b) ins = box_reach delay b.body ins

abbrev pub reach_given : Network → Option ℕ → (ℕ → Option Reach) → Option Producer → Option Reach
reach_given n delay reaches None = None
reach_given n delay reaches (Some (Source s)) = Some own_reach
reach_given n delay reaches (Some (Port at port)) = box_reach_at delay (slice_get n.boxes at) (map reaches (inputs_of n.wires at))

-- each stream's reach is what its producer makes of those of the streams that it takes
abbrev pub FollowsReaches : Network → Option ℕ → (ℕ → Option Reach) → Type 0
FollowsReaches n delay reaches = (s : ℕ) → reaches s ≡ reach_given n delay reaches (producer_of n.wires s)

-- the reach of a stream, where it stands behind fewer boxes than `boxes`
abbrev pub reach_within : Network → Option ℕ → ℕ → ℕ → Option Reach
reach_within n delay zero s = None
reach_within n delay (suc boxes) s = reach_given n delay (reach_within n delay boxes) (producer_of n.wires s)

-- without a cycle no stream stands behind more boxes than there are
abbrev pub reach_of : Network → Option ℕ → ℕ → Option Reach
reach_of n delay s = reach_within n delay (length n.boxes + 1) s

-- the reaches of all streams, by number
abbrev pub reaches_of : Network → Option ℕ → List (Option Reach)
reaches_of n delay = map (reach_of n delay) (numbers_to (length (producers_of n.wires)))

-- those of the outputs, and the reach that serves them all
abbrev pub output_reaches_of : Network → Option ℕ → List (Option Reach)
output_reaches_of n delay = map (reach_numbered (reaches_of n delay)) n.wires.outputs

abbrev pub outputs_reach : Network → Option ℕ → Option Reach
outputs_reach n delay = union_reach (output_reaches_of n delay)

abbrev pub is_uncut : Network → Option ℕ → (ℕ → Option Reach) → ℕ → Bool
is_uncut n delay reaches at =
    list_all (λ s. is_some (reaches s)) (inputs_of n.wires at)
    && not (is_some (box_reach_at delay (slice_get n.boxes at) (map reaches (inputs_of n.wires at))))

-- the least box, by its number, that is the reason
abbrev pub first_uncut : Network → Option ℕ → Option ℕ
first_uncut n delay = find (is_uncut n delay (reach_numbered (reaches_of n delay))) (numbers_to (length n.boxes))
