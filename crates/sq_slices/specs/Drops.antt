-- What a slice of a run shows where batches are dropped, its plans, and which batches those are.
use Rattle.std.specs.Prelude.{◌≡◌, ⊤, ℕ, ◌+◌, ◌-◌, ◌*◌, ◌/◌, ◌≤◌, min, nat_le, nat_lt, ◌&&◌, true, List, map, length, Option, Some, None, slice_get}
use Rattle.std.specs.List.{filter}
use Rattle.sq_value.specs.declared.Tuple.{Tuple}
use Rattle.sq_graph.specs.Wires.{output_arc_at}
use Rattle.sq_place.specs.declared.DropAt.{DropAt}
use Rattle.sq_place.specs.declared.DropAt.TheVariants as at
use Rattle.sq_place.specs.declared.DropPoint.{DropPoint}
use Rattle.sq_place.specs.Places.{stream_on}
use Rattle.sq_place.specs.Points.{until_of}
use Rattle.sq_net.specs.declared.Network.{Network}
use Rattle.sq_plan.specs.declared.closing.Shown.{Shown}
use Rattle.sq_lines.specs.LineTexts.{drop_line}
use Rattle.sq_points.specs.Above.{drop_above_output}
use Rattle.sq_points.specs.Points.{points_of}
use Rattle.sq_model.specs.FullStreams.{full_arc}
use Rattle.sq_model.specs.PlanLines.{last_epoch, plans_shown}
use Rattle.sq_model.specs.Shedding.{Replay, answer_of, full_at, epoch_of, batch_level, record_of}
use Rattle.sq_slices.specs.declared.Reach.{Reach}
use Rattle.sq_slices.specs.Grids.{may_end}
use Rattle.sq_slices.specs.Slices.{AgreeIn, SourcesAgree}
use Rattle.sq_slices.specs.Laws.{AreInTime}

-- the same run of other sources
abbrev pub of_part : Replay → List (List Tuple) → Replay
of_part r part = record { network = r.network; sources = part; entries = r.entries; seed = r.seed }

-- where the batch of a tick begins, and where the epoch before that begins
abbrev pub batch_begin : DropPoint → ℕ → ℕ
batch_begin p a = a / p.length * p.length

abbrev pub epoch_before : Replay → ℕ → ℕ
epoch_before r t = (t / r.network.epoch - 1) * r.network.epoch

-- until when the tuples of a slice's last batch are kept
abbrev pub kept_until : DropPoint → ℕ → ℕ
kept_until p b = until_of p ((b - 1) / p.length)

-- what a drop needs for a slice: at the drop all ticks of the slice's batches and what is kept for them, and of the sources all ticks
-- from the epoch before the first of them on, since a plan is made of what arrived in the epoch before
abbrev pub BatchesAgree : Replay → List (List Tuple) → ℕ → ℕ → Option (ℕ × DropPoint) → Type 0
BatchesAgree r part a b None = ⊤
BatchesAgree r part a b (Some d) =
    (1 ≤ (d.1).length) × (1 ≤ r.network.epoch) × (length part ≡ length r.sources)
    × AgreeIn (batch_begin d.1 a) (kept_until d.1 b) (full_at r (d.1).at) (full_at (of_part r part) (d.1).at)
    × SourcesAgree (epoch_before r (batch_begin d.1 a)) b r.sources part

-- a part that agrees so shows the same of an output as the whole, whatever was dropped
abbrev pub SlicesShowTheSame : Replay → Type 0
SlicesShowTheSame r =
    (part : List (List Tuple)) (o a b : ℕ) → BatchesAgree r part a b (drop_above_output r.network o)
    → AgreeIn a b (full_arc r.network r.sources (output_arc_at r.network.wires o)) (full_arc r.network part (output_arc_at r.network.wires o))
    → AgreeIn a b (answer_of r o) (answer_of (of_part r part) o)

-- ---- plans, and the batches that are dropped

-- the plans that a run shows for epochs that begin in a slice
abbrev pub plans_begun : Replay → ℕ → ℕ → List Shown
plans_begun r a b = filter (λ p. nat_le a (p.epoch * r.network.epoch) && nat_lt (p.epoch * r.network.epoch) b) (plans_shown r)

-- where the last epoch with a tuple ends
abbrev pub plans_end : Replay → ℕ
plans_end r = (last_epoch r + 1) * r.network.epoch

-- what a slice needs for its plans: of the sources all ticks from the epoch before it on. A plan is shown where a tuple comes in its epoch
-- or behind it, so the last epoch with a tuple is the same too, as far as the slice goes
abbrev pub PlansAgree : Replay → List (List Tuple) → ℕ → ℕ → Type 0
PlansAgree r part a b =
    (1 ≤ r.network.epoch) × (length part ≡ length r.sources) × SourcesAgree (epoch_before r a) b r.sources part × (min b (plans_end r) ≡ min b (plans_end (of_part r part)))

-- a part that agrees so shows the same plans for the epochs of the slice
abbrev pub SlicesPlanTheSame : Replay → Type 0
SlicesPlanTheSame r = (part : List (List Tuple)) (a b : ℕ) → PlansAgree r part a b → plans_begun r a b ≡ plans_begun (of_part r part) a b

-- the lines of the batches of a drop that begin in a slice and are dropped, each with its level
abbrev pub drops_begun : Replay → ℕ → DropPoint → ℕ → ℕ → List (List ℕ)
drops_begun r w p a b =
    map (λ k. drop_line w k (batch_level r (epoch_of r (k * p.length)) w)) (filter (λ k. nat_le a (k * p.length) && nat_lt (k * p.length) b) (record_of r w p))

-- a part that agrees as a drop needs it drops the same batches of the slice, at the same levels
abbrev pub SlicesDropTheSame : Replay → Type 0
SlicesDropTheSame r =
    (part : List (List Tuple)) (w : ℕ) (p : DropPoint) (a b : ℕ) → BatchesAgree r part a b (Some (w, p)) → drops_begun r w p a b ≡ drops_begun (of_part r part) w p a b

-- ---- by reaches

-- a slice of a stream, made longer up to one of its cuts, reaches no further than from one tick to another
abbrev pub ReachesInto : (ℕ → Option Reach) → ℕ → ℕ → ℕ → ℕ → ℕ → Type 0
ReachesInto reaches lo hi s a b =
    (q : Reach) × (e : ℕ) × (reaches s ≡ Some q) × (b ≤ e) × (may_end q.cuts e ≡ true) × (lo ≤ a - q.back) × (e + q.ahead ≤ hi)

-- the same of the stream at a place
abbrev pub PlaceReachesInto : Network → (ℕ → Option Reach) → ℕ → ℕ → DropAt → ℕ → ℕ → Type 0
PlaceReachesInto n reaches lo hi (at.Stream s) a b = ReachesInto reaches lo hi s a b
PlaceReachesInto n reaches lo hi (at.Arc x) a b = ReachesInto reaches lo hi (stream_on n.wires x) a b

-- the same of what a drop needs
abbrev pub DropReachesInto : Replay → (ℕ → Option Reach) → ℕ → ℕ → ℕ → ℕ → DropPoint → Type 0
DropReachesInto r reaches lo hi a b p =
    PlaceReachesInto r.network reaches lo hi p.at (batch_begin p a) (kept_until p b) × (lo ≤ epoch_before r (batch_begin p a)) × (b ≤ hi)

abbrev pub DropsReachInto : Replay → (ℕ → Option Reach) → ℕ → ℕ → ℕ → ℕ → Option (ℕ × DropPoint) → Type 0
DropsReachInto r reaches lo hi a b None = ⊤
DropsReachInto r reaches lo hi a b (Some d) = DropReachesInto r reaches lo hi a b d.1

-- a part that agrees with the sources so far shows of an output what the whole does, and drops the same batches of each drop
abbrev pub SlicesShowTheRun : Replay → Option ℕ → (ℕ → Option Reach) → Type 0
SlicesShowTheRun r delay reaches =
    (part : List (List Tuple)) (lo hi : ℕ) → SourcesAgree lo hi r.sources part → length part ≡ length r.sources
    → AreInTime r.network delay r.sources → AreInTime r.network delay part → (a b : ℕ)
    → ((o : ℕ) → ReachesInto reaches lo hi (stream_on r.network.wires (output_arc_at r.network.wires o)) a b → DropsReachInto r reaches lo hi a b (drop_above_output r.network o)
    → AgreeIn a b (answer_of r o) (answer_of (of_part r part) o))
    × ((w : ℕ) (p : DropPoint) → slice_get (points_of r.network) w ≡ Some p → DropReachesInto r reaches lo hi a b p → drops_begun r w p a b ≡ drops_begun (of_part r part) w p a b)
