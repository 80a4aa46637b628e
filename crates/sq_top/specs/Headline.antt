-- The headline, to be read alone: what a run has written whose words and files were accepted.
--     ShowsUnrecorded    of each output exactly the full-load lines whose windows start in no batch that is recorded as dropped
--     RecordsDropped     exactly the batches that plan and seed drop
--     FeedsNeeded        each box was fed exactly the tuples still needed
--     KeepsHeadline      these three where it ends Ok; at any other end a prefix of each
use Rattle.std.specs.Prelude.{◌≡◌, ◌≢◌, ℕ, ◌*◌, ◌<◌, List, length, map, Option, Some, None, slice_get}
use Rattle.sq_value.specs.declared.Tuple.{Tuple}
use Rattle.sq_graph.specs.Wires.{input_arcs_of}
use Rattle.sq_lines.specs.Classes.{Shown, Dropped, Planned, Ended, of_class}
use Rattle.sq_lines.specs.LineTexts.{drop_line, output_line}
use Rattle.sq_place.specs.declared.DropPoint.{DropPoint}
use Rattle.sq_net.specs.declared.Output.{Output}
use Rattle.sq_points.specs.Above.{drop_above_output}
use Rattle.sq_points.specs.Points.{points_of}
use Rattle.sq_model.specs.GivenLevels.{shown_without}
use Rattle.sq_model.specs.KeptTuples.{kept_of}
use Rattle.sq_model.specs.PlanLines.{plans_shown}
use Rattle.sq_model.specs.Shedding.{batch_level, epoch_of, record_of}
use Rattle.sq_tap.specs.Parts.{full_output}
use Rattle.sq_starts.specs.LastAggregates.{TimesAreStarts}
use Rattle.sq_status.specs.declared.Status.{Status}
use Rattle.sq_status.specs.declared.Status.TheVariants as status
use Rattle.sq_work.specs.Scripts.{AcceptedReplay}
use Rattle.sq_due.specs.Due.{due_of, ended_in, plan_text, replayed}
use Rattle.sq_due.specs.Answers.{IsPrefixText, IsWholeText}

-- the tuples whose batch isn't recorded of the drop above, where there is one
abbrev pub unrecorded : (ℕ → List ℕ) → Option (ℕ × DropPoint) → List Tuple → List Tuple
unrecorded recorded None xs = xs
unrecorded recorded (Some d) xs = shown_without d.1 (recorded d.0) xs

module _ (r : AcceptedReplay) where
  -- the line of a batch that is dropped, with the level of the epoch in which it begins
  abbrev pub batch_line : ℕ → DropPoint → ℕ → List ℕ
  batch_line w p b = drop_line w b (batch_level (replayed r) (epoch_of (replayed r) (b * p.length)) w)

  module _ (text : List ℕ) where
    -- where a text records these batches of each drop: of each output it has exactly the lines of the full answer whose batch isn't
    -- recorded, in order, and below a drop the batch of a line is that in which its window starts; beside the lines of outputs, drops and
    -- plans and the end lines it has nothing
    pub record ShowsUnrecorded (recorded : ℕ → List ℕ) : Type 0 where
      pub lines : (o : ℕ) (output : Output) → slice_get r.network.outputs o ≡ Some output
          → of_class (Shown output.name) text ≡ map (output_line output.name) (unrecorded recorded (drop_above_output r.network o) (full_output r.network r.sources o))
      pub starts : TimesAreStarts r.network r.sources
      pub alone : IsWholeText (due_of r) text

    -- it records of each drop these batches, a line each, which are exactly those that plan and seed drop; and the plans
    pub record RecordsDropped (recorded : ℕ → List ℕ) : Type 0 where
      pub told : (w : ℕ) (p : DropPoint) → slice_get (points_of r.network) w ≡ Some p → of_class (Dropped w) text ≡ map (batch_line w p) (recorded w)
      pub dropped : (w : ℕ) (p : DropPoint) → slice_get (points_of r.network) w ≡ Some p → recorded w ≡ record_of (replayed r) w p
      pub plans : of_class Planned text ≡ map plan_text (plans_shown (replayed r))

    -- each box took, at each port, exactly the tuples of the arc there that are still needed, where this is what the boxes of the run took;
    -- and the end lines tell how many tuples those are
    pub record FeedsNeeded (Took : (ℕ → ℕ → List Tuple) → Type 0) : Type 0 where
      pub took : ℕ → ℕ → List Tuple
      pub of_run : Took took
      pub needed : (at port arc : ℕ) → at < length r.network.boxes → slice_get (input_arcs_of r.network.wires at) port ≡ Some arc
          → took at port ≡ kept_of (replayed r) arc
      pub counted : of_class Ended text ≡ ended_in (replayed r) r.first

    -- Took says of tuples, by box and port, that they are what the boxes of the run took
    pub record KeepsHeadline (result : Status) (Took : (ℕ → ℕ → List Tuple) → Type 0) : Type 0 where
      -- ends Ok
      pub recorded : ℕ → List ℕ
      pub shows : result ≡ status.Ok → ShowsUnrecorded recorded
      pub records : result ≡ status.Ok → RecordsDropped recorded
      pub feeds : result ≡ status.Ok → FeedsNeeded Took
      -- any other end
      pub begins : result ≢ status.Ok → IsPrefixText (due_of r) text
