-- What a run is to write and the steps that it is to take.
use Rattle.std.specs.Prelude.{ℕ, List, map, length, slice_get}
use Rattle.std.specs.List.{zip}
use Rattle.sq_value.specs.declared.Tuple.{Tuple}
use Rattle.sq_words.specs.Lists.{numbers_to}
use Rattle.sq_net.specs.declared.Network.{Network}
use Rattle.sq_net.specs.declared.Output.{Output}
use Rattle.sq_oper.specs.declared.outs.Decision.{Decision}
use Rattle.sq_plan.specs.declared.closing.Shown.{Shown}
use Rattle.sq_lines.specs.RunLines.{end_lines_from}
use Rattle.sq_points.specs.Points.{points_of, drops_in}
use Rattle.sq_model.specs.FullCounts.{late_of}
use Rattle.sq_model.specs.KeptTuples.{fed_of, turns_of, work_of}
use Rattle.sq_model.specs.Shedding as model
use Rattle.sq_model.specs.Shedding.{answer_of}
use Rattle.sq_model.specs.PlanLines.{plans_shown}
use Rattle.sq_start.specs.Nets.{drop_decisions}
use Rattle.sq_work.specs.Scripts.{AcceptedReplay}
use Rattle.sq_lines.specs.LineTexts.{drop_line, output_line, plan_line}

-- the lines of each output, by its name, those of each drop, by its number, those of the plans, and the end lines
pub record Due : Type 0 where
  pub shown : List (List ℕ × List (List ℕ))
  pub dropped : List (ℕ × List (List ℕ))
  pub planned : List (List ℕ)
  pub ended : List (List ℕ)

-- what a run shows: of each output the tuples, of each drop the batches that it drops, and the plans
pub record Answer : Type 0 where
  pub tuples : ℕ → List Tuple
  pub decisions : ℕ → List Decision
  pub plans : List Shown

-- the outputs in file order, each with its number
abbrev pub outputs_of : Network → List (Output × ℕ)
outputs_of n = zip n.outputs (numbers_to (length n.outputs))

-- what is replayed: the answer is deterministic, so no schedule stands in it
abbrev pub replayed : AcceptedReplay → model.Replay
replayed r = record { network = r.network; sources = r.sources; entries = r.entries; seed = r.seed }

-- an output's name, and the lines of its tuples
abbrev pub shown_at_output : Answer → Output × ℕ → List ℕ × List (List ℕ)
shown_at_output a o = ((o.0).name, map (output_line (o.0).name) (a.tuples o.1))

-- a drop's number, and the lines of its batches
abbrev pub dropped_from : Answer → ℕ → ℕ × List (List ℕ)
dropped_from a w = (w, map (λ d. drop_line w d.batch d.level) (a.decisions w))

abbrev pub plan_text : Shown → List ℕ
plan_text p = plan_line p.epoch p.load p.capacity p.saved p.fits

-- the lines of an answer, and these at the end
abbrev pub due_from : Network → Answer → List (List ℕ) → Due
due_from n a ended = record {
  shown = map (shown_at_output a) (outputs_of n);
  dropped = map (dropped_from a) (numbers_to (drops_in n));
  planned = map plan_text a.plans;
  ended = ended;
}

module _ (r : model.Replay) where
  -- each output shows its answer, each drop decides its record, and the plans are those of the epochs
  abbrev pub answer_in : Answer
  answer_in = record { tuples = answer_of r; decisions = λ w. drop_decisions r w (slice_get (points_of r.network) w); plans = plans_shown r }

  -- how many tuples a box is fed, and how many of them are late
  abbrev pub fed_in : ℕ → ℕ
  fed_in at = fed_of r at

  abbrev pub late_counts : ℕ → ℕ
  late_counts at = late_of r.network r.sources at

  -- the end lines of the boxes from one on
  abbrev pub ended_in : ℕ → List (List ℕ)
  ended_in first = end_lines_from r.network first (map fed_in (numbers_to (length r.network.boxes))) (map late_counts (numbers_to (length r.network.boxes)))

  -- how many tuples are fed in all
  abbrev pub work_in : ℕ
  work_in = work_of r

  -- and how many items
  abbrev pub turns_in : ℕ
  turns_in = turns_of r

  abbrev pub due_in : ℕ → Due
  due_in first = due_from r.network answer_in (ended_in first)

-- what is due of a replay
abbrev pub due_of : AcceptedReplay → Due
due_of r = due_in (replayed r) r.first
