-- The summary of a run is that of its replay.
use Rattle.std.proofs.Common.{◌≡◌, ◌≢◌, ℕ, List, length, map, refl, ap, ◌∙◌, subst, Option}
use Rattle.sq_words.specs.Lists.{numbers_to}
use Rattle.sq_outside.specs.Sinks.{AppendsPrefix, appended, AppendsSuch}
use Rattle.sq_net.specs.declared.Network.{Network}
use Rattle.sq_model.specs.Shedding.{Replay}
use Rattle.sq_core.specs.declared.engine.Engine.{Engine}
use Rattle.sq_core.specs.Runs.{fed_at, late_at_seat}
use Rattle.sq_status.specs.declared.Status.{Status}
use Rattle.sq_status.specs.declared.Status.TheVariants as status
use Rattle.sq_due.specs.declared.counting.Counts.{Counts}
use Rattle.sq_top.specs.Texts.{BeginsSummary, BeginsText}
use Rattle.sq_due.specs.Counting.{engine_summary}
use Rattle.sq_drive.specs.Summed.{IsSummed}
use Rattle.sq_points.specs.Points.{drops_in}
use Rattle.sq_due.specs.Due.{answer_in, fed_in, late_counts}
use Rattle.sq_due.specs.Summaries.{summary_of, summary_text}
use Rattle.sq_top.proofs.EndLemmas.{appends_all, appends_begun, appends_none}
use Rattle.sq_due.proofs.SameNumbers.{same_numbers}

module _ (number rows : ℕ) (r : Replay) where
  -- nothing is written yet
  pub summary_waits : (before : Option (List ℕ)) (s : Status) → AppendsSuch before before (BeginsSummary number rows r s)
  summary_waits before s = appends_none before (BeginsSummary number rows r s) ((summary_of number rows r, refl), λ other. refl)

  module _ (engine : Engine) (same : engine.network ≡ r.network) (counts : Counts) (begun steps : ℕ) (summed : IsSummed r engine counts begun steps) where
    summary_is : engine_summary number rows engine counts ≡ summary_of number rows r
    summary_is =
        ap (λ (n : Network). summary_text number rows n counts.lines.items counts.drops.items (map (fed_at engine) (numbers_to (length n.boxes))) (map (late_at_seat engine) (numbers_to (length n.boxes)))) same
        ∙ ap (λ xs. summary_text number rows r.network xs counts.drops.items (map (fed_at engine) (numbers_to (length r.network.boxes))) (map (late_at_seat engine) (numbers_to (length r.network.boxes)))) summed.lines
        ∙ ap (λ xs. summary_text number rows r.network (map (λ o. length ((answer_in r).tuples o)) (numbers_to (length r.network.outputs))) xs
        (map (fed_at engine) (numbers_to (length r.network.boxes))) (map (late_at_seat engine) (numbers_to (length r.network.boxes)))) summed.drops
        ∙ ap (λ xs. summary_text number rows r.network (map (λ o. length ((answer_in r).tuples o)) (numbers_to (length r.network.outputs)))
        (map (λ w. length ((answer_in r).decisions w)) (numbers_to (drops_in r.network))) xs (map (late_at_seat engine) (numbers_to (length r.network.boxes))))
        (same_numbers (fed_at engine) (fed_in r) (length r.network.boxes) summed.fed)
        ∙ ap (λ xs. summary_text number rows r.network (map (λ o. length ((answer_in r).tuples o)) (numbers_to (length r.network.outputs)))
        (map (λ w. length ((answer_in r).decisions w)) (numbers_to (drops_in r.network))) (map (fed_in r) (numbers_to (length r.network.boxes))) xs)
        (same_numbers (late_at_seat engine) (late_counts r) (length r.network.boxes) summed.late)

    -- it is all written
    pub summary_ends : (before now : Option (List ℕ)) → now ≡ appended before (engine_summary number rows engine counts)
        → AppendsSuch before now (λ text. text ≡ summary_of number rows r)
    summary_ends before now written = appends_all before now (engine_summary number rows engine counts) (λ text. text ≡ summary_of number rows r) written summary_is

    -- a part of it is lost
    pub summary_cut : (before now : Option (List ℕ)) (s : Status) → AppendsPrefix before now (engine_summary number rows engine counts)
        → (s ≢ status.SinkFault → now ≡ before) → AppendsSuch before now (BeginsSummary number rows r s)
    summary_cut before now s part alone = subst (λ whole. AppendsSuch before now (BeginsText whole s)) summary_is (appends_begun (engine_summary number rows engine counts) before now s part alone)
