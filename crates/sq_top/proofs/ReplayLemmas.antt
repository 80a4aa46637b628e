-- What a replay has written: the text of a history, and the end lines behind it.
use Rattle.std.proofs.Common.{◌≡◌, ℕ, ◌<◌, ◌^◌, Bool, List, [], ◌∷◌, ◌++◌, length, map, refl, ap, ap₂, sym, ◌∙◌, append_assoc, Option, None, Some, drop}
use Rattle.std.specs.Prelude.{slice_get}
use Rattle.std.specs.List.{AllByRecursion}
use Rattle.sq_words.specs.Lists.{IsPrefixOf, numbers_to}
use Rattle.sq_lines.specs.Classes.{Ended}
use Rattle.sq_outside.specs.Sinks.{AppendsPrefix, appended, AppendsSuch}
use Rattle.sq_outside.proofs.SinkLemmas.{appended-append}
use Rattle.sq_net.specs.declared.Network.{Network}
use Rattle.sq_net.specs.SoundNetworks.{IsSound}
use Rattle.sq_oper.specs.declared.outs.Event.{Event}
use Rattle.sq_oper.specs.declared.outs.Decision.{Decision}
use Rattle.sq_lines.specs.RunLines.{boxes_from, end_lines_from, lines_text}
use Rattle.sq_place.specs.declared.DropPoint.{DropPoint}
use Rattle.sq_points.specs.Points.{points_of, drops_in}
use Rattle.sq_model.specs.Shedding.{Replay, record_of}
use Rattle.sq_start.specs.Nets.{decision_on, drop_decisions}
use Rattle.sq_core.specs.declared.engine.Engine.{Engine}
use Rattle.sq_core.specs.Runs.{fed_at, late_at_seat}
use Rattle.sq_status.specs.declared.Status.{Status}
use Rattle.sq_due.specs.Due.{Due, answer_in, due_in, ended_in, fed_in, late_counts}
use Rattle.sq_due.specs.Answers.{IsPrefixText, IsWholeText}
use Rattle.sq_drive.specs.Driving.{BeginsAnswer, IsDriven, IsHalted}
use Rattle.sq_due.specs.Histories.{IsEventAt, ends_text, history_text}
use Rattle.sq_due.proofs.ClassLemmas.{IsLineOf}
use Rattle.sq_top.proofs.EndLemmas.{all_ended, appends_all, few_drops}
use Rattle.sq_top.proofs.HistoryLemmas.{beginning_of_history, whole_of_history}
use Rattle.sq_top.proofs.RestLemmas.{prefix_of_history}
use Rattle.sq_due.proofs.WritingLemmas.{appended-nil}
use Rattle.sq_due.proofs.SameNumbers.{same_numbers}

module _ (r : Replay) (first : ℕ) (sound : IsSound r.network) where
  abbrev due : Due
  due = due_in r first

  -- the decisions of a drop are its own
  own : (w : ℕ) → AllByRecursion (λ (d : Decision). d.drop ≡ w) ((answer_in r).decisions w)
  own w = by (slice_get (points_of r.network) w)
    where
      each : (p : DropPoint) (bs : List ℕ) → AllByRecursion (λ (d : Decision). d.drop ≡ w) (map (decision_on r w p) bs)
      each p [] = tt
      each p (b ∷ bs) = (refl, each p bs)

      by : (o : Option DropPoint) → AllByRecursion (λ (d : Decision). d.drop ≡ w) (drop_decisions r w o)
      by None = tt
      by (Some p) = each p (record_of r w p)

  ends : AllByRecursion (IsLineOf Ended) (ended_in r first)
  ends =
      all_ended (boxes_from first r.network) (drop first (map (fed_in r) (numbers_to (length r.network.boxes)))) (drop first (map (late_counts r) (numbers_to (length r.network.boxes))))

  few : drops_in r.network < 2 ^ 64
  few = few_drops r.network sound

  prefix_due : (history : List Event) → AllByRecursion (IsEventAt r.network) history → BeginsAnswer r.network (answer_in r) history
      → (text : List ℕ) → IsPrefixOf text (history_text r.network history) → IsPrefixText due text
  prefix_due history shown begins text part =
      prefix_of_history r.network (answer_in r) own history sound (ended_in r first) ends few shown begins text part

  -- nothing is written yet
  pub replay_waits : (before : Option (List ℕ)) → AppendsSuch before before (IsPrefixText due)
  replay_waits before =
      let a = answer_in r in
      let nothing : BeginsAnswer r.network a [] = record { lines = λ o low. (a.tuples o, refl); drops = λ w low. (a.decisions w, refl); plans = (a.plans, refl) } in
      appends_all before before [] (IsPrefixText due) (sym (appended-nil before)) (prefix_due [] tt nothing [] ([], refl))

  -- the run stopped on its way
  pub replay_halts : (honest : Bool) (s : Status) (before now : Option (List ℕ)) (begun steps : ℕ) → IsHalted honest r [] s before now begun steps → AppendsSuch before now (IsPrefixText due)
  replay_halts honest s before now begun steps halted =
      let part = halted.written in
      appends_all before now part.0 (IsPrefixText due) part.2 (prefix_due halted.events halted.shown halted.stopped.first part.0 part.1)

  module _ (engine : Engine) (same : engine.network ≡ r.network) (before mid : Option (List ℕ)) (begun steps : ℕ) (driven : IsDriven r [] engine before mid begun steps) where
    ends_are : ends_text first engine ≡ lines_text due.ended
    ends_are =
        ap (λ (m : Network). lines_text (end_lines_from m first (map (fed_at engine) (numbers_to (length m.boxes))) (map (late_at_seat engine) (numbers_to (length m.boxes))))) same
        ∙ ap₂ (λ fed late. lines_text (end_lines_from r.network first fed late))
        (same_numbers (fed_at engine) (fed_in r) (length r.network.boxes) driven.fed) (same_numbers (late_at_seat engine) (late_counts r) (length r.network.boxes) driven.late)

    -- its lines are all written
    pub replay_ends : (now : Option (List ℕ)) → now ≡ appended mid (ends_text first engine) → AppendsSuch before now (IsWholeText due)
    replay_ends now written =
        let lines = history_text r.network driven.events in
        appends_all before now (lines ++ lines_text due.ended) (IsWholeText due)
        (written ∙ ap₂ appended driven.written ends_are ∙ appended-append before lines (lines_text due.ended))
        (whole_of_history r.network sound (answer_in r) (ended_in r first) ends few driven.events driven.shown driven.all)

    -- a part of the end lines is lost
    pub replay_cut : (now : Option (List ℕ)) → AppendsPrefix mid now (ends_text first engine) → AppendsSuch before now (IsPrefixText due)
    replay_cut now part =
        let lines = history_text r.network driven.events in
        appends_all before now (lines ++ part.0) (IsPrefixText due)
        (part.2 ∙ ap (λ o. appended o part.0) driven.written ∙ appended-append before lines part.0)
        (beginning_of_history r.network sound (answer_in r) (ended_in r first) ends few driven.events driven.shown driven.all (lines ++ part.0)
        (part.1.0, ap (λ text. lines ++ text) (sym ends_are ∙ part.1.1) ∙ sym (append_assoc lines part.0 part.1.0)))
