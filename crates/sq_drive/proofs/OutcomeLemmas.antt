-- What was written, or counted, of a run that came to its end, or of one that stopped.
use Rattle.std.proofs.Common.{◌≡◌, ℕ, List, [], ◌++◌, inl, inr, length, map, ap, ◌∙◌, subst, sym, arith, Option}
use Rattle.std.specs.List.{AllByRecursion}
use Rattle.sq_value.specs.declared.Tuple.{Tuple}
use Rattle.sq_words.specs.Lists.{numbers_to}
use Rattle.sq_outside.specs.Faults.{Rose}
use Rattle.sq_outside.specs.Sinks.{AppendsPrefix, appended}
use Rattle.sq_net.specs.declared.Network.{Network}
use Rattle.sq_oper.specs.declared.outs.Decision.{Decision}
use Rattle.sq_oper.specs.declared.outs.Event.{Event}
use Rattle.sq_pool.specs.Trust.{known}
use Rattle.sq_points.specs.Points.{drops_in}
use Rattle.sq_flow.specs.Events.{drops_of, lines_of}
use Rattle.sq_core.specs.Runs.{IsSoundEngine}
use Rattle.sq_status.specs.declared.Status.{Status}
use Rattle.sq_due.specs.declared.counting.Counts.{Counts}
use Rattle.sq_due.specs.Counting.{AreCountsOf, HasCounts}
use Rattle.sq_drive.specs.Driving.{HasEnded, IsCutShort}
use Rattle.sq_due.specs.Histories.{IsEventAt, history_text}
use Rattle.sq_due.specs.Due.{answer_in}
use Rattle.sq_due.specs.States.{SinkState}
use Rattle.sq_drive.specs.Turns.{CountEnds, DriveEnds, DriveFails, EndsOn, FailsOn, KeepsRun, RunState}
use Rattle.sq_drive.proofs.DrivingLemmas.{completes, sound_run}
use Rattle.sq_drive.proofs.LeftLemmas.{first_shown}
use Rattle.sq_due.proofs.SameNumbers.{same_numbers}

module _ (a b : RunState) (events : List Event) where
  module _ (keeps : KeepsRun a b) (ends : EndsOn a b events) where
    ended_so : HasEnded (known a.log) (known b.log) a.engine b.engine
    ended_so = record { went = record { shown = events; stepped = ends.on.left }; network = keeps.network; sound = ends.on.sound; done = ends.done }

    pub drive_ends : (before now : Option (List ℕ)) → now ≡ appended before (history_text a.engine.network events) → DriveEnds a b before now
    drive_ends before now written = record {
      ended = ended_so;
      driven = λ r history begun told run.
          let whole = ends.all told r history begun run in
          record {
            events = events;
            shown = subst (λ (n : Network). AllByRecursion (IsEventAt n) events) run.network ends.on.there;
            all = completes r (sound_run r (known a.log) a.engine history begun a.steps run) b.engine (history ++ events) begun b.steps whole;
            written = subst (λ (n : Network). now ≡ appended before (history_text n events)) run.network written;
            took = whole.took;
            fed = whole.fed;
            late = whole.late;
            work = whole.work;
          };
      rest = record { events = events; shown = ends.on.there; written = written; rest = ends.rest };
    }

    -- counts of what was shown are those of the answer
    pub count_ends : (counts : Counts) → HasCounts a.engine.network counts → AreCountsOf events counts → CountEnds a b counts
    count_ends counts room are = record {
      ended = ended_so;
      room = subst (λ n. HasCounts n counts) (sym keeps.network) room;
      summed = λ r begun told run.
          let whole = ends.all told r [] begun run in
          let complete = completes r (sound_run r (known a.log) a.engine [] begun a.steps run) b.engine events begun b.steps whole in
          let outputs : length counts.lines.items ≡ length r.network.outputs = room.lines ∙ ap (λ (n : Network). length n.outputs) run.network in
          let drops : length counts.drops.items ≡ drops_in r.network = room.drops ∙ ap drops_in run.network in
          record {
            lines = are.lines
                ∙ ap (λ many. map (λ o. length (lines_of o events)) (numbers_to many)) outputs
                ∙ same_numbers (λ o. length (lines_of o events)) (λ o. length ((answer_in r).tuples o)) (length r.network.outputs)
                (λ o low. ap (λ (xs : List Tuple). length xs) (complete.lines o low));
            drops = are.drops
                ∙ ap (λ many. map (λ w. length (drops_of w events)) (numbers_to many)) drops
                ∙ same_numbers (λ w. length (drops_of w events)) (λ w. length ((answer_in r).decisions w)) (drops_in r.network)
                (λ w low. ap (λ (xs : List Decision). length xs) (complete.drops w low));
            took = whole.took;
            fed = whole.fed;
            late = whole.late;
            work = whole.work;
          };
    }

  -- of what began to go out a beginning was written
  pub drive_fails : IsSoundEngine a.engine → (s : Status) → FailsOn a.engine.network a b events s → (was is : SinkState) → IsCutShort was.faults is.faults s
      → AppendsPrefix was.written is.written (history_text a.engine.network events) → DriveFails a (record { log = b.log; faults = b.faults }) b.steps was is s
  drive_fails sound s fails was is cut written = record {
    halted = λ r history begun told run. record {
      events = events;
      shown = subst (λ (n : Network). AllByRecursion (IsEventAt n) events) run.network fails.there;
      written = subst (λ (n : Network). AppendsPrefix was.written is.written (history_text n events)) run.network written;
      stopped = fails.stops told r history begun run;
    };
    first = first_shown (known a.log) (known b.log) a.engine sound fails.mid fails.tells fails.last events fails.left was.written is.written fails.there written;
    cut = cut;
    stopped = fails.cause;
  }

-- what has no fault is cut short by none
pub cut_always : (s : Status) → IsCutShort 0 0 s → (before now : ℕ) → IsCutShort before now s
cut_always s cut before now = record { begun = cut.begun; no_end = cut.no_end; sink = λ is. absurd (never (cut.sink is)) }
  where
    never : Rose 0 0 → ⊥
    never (inl up) = omega (arith, up)
    never (inr end) = omega (arith, end)
