-- What a run of what was accepted has done where it ends, for the commands that ask for it.
use Rattle.std.proofs.Common.{◌≡◌, ℕ, ◌+◌, ◌≤◌, ◌^◌, Bool, true, false, List, [], ap, ap₂, sym, ◌∙◌, subst, refl, Option, None, Some}
use Rattle.std.specs.Prelude.{IsSome, if◌then◌else◌}
use Rattle.sq_outside.specs.Sinks.{AppendsSuch}
use Rattle.sq_pool.specs.Trust.{IsLater, Tells, known}
use Rattle.sq_pool.proofs.TrustLemmas.{honest-tells}
use Rattle.sq_core.specs.declared.engine.Engine.{Engine}
use Rattle.sq_command.specs.declared.Command.{Command}
use Rattle.sq_command.specs.declared.Command.TheVariants as command
use Rattle.sq_command.specs.Commands.{runs_engine}
use Rattle.sq_status.specs.declared.Status.{Status}
use Rattle.sq_net.specs.SoundNetworks.{IsSound}
use Rattle.sq_status.specs.StatusKinds.{is_refusal}
use Rattle.sq_work.specs.FolderStates.{FolderState}
use Rattle.sq_work.specs.Scripts.{AcceptedReplay, plain_args}
use Rattle.sq_due.specs.Answers.{IsPrefixText, IsWholeText}
use Rattle.sq_drive.specs.Driving.{IsHalted}
use Rattle.sq_due.specs.Due.{due_of, replayed, turns_in, work_in}
use Rattle.sq_drive.specs.Failing.{CameTo, IsNewOf, IsOfRun}
use Rattle.sq_due.specs.Summaries.{summary_of}
use Rattle.sq_due.specs.Writing.{IsLost}
use Rattle.sq_drive.specs.Turns.{DriveFails}
use Rattle.sq_drive.proofs.StopLemmas.{stop_map}
use Rattle.sq_top.specs.declared.running.Report.{Report}
use Rattle.sq_top.specs.declared.running.Report.TheVariants as report
use Rattle.sq_top.specs.Ends.{DoesAll, DoesPart, KnowsDisk}
use Rattle.sq_due.specs.States.{DiskState, SinkState}
use Rattle.sq_top.specs.Outside.{Outside, outside}
use Rattle.sq_top.specs.Running.{EndsEarly, IsReportedBy, WhoeverAsks}
use Rattle.sq_top.specs.Texts.{BeginsSummary, IsPrefixOfDue, IsWholeOf, turns_for, work_for}
use Rattle.sq_top.proofs.EndLemmas.{appends_map}
use Rattle.sq_top.proofs.ReplayLemmas.{replay_waits}
use Rattle.sq_top.proofs.StopLemmas.{lost_early}
use Rattle.sq_top.proofs.SummaryLemmas.{summary_waits}

-- it is a command that runs an engine
pub reported_some : (told : Report) (c : Option Command) → IsReportedBy told c → IsSome c
reported_some told None asked = absurd asked
reported_some told (Some c) asked = refl

pub reported_runs : (told : Report) (c : Option Command) → IsReportedBy told c → runs_engine c ≡ true
reported_runs told None asked = absurd asked
reported_runs told (Some (command.Run args)) asked = refl
reported_runs told (Some (command.Gen number rows)) asked = refl
reported_runs report.Lines (Some (command.Audit net text)) asked = absurd asked
reported_runs (report.Summary number rows) (Some (command.Audit net text)) asked = absurd asked
reported_runs told (Some (command.Tap net stream tick history query)) asked = refl

-- the whole text of a run that is reported so, and what was written of it at a status
abbrev pub WholeBy : Report → AcceptedReplay → List ℕ → Type 0
WholeBy report.Lines r text = IsWholeText (due_of r) text
WholeBy (report.Summary number rows) r text = text ≡ summary_of number rows (replayed r)

abbrev pub PartBy : Report → AcceptedReplay → Status → List ℕ → Type 0
PartBy report.Lines r s text = IsPrefixText (due_of r) text
PartBy (report.Summary number rows) r s text = BeginsSummary number rows (replayed r) s text

-- it is that of each command that asks for it
whole_by : (told : Report) (c : Option Command) → IsReportedBy told c → (r : AcceptedReplay) (text : List ℕ) → WholeBy told r text → IsWholeOf c r text
whole_by told None asked r text whole = absurd asked
whole_by report.Lines (Some (command.Run args)) asked r text whole = whole
whole_by report.Lines (Some (command.Gen number rows)) asked r text whole = absurd asked
whole_by report.Lines (Some (command.Audit net out)) asked r text whole = absurd asked
whole_by report.Lines (Some (command.Tap net stream tick history query)) asked r text whole = whole
whole_by (report.Summary number rows) (Some (command.Run args)) asked r text whole = absurd asked
whole_by (report.Summary number rows) (Some (command.Gen n k)) asked r text whole = whole ∙ sym (ap₂ (λ m j. summary_of m j (replayed r)) asked.0 asked.1)
whole_by (report.Summary number rows) (Some (command.Audit net out)) asked r text whole = absurd asked
whole_by (report.Summary number rows) (Some (command.Tap net stream tick history query)) asked r text whole = absurd asked

part_by : (told : Report) (c : Option Command) → IsReportedBy told c → (r : AcceptedReplay) (s : Status) (text : List ℕ) → PartBy told r s text → IsPrefixOfDue c r s text
part_by told None asked r s text part = absurd asked
part_by report.Lines (Some (command.Run args)) asked r s text part = part
part_by report.Lines (Some (command.Gen number rows)) asked r s text part = absurd asked
part_by report.Lines (Some (command.Audit net out)) asked r s text part = absurd asked
part_by report.Lines (Some (command.Tap net stream tick history query)) asked r s text part = part
part_by (report.Summary number rows) (Some (command.Run args)) asked r s text part = absurd asked
part_by (report.Summary number rows) (Some (command.Gen n k)) asked r s text part =
    subst (λ m. BeginsSummary m k (replayed r) s text) (sym asked.0) (subst (λ j. BeginsSummary number j (replayed r) s text) (sym asked.1) part)
part_by (report.Summary number rows) (Some (command.Audit net out)) asked r s text part = absurd asked
part_by (report.Summary number rows) (Some (command.Tap net stream tick history query)) asked r s text part = absurd asked

module _ (told : Report) (c : Option Command) (asked : IsReportedBy told c) (r : AcceptedReplay) (before after : Outside) where
  runs : runs_engine c ≡ true
  runs = reported_runs told c asked

  work_is : work_in (replayed r) ≡ work_for c r
  work_is = sym (ap (λ (b : Bool). if b then work_in (replayed r) else 0) runs)

  turns_are : turns_in (replayed r) ≡ turns_for c r
  turns_are = sym (ap (λ (b : Bool). if b then turns_in (replayed r) else 0) runs)

  pub run_whole : (Tells (known after.disk.log) → AppendsSuch before.output.written after.output.written (WholeBy told r))
      → (Tells (known after.disk.log) → after.steps ≡ before.steps + work_in (replayed r)) → KnowsDisk c after → DoesAll c r before after
  run_whole text steps knows =
      let tells = knows runs in
      (appends_map before.output.written after.output.written (WholeBy told r) (IsWholeOf c r) (whole_by told c asked r) (text tells), subst (λ k. after.steps ≡ before.steps + k) work_is (steps tells))

  run_part : (s : Status) → (Tells (known after.disk.log) → AppendsSuch before.output.written after.output.written (PartBy told r s))
      → (Tells (known after.disk.log) → after.steps ≤ before.steps + work_in (replayed r)) → KnowsDisk c after → DoesPart c r s before after
  run_part s text steps knows =
      let tells = knows runs in
      (appends_map before.output.written after.output.written (PartBy told r s) (IsPrefixOfDue c r s) (part_by told c asked r s) (text tells), subst (λ k. after.steps ≤ before.steps + k) work_is (steps tells))

  -- what was written is lost on its way out
  pub run_lost : (s : Status) → IsLost before.output.faults after.output.faults s
      → (Tells (known after.disk.log) → AppendsSuch before.output.written after.output.written (PartBy told r s))
      → (Tells (known after.disk.log) → after.steps ≤ before.steps + work_in (replayed r)) → EndsEarly c r before after s
  run_lost s lost text steps = lost_early c r before after s lost (run_part s text steps)

  -- the engine stopped, which was a new one, over an output of which these texts are told
  pub run_stopped : (s : Status) (begun : Engine) → IsNewOf r begun → (was is : Option (List ℕ))
      → DriveFails (record { engine = begun; log = before.disk.log; faults = before.disk.faults; steps = before.steps }) after.disk after.steps
      (record { written = was; faults = before.output.faults }) (record { written = is; faults = after.output.faults }) s → IsLater before.disk.log after.disk.log
      → (IsHalted before.disk.log.honest (replayed r) [] s was is before.steps after.steps → AppendsSuch before.output.written after.output.written (PartBy told r s)) → EndsEarly c r before after s
  run_stopped s begun new was is fails later text =
      let halt = λ (tells : Tells (known after.disk.log)). fails.halted (replayed r) [] before.steps tells (new.run (known before.disk.log) before.steps) in
      record {
        part = run_part s (λ tells. text (halt tells)) (λ tells. (halt tells).stopped.work);
        cut = fails.cut;
        stopped = stop_map (CameTo before.disk.log after.disk.log begun s) (IsOfRun before.disk.log after.disk.log r s) before.disk.log after.disk.log before.disk.log after.disk.log
            before.disk.faults after.disk.faults before.disk.faults after.disk.faults s (λ rose. rose) (λ queues e back. back)
            (λ e came. record { begun = begun; new = new; came = came }) fails.stopped;
        unchanged = λ is-honest. (halt (honest-tells after.disk.log (later.honest ∙ is-honest))).stopped.unchanged is-honest;
        garbled = λ knows. (halt (knows runs)).stopped.garbled;
        too_much = λ knows is. subst (λ k. 2 ^ 62 ≤ k) turns_are ((halt (knows runs)).stopped.too_much is);
      }

-- nothing was written yet
pub part_waits : (told : Report) (r : AcceptedReplay) → IsSound r.network → (before : Option (List ℕ)) (s : Status) → AppendsSuch before before (PartBy told r s)
part_waits report.Lines r sound before s = replay_waits (replayed r) r.first sound before
part_waits (report.Summary number rows) r sound before s = summary_waits number rows (replayed r) before s

-- a run that ends early, whichever command asks for it, and whatever stands beside it
abbrev pub EarlyFor : Report → AcceptedReplay → DiskState → DiskState → SinkState → SinkState → ℕ → ℕ → Status → Type 0
EarlyFor told r disk disk' out out' steps steps' s = WhoeverAsks told disk disk' out out' steps steps' (λ c before after. EndsEarly c r before after s)

-- it is no refusal
pub never_refused : (told : Report) (r : AcceptedReplay) (disk disk' : DiskState) (out out' : SinkState) (steps steps' : ℕ) (s : Status) → EarlyFor told r disk disk' out out' steps steps' s
    → is_refusal s ≡ false
never_refused told r disk disk' out out' steps steps' s early = (by told early).1.cut.begun
  where
    folder : FolderState
    folder = record { told = None; faults = 0; taken = 0; read = [] }

    by : (told : Report) → EarlyFor told r disk disk' out out' steps steps' s → (c : Option Command) × EndsEarly c r (outside folder disk out out steps) (outside folder disk' out' out' steps') s
    by report.Lines early = (Some (command.Run (plain_args [])), early (Some (command.Run (plain_args []))) folder folder out out' tt)
    by (report.Summary number rows) early = (Some (command.Gen number rows), early (Some (command.Gen number rows)) folder folder out out' (refl, refl))
