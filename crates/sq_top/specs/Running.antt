-- How a run of what was accepted ends: the words by which it was asked for, and the folder, stand outside it.
use Rattle.std.specs.Prelude.{◌≡◌, ℕ, ◌^◌, ◌≤◌, true, false, ⊤, Option, Some, None}
use Rattle.sq_command.specs.declared.Command.{Command}
use Rattle.sq_command.specs.declared.Command.TheVariants as command
use Rattle.sq_status.specs.declared.Status.{Status}
use Rattle.sq_status.specs.declared.Status.TheVariants as status
use Rattle.sq_status.specs.StatusKinds.{is_changed, is_garbled}
use Rattle.sq_work.specs.FolderStates.{FolderState}
use Rattle.sq_work.specs.Scripts.{AcceptedReplay}
use Rattle.sq_drive.specs.Driving.{IsCutShort}
use Rattle.sq_drive.specs.Failing.{IsOfRun}
use Rattle.sq_drive.specs.Stopping.{StopHasCause}
use Rattle.sq_top.specs.declared.running.Report.{Report}
use Rattle.sq_top.specs.declared.running.Report.TheVariants as report
use Rattle.sq_top.specs.Ends.{DoesPart, KnowsDisk}
use Rattle.sq_due.specs.States.{DiskState, SinkState}
use Rattle.sq_top.specs.Outside.{Outside, outside}
use Rattle.sq_top.specs.Texts.{turns_for}

-- a command asks for a run that is reported so: by its lines, or by the summary of what a number makes
abbrev pub IsReportedBy : Report → Option Command → Type 0
IsReportedBy told None = ⊥
IsReportedBy report.Lines (Some (command.Run args)) = ⊤
IsReportedBy report.Lines (Some (command.Gen number rows)) = ⊥
IsReportedBy report.Lines (Some (command.Audit net text)) = ⊥
IsReportedBy report.Lines (Some (command.Tap net stream tick history query)) = ⊤
IsReportedBy (report.Summary number rows) (Some (command.Run args)) = ⊥
IsReportedBy (report.Summary number rows) (Some (command.Gen number' rows')) = (number' ≡ number) × (rows' ≡ rows)
IsReportedBy (report.Summary number rows) (Some (command.Audit net text)) = ⊥
IsReportedBy (report.Summary number rows) (Some (command.Tap net stream tick history query)) = ⊥

-- so it is between these states of the disk, of the output and of the steps, whichever command asks for a run that is reported so, and
-- whatever the folder and the messages are
abbrev pub WhoeverAsks : Report → DiskState → DiskState → SinkState → SinkState → ℕ → ℕ → (Option Command → Outside → Outside → Type 0) → Type 0
WhoeverAsks told disk disk' output output' steps steps' P =
    (c : Option Command) (folder folder' : FolderState) (messages messages' : SinkState) → IsReportedBy told c
    → P c (outside folder disk output messages steps) (outside folder' disk' output' messages' steps')

-- what answers a command was cut short with this status: a part was done, no page of an honest disk is changed and none of a known disk but
-- that its digest tells, an engine that stopped shows why, and too much was to be fed only where there is
pub record EndsEarly (c : Option Command) (r : AcceptedReplay) (before after : Outside) (result : Status) : Type 0 where
  pub part : KnowsDisk c after → DoesPart c r result before after
  pub cut : IsCutShort before.output.faults after.output.faults result
  pub stopped : StopHasCause (IsOfRun before.disk.log after.disk.log r result) before.disk.log after.disk.log before.disk.faults after.disk.faults result
  pub unchanged : before.disk.log.honest ≡ true → is_changed result ≡ false
  pub garbled : KnowsDisk c after → is_changed result ≡ true → is_garbled result ≡ true
  pub too_much : KnowsDisk c after → result ≡ status.TooMuch → 2 ^ 62 ≤ turns_for c r
