-- What a command is to write, and how much of it was written; and its work.
use Rattle.std.specs.Prelude.{◌≡◌, ◌≢◌, ℕ, if◌then◌else◌, List, [], Option, Some, None}
use Rattle.sq_words.specs.Lists.{IsPrefixOf}
use Rattle.sq_command.specs.declared.Command.{Command}
use Rattle.sq_command.specs.declared.Command.TheVariants as command
use Rattle.sq_status.specs.declared.Status.{Status}
use Rattle.sq_status.specs.declared.Status.TheVariants as status
use Rattle.sq_model.specs.Shedding as model
use Rattle.sq_audit.specs.Audits.{audit_of}
use Rattle.sq_audit.specs.VerdictLines.{verdict_line}
use Rattle.sq_command.specs.Commands.{runs_engine}
use Rattle.sq_work.specs.Scripts.{AcceptedReplay}
use Rattle.sq_due.specs.Due.{due_of, replayed, turns_in, work_in}
use Rattle.sq_due.specs.Summaries.{summary_of}
use Rattle.sq_due.specs.Answers.{IsWholeText, IsPrefixText}

-- the line of the verdict on the text
abbrev pub verdict_text : AcceptedReplay → List ℕ
verdict_text r = verdict_line (audit_of r.network r.sources r.text)

-- the whole text of a command: the lines of each class, or the summary, or the line of the verdict
abbrev pub IsWholeOf : Option Command → AcceptedReplay → List ℕ → Type 0
IsWholeOf None r text = IsWholeText (due_of r) text
IsWholeOf (Some (command.Run args)) r text = IsWholeText (due_of r) text
IsWholeOf (Some (command.Gen number rows)) r text = text ≡ summary_of number rows (replayed r)
IsWholeOf (Some (command.Audit net out)) r text = text ≡ verdict_text r
IsWholeOf (Some (command.Tap net stream tick history query)) r text = IsWholeText (due_of r) text

-- a beginning of what is written at once: nothing, unless the output failed
abbrev pub BeginsText : List ℕ → Status → List ℕ → Type 0
BeginsText whole result text = IsPrefixOf text whole × (result ≢ status.SinkFault → text ≡ [])

abbrev pub BeginsSummary : ℕ → ℕ → model.Replay → Status → List ℕ → Type 0
BeginsSummary number rows r result text = BeginsText (summary_of number rows r) result text

-- what a command has written at this status: a prefix of the lines of each class, or a beginning of the summary or of the verdict
abbrev pub IsPrefixOfDue : Option Command → AcceptedReplay → Status → List ℕ → Type 0
IsPrefixOfDue None r result text = IsPrefixText (due_of r) text
IsPrefixOfDue (Some (command.Run args)) r result text = IsPrefixText (due_of r) text
IsPrefixOfDue (Some (command.Gen number rows)) r result text = BeginsSummary number rows (replayed r) result text
IsPrefixOfDue (Some (command.Audit net out)) r result text = BeginsText (verdict_text r) result text
IsPrefixOfDue (Some (command.Tap net stream tick history query)) r result text = IsPrefixText (due_of r) text

-- how many tuples an engine is fed for a command, each a step of the run, and how many items
abbrev pub work_for : Option Command → AcceptedReplay → ℕ
work_for c r = if runs_engine c then work_in (replayed r) else 0

abbrev pub turns_for : Option Command → AcceptedReplay → ℕ
turns_for c r = if runs_engine c then turns_in (replayed r) else 0
