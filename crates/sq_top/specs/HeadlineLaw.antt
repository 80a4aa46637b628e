-- The law that runs keep the headline.
use Rattle.std.specs.Prelude.{◌≡◌, ⊤, ℕ, List, Option, Some, None}
use Rattle.sq_value.specs.declared.Tuple.{Tuple}
use Rattle.sq_pool.specs.Trust.{Tells, known}
use Rattle.sq_core.specs.Runs.{tuples_fed}
use Rattle.sq_status.specs.declared.Status.{Status}
use Rattle.sq_command.specs.declared.Command.{Command}
use Rattle.sq_command.specs.declared.Command.TheVariants as command
use Rattle.sq_command.specs.Commands.{command_in}
use Rattle.sq_work.specs.Scripts.{AcceptedReplay, Done}
use Rattle.sq_drive.specs.Failing.{FedNeeded}
use Rattle.sq_top.specs.Ends.{CallEnds, Writes}
use Rattle.sq_top.specs.Headline.{KeepsHeadline}
use Rattle.sq_top.specs.Outside.{Outside}

-- a command that writes what its outputs show: a run, and a tap
abbrev pub ShowsOutputs : Option Command → Type 0
ShowsOutputs None = ⊥
ShowsOutputs (Some (command.Run args)) = ⊤
ShowsOutputs (Some (command.Gen number rows)) = ⊥
ShowsOutputs (Some (command.Audit net text)) = ⊥
ShowsOutputs (Some (command.Tap net stream tick history query)) = ⊤

-- what the boxes of an engine took that came, in this call, from a new one of what was accepted to its end
abbrev pub TookIn : Outside → Outside → AcceptedReplay → (ℕ → ℕ → List Tuple) → Type 0
TookIn before after r took = (fed : FedNeeded before.disk.log after.disk.log r) × (took ≡ tuples_fed fed.engine)

-- a call that ends as calls do, with the cause of its status, of such a command, of which all was accepted, over a disk that is known at the
-- end: what it wrote keeps the headline
abbrev pub RunsKeepTheHeadline : Type 0
RunsKeepTheHeadline =
    (words : List (List ℕ)) (before after : Outside) (result : Status) (r : AcceptedReplay) (call : CallEnds words before after result)
    → ShowsOutputs (command_in words) → (call.ends).left ≡ Done r → Tells (known after.disk.log)
    → Writes before after (λ text. KeepsHeadline r text result (TookIn before after r))
