-- How a call ends, and which status comes of which cause.
use Rattle.std.specs.Prelude.{◌≡◌, ◌≢◌, ◌⊎◌, ℕ, ◌+◌, ◌^◌, ◌<◌, ◌≤◌, true, false, ⊤, List, ◌++◌, Option}
use Rattle.sq_outside.specs.Faults.{Rose}
use Rattle.sq_outside.specs.Sinks.{AppendsSuch}
use Rattle.sq_command.specs.declared.Command.{Command}
use Rattle.sq_command.specs.Commands.{command_in, reads_folder, runs_engine}
use Rattle.sq_status.specs.declared.Status.{Status}
use Rattle.sq_status.specs.declared.Status.TheVariants as status
use Rattle.sq_status.specs.Messages.{TellsStatus}
use Rattle.sq_status.specs.StatusKinds.{is_refusal, is_plain_end, hides_memory, is_changed, is_garbled}
use Rattle.sq_pool.specs.Trust.{IsLater, Tells, known}
use Rattle.sq_core.specs.declared.engine.Engine.{Engine}
use Rattle.sq_work.specs.Scripts.{AcceptedReplay, Script, script_of}
use Rattle.sq_work.specs.Reads.{GoesBy, IfAccepted}
use Rattle.sq_work.specs.Refusals.{UsageHasCause, NamesSource, IsRefusedAt}
use Rattle.sq_drive.specs.Stopping.{StopHasCause}
use Rattle.sq_drive.specs.Failing.{FedNeeded, IsOfRun}
use Rattle.sq_top.specs.Outside.{Outside}
use Rattle.sq_top.specs.Texts.{IsPrefixOfDue, IsWholeOf, turns_for, work_for}

-- a count of faults rose in the call
abbrev pub FolderFails : Outside → Outside → Type 0
FolderFails before after = Rose before.folder.faults after.folder.faults

abbrev pub DiskFails : Outside → Outside → Type 0
DiskFails before after = Rose before.disk.faults after.disk.faults

abbrev pub OutputFails : Outside → Outside → Type 0
OutputFails before after = Rose before.output.faults after.output.faults

-- a text was written of which P holds
abbrev pub Writes : Outside → Outside → (List ℕ → Type 0) → Type 0
Writes before after P = AppendsSuch before.output.written after.output.written P

-- nothing was written, and no step taken
abbrev pub DoesNothing : Outside → Outside → Type 0
DoesNothing before after = (after.output.written ≡ before.output.written) × (after.steps ≡ before.steps)

-- all that is due was written, and all work done. An audit has no work
abbrev pub DoesAll : Option Command → AcceptedReplay → Outside → Outside → Type 0
DoesAll c r before after = Writes before after (IsWholeOf c r) × (after.steps ≡ before.steps + work_for c r)

-- a prefix of it was written, and no more than the work done
abbrev pub DoesPart : Option Command → AcceptedReplay → Status → Outside → Outside → Type 0
DoesPart c r result before after = Writes before after (IsPrefixOfDue c r result) × (after.steps ≤ before.steps + work_for c r)

-- the disk is known at the end, where a command runs an engine: it is honest, or no page came back changed with the digest of what
-- was put. An audit asks nothing of the disk
abbrev pub KnowsDisk : Option Command → Outside → Type 0
KnowsDisk c after = runs_engine c ≡ true → Tells (known after.disk.log)

-- the disk doesn't fail, where a command runs an engine
abbrev pub DiskHolds : Option Command → Outside → Outside → Type 0
DiskHolds c before after = runs_engine c ≡ true → ¬ (DiskFails before after)

-- all was accepted, and in this call the engine came from a new one of it to fail with this status
abbrev pub IsEngineOf : Script → Outside → Outside → Status → Engine → Type 0
IsEngineOf left before after result engine = IfAccepted left (λ r. IsOfRun before.disk.log after.disk.log r result engine) ⊥

-- how a call ends, but for its message
pub record Ends (words : List (List ℕ)) (before after : Outside) (result : Status) (source : List ℕ) : Type 0 where
  -- what was read, the name and the bytes of one file after another: all that the folder's reads gave in this call, none made up and none
  -- left out, and each of the file that was to be read next
  pub read : List (List ℕ × List ℕ)
  pub given : after.folder.read ≡ before.folder.read ++ read
  -- by it the script of the words comes to what is left of it: all was accepted, a rule is broken, or a file isn't read
  pub left : Script
  pub goes : GoesBy before.folder.told read (script_of words) left
  -- ends Ok: all was accepted, all written and all work done
  pub ok : result ≡ status.Ok → IfAccepted left (λ r. KnowsDisk (command_in words) after → DoesAll (command_in words) r before after) ⊥
  -- and where an engine ran, it was one of this call, whose boxes took exactly the tuples still needed
  pub fed : result ≡ status.Ok → runs_engine (command_in words) ≡ true
      → IfAccepted left (λ r. Tells (known after.disk.log) → FedNeeded before.disk.log after.disk.log r) ⊥
  -- any other end: a prefix of it and no more work; nothing where not all was accepted
  pub other : result ≢ status.Ok
      → IfAccepted left (λ r. KnowsDisk (command_in words) after → DoesPart (command_in words) r result before after) (DoesNothing before after)
  -- a refusal does nothing, and no call goes on over a fault of the folder
  pub refused_early : is_refusal result ≡ true → DoesNothing before after
  pub faulted : before.folder.faults < after.folder.faults → DoesNothing before after
  -- a refusal is that of what is left; words that are no command are Usage; a rule has no want of memory inside; a bad line is told with
  -- the name of its source
  pub refusal : IsRefusedAt before.folder after.folder result left
  pub usage : UsageHasCause words result
  pub no_memory : hides_memory result ≡ false
  pub named : NamesSource words read result source
  -- an engine of this call stops for a cause that it shows; no page of an honest disk is changed, and none of a known disk but that its digest tells
  pub stopped : StopHasCause (IsEngineOf left before after result) before.disk.log after.disk.log before.disk.faults after.disk.faults result
  pub unchanged : before.disk.log.honest ≡ true → is_changed result ≡ false
  pub garbled : KnowsDisk (command_in words) after → is_changed result ≡ true → is_garbled result ≡ true
  -- the output has failed, or the work is too much
  pub sink : result ≡ status.SinkFault → OutputFails before after
  pub too_much : result ≡ status.TooMuch → IfAccepted left (λ r. KnowsDisk (command_in words) after → 2 ^ 62 ≤ turns_for (command_in words) r) ⊥
  -- what is accepted, and isn't too much, ends Ok where nothing fails, but for want of memory or a page that came back garbled
  pub complete : DiskHolds (command_in words) before after → ¬ (OutputFails before after) → IfAccepted left
      (λ r. KnowsDisk (command_in words) after → turns_for (command_in words) r < 2 ^ 62
      → (result ≡ status.Ok) ⊎ (result ≡ status.Memory) ⊎ (is_garbled result ≡ true)) ⊤

-- what a call leaves as it was
pub record Leaves (words : List (List ℕ)) (before after : Outside) (result : Status) : Type 0 where
  -- the files; the whole folder where the words ask for no network's files; the whole disk at a refusal
  pub same_files : after.folder.told ≡ before.folder.told
  pub unread : reads_folder (command_in words) ≡ false → after.folder ≡ before.folder
  pub same_disk : is_refusal result ≡ true → after.disk ≡ before.disk
  -- words that ask for no engine leave the disk and the steps, and no status of an engine, of capacities, of picks or of a query comes
  pub no_engine : runs_engine (command_in words) ≡ false → (is_plain_end result ≡ true) × (after.disk ≡ before.disk) × (after.steps ≡ before.steps)
  -- what the disk promises, and what is known of it; no count falls
  pub later : IsLater before.disk.log after.disk.log
  pub counts : (before.folder.faults ≤ after.folder.faults) × (before.folder.taken ≤ after.folder.taken)
      × (before.disk.faults ≤ after.disk.faults) × (before.output.faults ≤ after.output.faults)

-- a call: how it ends, what it tells, and what it leaves
pub record CallEnds (words : List (List ℕ)) (before after : Outside) (result : Status) : Type 0 where
  -- the name of a source, for a line of it that is bad
  pub source : List ℕ
  pub ends : Ends words before after result source
  -- at Ok no message, and else the line of the status, whole where the sink for messages hasn't failed
  pub told : AppendsSuch before.messages.written after.messages.written (TellsStatus source before.messages.faults after.messages.faults result)
  pub leaves : Leaves words before after result
  pub counted : before.messages.faults ≤ after.messages.faults
