-- What a run answers for the files of a folder that tells them: what the ends of runs come to there.
use Rattle.std.specs.Prelude.{◌≡◌, ◌≢◌, ◌⊎◌, ℕ, ◌+◌, ◌^◌, ◌<◌, ◌≤◌, true, ◌||◌, ⊤, List, Option, Some, None, IsSome, Result, Ok, Err}
use Rattle.std.specs.Option.{option_and_then}
use Rattle.std.specs.FinMap as map
use Rattle.sq_words.specs.Lists.{contains_bytes}
use Rattle.sq_outside.specs.Faults.{RoseBy}
use Rattle.sq_outside.specs.Folders.{Files, file}
use Rattle.sq_net.specs.declared.Network.{Network}
use Rattle.sq_reader.specs.Networks.{network_in}
use Rattle.sq_gen.specs.Files.{made_of}
use Rattle.sq_command.specs.declared.Command.{Command}
use Rattle.sq_command.specs.declared.Command.TheVariants as command
use Rattle.sq_status.specs.declared.Status.{Status}
use Rattle.sq_status.specs.declared.Status.TheVariants as status
use Rattle.sq_command.specs.Commands.{command_in}
use Rattle.sq_work.specs.Scripts.{Lookup, AcceptedReplay, accepted, file_reads, script_of}
use Rattle.sq_status.specs.Messages.{name_at, network_if_ok}
use Rattle.sq_drive.specs.Stopping.{StopHasCause}
use Rattle.sq_drive.specs.Failing.{IsOfRun}
use Rattle.sq_top.specs.Ends.{DiskHolds, DoesAll, DoesNothing, DoesPart, FolderFails, KnowsDisk, OutputFails}
use Rattle.sq_top.specs.Outside.{Outside}
use Rattle.sq_top.specs.Texts.{turns_for}
use Rattle.sq_status.specs.StatusKinds.{is_refusal, is_garbled}
use Rattle.sq_work.specs.FileParts.{FilePart, limit_of, may_be}

-- over every folder: it is at fault only where its count rose, or where it tells its files; a file is too long only where more was
-- taken than a file of its part may have
pub record FolderHasCause (words : List (List ℕ)) (before after : Outside) (result : Status) : Type 0 where
  pub failed : (name : List ℕ) → result ≡ status.FolderFault name → FolderFails before after ⊎ IsSome before.folder.told
  pub too_long : (name : List ℕ) → result ≡ status.TooLong name →
      (p : FilePart) × (may_be (command_in words) p name ≡ true) × RoseBy (limit_of p + 1) before.folder.taken after.folder.taken

abbrev pub no_files : Files
no_files = map.empty

-- the files that a command looks at, where they are told: of what a number makes none
abbrev pub looked_at : Option Command → Option Files → Option Files
looked_at None told = told
looked_at (Some (command.Run args)) told = told
looked_at (Some (command.Gen number rows)) told = Some no_files
looked_at (Some (command.Audit net text)) told = told
looked_at (Some (command.Tap net stream tick history query)) told = told

-- P of what was accepted, and Q of the status of the rule that is broken
abbrev pub MatchAccepted : Result AcceptedReplay Status → (AcceptedReplay → Type 0) → (Status → Type 0) → Type 0
MatchAccepted (Ok r) P Q = P r
MatchAccepted (Err s) P Q = Q s

-- the folder has failed at a file
abbrev pub HasFailedAt : Outside → Outside → Status → Type 0
HasFailedAt before after result = (name : List ℕ) × (result ≡ status.FolderFault name) × FolderFails before after

-- a refusal is that of the first broken rule, or the folder has failed at a file that was to be read; a broken rule is refused
pub record RefusalHasCause (files : Files) (words : List (List ℕ)) (before after : Outside) (result : Status) : Type 0 where
  pub only : is_refusal result ≡ true → MatchAccepted (accepted (file files) words)
      (λ r. HasFailedAt before after result)
      (λ s. (result ≡ s) ⊎ HasFailedAt before after result)
  pub when : MatchAccepted (accepted (file files) words) (λ r. ⊤)
      (λ s. (result ≡ s) ⊎ (result ≡ status.Memory) ⊎ FolderFails before after)
  pub reached : (name : List ℕ) → result ≡ status.FolderFault name → contains_bytes name (file_reads (file files) (script_of words)) ≡ true

-- the network that the words and the files lead to, where there is one
abbrev pub network_named : Lookup → Option Command → Option Network
network_named files None = None
network_named files (Some (command.Run args)) = option_and_then (λ bytes. network_if_ok (network_in bytes)) (files args.net)
network_named files (Some (command.Gen number rows)) = network_if_ok (network_in (made_of number rows).net)
network_named files (Some (command.Audit net text)) = option_and_then (λ bytes. network_if_ok (network_in bytes)) (files net)
network_named files (Some (command.Tap net stream tick history query)) = option_and_then (λ bytes. network_if_ok (network_in bytes)) (files net)

-- the source's name is that in the network file, where a line of the source is bad
abbrev pub NamesTold : Files → List (List ℕ) → Status → List ℕ → Type 0
NamesTold files words (status.BadStream number line why) source = source ≡ name_at number (network_named (file files) (command_in words))
NamesTold files words result source = ⊤

-- how a call ends over these files, by what words and files come to
pub record EndsOver (files : Files) (words : List (List ℕ)) (before after : Outside) (result : Status) (source : List ℕ) : Type 0 where
  pub ok : result ≡ status.Ok
      → MatchAccepted (accepted (file files) words) (λ r. KnowsDisk (command_in words) after → DoesAll (command_in words) r before after) (λ s. ⊥)
  pub other : result ≢ status.Ok → MatchAccepted (accepted (file files) words)
      (λ r. KnowsDisk (command_in words) after → DoesPart (command_in words) r result before after) (λ s. DoesNothing before after)
  pub refusal : RefusalHasCause files words before after result
  pub stopped : StopHasCause (λ engine. MatchAccepted (accepted (file files) words) (λ r. IsOfRun before.disk.log after.disk.log r result engine) (λ s. ⊥))
      before.disk.log after.disk.log before.disk.faults after.disk.faults result
  pub too_much : result ≡ status.TooMuch
      → MatchAccepted (accepted (file files) words) (λ r. KnowsDisk (command_in words) after → 2 ^ 62 ≤ turns_for (command_in words) r) (λ s. ⊥)
  pub complete : ¬ (FolderFails before after) → DiskHolds (command_in words) before after → ¬ (OutputFails before after)
      → MatchAccepted (accepted (file files) words)
      (λ r. KnowsDisk (command_in words) after → turns_for (command_in words) r < 2 ^ 62
      → (result ≡ status.Ok) ⊎ (result ≡ status.Memory) ⊎ (is_garbled result ≡ true)) (λ s. ⊤)
  pub named : NamesTold files words result source
