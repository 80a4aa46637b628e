-- What a run has read: the name and the bytes of one file after another, by which the script of its words goes on.
use Rattle.std.specs.Prelude.{◌≡◌, ℕ, ◌≤◌, ⊤, List, [], ◌∷◌, ◌++◌, length, Option, Some, None, Ok}
use Rattle.sq_outside.specs.Folders.{Files, file}
use Rattle.sq_net.specs.declared.Network.{Network}
use Rattle.sq_reader.specs.Networks.{network_in}
use Rattle.sq_gen.specs.Files.{made_of}
use Rattle.sq_command.specs.declared.Command.{Command}
use Rattle.sq_command.specs.declared.Command.TheVariants as command
use Rattle.sq_command.specs.Commands.{command_in}
use Rattle.sq_status.specs.Messages.{name_at, network_if_ok}
use Rattle.sq_work.specs.FolderStates.{FolderState}
use Rattle.sq_work.specs.Scripts.{AcceptedReplay, Script, Reads, Done, Stops, readable, script_of}

-- P of the content, where it is told
abbrev pub WhereTold : {X : Type 0} → Option X → (X → Type 0) → Type 0
WhereTold None P = ⊤
WhereTold (Some x) P = P x

-- the bytes of a file that was read: no more than it may have, and those of the folder where it tells its files
abbrev pub AreBytesOf : Option Files → List ℕ → ℕ → List ℕ → Type 0
AreBytesOf told name limit bytes = (length bytes ≤ limit) × WhereTold told (λ files. readable name limit (file files name) ≡ Ok bytes)

-- a file was read, and these are its bytes: with its name they came behind what the folder's reads gave before
abbrev pub IsFileRead : FolderState → FolderState → List ℕ → ℕ → List ℕ → Type 0
IsFileRead before after name limit bytes = AreBytesOf before.told name limit bytes × (after.read ≡ before.read ++ (name, bytes) ∷ [])

-- by these names and bytes, of one file after another that it reads, a script comes to what is left of it
abbrev pub GoesBy : Option Files → List (List ℕ × List ℕ) → Script → Script → Type 0
GoesBy told [] from to = from ≡ to
GoesBy told (given ∷ read) (Reads name limit more) to = (given.0 ≡ name) × AreBytesOf told name limit given.1 × GoesBy told read (more given.1) to
GoesBy told (given ∷ read) (Done r) to = ⊥
GoesBy told (given ∷ read) (Stops s) to = ⊥

-- by all that the folder's reads gave since it comes to that
abbrev pub ScriptLeads : FolderState → FolderState → Script → Script → Type 0
ScriptLeads before after from to = (read : List (List ℕ × List ℕ)) × GoesBy before.told read from to × (after.read ≡ before.read ++ read)

-- the network of a command: in the first file that was read, or made
abbrev pub network_read : Option Command → List (List ℕ × List ℕ) → Option Network
network_read None read = None
network_read (Some (command.Run args)) [] = None
network_read (Some (command.Run args)) (given ∷ read) = network_if_ok (network_in given.1)
network_read (Some (command.Gen number rows)) read = network_if_ok (network_in (made_of number rows).net)
network_read (Some (command.Audit net text)) [] = None
network_read (Some (command.Audit net text)) (given ∷ read) = network_if_ok (network_in given.1)
network_read (Some (command.Tap net stream tick history query)) [] = None
network_read (Some (command.Tap net stream tick history query)) (given ∷ read) = network_if_ok (network_in given.1)

-- the name that the network gives to the source with this number
abbrev pub source_read : List (List ℕ) → List (List ℕ × List ℕ) → ℕ → List ℕ
source_read words read number = name_at number (network_read (command_in words) read)

-- the words lead to this script, and the network that was read on the way is this
abbrev pub LeadsWith : FolderState → FolderState → List (List ℕ) → Network → Script → Type 0
LeadsWith before after words n to =
    (read : List (List ℕ × List ℕ)) × GoesBy before.told read (script_of words) to × (network_read (command_in words) read ≡ Some n) × (after.read ≡ before.read ++ read)

-- P of what was accepted, and else Q: a rule is broken, or a file isn't read
abbrev pub IfAccepted : Script → (AcceptedReplay → Type 0) → Type 0 → Type 0
IfAccepted (Done r) P Q = P r
IfAccepted (Stops s) P Q = Q
IfAccepted (Reads name limit more) P Q = Q
