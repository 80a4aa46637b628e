-- What a folder tells at one moment.
use Rattle.std.specs.Prelude.{ℕ, List, Option}
use Rattle.sq_outside.specs.Folders.{Files}
use Rattle.sq_outside.specs.declared.Folder.{Ghosts}

-- the files that it tells, how often it has failed, how many bytes were taken of it, and the name and the bytes of each file that its
-- reads gave, in order
pub record FolderState : Type 0 where
  pub told : Option Files
  pub faults : ℕ
  pub taken : ℕ
  pub read : List (List ℕ × List ℕ)

abbrev pub folder_state : {F : Type 0} → Ghosts F → F → FolderState
folder_state tells folder = record { told = tells.files folder; faults = tells.faults folder; taken = tells.taken folder; read = tells.read folder }
