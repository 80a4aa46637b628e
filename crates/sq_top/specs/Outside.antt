-- What stands outside a call at one moment, before it or after it.
use Rattle.std.specs.Prelude.{ℕ}
use Rattle.sq_work.specs.FolderStates.{FolderState}
use Rattle.sq_due.specs.States.{DiskState, SinkState}

pub record Outside : Type 0 where
  pub folder : FolderState
  pub disk : DiskState
  pub output : SinkState
  pub messages : SinkState
  pub steps : ℕ

-- all of it
abbrev pub outside : FolderState → DiskState → SinkState → SinkState → ℕ → Outside
outside folder disk output messages steps = record { folder = folder; disk = disk; output = output; messages = messages; steps = steps }
