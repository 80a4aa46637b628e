-- What stands outside a run at one moment, by what it tells.
use Rattle.std.specs.Prelude.{ℕ, List, None, Option}
use Rattle.sq_outside.specs.Disks.{DiskLog}
use Rattle.sq_outside.specs.declared.PageDisk.{Ghosts as DiskGhosts}
use Rattle.sq_outside.specs.declared.Sink.{Ghosts as SinkGhosts}

-- a disk: what it has noted of its pages, and how often it has failed
pub record DiskState : Type 0 where
  pub log : DiskLog
  pub faults : ℕ

-- a sink: what was written to it, where it tells that, and how often it has failed
pub record SinkState : Type 0 where
  pub written : Option (List ℕ)
  pub faults : ℕ

-- by what the disk tells
abbrev pub disk_state : {D : Type 0} → DiskGhosts D → D → DiskState
disk_state tells disk = record { log = tells.log disk; faults = tells.faults disk }

-- by what the sink tells
abbrev pub sink_state : {S : Type 0} → SinkGhosts S → S → SinkState
sink_state tells sink = record { written = tells.written sink; faults = tells.faults sink }

-- a sink that doesn't tell
abbrev pub unseen : ℕ → SinkState
unseen faults = record { written = None; faults = faults }
