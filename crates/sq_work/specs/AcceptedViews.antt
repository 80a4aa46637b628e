-- What code reads, in the terms in which commands and what was accepted are told.
use Rattle.std.specs.Prelude.{◌≡◌, ℕ, ◌≤◌, List, length, map, Some, Result, Ok, Err}
use Rattle.sq_net.specs.SoundNetworks.{IsSound}
use Rattle.sq_points.specs.Limits.{KeepsDropLimits}
use Rattle.sq_status.specs.Messages.{source_told}
use Rattle.sq_work.specs.declared.reading.Accepted.{Accepted}
use Rattle.sq_work.specs.declared.reading.Stopped.{Stopped}
use Rattle.sq_work.specs.declared.tapping.Asked.{Asked}
use Rattle.sq_command.specs.declared.Command.TheVariants as command
use Rattle.sq_work.specs.Taps.{first_tick}
use Rattle.sq_work.specs.FolderStates.{FolderState}
use Rattle.sq_work.specs.Reads.{ScriptLeads}
use Rattle.sq_work.specs.Refusals.{IsStopped}
use Rattle.sq_work.specs.Scripts.{AcceptedReplay, Done, script_of}
use Rattle.sq_work.specs.SourceFiles.{AreRecorded}
use Rattle.sq_command.specs.Commands.{command_in}
use Rattle.sq_value.specs.CommandWords.{Word}

abbrev pub replay_of : Accepted → AcceptedReplay
replay_of a = record {
  network = a.network;
  sources = map (λ xs. xs.items) a.sources.items;
  entries = a.capacities;
  seed = a.seed;
  rule = a.rule;
  picks = a.picks.items;
  train = a.train;
  frames = a.frames;
  text = a.text.items;
  first = a.first;
}

-- what was accepted can be run: the network is sound and within its limits, each of its sources has a stream that fits it, a train is at
-- least one step, two pages at least may be in memory, and the first box that is shown is one of the network's or behind them
pub record CanRun (a : Accepted) : Type 0 where
  pub sound : IsSound a.network
  pub limits : KeepsDropLimits a.network
  pub recorded : AreRecorded a.network.sources (map (λ xs. xs.items) a.sources.items)
  pub train : 1 ≤ a.train
  pub frames : 2 ≤ a.frames
  pub first : a.first ≤ length a.network.boxes

-- between these states of the folder the script of the words came to what was accepted, or it stopped
abbrev pub IsPrepared : List Word → FolderState → FolderState → Result Accepted Stopped → Type 0
IsPrepared words before after (Ok a) = ScriptLeads before after (script_of words) (Done (replay_of a))
IsPrepared words before after (Err s) = IsStopped words before after s.status (source_told s.source)

-- the words ask for this tap
abbrev pub IsAskedBy : Asked → List Word → Type 0
IsAskedBy a words = (tick : ℕ) × (history : ℕ) × (command_in words ≡ Some (command.Tap a.net a.stream tick history a.query)) × (a.from ≡ first_tick tick history)
