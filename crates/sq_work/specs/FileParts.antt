-- The parts that files have in a call, and which names they may have.
use Rattle.std.specs.Prelude.{Bool, List, None, Option, Some, false, ℕ, ◌||◌}
use Rattle.sq_command.specs.declared.Command.{Command}
use Rattle.sq_outside.specs.Folders.{file}
use Rattle.sq_command.specs.Commands.{reads_folder}
use Rattle.sq_words.specs.Lists.{same_bytes}
use Rattle.sq_reader.specs.Limits.{settings_limit}
use Rattle.sq_work.specs.Scripts.{stream_limit, text_limit}
use Rattle.sq_command.specs.declared.Command.TheVariants as command

-- whether this is the name of the network's file, or of the query's
abbrev pub is_network : Option Command → List ℕ → Bool
is_network None name = false
is_network (Some (command.Run args)) name = same_bytes args.net name
is_network (Some (command.Gen number rows)) name = false
is_network (Some (command.Audit net text)) name = same_bytes net name
is_network (Some (command.Tap net stream tick history query)) name = same_bytes net name || same_bytes query name

abbrev pub is_named_file : Option (List ℕ) → List ℕ → Bool
is_named_file None name = false
is_named_file (Some file) name = same_bytes file name

-- whether this is the name of the capacity file
abbrev pub is_capacities : Option Command → List ℕ → Bool
is_capacities None name = false
is_capacities (Some (command.Run args)) name = is_named_file args.capacities name
is_capacities (Some (command.Gen number rows)) name = false
is_capacities (Some (command.Audit net text)) name = false
is_capacities (Some (command.Tap net stream tick history query)) name = false

-- whether this is the name of the picks' file
abbrev pub is_picks : Option Command → List ℕ → Bool
is_picks None name = false
is_picks (Some (command.Run args)) name = is_named_file args.picks name
is_picks (Some (command.Gen number rows)) name = false
is_picks (Some (command.Audit net text)) name = false
is_picks (Some (command.Tap net stream tick history query)) name = false

-- whether this is the name of the text that is audited
abbrev pub is_text_file : Option Command → List ℕ → Bool
is_text_file None name = false
is_text_file (Some (command.Run args)) name = false
is_text_file (Some (command.Gen number rows)) name = false
is_text_file (Some (command.Audit net text)) name = same_bytes text name
is_text_file (Some (command.Tap net stream tick history query)) name = false

-- what a file is to a command: its network or its query, its capacities, its picks, a source's stream, or the text that is audited
pub data FilePart : Type 0 where
  NetworkFile : FilePart
  CapacityFile : FilePart
  PicksFile : FilePart
  StreamFile : FilePart
  TextFile : FilePart

-- how many bytes a file of this part may have
abbrev pub limit_of : FilePart → ℕ
limit_of NetworkFile = settings_limit
limit_of CapacityFile = settings_limit
limit_of PicksFile = settings_limit
limit_of StreamFile = stream_limit
limit_of TextFile = text_limit

-- whether a file of this name may have this part: which files are streams the network's file alone says
abbrev pub may_be : Option Command → FilePart → List ℕ → Bool
may_be c NetworkFile name = is_network c name
may_be c CapacityFile name = is_capacities c name
may_be c PicksFile name = is_picks c name
may_be c StreamFile name = reads_folder c
may_be c TextFile name = is_text_file c name
