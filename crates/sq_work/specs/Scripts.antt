-- The order of work: which files are read, what each must keep, and the first rule that is broken.
use Rattle.std.specs.Prelude.{ℕ, nat_lt, if◌then◌else◌, List, [], ◌∷◌, ◌++◌, length, Option, Some, None, Result, Ok, Err}
use Rattle.sq_value.specs.declared.Tuple.{Tuple}
use Rattle.sq_net.specs.declared.NetErr.{NetErr}
use Rattle.sq_net.specs.declared.Network.{Network}
use Rattle.sq_net.specs.declared.Source.{Source}
use Rattle.sq_tap.specs.declared.TapErr.{TapErr}
use Rattle.sq_tap.specs.Names.{stream_named}
use Rattle.sq_reader.specs.Networks.{network_in}
use Rattle.sq_replay.specs.declared.why.Why.{Why}
use Rattle.sq_plan.specs.Plans.{Entries}
use Rattle.sq_replay.specs.Entries.{capacities_in, picks_in}
use Rattle.sq_replay.specs.Streams.{stream_in}
use Rattle.sq_sched.specs.declared.policy.Rule.{Rule}
use Rattle.sq_sched.specs.declared.policy.Rule.TheVariants as rule
use Rattle.sq_gen.specs.declared.Made.{Made}
use Rattle.sq_gen.specs.Files.{made_of}
use Rattle.sq_command.specs.declared.RunArgs.{RunArgs}
use Rattle.sq_command.specs.declared.Command.{Command}
use Rattle.sq_command.specs.declared.Command.TheVariants as command
use Rattle.sq_status.specs.declared.Status.{Status}
use Rattle.sq_status.specs.declared.Status.TheVariants as status
use Rattle.sq_command.specs.Commands.{command_in}
use Rattle.sq_work.specs.Taps.{Tapped, first_tick, tapped}
use Rattle.sq_reader.specs.Limits.{settings_limit}

-- what was accepted: a network, the tuples of each of its sources, the capacities, how the next actor is chosen: by which rule,
-- seed and picks, for how many steps, and how many pages may be in memory. What is drawn goes by the seed, too. An audit has a text
-- beside them, and a run has none. Of the boxes from the first that is shown on there are lines at the end: of a tap those of the query
pub record AcceptedReplay : Type 0 where
  pub network : Network
  pub sources : List (List Tuple)
  pub entries : Entries
  pub seed : ℕ
  pub rule : Rule
  pub picks : List ℕ
  pub train : ℕ
  pub frames : ℕ
  pub text : List ℕ
  pub first : ℕ

-- a file is read and its bytes say what comes next; or all was read; or a rule is broken
pub data Script : Type 0 where
  Reads : (name : List ℕ) (limit : ℕ) → (List ℕ → Script) → Script
  Done : AcceptedReplay → Script
  Stops : Status → Script

abbrev pub stream_limit : ℕ
stream_limit = 67108864

abbrev pub text_limit : ℕ
text_limit = 268435456

-- what was accepted, with these sources
abbrev pub with_sources : AcceptedReplay → List (List Tuple) → AcceptedReplay
with_sources r sources = record r { sources = sources }

-- what comes of a source's stream, the source with this number: the rest, or its first bad line
abbrev pub after_stream : ℕ → (List Tuple → Script) → Result (List Tuple) (ℕ × Why) → Script
after_stream number more (Ok xs) = more xs
after_stream number more (Err e) = Stops (status.BadStream number e.0 e.1)

-- the sources that are left, behind those that were read: each source's file is read and kept before the next is read
abbrev pub after_streams : AcceptedReplay → List Source → Script
after_streams r [] = Done r
after_streams r (s ∷ left) =
    Reads s.file stream_limit
    (λ bytes. after_stream (length r.sources) (λ xs. after_streams (with_sources r (r.sources ++ xs ∷ [])) left) (stream_in s.schema bytes))

-- what the words, the network file, the capacities and the picks say; no source is read yet
abbrev pub unread : RunArgs → Network → Entries → List ℕ → AcceptedReplay
unread args n entries picks =
    record { network = n; sources = []; entries = entries; seed = args.seed; rule = args.rule; picks = picks; train = args.train; frames = args.frames; text = []; first = 0 }

abbrev pub after_picks : RunArgs → Network → Entries → Result (List ℕ) ℕ → Script
after_picks args n entries (Ok picks) = after_streams (unread args n entries picks) n.sources
after_picks args n entries (Err line) = Stops (status.BadPicks line)

-- the picks file, where one is named; else there are no picks
abbrev pub picks_script : RunArgs → Network → Entries → Option (List ℕ) → Script
picks_script args n entries None = after_picks args n entries (Ok [])
picks_script args n entries (Some name) = Reads name settings_limit (λ bytes. after_picks args n entries (picks_in bytes))

abbrev pub after_capacities : RunArgs → Network → Result Entries ℕ → Script
after_capacities args n (Ok entries) = picks_script args n entries args.picks
after_capacities args n (Err line) = Stops (status.BadCapacities line)

-- the capacity file, where one is named; else there are no entries, and capacity is unlimited
abbrev pub capacities_script : RunArgs → Network → Option (List ℕ) → Script
capacities_script args n None = after_capacities args n (Ok [])
capacities_script args n (Some name) = Reads name settings_limit (λ bytes. after_capacities args n (capacities_in bytes))

abbrev pub after_network : RunArgs → Result Network NetErr → Script
after_network args (Err e) = Stops (status.BadNetwork e)
after_network args (Ok n) = capacities_script args n args.capacities

-- the sources that are left of a network that was made, behind those that were read: each has the stream that was made
abbrev pub made_streams : List ℕ → AcceptedReplay → List Source → Script
made_streams bytes r [] = Done r
made_streams bytes r (s ∷ left) =
    after_stream (length r.sources) (λ xs. made_streams bytes (with_sources r (r.sources ++ xs ∷ [])) left) (stream_in s.schema bytes)

-- the run of what a number makes: the number is its seed, and its actors take turns
abbrev pub made_unread : ℕ → Network → Entries → AcceptedReplay
made_unread number n entries =
    record { network = n; sources = []; entries = entries; seed = number; rule = rule.RoundRobin; picks = []; train = 16; frames = 256; text = []; first = 0 }

abbrev pub made_sources : ℕ → List ℕ → Network → Result Entries ℕ → Script
made_sources number stream n (Ok entries) = made_streams stream (made_unread number n entries) n.sources
made_sources number stream n (Err line) = Stops (status.BadCapacities line)

abbrev pub made_limits : ℕ → Made → Result Network NetErr → Script
made_limits number made (Err e) = Stops (status.BadNetwork e)
made_limits number made (Ok n) = made_sources number made.stream n (capacities_in made.capacities)

-- what a number makes: the network, then the capacities, then the stream. No file is read
abbrev pub made_script : ℕ → Made → Script
made_script number made = made_limits number made (network_in made.net)

abbrev pub run_script : RunArgs → Script
run_script args = Reads args.net settings_limit (λ bytes. after_network args (network_in bytes))

-- a script, and behind it what comes of what it accepts
abbrev pub followed_by : Script → (AcceptedReplay → Script) → Script
followed_by (Reads name limit more) next = Reads name limit (λ bytes. followed_by (more bytes) next)
followed_by (Done r) next = next r
followed_by (Stops s) next = Stops s

-- an audit reads what a run of the network's file reads that has no options
abbrev pub plain_args : List ℕ → RunArgs
plain_args net = record { net = net; capacities = None; seed = 0; rule = rule.RoundRobin; picks = None; train = 16; frames = 256 }

abbrev pub with_text : AcceptedReplay → List ℕ → AcceptedReplay
with_text r text = record r { text = text }

-- and then the text
abbrev pub text_script : List ℕ → AcceptedReplay → Script
text_script text r = Reads text text_limit (λ bytes. Done (with_text r bytes))

abbrev pub audit_script : List ℕ → List ℕ → Script
audit_script net text = followed_by (run_script (plain_args net)) (text_script text)

-- a joined network runs without capacities, and its actors take turns
abbrev pub tap_unread : Tapped → AcceptedReplay
tap_unread t =
    record { network = t.network; sources = []; entries = []; seed = 0; rule = rule.RoundRobin; picks = []; train = 16; frames = 256; text = []; first = t.first }

abbrev pub after_tap : Result Tapped TapErr → Script
after_tap (Ok t) = after_streams (tap_unread t) t.network.sources
after_tap (Err e) = Stops (status.BadTap e)

-- the query's own file of tuples isn't read: the sources of the joined network are the network's
abbrev pub after_query : Network → List ℕ → ℕ → Result Network NetErr → Script
after_query n stream from (Ok q) = after_tap (tapped n (stream_named n stream) from q)
after_query n stream from (Err e) = Stops (status.BadQuery e)

abbrev pub query_script : List ℕ → ℕ → List ℕ → Network → Script
query_script stream from query n = Reads query settings_limit (λ bytes. after_query n stream from (network_in bytes))

abbrev pub after_tapped : List ℕ → ℕ → List ℕ → Result Network NetErr → Script
after_tapped stream from query (Ok n) = query_script stream from query n
after_tapped stream from query (Err e) = Stops (status.BadNetwork e)

-- the network, then the query, then the rules of joining, and then the sources
abbrev pub tap_script : List ℕ → List ℕ → ℕ → List ℕ → Script
tap_script net stream from query = Reads net settings_limit (λ bytes. after_tapped stream from query (network_in bytes))

abbrev pub after_words : Option Command → Script
after_words None = Stops status.Usage
after_words (Some (command.Run args)) = run_script args
after_words (Some (command.Gen number rows)) = made_script number (made_of number rows)
after_words (Some (command.Audit net text)) = audit_script net text
after_words (Some (command.Tap net stream tick history query)) = tap_script net stream (first_tick tick history) query

-- the words, then the network file, the capacity file, the picks file, and the sources in their order, and a text that is audited;
-- or what a number makes; or the network file, the query's and the sources
abbrev pub script_of : List (List ℕ) → Script
script_of words = after_words (command_in words)

-- the files, each by its name
abbrev pub Lookup : Type 0
Lookup = List ℕ → Option (List ℕ)

-- a file's bytes, or the rule that it breaks before its own: that it is there, and then its length
abbrev pub readable : List ℕ → ℕ → Option (List ℕ) → Result (List ℕ) Status
readable name limit None = Err (status.FolderFault name)
readable name limit (Some bytes) = if nat_lt limit (length bytes) then Err (status.TooLong name) else Ok bytes

abbrev pub go_on : {A : Type 0} → (Status → A) → (List ℕ → A) → Result (List ℕ) Status → A
go_on stop more (Ok bytes) = more bytes
go_on stop more (Err s) = stop s

-- what a script comes to over these files: what was accepted, or the status of the first broken rule
abbrev pub outcome_of : Lookup → Script → Result AcceptedReplay Status
outcome_of files (Reads name limit more) = go_on (λ s. Err s) (λ bytes. outcome_of files (more bytes)) (readable name limit (files name))
outcome_of files (Done r) = Ok r
outcome_of files (Stops s) = Err s

-- the files that it reads, up to the first that is broken
abbrev pub file_reads : Lookup → Script → List (List ℕ)
file_reads files (Reads name limit more) = name ∷ go_on (λ s. []) (λ bytes. file_reads files (more bytes)) (readable name limit (files name))
file_reads files (Done r) = []
file_reads files (Stops s) = []

-- what words and files come to
abbrev pub accepted : Lookup → List (List ℕ) → Result AcceptedReplay Status
accepted files words = outcome_of files (script_of words)
