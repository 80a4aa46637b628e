-- Which words are a command, and what it asks for.
use Rattle.std.specs.Prelude.{ℕ, ◌-◌, ◌^◌, Bool, true, false, ◌&&◌, ◌==◌, nat_le, if◌then◌else◌, List, [], ◌∷◌, Option, Some, None, codes}
use Rattle.std.specs.List.{list_all, list_any, before_first, after_first}
use Rattle.std.specs.Option.{option_map}
use Rattle.sq_words.specs.Lists.{contains_bytes, same_bytes}
use Rattle.sq_value.specs.Texts.{are_digits, number_in, read_number}
use Rattle.sq_sched.specs.declared.policy.Rule.{Rule}
use Rattle.sq_sched.specs.declared.policy.Rule.TheVariants as rule
use Rattle.sq_command.specs.declared.RunArgs.{RunArgs}
use Rattle.sq_command.specs.declared.Command.{Command}
use Rattle.sq_command.specs.declared.Command.TheVariants as command
use Rattle.sq_value.specs.CommandWords.{Word, is_equals, may_name}
use Rattle.sq_words.specs.Options.{◌>>=◌}

-- a word by itself: one that doesn't begin with a dash, `--name=value`, `--name`, or none of these
pub data Piece : Type 0 where
  Plain : (value : Word) → Piece
  Whole : (name value : Word) → Piece
  Opens : (name : Word) → Piece
  Bad : Piece

-- a value isn't empty
abbrev pub whole_piece : Word → Word → Piece
whole_piece name [] = Bad
whole_piece name (b ∷ bs) = Whole name (b ∷ bs)

-- what stands behind two dashes: up to the first `=` is the name
abbrev pub named_piece : Word → Piece
named_piece w = if list_any is_equals w then whole_piece (before_first is_equals w) (after_first is_equals w) else Opens w

abbrev pub dashed_piece : Word → Piece
dashed_piece [] = Bad
dashed_piece (b ∷ bs) = if b == 45 then named_piece bs else Bad

abbrev pub piece_of : Word → Piece
piece_of [] = Bad
piece_of (b ∷ bs) = if b == 45 then dashed_piece bs else Plain (b ∷ bs)

-- the name of an option, or None for the words that stand by themselves, and a value
abbrev pub Given : Type 0
Given = Option Word × Word

-- what one word gives, where the option `pending` waits for its value, and the option that it leaves waiting
abbrev pub with_piece : Piece → Option Word → (Option Word → Option (List Given)) → Option (List Given)
with_piece (Plain v) pending more = option_map (λ gs. (pending, v) ∷ gs) (more None)
with_piece (Whole n v) None more = option_map (λ gs. (Some n, v) ∷ gs) (more None)
with_piece (Opens n) None more = more (Some n)
with_piece p pending more = None

-- what the words give, where each is allowed at its place and no option is left without a value
abbrev pub given_from : List Word → Option Word → Option (List Given)
given_from [] None = Some []
given_from [] (Some n) = None
given_from (w ∷ ws) pending = with_piece (piece_of w) pending (λ p. given_from ws p)

abbrev pub options : List Word
options = codes "capacities" ∷ codes "seed" ∷ codes "policy" ∷ codes "picks" ∷ codes "train" ∷ codes "frames" ∷ []

-- whether there is such an option
abbrev pub is_known_option : Option Word → Bool
is_known_option None = true
is_known_option (Some n) = contains_bytes n options

abbrev pub same_option : Option Word → Option Word → Bool
same_option None None = true
same_option (Some m) (Some n) = same_bytes m n
same_option m n = false

-- the values that an option is given, or those of the words that stand by themselves
abbrev pub option_values : Option Word → List Given → List Word
option_values option [] = []
option_values option (g ∷ gs) = if same_option g.0 option then g.1 ∷ option_values option gs else option_values option gs

-- at most one value
abbrev pub lone : List Word → Option (Option Word)
lone [] = Some None
lone (v ∷ []) = Some (Some v)
lone (v ∷ w ∷ ws) = None

-- 1 to 20 digits of a number within limits
abbrev pub number_within : ℕ → ℕ → Word → Option ℕ
number_within low high w = if are_digits 20 w && (nat_le low (number_in w) && nat_le (number_in w) high) then Some (number_in w) else None

-- the number that is given, or the default
abbrev pub number_or : ℕ → ℕ → ℕ → Option Word → Option ℕ
number_or default low high None = Some default
number_or default low high (Some w) = number_within low high w

abbrev pub rule_named : Word → Option Rule
rule_named w =
    if same_bytes w (codes "rr") then Some rule.RoundRobin
    else (if same_bytes w (codes "long") then Some rule.Longest else (if same_bytes w (codes "seeded") then Some rule.Seeded else None))

-- a policy and picks exclude each other
abbrev pub rule_of : Option Word → Option Word → Option Rule
rule_of None None = Some rule.RoundRobin
rule_of None (Some file) = Some rule.Picks
rule_of (Some policy) None = rule_named policy
rule_of (Some policy) (Some file) = None

-- what is given asks for a run of the one network that is named, where each option is known and given at most once
abbrev pub args_of : List Given → Option RunArgs
args_of gs = do
  net ← lone (option_values None gs)
  file ← net
  capacities ← lone (option_values (Some (codes "capacities")) gs)
  seed ← lone (option_values (Some (codes "seed")) gs)
  policy ← lone (option_values (Some (codes "policy")) gs)
  picks ← lone (option_values (Some (codes "picks")) gs)
  train ← lone (option_values (Some (codes "train")) gs)
  frames ← lone (option_values (Some (codes "frames")) gs)
  seed_is ← number_or 0 0 (2 ^ 64 - 1) seed
  train_is ← number_or 16 1 4096 train
  frames_is ← number_or 256 2 16384 frames
  rule_is ← rule_of policy picks
  Some (record { net = file; capacities = capacities; seed = seed_is; rule = rule_is; picks = picks; train = train_is; frames = frames_is })

abbrev pub known_args : List Given → Option RunArgs
known_args gs = if list_all (λ g. is_known_option g.0) gs then args_of gs else None

-- what the words behind `run` ask for
abbrev pub run_args : List Word → Option RunArgs
run_args ws = do
  gs ← given_from ws None
  known_args gs

-- what the words behind `gen` ask for: a number of 64 bits, and 1 to 1,000,000 rows
abbrev pub gen_args : List Word → Option Command
gen_args (number ∷ rows ∷ []) = do
  number_is ← number_within 0 (2 ^ 64 - 1) number
  rows_are ← number_within 1 1000000 rows
  Some (command.Gen number_is rows_are)
gen_args ws = None

-- what the words behind `audit` ask for: the file of a network, and that of a text
abbrev pub audit_args : List Word → Option Command
audit_args (net ∷ text ∷ []) = if may_name net && may_name text then Some (command.Audit net text) else None
audit_args ws = None

-- 1 to 13 digits of a number below 2^40
abbrev pub tick_in : Word → Option ℕ
tick_in w = read_number 13 (2 ^ 40) w

-- what the words behind `tap` ask for: the file of a network, a stream of it, a tick, how far back from it, and the file of a query
abbrev pub tap_args : List Word → Option Command
tap_args (net ∷ stream ∷ tick ∷ history ∷ query ∷ []) = do
  tick_is ← tick_in tick
  history_is ← tick_in history
  if may_name net && (may_name stream && may_name query) then Some (command.Tap net stream tick_is history_is query) else None
tap_args ws = None

abbrev pub tap_or_none : Word → List Word → Option Command
tap_or_none w ws = if same_bytes w (codes "tap") then tap_args ws else None

-- what the words ask for, where they are a command
abbrev pub command_in : List Word → Option Command
command_in [] = None
command_in (w ∷ ws) =
    if same_bytes w (codes "run") then option_map command.Run (run_args ws)
    else (if same_bytes w (codes "audit") then audit_args ws else (if same_bytes w (codes "gen") then gen_args ws else tap_or_none w ws))

-- whether a command reads the folder
abbrev pub reads_folder : Option Command → Bool
reads_folder None = false
reads_folder (Some (command.Run args)) = true
reads_folder (Some (command.Gen number rows)) = false
reads_folder (Some (command.Audit net text)) = true
reads_folder (Some (command.Tap net stream tick history query)) = true

-- whether it runs an engine, which alone calls the disk and takes steps
abbrev pub runs_engine : Option Command → Bool
runs_engine None = false
runs_engine (Some (command.Run args)) = true
runs_engine (Some (command.Gen number rows)) = true
runs_engine (Some (command.Audit net text)) = false
runs_engine (Some (command.Tap net stream tick history query)) = true
