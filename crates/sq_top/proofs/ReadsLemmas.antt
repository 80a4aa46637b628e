-- How the script of a run goes on by what is read, and what each step of it keeps.
use Rattle.std.proofs.Common.{◌≡◌, ℕ, true, false, List, [], ◌∷◌, ◌++◌, length, refl, sym, ◌∙◌, subst, Option, None, Some}
use Rattle.std.specs.Prelude.{Result, Ok, Err, Bool}
use Rattle.sq_value.specs.declared.Tuple.{Tuple}
use Rattle.sq_outside.specs.Folders.{Files}
use Rattle.sq_net.specs.declared.NetErr.{NetErr}
use Rattle.sq_net.specs.declared.Network.{Network}
use Rattle.sq_net.specs.declared.Source.{Source}
use Rattle.sq_net.specs.SoundNetworks.{IsSound}
use Rattle.sq_plan.specs.Plans.{Entries}
use Rattle.sq_reader.specs.Networks.{network_in}
use Rattle.sq_reader.proofs.SoundLemmas.{network_sound}
use Rattle.sq_words.specs.Lists.{same_bytes}
use Rattle.sq_tap.specs.declared.TapErr.{TapErr}
use Rattle.sq_tap.specs.Names.{stream_named}
use Rattle.sq_replay.specs.declared.why.Why.{Why}
use Rattle.sq_replay.specs.Entries.{capacities_in, picks_in}
use Rattle.sq_replay.specs.Streams.{stream_in}
use Rattle.sq_gen.specs.declared.Made.{Made}
use Rattle.sq_gen.specs.Files.{made_of}
use Rattle.sq_command.specs.declared.Command.{Command}
use Rattle.sq_command.specs.declared.Command.TheVariants as command
use Rattle.sq_command.specs.declared.RunArgs.{RunArgs}
use Rattle.sq_status.specs.declared.Status.{Status}
use Rattle.sq_status.specs.declared.Status.TheVariants as status
use Rattle.sq_command.specs.Commands.{command_in, reads_folder, runs_engine}
use Rattle.sq_work.specs.Taps.{Tapped, first_tick, tapped}
use Rattle.sq_work.specs.Scripts.{AcceptedReplay, Script, Reads, Done, Stops, after_capacities, after_network, after_picks, after_stream, after_query, after_streams, after_tap, after_tapped, after_words, audit_script, capacities_script, followed_by, made_limits, made_sources, made_streams, made_unread, picks_script, plain_args, run_script, script_of, tap_script, tap_unread, text_script, unread, with_sources}
use Rattle.sq_work.specs.FolderStates.{FolderState}
use Rattle.sq_work.specs.Reads.{GoesBy, ScriptLeads}
use Rattle.sq_work.proofs.JoinLemmas.{tapped_sound}
use Rattle.std.proofs.lemmas.Bool.{or_right, or_left}
use Rattle.sq_words.proofs.Lists.{same_bytes_itself}
use Rattle.sq_status.specs.StatusKinds.{is_plain_end}
use Rattle.sq_work.specs.FileParts.{is_named_file, FilePart, limit_of, may_be, NetworkFile, CapacityFile, PicksFile, StreamFile, TextFile}
use Rattle.sq_work.proofs.ReadsLemmas.{none_given}

pub leads_self : (folder : FolderState) (s : Script) → ScriptLeads folder folder s s
leads_self folder s = ([], refl, none_given folder.read folder.read refl)

-- P of what is accepted in the end, Q of each rule and R of each file, whatever is read
abbrev pub Holds : (AcceptedReplay → Type 0) → (Status → Type 0) → (List ℕ → ℕ → Type 0) → Script → Type 0
Holds P Q R (Reads name limit more) = R name limit × ((bytes : List ℕ) → Holds P Q R (more bytes))
Holds P Q R (Done r) = P r
Holds P Q R (Stops s) = Q s

pub goes_holds : (P : AcceptedReplay → Type 0) (Q : Status → Type 0) (R : List ℕ → ℕ → Type 0) (told : Option Files) (read : List (List ℕ × List ℕ)) (from to : Script)
    → GoesBy told read from to → Holds P Q R from → Holds P Q R to
goes_holds P Q R told [] from to goes holds = subst (Holds P Q R) goes holds
goes_holds P Q R told (given ∷ read) (Reads name limit more) to goes holds = goes_holds P Q R told read (more given.1) to goes.2 (holds.1 given.1)
goes_holds P Q R told (given ∷ read) (Done r) to goes holds = absurd goes
goes_holds P Q R told (given ∷ read) (Stops s) to goes holds = absurd goes

-- a script and what comes behind it
pub holds_then : (P : AcceptedReplay → Type 0) (Q : Status → Type 0) (R : List ℕ → ℕ → Type 0) (next : AcceptedReplay → Script) → ((r : AcceptedReplay) → P r → Holds P Q R (next r)) → (s : Script)
    → Holds P Q R s → Holds P Q R (followed_by s next)
holds_then P Q R next rest (Reads name limit more) holds = (holds.0, λ bytes. holds_then P Q R next rest (more bytes) (holds.1 bytes))
holds_then P Q R next rest (Done r) holds = rest r holds
holds_then P Q R next rest (Stops s) holds = holds

-- the rules that words and files may break
abbrev pub is_rule : Status → Bool
is_rule status.Usage = true
is_rule (status.BadNetwork e) = true
is_rule (status.BadCapacities line) = true
is_rule (status.BadPicks line) = true
is_rule (status.BadStream number line why) = true
is_rule (status.BadQuery e) = true
is_rule (status.BadTap e) = true
is_rule s = false

-- and those that a command may break: of capacities and picks a run alone
abbrev pub IsRuleOf : Option Command → Status → Type 0
IsRuleOf c s = (is_rule s ≡ true) × (runs_engine c ≡ false → is_plain_end s ≡ true)

-- a file of this name has a part in what a command asks for, and no more bytes than that part may have
abbrev pub IsPartOf : Option Command → List ℕ → ℕ → Type 0
IsPartOf c name limit = (p : FilePart) × (may_be c p name ≡ true) × (limit ≡ limit_of p)

abbrev pub HoldsFor : Option Command → Script → Type 0
HoldsFor c s = Holds (λ r. IsSound r.network) (IsRuleOf c) (IsPartOf c) s

stream_holds : (c : Option Command) (number : ℕ) (more : List Tuple → Script) (o : Result (List Tuple) (ℕ × Why)) → ((xs : List Tuple) → HoldsFor c (more xs))
    → HoldsFor c (after_stream number more o)
stream_holds c number more (Ok xs) rest = rest xs
stream_holds c number more (Err e) rest = (refl, λ plain. refl)

streams_hold : (c : Option Command) → reads_folder c ≡ true → (p : AcceptedReplay) (left : List Source) → IsSound p.network → HoldsFor c (after_streams p left)
streams_hold c run p [] f = f
streams_hold c run p (s ∷ left) f = (
  (StreamFile, run, refl),
  λ bytes. stream_holds c (length p.sources) (λ xs. after_streams (with_sources p (p.sources ++ xs ∷ [])) left) (stream_in s.schema bytes)
      (λ xs. streams_hold c run (with_sources p (p.sources ++ xs ∷ [])) left f),
)

module _ (args : RunArgs) (n : Network) (f : IsSound n) where
  abbrev asked : Option Command
  asked = Some (command.Run args)

  named_self : (o : Option (List ℕ)) (name : List ℕ) → o ≡ Some name → is_named_file o name ≡ true
  named_self o name is = subst (λ x. is_named_file x name ≡ true) (sym is) (same_bytes_itself name)

  picks_hold : (entries : Entries) (o : Result (List ℕ) ℕ) → HoldsFor asked (after_picks args n entries o)
  picks_hold entries (Ok picks) = streams_hold asked refl (unread args n entries picks) n.sources f
  picks_hold entries (Err line) = (refl, λ plain. absurd (cc))

  picked_hold : (entries : Entries) (o : Option (List ℕ)) → args.picks ≡ o → HoldsFor asked (picks_script args n entries o)
  picked_hold entries None is = picks_hold entries (Ok [])
  picked_hold entries (Some name) is = ((PicksFile, named_self args.picks name is, refl), λ bytes. picks_hold entries (picks_in bytes))

  capacities_hold : (o : Result Entries ℕ) → HoldsFor asked (after_capacities args n o)
  capacities_hold (Ok entries) = picked_hold entries args.picks refl
  capacities_hold (Err line) = (refl, λ plain. absurd (cc))

  limited_hold : (o : Option (List ℕ)) → args.capacities ≡ o → HoldsFor asked (capacities_script args n o)
  limited_hold None is = capacities_hold (Ok [])
  limited_hold (Some name) is = ((CapacityFile, named_self args.capacities name is, refl), λ bytes. capacities_hold (capacities_in bytes))

network_holds : (args : RunArgs) (bytes : List ℕ) (o : Result Network NetErr) → network_in bytes ≡ o → HoldsFor (Some (command.Run args)) (after_network args o)
network_holds args bytes (Ok n) said = limited_hold args n (network_sound bytes n said) args.capacities refl
network_holds args bytes (Err e) said = (refl, λ plain. refl)

-- and what is made
made_streams_hold : (c : Option Command) (stream : List ℕ) (p : AcceptedReplay) (left : List Source) → IsSound p.network → HoldsFor c (made_streams stream p left)
made_streams_hold c stream p [] f = f
made_streams_hold c stream p (s ∷ left) f =
    stream_holds c (length p.sources) (λ xs. made_streams stream (with_sources p (p.sources ++ xs ∷ [])) left) (stream_in s.schema stream)
    (λ xs. made_streams_hold c stream (with_sources p (p.sources ++ xs ∷ [])) left f)

module _ (c : Option Command) (engine : runs_engine c ≡ true) where
  not_plain : (s : Status) → runs_engine c ≡ false → is_plain_end s ≡ true
  not_plain s plain = let both : true ≡ false = sym engine ∙ plain in absurd (cc)

  made_sources_hold : (number : ℕ) (stream : List ℕ) (n : Network) (o : Result Entries ℕ) → IsSound n → HoldsFor c (made_sources number stream n o)
  made_sources_hold number stream n (Ok entries) f = made_streams_hold c stream (made_unread number n entries) n.sources f
  made_sources_hold number stream n (Err line) f = (refl, not_plain (status.BadCapacities line))

  made_holds : (number : ℕ) (made : Made) (o : Result Network NetErr) → network_in made.net ≡ o → HoldsFor c (made_limits number made o)
  made_holds number made (Ok n) said = made_sources_hold number made.stream n (capacities_in made.capacities) (network_sound made.net n said)
  made_holds number made (Err e) said = (refl, λ plain. refl)

-- an audit reads no capacities and no picks, and the text last
module _ (net text : List ℕ) where
  abbrev audited : Option Command
  audited = Some (command.Audit net text)

  plain_holds : (bytes : List ℕ) (o : Result Network NetErr) → network_in bytes ≡ o → HoldsFor audited (after_network (plain_args net) o)
  plain_holds bytes (Ok n) said = streams_hold audited refl (unread (plain_args net) n [] []) n.sources (network_sound bytes n said)
  plain_holds bytes (Err e) said = (refl, λ plain. refl)

  audit_holds : HoldsFor audited (audit_script net text)
  audit_holds = holds_then (λ r. IsSound r.network) (IsRuleOf audited) (IsPartOf audited) (text_script text)
      (λ r sound. ((TextFile, same_bytes_itself text, refl), λ bytes. sound)) (run_script (plain_args net))
      ((NetworkFile, same_bytes_itself net, refl), λ bytes. plain_holds bytes (network_in bytes) refl)

module _ (net stream : List ℕ) (tick history : ℕ) (query : List ℕ) where
  abbrev joining : Option Command
  joining = Some (command.Tap net stream tick history query)

  abbrev from : ℕ
  from = first_tick tick history

  joined_holds : (o : Result Tapped TapErr) → ((t : Tapped) → o ≡ Ok t → IsSound t.network) → HoldsFor joining (after_tap o)
  joined_holds (Ok t) sound = streams_hold joining refl (tap_unread t) t.network.sources (sound t refl)
  joined_holds (Err e) sound = (refl, not_plain joining refl (status.BadTap e))

  query_holds : (n : Network) → IsSound n → (bytes : List ℕ) (o : Result Network NetErr) → network_in bytes ≡ o → HoldsFor joining (after_query n stream from o)
  query_holds n sound bytes (Ok q) said =
      joined_holds (tapped n (stream_named n stream) from q) (λ t is. tapped_sound n stream from q t sound (network_sound bytes q said) is)
  query_holds n sound bytes (Err e) said = (refl, not_plain joining refl (status.BadQuery e))

  named_holds : (bytes : List ℕ) (o : Result Network NetErr) → network_in bytes ≡ o → HoldsFor joining (after_tapped stream from query o)
  named_holds bytes (Ok n) said = (
    (NetworkFile, or_right (same_bytes net query) (same_bytes query query) (same_bytes_itself query), refl),
    λ more. query_holds n (network_sound bytes n said) more (network_in more) refl,
  )
  named_holds bytes (Err e) said = (refl, λ plain. refl)

  tap_holds : HoldsFor joining (tap_script net stream from query)
  tap_holds = (
    (NetworkFile, or_left (same_bytes net net) (same_bytes query net) (same_bytes_itself net), refl),
    λ bytes. named_holds bytes (network_in bytes) refl,
  )

command_holds : (c : Option Command) → HoldsFor c (after_words c)
command_holds None = (refl, λ plain. refl)
command_holds (Some (command.Run args)) = ((NetworkFile, same_bytes_itself args.net, refl), λ bytes. network_holds args bytes (network_in bytes) refl)
command_holds (Some (command.Gen number rows)) = made_holds (Some (command.Gen number rows)) refl number (made_of number rows) (network_in (made_of number rows).net) refl
command_holds (Some (command.Audit net text)) = audit_holds net text
command_holds (Some (command.Tap net stream tick history query)) = tap_holds net stream tick history query

pub script_holds : (words : List (List ℕ)) → HoldsFor (command_in words) (script_of words)
script_holds words = command_holds (command_in words)

-- what is left of a script of words
pub left_holds : (told : Option Files) (words : List (List ℕ)) (read : List (List ℕ × List ℕ)) (left : Script) → GoesBy told read (script_of words) left → HoldsFor (command_in words) left
left_holds told words read left goes =
    goes_holds (λ r. IsSound r.network) (IsRuleOf (command_in words)) (IsPartOf (command_in words)) told read (script_of words) left goes (script_holds words)
