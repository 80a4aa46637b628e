-- What words come to by what was read can be audited, if it is accepted: the network is sound, its drop points keep their limits, and the
-- sources recorded streams.
use Rattle.std.proofs.Common.{◌≡◌, ℕ, ◌+◌, Bool, true, false, not, ◌&&◌, cond, List, [], ◌∷◌, ◌++◌, length, refl, ap, sym, ◌∙◌, subst, Option, Some, None}
use Rattle.std.specs.Prelude.{⊤, Result, Ok, Err, option_map}
use Rattle.std.specs.List.{AllByRecursion, list_all, position_from}
use Rattle.std.proofs.lemmas.Bool.{and_parts}
use Rattle.std.proofs.lemmas.Iterator.Adapters.{position_from-zero}
use Rattle.std.proofs.lemmas.List.Elements.{All-from_recursion}
use Rattle.sq_outside.specs.Folders.{Files}
use Rattle.sq_value.specs.declared.Tuple.{Tuple}
use Rattle.sq_value.specs.Values.{IsStream}
use Rattle.sq_place.specs.declared.DropPoint.{DropPoint}
use Rattle.sq_place.specs.Points.{is_long_batch, is_wide_extent}
use Rattle.sq_place.specs.Refusals.{IsFine}
use Rattle.sq_net.specs.declared.NetErr.{NetErr}
use Rattle.sq_net.specs.declared.NetErr.TheVariants as broken
use Rattle.sq_net.specs.declared.Network.{Network}
use Rattle.sq_net.specs.declared.Part.TheVariants as part
use Rattle.sq_net.specs.declared.Place.{Place}
use Rattle.sq_net.specs.declared.Source.{Source}
use Rattle.sq_net.specs.SoundNetworks.{IsSound, source_within}
use Rattle.sq_points.specs.Limits.{KeepsDropLimits}
use Rattle.sq_points.specs.Points.{points_of}
use Rattle.sq_tables.specs.Places.{part_place}
use Rattle.sq_reader.specs.Drops.{drop_place, is_drop_within}
use Rattle.sq_tables.specs.Tables.{network_table_of}
use Rattle.sq_rules.specs.Rules.{unless_at}
use Rattle.sq_reader.specs.Networks.{limited_network, network_in, typed_network}
use Rattle.sq_reader.proofs.SoundLemmas.{network_sound}
use Rattle.sq_reader.proofs.DropLemmas.{limited_same}
use Rattle.sq_plan.specs.Plans.{Entries}
use Rattle.sq_replay.specs.declared.why.Why.{Why}
use Rattle.sq_replay.specs.Entries.{capacities_in, picks_in}
use Rattle.sq_replay.specs.Streams.{stream_in}
use Rattle.sq_gen.specs.declared.Made.{Made}
use Rattle.sq_gen.specs.Files.{made_of}
use Rattle.sq_command.specs.declared.Command.{Command}
use Rattle.sq_command.specs.declared.Command.TheVariants as command
use Rattle.sq_command.specs.declared.RunArgs.{RunArgs}
use Rattle.sq_tap.specs.declared.TapErr.{TapErr}
use Rattle.sq_tap.specs.Names.{stream_named}
use Rattle.sq_command.specs.Commands.{command_in}
use Rattle.sq_work.specs.Taps.{Tapped, first_tick, tapped}
use Rattle.sq_work.specs.Reads.{GoesBy}
use Rattle.sq_work.specs.Scripts.{AcceptedReplay, Script, Done, after_capacities, after_network, after_picks, after_query, after_stream, after_streams, after_tap, after_tapped, after_words, capacities_script, made_limits, made_sources, made_streams, made_unread, picks_script, plain_args, run_script, script_of, tap_unread, text_script, unread, with_sources}
use Rattle.sq_work.proofs.JoinLemmas.{tapped_limits, tapped_sound}
use Rattle.sq_top.proofs.ReadsLemmas.{Holds, goes_holds, holds_then}
use Rattle.sq_top.proofs.SourceLemmas.{sources_within, streams_more}
use Rattle.sq_audited.specs.Laws.{AcceptsRuns}
use Rattle.sq_audited.proofs.Wholes.{accepts_replays}
use Rattle.sq_words.specs.Results.{◌>>=◌}
use Rattle.sq_work.proofs.SourceLemmas.{text_is_recorded}

-- ---- the limits of drop points

module _ (p : DropPoint) where
  parts : (long wide : Bool) → (not long && not wide) ≡ true → (long ≡ false) × (wide ≡ false)
  parts false false h = (refl, refl)
  parts false true h = cc
  parts true wide h = cc

  fine_is : is_drop_within p ≡ true → IsFine p
  fine_is h = parts (is_long_batch p) (is_wide_extent p) h

all_fine : (d : ℕ) (ps : List DropPoint) → position_from (λ p. not (is_drop_within p)) d ps ≡ None → AllByRecursion IsFine ps
all_fine d [] h = tt
all_fine d (p ∷ ps) h = by (λ none. all_fine (d + 1) ps none) (is_drop_within p) refl h
  where
    by : (position_from (λ q. not (is_drop_within q)) (d + 1) ps ≡ None → AllByRecursion IsFine ps) → (b : Bool) → is_drop_within p ≡ b → cond (not b) (Some d) (position_from (λ q. not (is_drop_within q)) (d + 1) ps) ≡ None → AllByRecursion IsFine (p ∷ ps)
    by more true e none = (fine_is p e, more none)
    by more false e none = absurd (cc)

-- a network that passes the last rule keeps it
none_placed : (o : Option ℕ) → option_map (part_place part.Drop) o ≡ None → o ≡ None
none_placed None h = refl
none_placed (Some k) h = cc

limits_of : (m n : Network) → limited_network m ≡ Ok n → KeepsDropLimits m
limits_of m n h = All-from_recursion IsFine (points_of m) (all_fine 0 (points_of m) (sym (position_from-zero (λ p. not (is_drop_within p)) (points_of m)) ∙ none_placed _ (by (drop_place m) h)))
  where
    by : (o : Option Place) → unless_at broken.Limit o (Ok m) ≡ Ok n → o ≡ None
    by None e = refl
    by (Some p) e = absurd (cc)

-- the network of a file's bytes keeps it
limits_from : (o : Result Network NetErr) (next : Network → Result Network NetErr) (n : Network) → ((m : Network) → next m ≡ Ok n → KeepsDropLimits n) → (o >>= next) ≡ Ok n → KeepsDropLimits n
limits_from (Ok m) next n h e = h m e
limits_from (Err s) next n h e = absurd (cc)

pub network_limits : (bytes : List ℕ) (n : Network) → network_in bytes ≡ Ok n → KeepsDropLimits n
network_limits bytes n h = limits_from (network_table_of bytes >>= typed_network) limited_network n (λ m e. subst KeepsDropLimits (limited_same m n e) (limits_of m n e)) h

-- ---- the order of work

-- the network is sound, its drop points keep their limits, and the sources recorded streams
record IsAuditable (r : AcceptedReplay) : Type 0 where
  sound : IsSound r.network
  limits : KeepsDropLimits r.network
  streams : AllByRecursion IsStream r.sources

-- whatever is read, what a script accepts in the end can be audited
abbrev CanBeAudited : Script → Type 0
CanBeAudited s = Holds IsAuditable (λ status. ⊤) (λ name limit. ⊤) s

unread_ok : (p : AcceptedReplay) → IsSound p.network → KeepsDropLimits p.network → p.sources ≡ [] → IsAuditable p
unread_ok p sound limits none = record { sound = sound; limits = limits; streams = subst (AllByRecursion IsStream) (sym none) tt }

-- with the stream of one source more
stream_more : (p : AcceptedReplay) (s : Source) (bytes : List ℕ) (xs : List Tuple) → source_within s ≡ true → IsAuditable p → stream_in s.schema bytes ≡ Ok xs → IsAuditable (with_sources p (p.sources ++ xs ∷ []))
stream_more p s bytes xs within a said = record { sound = a.sound; limits = a.limits; streams = streams_more p.sources xs a.streams (text_is_recorded s bytes xs within said).stream }

stream_ok : (s : Source) (bytes : List ℕ) (number : ℕ) (more : List Tuple → Script) (o : Result (List Tuple) (ℕ × Why)) → stream_in s.schema bytes ≡ o
    → ((xs : List Tuple) → stream_in s.schema bytes ≡ Ok xs → CanBeAudited (more xs)) → CanBeAudited (after_stream number more o)
stream_ok s bytes number more (Ok xs) said rest = rest xs said
stream_ok s bytes number more (Err w) said rest = tt

streams_ok : (p : AcceptedReplay) (left : List Source) → list_all source_within left ≡ true → IsAuditable p → CanBeAudited (after_streams p left)
streams_ok p [] within a = a
streams_ok p (s ∷ left) within a =
    let both = and_parts (source_within s) (list_all source_within left) within in (
      tt,
      λ bytes. stream_ok s bytes (length p.sources) (λ xs. after_streams (with_sources p (p.sources ++ xs ∷ [])) left) (stream_in s.schema bytes) refl
          (λ xs said. streams_ok (with_sources p (p.sources ++ xs ∷ [])) left both.1 (stream_more p s bytes xs both.0 a said)),
    )

made_ok : (stream : List ℕ) (p : AcceptedReplay) (left : List Source) → list_all source_within left ≡ true → IsAuditable p → CanBeAudited (made_streams stream p left)
made_ok stream p [] within a = a
made_ok stream p (s ∷ left) within a =
    let both = and_parts (source_within s) (list_all source_within left) within in
    stream_ok s stream (length p.sources) (λ xs. made_streams stream (with_sources p (p.sources ++ xs ∷ [])) left) (stream_in s.schema stream) refl
    (λ xs said. made_ok stream (with_sources p (p.sources ++ xs ∷ [])) left both.1 (stream_more p s stream xs both.0 a said))

module _ (bytes : List ℕ) (n : Network) (said : network_in bytes ≡ Ok n) where
  sound : IsSound n
  sound = network_sound bytes n said

  limits : KeepsDropLimits n
  limits = network_limits bytes n said

  module _ (args : RunArgs) where
    picks_ok : (entries : Entries) (o : Result (List ℕ) ℕ) → CanBeAudited (after_picks args n entries o)
    picks_ok entries (Ok picks) = streams_ok (unread args n entries picks) n.sources (sources_within n sound.within) (unread_ok (unread args n entries picks) sound limits refl)
    picks_ok entries (Err line) = tt

    picked_ok : (entries : Entries) (o : Option (List ℕ)) → CanBeAudited (picks_script args n entries o)
    picked_ok entries None = picks_ok entries (Ok [])
    picked_ok entries (Some name) = (tt, λ more. picks_ok entries (picks_in more))

    capacities_ok : (o : Result Entries ℕ) → CanBeAudited (after_capacities args n o)
    capacities_ok (Ok entries) = picked_ok entries args.picks
    capacities_ok (Err line) = tt

    named_ok : (o : Option (List ℕ)) → CanBeAudited (capacities_script args n o)
    named_ok None = capacities_ok (Ok [])
    named_ok (Some name) = (tt, λ more. capacities_ok (capacities_in more))

  made_sources_ok : (number : ℕ) (stream : List ℕ) (o : Result Entries ℕ) → CanBeAudited (made_sources number stream n o)
  made_sources_ok number stream (Ok entries) = made_ok stream (made_unread number n entries) n.sources (sources_within n sound.within) (unread_ok (made_unread number n entries) sound limits refl)
  made_sources_ok number stream (Err line) = tt

network_ok : (args : RunArgs) (bytes : List ℕ) (o : Result Network NetErr) → network_in bytes ≡ o → CanBeAudited (after_network args o)
network_ok args bytes (Ok n) said = named_ok bytes n said args args.capacities
network_ok args bytes (Err e) said = tt

made_limits_ok : (number : ℕ) (made : Made) (o : Result Network NetErr) → network_in made.net ≡ o → CanBeAudited (made_limits number made o)
made_limits_ok number made (Ok n) said = made_sources_ok made.net n said number made.stream (capacities_in made.capacities)
made_limits_ok number made (Err e) said = tt

run_ok : (args : RunArgs) → CanBeAudited (run_script args)
run_ok args = (tt, λ bytes. network_ok args bytes (network_in bytes) refl)

text_ok : (text : List ℕ) (p : AcceptedReplay) → IsAuditable p → CanBeAudited (text_script text p)
text_ok text p a = (tt, λ bytes. record { sound = a.sound; limits = a.limits; streams = a.streams })

-- what is joined
module _ (stream : List ℕ) (from : ℕ) where
  joined_ok : (o : Result Tapped TapErr) → ((t : Tapped) → o ≡ Ok t → IsSound t.network × KeepsDropLimits t.network) → CanBeAudited (after_tap o)
  joined_ok (Ok t) keeps = let kept = keeps t refl in streams_ok (tap_unread t) t.network.sources (sources_within t.network kept.0.within) (unread_ok (tap_unread t) kept.0 kept.1 refl)
  joined_ok (Err e) keeps = tt

  query_ok : (n : Network) → IsSound n → (bytes : List ℕ) (o : Result Network NetErr) → network_in bytes ≡ o → CanBeAudited (after_query n stream from o)
  query_ok n sound bytes (Ok q) said =
      joined_ok (tapped n (stream_named n stream) from q)
      (λ t is. (tapped_sound n stream from q t sound (network_sound bytes q said) is, tapped_limits n stream from q t is))
  query_ok n sound bytes (Err e) said = tt

  tapped_ok : (query bytes : List ℕ) (o : Result Network NetErr) → network_in bytes ≡ o → CanBeAudited (after_tapped stream from query o)
  tapped_ok query bytes (Ok n) said = (tt, λ more. query_ok n (network_sound bytes n said) more (network_in more) refl)
  tapped_ok query bytes (Err e) said = tt

command_ok : (c : Option Command) → CanBeAudited (after_words c)
command_ok None = tt
command_ok (Some (command.Run args)) = run_ok args
command_ok (Some (command.Gen number rows)) = made_limits_ok number (made_of number rows) (network_in (made_of number rows).net) refl
command_ok (Some (command.Audit net text)) = holds_then IsAuditable (λ status. ⊤) (λ name limit. ⊤) (text_script text) (text_ok text) (run_script (plain_args net)) (run_ok (plain_args net))
command_ok (Some (command.Tap net stream tick history query)) = (tt, λ bytes. tapped_ok stream (first_tick tick history) query bytes (network_in bytes) refl)

-- what words come to by what was read can be audited, if it is accepted
auditable : (words : List (List ℕ)) (told : Option Files) (read : List (List ℕ × List ℕ)) (r : AcceptedReplay) → GoesBy told read (script_of words) (Done r) → IsAuditable r
auditable words told read r goes = goes_holds IsAuditable (λ status. ⊤) (λ name limit. ⊤) told read (script_of words) (Done r) goes (command_ok (command_in words))

pub accepts_runs : AcceptsRuns
accepts_runs words told read r text goes h =
    let a = auditable words told read r goes in
    accepts_replays r text a.sound a.limits (All-from_recursion IsStream r.sources a.streams) h
