-- How a run stops before anything is replayed.
use Rattle.std.proofs.Common.{◌≡◌, ◌≢◌, inl, inr, ℕ, ◌+◌, ◌<◌, ◌≤◌, true, false, List, [], ◌∷◌, ◌++◌, length, drop, get_or, refl, ap, sym, ◌∙◌, subst, arith, Option, None, Some}
use Rattle.std.specs.Prelude.{IsSome, IsSomeAnd, slice_get, Result, Ok, Err}
use Rattle.std.proofs.lemmas.Bool.Decides.{nat_tests}
use Rattle.std.proofs.lemmas.List.{drop_more}
use Rattle.std.proofs.lemmas.Option.{slice_get-get_or}
use Rattle.sq_value.specs.declared.Tuple.{Tuple}
use Rattle.sq_outside.specs.Faults.{RoseBy}
use Rattle.sq_outside.specs.Folders.{IsLonger, file}
use Rattle.sq_command.specs.declared.Command.{Command}
use Rattle.sq_command.specs.declared.Command.TheVariants as command
use Rattle.sq_command.specs.declared.RunArgs.{RunArgs}
use Rattle.sq_status.specs.declared.Status.{Status}
use Rattle.sq_status.specs.declared.Status.TheVariants as status
use Rattle.sq_net.specs.declared.NetErr.{NetErr}
use Rattle.sq_net.specs.declared.NetErr.TheVariants as net
use Rattle.sq_net.specs.declared.Network.{Network}
use Rattle.sq_net.specs.declared.Source.{Source}
use Rattle.sq_net.specs.SoundNetworks.{IsSound, is_between}
use Rattle.sq_reader.specs.Networks.{network_in}
use Rattle.sq_tables.specs.Refusals.{is_memory}
use Rattle.sq_tap.specs.declared.TapErr.{TapErr}
use Rattle.sq_tap.specs.declared.TapErr.TheVariants as tap
use Rattle.sq_replay.specs.declared.why.Why.{Why}
use Rattle.sq_plan.specs.Plans.{Entries}
use Rattle.sq_replay.specs.Entries.{capacities_in, picks_in}
use Rattle.sq_replay.specs.Streams.{stream_in}
use Rattle.sq_command.specs.Commands.{command_in}
use Rattle.sq_status.specs.Messages.{name_at, source_name_in, network_if_ok}
use Rattle.sq_work.specs.Scripts.{Script, Reads, Done, Stops, AcceptedReplay, after_capacities, after_network, after_picks, after_stream, after_streams, after_words, capacities_script, picks_script, script_of, stream_limit, unread, with_sources}
use Rattle.sq_work.specs.FolderStates.{FolderState}
use Rattle.sq_work.specs.Reads.{AreBytesOf, GoesBy, IsFileRead, ScriptLeads, LeadsWith, WhereTold, network_read}
use Rattle.sq_reader.specs.Limits.{settings_limit}
use Rattle.sq_words.proofs.Bools.{and_true}
use Rattle.sq_status.specs.StatusKinds.{is_refusal, hides_memory, IsRule}
use Rattle.sq_work.specs.Refusals.{NamesSource, IsUnread, IsRefusedAt, IsStopped, IsRefusedBy, IsNetworkFile, AreCapacitiesOf, HasNoCapacities, ArePicksOf, HasNoPicks, IsStreamOf, HasNoStream, HasNoStreams}
use Rattle.sq_work.proofs.ReadsLemmas.{IsLaterFolder, none_given, leads_still, leads_then, leads_read, with_then, words_lead}

pub some_none : (o : Option Command) → IsSome o → o ≡ None → ⊥
some_none None some e = absurd (cc)
some_none (Some c) some e = cc

pub not_memory : (e : NetErr) → e ≢ net.Memory → is_memory e ≡ false
not_memory net.Memory h = absurd (h refl)
not_memory e h = refl

pub not_hidden_tap : (e : TapErr) → e ≢ tap.Memory → hides_memory (status.BadTap e) ≡ false
not_hidden_tap tap.Memory h = absurd (h refl)
not_hidden_tap e h = refl

-- memory may run out wherever a run is
pub memory_at : (before after : FolderState) (left : Script) → IsRefusedAt before after status.Memory left
memory_at before after (Done r) = refl
memory_at before after (Stops s) = inr refl
memory_at before after (Reads name limit more) = inl refl

module _ (words : List (List ℕ)) (before after : FolderState) (source : List ℕ) where
  pub stopped_memory : (left : Script) → ScriptLeads before after (script_of words) left → IsStopped words before after status.Memory source
  stopped_memory left leads = record {
    read = leads.0;
    given = leads.2;
    left = left;
    goes = leads.1;
    refusal = memory_at before after left;
    usage = record { only = λ e. absurd (cc); when = λ e. inr refl };
    named = tt;
    ends = inr refl;
    no_memory = refl;
  }

  is_usage : command_in words ≡ None → script_of words ≡ Stops status.Usage
  is_usage none = ap after_words none

  pub stopped_usage : after.read ≡ before.read → command_in words ≡ None → IsStopped words before after status.Usage source
  stopped_usage same none = record {
    read = [];
    given = none_given before.read after.read same;
    left = Stops status.Usage;
    goes = is_usage none;
    refusal = inl refl;
    usage = record { only = λ e. none; when = λ e. inl refl };
    named = tt;
    ends = inl refl;
    no_memory = refl;
  }

  -- any refusal but that the words are no command
  refused_at : (s : Status) → is_refusal s ≡ true → s ≢ status.Usage → hides_memory s ≡ false → IsSome (command_in words)
      → (left : Script) (leads : ScriptLeads before after (script_of words) left) → IsRefusedAt before after s left → NamesSource words leads.0 s source
      → IsStopped words before after s source
  refused_at s refused other rule some left leads why named = record {
    read = leads.0;
    given = leads.2;
    left = left;
    goes = leads.1;
    refusal = why;
    usage = record { only = λ e. absurd (other e); when = λ e. absurd (some_none (command_in words) some e) };
    named = named;
    ends = inl refused;
    no_memory = rule;
  }

  pub stopped_rule : (s : Status) → IsRule s → IsSome (command_in words) → (leads : ScriptLeads before after (script_of words) (Stops s))
      → NamesSource words leads.0 s source → IsStopped words before after s source
  stopped_rule (status.BadNetwork rule) is some leads named =
      refused_at (status.BadNetwork rule) refl (λ e. cc) (not_memory rule is) some (Stops (status.BadNetwork rule)) leads (inl refl) named
  stopped_rule (status.BadQuery rule) is some leads named =
      refused_at (status.BadQuery rule) refl (λ e. cc) (not_memory rule is) some (Stops (status.BadQuery rule)) leads (inl refl) named
  stopped_rule (status.BadTap rule) is some leads named =
      refused_at (status.BadTap rule) refl (λ e. cc) (not_hidden_tap rule is) some (Stops (status.BadTap rule)) leads (inl refl) named
  stopped_rule (status.BadCapacities line) is some leads named =
      refused_at (status.BadCapacities line) refl (λ e. cc) refl some (Stops (status.BadCapacities line)) leads (inl refl) named
  stopped_rule (status.BadPicks line) is some leads named =
      refused_at (status.BadPicks line) refl (λ e. cc) refl some (Stops (status.BadPicks line)) leads (inl refl) named
  stopped_rule (status.BadStream number line why) is some leads named =
      refused_at (status.BadStream number line why) refl (λ e. cc) refl some (Stops (status.BadStream number line why)) leads (inl refl) named
  stopped_rule s is some leads named = absurd is

  pub stopped_unread : (name : List ℕ) (limit : ℕ) (more : List ℕ → Script) → IsSome (command_in words) → ScriptLeads before after (script_of words) (Reads name limit more)
      → (s : Status) → IsUnread before after name limit s → IsStopped words before after s source
  stopped_unread name limit more some leads s (inl e) = subst (λ x. IsStopped words before after x source) (sym e) (stopped_memory (Reads name limit more) leads)
  stopped_unread name limit more some leads s (inr (inl fault)) = subst (λ x. IsStopped words before after x source) (sym fault.0)
      (refused_at (status.FolderFault name) refl (λ e. cc) refl some (Reads name limit more) leads (inr (inl (refl, fault.1))) tt)
  stopped_unread name limit more some leads s (inr (inr long)) = subst (λ x. IsStopped words before after x source) (sym long.0)
      (refused_at (status.TooLong name) refl (λ e. cc) refl some (Reads name limit more) leads (inr (inr (refl, long.1, long.2))) tt)

pub rose_later : (n before mid now : ℕ) → before ≤ mid → RoseBy n mid now → RoseBy n before now
rose_later n before mid now le (inl up) = inl (omega arith)
rose_later n before mid now le (inr end) = inr end

pub unread_later : (before mid after : FolderState) (name : List ℕ) (limit : ℕ) (s : Status) → IsLaterFolder before mid → IsUnread mid after name limit s → IsUnread before after name limit s
unread_later before mid after name limit s later (inl e) = inl e
unread_later before mid after name limit s later (inr (inl (e, inl rose))) = inr (inl (e, inl (rose_later 1 before.faults mid.faults after.faults later.1 rose)))
unread_later before mid after name limit s later (inr (inl (e, inr none))) = inr (inl (e, inr (subst (λ t. IsSomeAnd t (λ files. file files name ≡ None)) later.0 none)))
unread_later before mid after name limit s later (inr (inr long)) =
    inr (inr (long.0, rose_later (limit + 1) before.taken mid.taken after.taken later.2 long.1, subst (λ t. WhereTold t (λ files. IsLonger files name limit)) later.0 long.2))

-- the network's file, which is read first
module _ (words : List (List ℕ)) (name : List ℕ) (next : Result Network NetErr → Script) (some : IsSome (command_in words))
    (script_is : script_of words ≡ Reads name settings_limit (λ bytes. next (network_in bytes))) (refuses : (e : NetErr) → next (Err e) ≡ Stops (status.BadNetwork e))
    (reads : (bytes : List ℕ) → network_read (command_in words) ((name, bytes) ∷ []) ≡ network_if_ok (network_in bytes)) (before after : FolderState) where
  pub first_unread : (s : Status) (source : List ℕ) → after.read ≡ before.read → IsUnread before after name settings_limit s → IsStopped words before after s source
  first_unread s source same unread =
      stopped_unread words before after source name settings_limit (λ bytes. next (network_in bytes)) some ([], script_is, none_given before.read after.read same) s unread

  -- what the file's bytes say comes next
  after_bytes : (bytes : List ℕ) → AreBytesOf before.told name settings_limit bytes → (r : Result Network NetErr) → network_in bytes ≡ r
      → GoesBy before.told ((name, bytes) ∷ []) (script_of words) (next r)
  after_bytes bytes are r e = subst (λ x. GoesBy before.told ((name, bytes) ∷ []) x (next r)) (sym script_is) (refl, are, ap next e)

  pub first_leads : (n : Network) → IsNetworkFile before after name (Ok n) → LeadsWith before after words n (next (Ok n))
  first_leads n (bytes, got, said) = ((name, bytes) ∷ [], after_bytes bytes got.0 (Ok n) said, reads bytes ∙ ap network_if_ok said, got.1)

  pub first_refused : (e : NetErr) (result : Status) (source : List ℕ) → IsNetworkFile before after name (Err e) → IsRefusedBy e result → IsStopped words before after result source
  first_refused e result source (bytes, got, said) (inl memory) =
      subst (λ x. IsStopped words before after x source) (sym memory.1)
      (stopped_memory words before after source (next (network_in bytes)) ((name, bytes) ∷ [], after_bytes bytes got.0 (network_in bytes) refl, got.1))
  first_refused e result source (bytes, got, said) (inr rule) =
      subst (λ x. IsStopped words before after x source) (sym rule.1)
      (stopped_rule words before after source (status.BadNetwork e) rule.0 some
      ((name, bytes) ∷ [], subst (GoesBy before.told ((name, bytes) ∷ []) (script_of words)) (refuses e) (after_bytes bytes got.0 (Err e) (said (not_memory e rule.0))), got.1) tt)

-- what a run reads
module _ (words : List (List ℕ)) (args : RunArgs) (command : command_in words ≡ Some (command.Run args)) where
  pub is_command : IsSome (command_in words)
  is_command = rw command refl

  pub run_reads : script_of words ≡ Reads args.net settings_limit (λ bytes. after_network args (network_in bytes))
  run_reads = ap after_words command

  pub run_named : (bytes : List ℕ) → network_read (command_in words) ((args.net, bytes) ∷ []) ≡ network_if_ok (network_in bytes)
  run_named bytes = ap (λ c. network_read c ((args.net, bytes) ∷ [])) command

  -- the folder before the run, before a file of settings and after it
  module _ (before mid after : FolderState) (later : IsLaterFolder before mid) where
    -- the capacity file
    module _ (n : Network) (leads : LeadsWith before mid words n (capacities_script args n args.capacities)) where
      -- what the file's bytes say comes next
      after_capacity_file : (name bytes : List ℕ) (r : Result Entries ℕ) → capacities_in bytes ≡ r → IsFileRead mid after name settings_limit bytes
          → ScriptLeads mid after (capacities_script args n (Some name)) (after_capacities args n r)
      after_capacity_file name bytes r said got =
          subst (λ x. ScriptLeads mid after (capacities_script args n (Some name)) (after_capacities args n x)) said
          (leads_read mid after name settings_limit (λ x. after_capacities args n (capacities_in x)) bytes got)

      capacities_lead : (o : Option (List ℕ)) (entries : Entries) → LeadsWith before mid words n (capacities_script args n o) → AreCapacitiesOf mid after o entries
          → LeadsWith before after words n (picks_script args n entries args.picks)
      capacities_lead None entries to none =
          subst (λ x. LeadsWith before after words n (picks_script args n x args.picks)) (sym none.0) (to.0, to.1, to.2, none.1 ∙ to.3)
      capacities_lead (Some name) entries to (bytes, said, got) = with_then words n before mid after _ _ later.0 to (after_capacity_file name bytes (Ok entries) said got)

      pub capacities_leads : (entries : Entries) → AreCapacitiesOf mid after args.capacities entries → LeadsWith before after words n (picks_script args n entries args.picks)
      capacities_leads entries are = capacities_lead args.capacities entries leads are

      pub stopped_capacities : (s : Status) (source : List ℕ) → HasNoCapacities mid after args.capacities s → IsStopped words before after s source
      stopped_capacities s source missing = by args.capacities leads missing
        where
          to_file : (name : List ℕ) → LeadsWith before mid words n (capacities_script args n (Some name)) → (bytes : List ℕ) (r : Result Entries ℕ) → capacities_in bytes ≡ r
              → IsFileRead mid after name settings_limit bytes → ScriptLeads before after (script_of words) (after_capacities args n r)
          to_file name to bytes r said got = words_lead words n before after _ (with_then words n before mid after _ _ later.0 to (after_capacity_file name bytes r said got))

          by : (o : Option (List ℕ)) → LeadsWith before mid words n (capacities_script args n o) → HasNoCapacities mid after o s → IsStopped words before after s source
          by None to none = absurd none
          by (Some name) to (inl missed) =
              stopped_unread words before after source name settings_limit (λ bytes. after_capacities args n (capacities_in bytes)) is_command
              (leads_still before mid after _ _ (words_lead words n before mid _ to) missed.1) s (unread_later before mid after name settings_limit s later missed.0)
          by (Some name) to (inr (bytes, got, inl memory)) =
              subst (λ x. IsStopped words before after x source) (sym memory)
              (stopped_memory words before after source (after_capacities args n (capacities_in bytes)) (to_file name to bytes (capacities_in bytes) refl got))
          by (Some name) to (inr (bytes, got, inr (line, said, bad))) =
              subst (λ x. IsStopped words before after x source) (sym bad)
              (stopped_rule words before after source (status.BadCapacities line) tt is_command (to_file name to bytes (Err line) said got) tt)

    -- the picks file
    module _ (n : Network) (entries : Entries) (leads : LeadsWith before mid words n (picks_script args n entries args.picks)) where
      -- what the file's bytes say comes next
      after_picks_file : (name bytes : List ℕ) (r : Result (List ℕ) ℕ) → picks_in bytes ≡ r → IsFileRead mid after name settings_limit bytes
          → ScriptLeads mid after (picks_script args n entries (Some name)) (after_picks args n entries r)
      after_picks_file name bytes r said got =
          subst (λ x. ScriptLeads mid after (picks_script args n entries (Some name)) (after_picks args n entries x)) said
          (leads_read mid after name settings_limit (λ x. after_picks args n entries (picks_in x)) bytes got)

      picks_lead : (o : Option (List ℕ)) (picks : List ℕ) → LeadsWith before mid words n (picks_script args n entries o) → ArePicksOf mid after o picks
          → LeadsWith before after words n (after_streams (unread args n entries picks) n.sources)
      picks_lead None picks to none =
          subst (λ x. LeadsWith before after words n (after_streams (unread args n entries x) n.sources)) (sym none.0) (to.0, to.1, to.2, none.1 ∙ to.3)
      picks_lead (Some name) picks to (bytes, said, got) = with_then words n before mid after _ _ later.0 to (after_picks_file name bytes (Ok picks) said got)

      pub picks_leads : (picks : List ℕ) → ArePicksOf mid after args.picks picks → LeadsWith before after words n (after_streams (unread args n entries picks) n.sources)
      picks_leads picks are = picks_lead args.picks picks leads are

      pub stopped_picks : (s : Status) (source : List ℕ) → HasNoPicks mid after args.picks s → IsStopped words before after s source
      stopped_picks s source missing = by args.picks leads missing
        where
          to_file : (name : List ℕ) → LeadsWith before mid words n (picks_script args n entries (Some name)) → (bytes : List ℕ) (r : Result (List ℕ) ℕ) → picks_in bytes ≡ r
              → IsFileRead mid after name settings_limit bytes → ScriptLeads before after (script_of words) (after_picks args n entries r)
          to_file name to bytes r said got = words_lead words n before after _ (with_then words n before mid after _ _ later.0 to (after_picks_file name bytes r said got))

          by : (o : Option (List ℕ)) → LeadsWith before mid words n (picks_script args n entries o) → HasNoPicks mid after o s → IsStopped words before after s source
          by None to none = absurd none
          by (Some name) to (inl missed) =
              stopped_unread words before after source name settings_limit (λ bytes. after_picks args n entries (picks_in bytes)) is_command
              (leads_still before mid after _ _ (words_lead words n before mid _ to) missed.1) s (unread_later before mid after name settings_limit s later missed.0)
          by (Some name) to (inr (bytes, got, inl memory)) =
              subst (λ x. IsStopped words before after x source) (sym memory)
              (stopped_memory words before after source (after_picks args n entries (picks_in bytes)) (to_file name to bytes (picks_in bytes) refl got))
          by (Some name) to (inr (bytes, got, inr (line, said, bad))) =
              subst (λ x. IsStopped words before after x source) (sym bad)
              (stopped_rule words before after source (status.BadPicks line) tt is_command (to_file name to bytes (Err line) said got) tt)

-- the sources of a sound network are few
pub few_sources : (n : Network) → IsSound n → length n.sources ≤ 8
few_sources n sound =
    at_most (length n.sources) (and_true _ _ (and_true _ _ (and_true _ _ (and_true _ _ (and_true _ _ (and_true _ _ (and_true _ _ (and_true _ _ sound.within).0).0).0).0).0).0).0).0
  where
    at_most : (k : ℕ) → is_between 1 8 k ≡ true → k ≤ 8
    at_most k h = grind (arith, nat_tests)

-- the next source, behind those that were read: the folder before it and after it
module _ (mid after : FolderState) (r : AcceptedReplay) (s : Source) (left : List Source) where
  abbrev after_source : List Tuple → Script
  after_source xs = after_streams (with_sources r (r.sources ++ xs ∷ [])) left

  after_file : (bytes : List ℕ) (e : Result (List Tuple) (ℕ × Why)) → stream_in s.schema bytes ≡ e → IsFileRead mid after s.file stream_limit bytes
      → ScriptLeads mid after (after_streams r (s ∷ left)) (after_stream (length r.sources) after_source e)
  after_file bytes e said got =
      subst (λ x. ScriptLeads mid after (after_streams r (s ∷ left)) (after_stream (length r.sources) after_source x)) said
      (leads_read mid after s.file stream_limit (λ x. after_stream (length r.sources) after_source (stream_in s.schema x)) bytes got)

  pub source_leads : (xs : List Tuple) → IsStreamOf mid after s xs
      → ScriptLeads mid after (after_streams r (s ∷ left)) (after_streams (with_sources r (r.sources ++ xs ∷ [])) left)
  source_leads xs is = after_file is.0 (Ok xs) is.1 is.2

  -- a source whose tuples aren't there stops the reading
  pub no_streams : (before : FolderState) (later : IsLaterFolder before mid) (start : AcceptedReplay) (all : List Source) (result : Status) (source : List ℕ)
      → ScriptLeads before mid (after_streams start all) (after_streams r (s ∷ left)) → slice_get all (length r.sources) ≡ Some s
      → HasNoStream mid after (length r.sources) s result source → HasNoStreams before after start all result source
  no_streams before later start all result source leads at (inl missed) = inl (
    s,
    (λ bytes. after_stream (length r.sources) after_source (stream_in s.schema bytes)),
    leads_still before mid after _ _ leads missed.1,
    unread_later before mid after s.file stream_limit result later missed.0,
  )
  no_streams before later start all result source leads at (inr (bytes, got, inl memory)) =
      inr (inr (
        after_stream (length r.sources) after_source (stream_in s.schema bytes),
        leads_then before mid after _ _ _ later.0 leads (after_file bytes (stream_in s.schema bytes) refl got),
        memory,
      ))
  no_streams before later start all result source leads at (inr (bytes, got, inr (line, why, said, bad))) =
      inr (inl (length r.sources, s, line, why, at, leads_then before mid after _ _ _ later.0 leads (after_file bytes (Err (line, why)) said got), bad))

-- the source at a place, where those before it were read
module _ (before mid after : FolderState) (later : IsLaterFolder before mid) (r : AcceptedReplay) (all : List Source) (vs : List (List Tuple)) (i : ℕ) (s : Source)
    (inside : i < length all) (at : s ≡ get_or all i s) (counted : length vs ≡ i)
    (leads : ScriptLeads before mid (after_streams (with_sources r []) all) (after_streams (with_sources r vs) (drop i all))) where
  left_is : drop i all ≡ s ∷ drop (i + 1) all
  left_is = drop_more all i s inside ∙ ap (λ (x : Source). x ∷ drop (i + 1) all) (sym at)

  leads_here : ScriptLeads before mid (after_streams (with_sources r []) all) (after_streams (with_sources r vs) (s ∷ drop (i + 1) all))
  leads_here = subst (λ xs. ScriptLeads before mid (after_streams (with_sources r []) all) (after_streams (with_sources r vs) xs)) left_is leads

  pub leads_on : (xs : List Tuple) → IsStreamOf mid after s xs
      → ScriptLeads before after (after_streams (with_sources r []) all) (after_streams (with_sources r (vs ++ xs ∷ [])) (drop (i + 1) all))
  leads_on xs is = leads_then before mid after _ _ _ later.0 leads_here (source_leads mid after (with_sources r vs) s (drop (i + 1) all) xs is)

  -- memory ran out for what was read
  pub no_streams_kept : (xs : List Tuple) (result : Status) (source : List ℕ) → IsStreamOf mid after s xs → result ≡ status.Memory
      → HasNoStreams before after (with_sources r []) all result source
  no_streams_kept xs result source is memory = inr (inr (after_streams (with_sources r (vs ++ xs ∷ [])) (drop (i + 1) all), leads_on xs is, memory))

  source_at : slice_get all (length vs) ≡ Some s
  source_at = ap (slice_get all) counted ∙ slice_get-get_or all i s inside ∙ ap (λ (x : Source). Some x) (sym at)

  pub no_streams_at : (number : ℕ) (result : Status) (source : List ℕ) → number ≡ i → HasNoStream mid after number s result source
      → HasNoStreams before after (with_sources r []) all result source
  no_streams_at number result source same none =
      no_streams mid after (with_sources r vs) s (drop (i + 1) all) before later (with_sources r []) all result source leads_here source_at
      (subst (λ k. HasNoStream mid after k s result source) (same ∙ sym counted) none)

-- the sources of a network, which are those of the network that was read
module _ (words : List (List ℕ)) (before mid after : FolderState) (later : IsLaterFolder before mid) (r : AcceptedReplay) (n : Network) (own : r.network.sources ≡ n.sources) (some : IsSome (command_in words))
    (leads : LeadsWith before mid words n (after_streams (with_sources r []) r.network.sources)) where
  names_source : (read : List (List ℕ × List ℕ)) (number : ℕ) (s : Source) (line : ℕ) (why : Why) (source : List ℕ) → network_read (command_in words) read ≡ Some n
      → slice_get r.network.sources number ≡ Some s → source ≡ s.name → NamesSource words read (status.BadStream number line why) source
  names_source read number s line why source is at e =
      e ∙ sym (ap (name_at number) is ∙ ap (λ (ss : List Source). source_name_in (slice_get ss number)) (sym own) ∙ ap source_name_in at)

  leads_to : (left : Script) → ScriptLeads mid after (after_streams (with_sources r []) r.network.sources) left → LeadsWith before after words n left
  leads_to left to = with_then words n before mid after _ left later.0 leads to

  pub stopped_streams : (result : Status) (source : List ℕ) → HasNoStreams mid after (with_sources r []) r.network.sources result source → IsStopped words before after result source
  stopped_streams result source (inl (s, more, to, missed)) =
      stopped_unread words before after source s.file stream_limit more some (words_lead words n before after _ (leads_to _ to)) result
      (unread_later before mid after s.file stream_limit result later missed)
  stopped_streams result source (inr (inl (number, s, line, why, at, to, bad))) =
      let l = leads_to _ to in
      subst (λ x. IsStopped words before after x source) (sym bad.0)
      (stopped_rule words before after source (status.BadStream number line why) tt some (l.0, l.1, l.3)
      (names_source l.0 number s line why source l.2 at bad.1))
  stopped_streams result source (inr (inr (left, to, memory))) =
      subst (λ x. IsStopped words before after x source) (sym memory)
      (stopped_memory words before after source left (words_lead words n before after _ (leads_to _ to)))

  pub accepted_streams : ScriptLeads mid after (after_streams (with_sources r []) r.network.sources) (Done r) → ScriptLeads before after (script_of words) (Done r)
  accepted_streams to = leads_then before mid after _ _ _ later.0 (words_lead words n before mid _ leads) to

-- what was accepted has this text, where it has none
pub no_text : (words : List (List ℕ)) (before after : FolderState) (r : AcceptedReplay) (text : List ℕ) → text ≡ r.text → ScriptLeads before after (script_of words) (Done r)
    → ScriptLeads before after (script_of words) (Done (record r { text = text }))
no_text words before after r text none leads = subst (λ (xs : List ℕ). ScriptLeads before after (script_of words) (Done (record r { text = xs }))) (sym none) leads
