-- A tap reads the network, then the query, and then the sources of what they are joined to.
use Rattle.std.proofs.Common.{◌≡◌, inl, inr, ℕ, List, [], ◌∷◌, refl, ap, sym, ◌∙◌, subst}
use Rattle.std.specs.Prelude.{IsSome, Result, Ok, Err}
use Rattle.sq_net.specs.declared.NetErr.{NetErr}
use Rattle.sq_net.specs.declared.Network.{Network}
use Rattle.sq_plan.specs.Plans.{Entries}
use Rattle.sq_reader.specs.Networks.{network_in}
use Rattle.sq_tap.specs.Names.{stream_named}
use Rattle.sq_work.specs.declared.tapping.Asked.{Asked}
use Rattle.sq_status.specs.declared.Status.{Status}
use Rattle.sq_status.specs.declared.Status.TheVariants as status
use Rattle.sq_command.specs.Commands.{command_in}
use Rattle.sq_work.specs.Taps.{Tapped, tapped}
use Rattle.sq_status.specs.Messages.{network_if_ok}
use Rattle.sq_work.specs.Scripts.{Done, AcceptedReplay, Reads, after_query, after_streams, after_tap, after_tapped, after_words, query_script, script_of, tap_script, tap_unread}
use Rattle.sq_work.specs.FolderStates.{FolderState}
use Rattle.sq_work.specs.Reads.{IsFileRead, ScriptLeads, LeadsWith, network_read}
use Rattle.sq_work.specs.AcceptedViews.{IsAskedBy}
use Rattle.sq_work.proofs.StoppedLemmas.{no_text, not_memory, stopped_memory, stopped_rule, stopped_unread, unread_later}
use Rattle.sq_reader.specs.Limits.{settings_limit}
use Rattle.sq_work.specs.Refusals.{IsUnread, IsStopped, IsQueryRefused, IsBadTap, IsNetworkFile}
use Rattle.sq_work.proofs.ReadsLemmas.{IsLaterFolder, leads_still, leads_read, with_then, words_lead}

module _ (words : List (List ℕ)) (a : Asked) (asked : IsAskedBy a words) where
  pub is_tap : IsSome (command_in words)
  is_tap = rw asked.2 refl

  pub tap_reads : script_of words ≡ Reads a.net settings_limit (λ bytes. after_tapped a.stream a.from a.query (network_in bytes))
  tap_reads = ap after_words asked.2 ∙ ap (λ k. tap_script a.net a.stream k a.query) (sym asked.3)

  pub tap_named : (bytes : List ℕ) → network_read (command_in words) ((a.net, bytes) ∷ []) ≡ network_if_ok (network_in bytes)
  tap_named bytes = ap (λ c. network_read c ((a.net, bytes) ∷ [])) asked.2

-- the query's file: the folder before the tap, before this file and after it
module _ (words : List (List ℕ)) (stream : List ℕ) (from : ℕ) (query : List ℕ) (n : Network) (some : IsSome (command_in words))
    (before mid after : FolderState) (later : IsLaterFolder before mid) (leads : LeadsWith before mid words n (query_script stream from query n)) (source : List ℕ) where
  pub query_unread : (s : Status) → after.read ≡ mid.read → IsUnread mid after query settings_limit s → IsStopped words before after s source
  query_unread s same unread =
      stopped_unread words before after source query settings_limit (λ bytes. after_query n stream from (network_in bytes)) some
      (leads_still before mid after _ _ (words_lead words n before mid _ leads) same) s (unread_later before mid after query settings_limit s later unread)

  -- what the file's bytes say comes next
  after_file : (bytes : List ℕ) (r : Result Network NetErr) → network_in bytes ≡ r → IsFileRead mid after query settings_limit bytes
      → LeadsWith before after words n (after_query n stream from r)
  after_file bytes r said got =
      with_then words n before mid after _ _ later.0 leads
      (subst (λ x. ScriptLeads mid after (query_script stream from query n) (after_query n stream from x)) said
      (leads_read mid after query settings_limit (λ x. after_query n stream from (network_in x)) bytes got))

  pub query_leads : (q : Network) → IsNetworkFile mid after query (Ok q) → LeadsWith before after words n (after_query n stream from (Ok q))
  query_leads q (bytes, got, said) = after_file bytes (Ok q) said got

  pub query_stopped : (e : NetErr) (result : Status) → IsNetworkFile mid after query (Err e) → IsQueryRefused e result → IsStopped words before after result source
  query_stopped e result (bytes, got, said) (inl memory) =
      subst (λ x. IsStopped words before after x source) (sym memory.1)
      (stopped_memory words before after source (after_query n stream from (network_in bytes)) (words_lead words n before after _ (after_file bytes (network_in bytes) refl got)))
  query_stopped e result (bytes, got, said) (inr rule) =
      subst (λ x. IsStopped words before after x source) (sym rule.1)
      (stopped_rule words before after source (status.BadQuery e) rule.0 some
      (words_lead words n before after _ (after_file bytes (Err e) (said (not_memory e rule.0)) got)) tt)

-- the rules of joining
module _ (words : List (List ℕ)) (stream : List ℕ) (from : ℕ) (n q : Network) (some : IsSome (command_in words))
    (before after : FolderState) (leads : LeadsWith before after words n (after_query n stream from (Ok q))) where
  pub join_leads : (t : Tapped) → tapped n (stream_named n stream) from q ≡ Ok t → LeadsWith before after words n (after_streams (tap_unread t) t.network.sources)
  join_leads t is = subst (λ x. LeadsWith before after words n (after_tap x)) is leads

  pub join_stopped : (result : Status) (source : List ℕ) → IsBadTap (tapped n (stream_named n stream) from q) result → IsStopped words before after result source
  join_stopped result source (inl memory) =
      subst (λ x. IsStopped words before after x source) (sym memory)
      (stopped_memory words before after source (after_query n stream from (Ok q)) (words_lead words n before after _ leads))
  join_stopped result source (inr (e, other, said, is)) =
      subst (λ x. IsStopped words before after x source) (sym is)
      (stopped_rule words before after source (status.BadTap e) other some
      (words_lead words n before after _ (subst (λ x. LeadsWith before after words n (after_tap x)) said leads)) tt)

-- what was accepted, by the lists that the body made of nothing
pub tap_accepted : (words : List (List ℕ)) (before after : FolderState) (r : AcceptedReplay) (entries : Entries) (picks text : List ℕ) → entries ≡ r.entries → picks ≡ r.picks → text ≡ r.text
    → ScriptLeads before after (script_of words) (Done r) → ScriptLeads before after (script_of words) (Done (record r { entries = entries; picks = picks; text = text }))
tap_accepted words before after r entries picks text no-entries no-picks none leads =
    subst (λ (es : Entries). ScriptLeads before after (script_of words) (Done (record r { entries = es; picks = picks; text = text }))) (sym no-entries)
    (subst (λ (ps : List ℕ). ScriptLeads before after (script_of words) (Done (record r { picks = ps; text = text }))) (sym no-picks)
    (no_text words before after r text none leads))
