-- An audit reads what a run of the network's file reads that has no options, and then the text.
use Rattle.std.proofs.Common.{◌≡◌, ◌⊎◌, inl, inr, ℕ, true, false, ◌==◌, List, [], ◌∷◌, refl, ap, sym, ◌∙◌, subst, Option, None, Some}
use Rattle.std.specs.Prelude.{codes, IsSome}
use Rattle.sq_outside.specs.Folders.{Files}
use Rattle.sq_command.specs.declared.Command.TheVariants as command
use Rattle.sq_status.specs.declared.Status.{Status}
use Rattle.sq_status.specs.declared.Status.TheVariants as status
use Rattle.sq_command.specs.Commands.{command_in}
use Rattle.sq_work.specs.Scripts.{AcceptedReplay, Script, Reads, Done, Stops, after_words, followed_by, plain_args, script_of, text_limit, text_script, with_text}
use Rattle.sq_status.specs.Messages.{name_at}
use Rattle.sq_work.specs.FolderStates.{FolderState}
use Rattle.sq_work.specs.Reads.{GoesBy, IsFileRead, ScriptLeads, network_read}
use Rattle.sq_work.proofs.StoppedLemmas.{memory_at, some_none, stopped_unread, unread_later}
use Rattle.sq_value.specs.CommandWords.{may_name}
use Rattle.sq_words.proofs.Bools.{not_true}
use Rattle.sq_status.specs.StatusKinds.{is_refusal}
use Rattle.sq_work.specs.Refusals.{NamesSource, IsUnread, IsRefusedAt, IsStopped}
use Rattle.sq_work.proofs.ReadsLemmas.{IsLaterFolder, leads_still, leads_then, leads_read}

-- by what leads through the first script the two go on
goes_behind : (told : Option Files) (next : AcceptedReplay → Script) (read : List (List ℕ × List ℕ)) (from to : Script) → GoesBy told read from to
    → GoesBy told read (followed_by from next) (followed_by to next)
goes_behind told next [] from to goes = ap (λ s. followed_by s next) goes
goes_behind told next (given ∷ read) (Reads name limit more) to goes = (goes.0, goes.1, goes_behind told next read (more given.1) to goes.2)
goes_behind told next (given ∷ read) (Done r) to goes = absurd goes
goes_behind told next (given ∷ read) (Stops s) to goes = absurd goes

-- and where the first stops, they stop alike
refused_behind : (before after : FolderState) (s : Status) (next : AcceptedReplay → Script) (left : Script) → (is_refusal s ≡ true) ⊎ (s ≡ status.Memory)
    → IsRefusedAt before after s left → IsRefusedAt before after s (followed_by left next)
refused_behind before after s next (Reads name limit more) ends why = why
refused_behind before after s next (Stops t) ends why = why
refused_behind before after s next (Done r) (inl refused) why = let both : true ≡ false = sym refused ∙ why in absurd (cc)
refused_behind before after s next (Done r) (inr memory) why = subst (λ x. IsRefusedAt before after x (next r)) (sym memory) (memory_at before after (next r))

-- the words of that run
abbrev pub run_words : List ℕ → List (List ℕ)
run_words net = codes "run" ∷ net ∷ []

pub run_asked : (net : List ℕ) → may_name net ≡ true → command_in (run_words net) ≡ Some (command.Run (plain_args net))
run_asked [] h = cc
run_asked (b ∷ bs) h = rw (not_true (b == 45) h) refl

module _ (words : List (List ℕ)) (net text : List ℕ) (asked : command_in words ≡ Some (command.Audit net text)) where
  pub is_audit : IsSome (command_in words)
  is_audit = rw asked refl

  module _ (named : may_name net ≡ true) where
    abbrev run : List (List ℕ)
    run = run_words net

    run_is : command_in run ≡ Some (command.Run (plain_args net))
    run_is = run_asked net named

    script_behind : script_of words ≡ followed_by (script_of run) (text_script text)
    script_behind = ap after_words asked ∙ ap (λ c. followed_by (after_words c) (text_script text)) (sym run_is)

    goes_on : (told : Option Files) (read : List (List ℕ × List ℕ)) (left : Script) → GoesBy told read (script_of run) left → GoesBy told read (script_of words) (followed_by left (text_script text))
    goes_on told read left goes = subst (λ x. GoesBy told read x (followed_by left (text_script text))) (sym script_behind) (goes_behind told (text_script text) read (script_of run) left goes)

    same_network : (read : List (List ℕ × List ℕ)) → network_read (command_in run) read ≡ network_read (command_in words) read
    same_network read = ap (λ c. network_read c read) run_is ∙ by read ∙ sym (ap (λ c. network_read c read) asked)
      where
        by : (read : List (List ℕ × List ℕ)) → network_read (Some (command.Run (plain_args net))) read ≡ network_read (Some (command.Audit net text)) read
        by [] = refl
        by (given ∷ read) = refl

    same_names : (read : List (List ℕ × List ℕ)) (s : Status) (source : List ℕ) → NamesSource run read s source → NamesSource words read s source
    same_names read (status.BadStream number line why) source e = e ∙ ap (name_at number) (same_network read)
    same_names read s source e = tt

    not_usage : (before after : FolderState) (s : Status) (source : List ℕ) → IsStopped run before after s source → s ≡ status.Usage → command_in words ≡ None
    not_usage before after s source h e = absurd (some_none (command_in run) (rw run_is refl) (h.usage.only e))

    -- where the run stops before its replay, so does the audit
    pub stopped_run : (before after : FolderState) (s : Status) (source : List ℕ) → IsStopped run before after s source → IsStopped words before after s source
    stopped_run before after s source h = record {
      read = h.read;
      given = h.given;
      left = followed_by h.left (text_script text);
      goes = goes_on before.told h.read h.left h.goes;
      refusal = refused_behind before after s (text_script text) h.left h.ends h.refusal;
      usage = record { only = not_usage before after s source h; when = λ none. absurd (some_none (command_in words) is_audit none) };
      named = same_names h.read s source h.named;
      ends = h.ends;
      no_memory = h.no_memory;
    }

    -- where the run goes on to its replay, the audit goes on to the text
    module _ (before mid after : FolderState) (later : IsLaterFolder before mid) (r : AcceptedReplay) (leads : ScriptLeads before mid (script_of run) (Done r)) where
      text_leads : ScriptLeads before mid (script_of words) (text_script text r)
      text_leads = (leads.0, goes_on before.told leads.0 (Done r) leads.1, leads.2)

      pub stopped_text : (s : Status) (source : List ℕ) → after.read ≡ mid.read → IsUnread mid after text text_limit s → IsStopped words before after s source
      stopped_text s source same unread =
          stopped_unread words before after source text text_limit (λ bytes. Done (with_text r bytes)) is_audit
          (leads_still before mid after (script_of words) (text_script text r) text_leads same) s (unread_later before mid after text text_limit s later unread)

      pub accepted_text : (bytes : List ℕ) → IsFileRead mid after text text_limit bytes → ScriptLeads before after (script_of words) (Done (with_text r bytes))
      accepted_text bytes got =
          leads_then before mid after (script_of words) (text_script text r) (Done (with_text r bytes)) later.0 text_leads
          (leads_read mid after text text_limit (λ xs. Done (with_text r xs)) bytes got)
