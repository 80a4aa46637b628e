-- Where files are told, a run reads what is told, and so what is left of its script comes to what words and files come to.
use Rattle.std.proofs.Common.{◌≡◌, ◌≢◌, ◌⊎◌, inl, inr, ℕ, ◌+◌, ◌^◌, ◌<◌, ◌≤◌, Bool, true, false, List, [], ◌∷◌, length, refl, ap, sym, ◌∙◌, subst, arith, Option, None, Some}
use Rattle.std.specs.Prelude.{⊤, nat_lt, IsSome, IsSomeAnd, Result, Ok, Err}
use Rattle.std.specs.Option.{option_and_then}
use Rattle.std.proofs.lemmas.Bool.Decides.{nat_tests}
use Rattle.sq_words.specs.Lists.{contains_bytes, same_bytes}
use Rattle.sq_outside.specs.Faults.{Rose, RoseBy}
use Rattle.sq_outside.specs.Folders.{Files, IsLonger, file}
use Rattle.sq_reader.specs.Networks.{network_in}
use Rattle.sq_net.specs.SoundNetworks.{IsSound}
use Rattle.sq_replay.specs.declared.why.Why.{Why}
use Rattle.sq_command.specs.declared.Command.{Command}
use Rattle.sq_command.specs.declared.Command.TheVariants as command
use Rattle.sq_status.specs.declared.Status.{Status}
use Rattle.sq_status.specs.declared.Status.TheVariants as status
use Rattle.sq_command.specs.Commands.{command_in}
use Rattle.sq_status.specs.Messages.{name_at, network_if_ok}
use Rattle.sq_work.specs.Scripts.{Lookup, AcceptedReplay, Script, Reads, Done, Stops, accepted, after_words, go_on, outcome_of, readable, file_reads, script_of}
use Rattle.sq_due.specs.Due.{due_of, replayed}
use Rattle.sq_work.specs.FolderStates.{FolderState}
use Rattle.sq_work.specs.Reads.{GoesBy, IfAccepted, WhereTold, network_read}
use Rattle.sq_drive.specs.Failing.{IsOfRun}
use Rattle.sq_top.specs.Ends.{DiskHolds, DoesAll, DoesNothing, DoesPart, Ends, FolderFails, IsEngineOf, KnowsDisk, OutputFails}
use Rattle.sq_top.specs.Outside.{Outside}
use Rattle.sq_top.specs.Texts.{turns_for}
use Rattle.sq_top.specs.ToldFolders.{EndsOver, FolderHasCause, HasFailedAt, MatchAccepted, NamesTold, looked_at, network_named}
use Rattle.sq_due.proofs.ClassLemmas.{TellsClasses}
use Rattle.sq_top.proofs.EndLemmas.{begun_nothing, replay_tells_classes}
use Rattle.sq_top.proofs.ReadsLemmas.{Holds, HoldsFor, IsPartOf, IsRuleOf, is_rule, left_holds, script_holds}
use Rattle.sq_reader.specs.Limits.{settings_limit}
use Rattle.std.proofs.lemmas.Bool.{or_right}
use Rattle.sq_words.proofs.Lists.{same_bytes_itself}
use Rattle.sq_status.specs.StatusKinds.{is_refusal, is_garbled}
use Rattle.sq_work.specs.Refusals.{NamesSource, IsUnread, IsRefusedAt}
use Rattle.sq_work.specs.FileParts.{FilePart, limit_of, may_be, NetworkFile, CapacityFile, PicksFile, StreamFile, TextFile}
use Rattle.sq_drive.proofs.StopLemmas.{stop_map}

readable-none : (name : List ℕ) (limit : ℕ) (o : Option (List ℕ)) → o ≡ None → readable name limit o ≡ Err (status.FolderFault name)
readable-none name limit o e = rw e refl

long_test : (limit : ℕ) (bytes : List ℕ) → limit < length bytes → nat_lt limit (length bytes) ≡ true
long_test limit bytes h = grind (arith, nat_tests)

readable-long : (name : List ℕ) (limit : ℕ) (o : Option (List ℕ)) → IsSomeAnd o (λ bytes. limit < length bytes) → readable name limit o ≡ Err (status.TooLong name)
readable-long name limit None h = absurd h
readable-long name limit (Some bytes) h = rw (long_test limit bytes h) refl

readable-ok : (name : List ℕ) (limit : ℕ) (o : Option (List ℕ)) (bytes : List ℕ) → readable name limit o ≡ Ok bytes → o ≡ Some bytes
readable-ok name limit None bytes e = cc
readable-ok name limit (Some found) bytes e = within (nat_lt limit (length found)) refl e
  where
    within : (t : Bool) → nat_lt limit (length found) ≡ t → readable name limit (Some found) ≡ Ok bytes → Some found ≡ Some bytes
    within true long h = let h' = rw long at h in cc
    within false short h = let h' = rw short at h in cc

-- over these files a script comes to the same as what is left of it, and reads each file that that reads
record Agrees (files : Lookup) (from to : Script) : Type 0 where
  outcome : outcome_of files from ≡ outcome_of files to
  reads : (name : List ℕ) → contains_bytes name (file_reads files to) ≡ true → contains_bytes name (file_reads files from) ≡ true

goes_agrees : (files : Files) (read : List (List ℕ × List ℕ)) (from to : Script) → GoesBy (Some files) read from to → Agrees (file files) from to
goes_agrees files [] from to e = record { outcome = ap (outcome_of (file files)) e; reads = λ name h. subst (λ s. contains_bytes name (file_reads (file files) s) ≡ true) (sym e) h }
goes_agrees files (given ∷ read) (Reads name limit more) to goes =
    let rest = goes_agrees files read (more given.1) to goes.2 in
    record {
      outcome = rw goes.1.1 rest.outcome;
      reads = λ other h. or_right (same_bytes other name) _ (rw goes.1.1 (rest.reads other h));
    }
goes_agrees files (given ∷ read) (Done r) to goes = absurd goes
goes_agrees files (given ∷ read) (Stops s) to goes = absurd goes

-- of what a number makes no file is read
no_part : (number rows : ℕ) (name : List ℕ) (limit : ℕ) → IsPartOf (Some (command.Gen number rows)) name limit → ⊥
no_part number rows name limit (NetworkFile, is, at) = cc
no_part number rows name limit (CapacityFile, is, at) = cc
no_part number rows name limit (PicksFile, is, at) = cc
no_part number rows name limit (StreamFile, is, at) = cc
no_part number rows name limit (TextFile, is, at) = cc

goes_told : (c : Option Command) (told : Option Files) (files : Files) → looked_at c told ≡ Some files → (read : List (List ℕ × List ℕ)) (from to : Script) → HoldsFor c from → GoesBy told read from to
    → GoesBy (Some files) read from to
goes_told None told files e read from to holds goes = subst (λ t. GoesBy t read from to) e goes
goes_told (Some (command.Run args)) told files e read from to holds goes = subst (λ t. GoesBy t read from to) e goes
goes_told (Some (command.Audit net text)) told files e read from to holds goes = subst (λ t. GoesBy t read from to) e goes
goes_told (Some (command.Tap net stream tick history query)) told files e read from to holds goes = subst (λ t. GoesBy t read from to) e goes
goes_told (Some (command.Gen number rows)) told files e [] from to holds goes = goes
goes_told (Some (command.Gen number rows)) told files e (given ∷ read) (Reads name limit more) to holds goes = absurd (no_part number rows name limit holds.0)
goes_told (Some (command.Gen number rows)) told files e (given ∷ read) (Done r) to holds goes = absurd goes
goes_told (Some (command.Gen number rows)) told files e (given ∷ read) (Stops s) to holds goes = absurd goes

told_at : (c : Option Command) (told : Option Files) (files : Files) (name : List ℕ) (limit : ℕ) → looked_at c told ≡ Some files → IsPartOf c name limit → told ≡ Some files
told_at None told files name limit e part = e
told_at (Some (command.Run args)) told files name limit e part = e
told_at (Some (command.Audit net text)) told files name limit e part = e
told_at (Some (command.Tap net stream tick history query)) told files name limit e part = e
told_at (Some (command.Gen number rows)) told files name limit e part = absurd (no_part number rows name limit part)

-- what is accepted over files is told by its classes
read_holds : (files : Lookup) (P : AcceptedReplay → Type 0) (more : List ℕ → Script) (r : AcceptedReplay) → ((bytes : List ℕ) → outcome_of files (more bytes) ≡ Ok r → P r) → (o : Result (List ℕ) Status)
    → go_on (λ s. Err s) (λ bytes. outcome_of files (more bytes)) o ≡ Ok r → P r
read_holds files P more r rest (Ok bytes) e = rest bytes e
read_holds files P more r rest (Err s) e = absurd (cc)

outcome_holds : (files : Lookup) (P : AcceptedReplay → Type 0) (Q : Status → Type 0) (R : List ℕ → ℕ → Type 0) (s : Script) (r : AcceptedReplay) → Holds P Q R s → outcome_of files s ≡ Ok r → P r
outcome_holds files P Q R (Reads name limit more) r holds e =
    read_holds files P more r (λ bytes. outcome_holds files P Q R (more bytes) r (holds.1 bytes)) (readable name limit (files name)) e
outcome_holds files P Q R (Done x) r holds e = let same : x ≡ r = cc in subst P same holds
outcome_holds files P Q R (Stops s) r holds e = absurd (cc)

pub accepted_tells_classes : (files : Lookup) (words : List (List ℕ)) (r : AcceptedReplay) → accepted files words ≡ Ok r → TellsClasses (due_of r)
accepted_tells_classes files words r e =
    let sound = outcome_holds files (λ x. IsSound x.network) (IsRuleOf (command_in words)) (IsPartOf (command_in words)) (script_of words) r (script_holds words) e in
    replay_tells_classes (replayed r) r.first sound

-- by what is left of a script
match_any : (o : Result AcceptedReplay Status) (P : AcceptedReplay → Type 0) (Q : Status → Type 0) → ((r : AcceptedReplay) → o ≡ Ok r → P r) → ((s : Status) → o ≡ Err s → Q s) → MatchAccepted o P Q
match_any (Ok r) P Q p q = p r refl
match_any (Err s) P Q p q = q s refl

match_err : (o : Result AcceptedReplay Status) (P : AcceptedReplay → Type 0) (Q : Status → Type 0) (s : Status) → o ≡ Err s → Q s → MatchAccepted o P Q
match_err o P Q s e q = subst (λ x. MatchAccepted x P Q) (sym e) q

match_left : (files : Lookup) (left : Script) (P : AcceptedReplay → Type 0) (Q : Status → Type 0) → IfAccepted left P ⊥ → MatchAccepted (outcome_of files left) P Q
match_left files (Done r) P Q h = h
match_left files (Stops s) P Q h = absurd h
match_left files (Reads name limit more) P Q h = absurd h

-- why a file wasn't read, where files are told: the count of the folder's faults rose, or its rule is broken
unread_told : (files : Files) (before after : FolderState) → before.told ≡ Some files → (name : List ℕ) (limit : ℕ) (more : List ℕ → Script) (s : Status) → IsUnread before after name limit s
    → (s ≡ status.Memory) ⊎ ((s ≡ status.FolderFault name) × Rose before.faults after.faults) ⊎ (outcome_of (file files) (Reads name limit more) ≡ Err s)
unread_told files before after told name limit more s (inl memory) = inl memory
unread_told files before after told name limit more s (inr (inl (e, inl rose))) = inr (inl (e, rose))
unread_told files before after told name limit more s (inr (inl (e, inr none))) =
    let lacking : file files name ≡ None = subst (λ t. IsSomeAnd t (λ files. file files name ≡ None)) told none in
    inr (inr (subst (λ x. outcome_of (file files) (Reads name limit more) ≡ Err x) (sym e) (rw (readable-none name limit (file files name) lacking) refl)))
unread_told files before after told name limit more s (inr (inr long)) =
    let longer : IsLonger files name limit = subst (λ t. WhereTold t (λ files. IsLonger files name limit)) told long.2 in
    inr (inr (subst (λ x. outcome_of (file files) (Reads name limit more) ≡ Err x) (sym long.0) (rw (readable-long name limit (file files name) longer) refl)))

is_fault : (a b : List ℕ) → status.FolderFault a ≡ status.FolderFault b → a ≡ b
is_fault a b e = cc

contains_first : (a b : List ℕ) (more : List (List ℕ)) → a ≡ b → contains_bytes b (a ∷ more) ≡ true
contains_first a b more e = let same : same_bytes b a ≡ true = subst (λ x. same_bytes b x ≡ true) (sym e) (same_bytes_itself b) in rw same refl

module _ (files : Files) (words : List (List ℕ)) (before after : Outside) (result : Status) (source : List ℕ) (told : looked_at (command_in words) before.folder.told ≡ Some files) (h : Ends words before after result source) where
  goes : GoesBy (Some files) h.read (script_of words) h.left
  goes = goes_told (command_in words) before.folder.told files told h.read (script_of words) h.left (script_holds words) h.goes

  agrees : Agrees (file files) (script_of words) h.left
  agrees = goes_agrees files h.read (script_of words) h.left goes

  holds : HoldsFor (command_in words) h.left
  holds = left_holds before.folder.told words h.read h.left h.goes

  at_left : (P : AcceptedReplay → Type 0) (Q : Status → Type 0) → MatchAccepted (outcome_of (file files) h.left) P Q → MatchAccepted (accepted (file files) words) P Q
  at_left P Q m = subst (λ o. MatchAccepted o P Q) (sym agrees.outcome) m

  -- of a file that isn't read
  unread : (name : List ℕ) (limit : ℕ) (more : List ℕ → Script) → h.left ≡ Reads name limit more
      → (result ≡ status.Memory) ⊎ ((result ≡ status.FolderFault name) × FolderFails before after) ⊎ (outcome_of (file files) (Reads name limit more) ≡ Err result)
  unread name limit more is =
      let part = (subst (HoldsFor (command_in words)) is holds).0 in
      unread_told files before.folder after.folder (told_at (command_in words) before.folder.told files name limit told part) name limit more result
      (subst (IsRefusedAt before.folder after.folder result) is h.refusal)

  -- each way in which a run ends: all was accepted, a rule is broken, a file isn't read
  ends_each : (P : AcceptedReplay → Type 0) (Q : Status → Type 0) → ((r : AcceptedReplay) → h.left ≡ Done r → is_refusal result ≡ false → P r)
      → ((s : Status) → h.left ≡ Stops s → is_rule s ≡ true → (result ≡ s) ⊎ (result ≡ status.Memory) → Q s)
      → ((name : List ℕ) (limit : ℕ) (more : List ℕ → Script) → h.left ≡ Reads name limit more → MatchAccepted (outcome_of (file files) (Reads name limit more)) P Q)
      → MatchAccepted (accepted (file files) words) P Q
  ends_each P Q done stops reads = at_left P Q (by h.left refl h.refusal holds)
    where
      by : (left : Script) → h.left ≡ left → IsRefusedAt before.folder after.folder result left → HoldsFor (command_in words) left
          → MatchAccepted (outcome_of (file files) left) P Q
      by (Done r) is why hold = done r is why
      by (Stops s) is why hold = stops s is hold.0 why
      by (Reads name limit more) is why hold = reads name limit more is

  refusal_only : is_refusal result ≡ true → MatchAccepted (accepted (file files) words) (λ r. HasFailedAt before after result)
      (λ s. (result ≡ s) ⊎ HasFailedAt before after result)
  refusal_only refused = ends_each _ _
      (λ r is not. let both : true ≡ false = sym refused ∙ not in absurd (cc))
      (λ s is rule why. or_memory s why)
      (λ name limit more is. by name limit more (unread name limit more is))
    where
      no_memory : result ≡ status.Memory → ⊥
      no_memory memory = let both : is_refusal status.Memory ≡ true = ap is_refusal (sym memory) ∙ refused in cc

      or_memory : (s : Status) → (result ≡ s) ⊎ (result ≡ status.Memory) → (result ≡ s) ⊎ HasFailedAt before after result
      or_memory s (inl same) = inl same
      or_memory s (inr memory) = absurd (no_memory memory)

      by : (name : List ℕ) (limit : ℕ) (more : List ℕ → Script)
          → (result ≡ status.Memory) ⊎ ((result ≡ status.FolderFault name) × FolderFails before after) ⊎ (outcome_of (file files) (Reads name limit more) ≡ Err result)
          → MatchAccepted (outcome_of (file files) (Reads name limit more)) (λ r. HasFailedAt before after result) (λ s. (result ≡ s) ⊎ HasFailedAt before after result)
      by name limit more (inl memory) = absurd (no_memory memory)
      by name limit more (inr (inl (fault, rose))) =
          let failed : HasFailedAt before after result = (name, fault, rose) in
          match_any _ _ _ (λ r e. failed) (λ s e. inr failed)
      by name limit more (inr (inr broken)) = match_err _ _ _ result broken (inl refl)

  refusal_when : MatchAccepted (accepted (file files) words) (λ r. ⊤) (λ s. (result ≡ s) ⊎ (result ≡ status.Memory) ⊎ FolderFails before after)
  refusal_when = ends_each _ _ (λ r is not. tt) (λ s is rule why. or_memory s why) (λ name limit more is. by name limit more (unread name limit more is))
    where
      or_memory : (s : Status) → (result ≡ s) ⊎ (result ≡ status.Memory) → (result ≡ s) ⊎ (result ≡ status.Memory) ⊎ FolderFails before after
      or_memory s (inl same) = inl same
      or_memory s (inr memory) = inr (inl memory)

      by : (name : List ℕ) (limit : ℕ) (more : List ℕ → Script)
          → (result ≡ status.Memory) ⊎ ((result ≡ status.FolderFault name) × FolderFails before after) ⊎ (outcome_of (file files) (Reads name limit more) ≡ Err result)
          → MatchAccepted (outcome_of (file files) (Reads name limit more)) (λ r. ⊤) (λ s. (result ≡ s) ⊎ (result ≡ status.Memory) ⊎ FolderFails before after)
      by name limit more (inl memory) = match_any _ _ _ (λ r e. tt) (λ s e. inr (inl memory))
      by name limit more (inr (inl (fault, rose))) = match_any _ _ _ (λ r e. tt) (λ s e. inr (inr rose))
      by name limit more (inr (inr broken)) = match_err _ _ _ result broken (inl refl)

  reached : (name : List ℕ) → result ≡ status.FolderFault name → contains_bytes name (file_reads (file files) (script_of words)) ≡ true
  reached name fault = by h.left refl (subst (λ x. IsRefusedAt before.folder after.folder x h.left) fault h.refusal) holds
    where
      by : (left : Script) → h.left ≡ left → IsRefusedAt before.folder after.folder (status.FolderFault name) left → HoldsFor (command_in words) left
          → contains_bytes name (file_reads (file files) (script_of words)) ≡ true
      by (Done r) is why hold = absurd (cc)
      by (Stops s) is (inl same) hold = let both : is_rule (status.FolderFault name) ≡ true = ap is_rule same ∙ hold.0 in absurd (cc)
      by (Stops s) is (inr memory) hold = absurd (cc)
      by (Reads other limit more) is (inl memory) hold = absurd (cc)
      by (Reads other limit more) is (inr (inl why)) hold =
          agrees.reads name (subst (λ s. contains_bytes name (file_reads (file files) s) ≡ true) (sym is)
          (contains_first other name (go_on (λ s. []) (λ bytes. file_reads (file files) (more bytes)) (readable other limit (file files other))) (sym (is_fault name other why.0))))
      by (Reads other limit more) is (inr (inr why)) hold = let no = why.0 in absurd (cc)

  -- a beginning of the answer
  abbrev First : AcceptedReplay → Type 0
  First r = KnowsDisk (command_in words) after → DoesPart (command_in words) r result before after

  other_told : result ≢ status.Ok → MatchAccepted (accepted (file files) words) First (λ s. DoesNothing before after)
  other_told differs = by h.left refl (h.other differs)
    where
      by : (left : Script) → h.left ≡ left → IfAccepted left First (DoesNothing before after) → MatchAccepted (accepted (file files) words) First (λ s. DoesNothing before after)
      by (Done r) is first = subst (λ o. MatchAccepted o First (λ s. DoesNothing before after)) (sym (agrees.outcome ∙ ap (outcome_of (file files)) is)) first
      by (Stops s) is none = match_any _ First _ (λ r e. begun_nothing words before after result r none (accepted_tells_classes (file files) words r e)) (λ s e. none)
      by (Reads name limit more) is none = match_any _ First _ (λ r e. begun_nothing words before after result r none (accepted_tells_classes (file files) words r e)) (λ s e. none)

  complete_told : ¬ (FolderFails before after) → DiskHolds (command_in words) before after → ¬ (OutputFails before after)
      → MatchAccepted (accepted (file files) words) (λ r. KnowsDisk (command_in words) after → turns_for (command_in words) r < 2 ^ 62 → (result ≡ status.Ok) ⊎ (result ≡ status.Memory) ⊎ (is_garbled result ≡ true)) (λ s. ⊤)
  complete_told quiet sound dry = ends_each _ _
      (λ r is not. subst (λ s. IfAccepted s (λ x. KnowsDisk (command_in words) after → turns_for (command_in words) x < 2 ^ 62 → (result ≡ status.Ok) ⊎ (result ≡ status.Memory) ⊎ (is_garbled result ≡ true)) ⊤) is (h.complete sound dry))
      (λ s is rule why. tt) (λ name limit more is. by name limit more (unread name limit more is))
    where
      by : (name : List ℕ) (limit : ℕ) (more : List ℕ → Script)
          → (result ≡ status.Memory) ⊎ ((result ≡ status.FolderFault name) × FolderFails before after) ⊎ (outcome_of (file files) (Reads name limit more) ≡ Err result)
          → MatchAccepted (outcome_of (file files) (Reads name limit more)) (λ r. KnowsDisk (command_in words) after → turns_for (command_in words) r < 2 ^ 62 → (result ≡ status.Ok) ⊎ (result ≡ status.Memory) ⊎ (is_garbled result ≡ true)) (λ s. ⊤)
      by name limit more (inl memory) =
          match_any _ (λ r. KnowsDisk (command_in words) after → turns_for (command_in words) r < 2 ^ 62 → (result ≡ status.Ok) ⊎ (result ≡ status.Memory) ⊎ (is_garbled result ≡ true)) _ (λ r e pages few. inr (inl memory)) (λ s e. tt)
      by name limit more (inr (inl (fault, rose))) = absurd (quiet rose)
      by name limit more (inr (inr broken)) = match_err _ _ _ result broken tt

  not_unread : (name : List ℕ) (limit number line : ℕ) (why : Why) → IsUnread before.folder after.folder name limit (status.BadStream number line why) → ⊥
  not_unread name limit number line why (inl e) = cc
  not_unread name limit number line why (inr (inl fault)) = let e = fault.0 in cc
  not_unread name limit number line why (inr (inr long)) = let e = long.0 in cc

  -- where a line of a source is bad the network was read, which is that of the file
  same_network : (c : Option Command) (read : List (List ℕ × List ℕ)) (left : Script) (number line : ℕ) (why : Why) → GoesBy (Some files) read (after_words c) left
      → IsRefusedAt before.folder after.folder (status.BadStream number line why) left → network_read c read ≡ network_named (file files) c
  same_network None read left number line why by refused = refl
  same_network (Some (command.Gen number rows)) read left at line why by refused = refl
  same_network (Some (command.Run args)) [] left number line why by refused =
      absurd (not_unread args.net settings_limit number line why
      (subst (IsRefusedAt before.folder after.folder (status.BadStream number line why)) (sym by) refused))
  same_network (Some (command.Run args)) (given ∷ read) left number line why by refused =
      sym (ap (option_and_then (λ x. network_if_ok (network_in x))) (readable-ok args.net settings_limit (file files args.net) given.1 by.1.1))
  same_network (Some (command.Audit net text)) [] left number line why by refused =
      absurd (not_unread net settings_limit number line why
      (subst (IsRefusedAt before.folder after.folder (status.BadStream number line why)) (sym by) refused))
  same_network (Some (command.Audit net text)) (given ∷ read) left number line why by refused =
      sym (ap (option_and_then (λ x. network_if_ok (network_in x))) (readable-ok net settings_limit (file files net) given.1 by.1.1))
  same_network (Some (command.Tap net stream tick history query)) [] left number line why by refused =
      absurd (not_unread net settings_limit number line why
      (subst (IsRefusedAt before.folder after.folder (status.BadStream number line why)) (sym by) refused))
  same_network (Some (command.Tap net stream tick history query)) (given ∷ read) left number line why by refused =
      sym (ap (option_and_then (λ x. network_if_ok (network_in x))) (readable-ok net settings_limit (file files net) given.1 by.1.1))

  named_told : (s : Status) → IsRefusedAt before.folder after.folder s h.left → NamesSource words h.read s source → NamesTold files words s source
  named_told (status.BadStream number line why) refused named =
      named ∙ ap (name_at number) (same_network (command_in words) h.read h.left number line why goes refused)
  named_told s refused named = tt

  pub ends_over : EndsOver files words before after result source
  ends_over = record {
    ok = λ e. at_left _ _ (match_left (file files) h.left (λ r. KnowsDisk (command_in words) after → DoesAll (command_in words) r before after)
        (λ s. ⊥) (h.ok e));
    other = other_told;
    refusal = record { only = refusal_only; when = refusal_when; reached = reached };
    stopped = stop_map (IsEngineOf h.left before after result) _ _ _ _ _ _ _ _ _ result (λ rose. rose) (λ queues e back. back) (λ e is. at_left _ _ (match_left (file files) h.left (λ r. IsOfRun before.disk.log after.disk.log r result e) (λ s. ⊥) is)) h.stopped;
    too_much = λ e. at_left _ _ (match_left (file files) h.left (λ r. KnowsDisk (command_in words) after → 2 ^ 62 ≤ turns_for (command_in words) r) (λ s. ⊥) (h.too_much e));
    complete = complete_told;
    named = named_told result h.refusal h.named;
  }

-- over every folder
module _ (words : List (List ℕ)) (before after : Outside) (result : Status) (source : List ℕ) (h : Ends words before after result source) where
  is_there : (o : Option Files) (name : List ℕ) → IsSomeAnd o (λ x. file x name ≡ None) → IsSome o
  is_there None name e = absurd e
  is_there (Some files) name e = refl

  fault_at : (name : List ℕ) (left : Script) → IsRefusedAt before.folder after.folder (status.FolderFault name) left → HoldsFor (command_in words) left
      → FolderFails before after ⊎ IsSome before.folder.told
  fault_at name (Done r) why holds = absurd (cc)
  fault_at name (Stops s) (inl same) holds = let both : is_rule (status.FolderFault name) ≡ true = ap is_rule same ∙ holds.0 in absurd (cc)
  fault_at name (Stops s) (inr memory) holds = absurd (cc)
  fault_at name (Reads other limit more) (inl memory) holds = absurd (cc)
  fault_at name (Reads other limit more) (inr (inl (e, inl rose))) holds = inl rose
  fault_at name (Reads other limit more) (inr (inl (e, inr none))) holds = inr (is_there before.folder.told other none)
  fault_at name (Reads other limit more) (inr (inr long)) holds = let e = long.0 in absurd (cc)

  same_long : (a b : List ℕ) → status.TooLong a ≡ status.TooLong b → a ≡ b
  same_long a b e = cc

  long_at : (name : List ℕ) (left : Script) → IsRefusedAt before.folder after.folder (status.TooLong name) left → HoldsFor (command_in words) left
      → (p : FilePart) × (may_be (command_in words) p name ≡ true) × RoseBy (limit_of p + 1) before.folder.taken after.folder.taken
  long_at name (Done r) why holds = absurd (cc)
  long_at name (Stops s) (inl same) holds = let both : is_rule (status.TooLong name) ≡ true = ap is_rule same ∙ holds.0 in absurd (cc)
  long_at name (Stops s) (inr memory) holds = absurd (cc)
  long_at name (Reads other limit more) (inl memory) holds = absurd (cc)
  long_at name (Reads other limit more) (inr (inl fault)) holds = let e = fault.0 in absurd (cc)
  long_at name (Reads other limit more) (inr (inr (e, rose, longer))) ((p, is, at), rest) = (
    p,
    subst (λ x. may_be (command_in words) p x ≡ true) (sym (same_long name other e)) is,
    subst (λ k. RoseBy (k + 1) before.folder.taken after.folder.taken) at rose,
  )

  pub folder_causes : FolderHasCause words before after result
  folder_causes = record {
    failed = λ name e. fault_at name h.left (subst (λ x. IsRefusedAt before.folder after.folder x h.left) e h.refusal) (left_holds before.folder.told words h.read h.left h.goes);
    too_long = λ name e. long_at name h.left (subst (λ x. IsRefusedAt before.folder after.folder x h.left) e h.refusal) (left_holds before.folder.told words h.read h.left h.goes);
  }
