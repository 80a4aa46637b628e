-- How a run ends.
use Rattle.std.proofs.Common.{◌≡◌, ◌≢◌, ◌⊎◌, inl, inr, ℕ, zero, suc, ◌+◌, ◌^◌, ◌<◌, ◌≤◌, Bool, true, false, not, ◌&&◌, List, [], ◌∷◌, ◌++◌, length, drop, refl, ap, sym, ◌∙◌, subst, arith, append_assoc, append-nil, length-append, Option, None, Some}
use Rattle.std.specs.Prelude.{map, nat_lt, if◌then◌else◌, IsSome, codes, Result, Ok, Err, IfOk, IfErr}
use Rattle.std.specs.Fmt.{decimal}
use Rattle.std.specs.List.{AllByRecursion, flat_map, list_all, list_any, range_with_len, zip}
use Rattle.std.proofs.lemmas.Bool.Decides.{nat_tests}
use Rattle.std.proofs.lemmas.List.Elements.{recursion_from_All}
use Rattle.sq_value.specs.declared.Tuple.{Tuple}
use Rattle.sq_words.specs.Lists.{contains_bytes, numbers_to, same_bytes}
use Rattle.sq_lines.specs.Classes.{Shown, Dropped, Planned, Ended, second_field}
use Rattle.sq_lines.specs.LineTexts.{drop_line, line_of, needs_quotes, output_line, plan_line, late_line, end_line}
use Rattle.sq_value.specs.Texts.{text_of}
use Rattle.sq_lines.proofs.RowLemmas.{first_field-line_of, is_line-line_of}
use Rattle.sq_outside.specs.Folders.{Files}
use Rattle.sq_outside.specs.Sinks.{AppendsPrefix, appended, AppendsSuch}
use Rattle.sq_net.specs.declared.Network.{Network}
use Rattle.sq_net.specs.declared.Node.{Node}
use Rattle.sq_net.specs.declared.Output.{Output}
use Rattle.sq_net.specs.Names.{has_name_form, is_name, reserved}
use Rattle.sq_net.specs.SoundNetworks.{IsSound}
use Rattle.sq_model.specs.Shedding as model
use Rattle.sq_plan.specs.declared.closing.Shown.{Shown as ShownPlan}
use Rattle.sq_oper.specs.declared.outs.Decision.{Decision}
use Rattle.sq_command.specs.declared.Command.{Command}
use Rattle.sq_command.specs.declared.Command.TheVariants as command
use Rattle.sq_status.specs.declared.Status.{Status}
use Rattle.sq_status.specs.declared.Status.TheVariants as status
use Rattle.sq_command.specs.Commands.{command_in, runs_engine}
use Rattle.sq_lines.specs.RunLines.{boxes_from, end_lines, fed_line, is_sorter, late_lines}
use Rattle.sq_lines.proofs.NumberLemmas.{decimal_bare}
use Rattle.std.proofs.lemmas.List.{length-map}
use Rattle.sq_place.specs.Points.{point_at}
use Rattle.sq_place.specs.Places.{drop_places_of}
use Rattle.sq_place.proofs.Final.{drops-few}
use Rattle.sq_points.specs.Points.{points_of, windows_of, drops_in}
use Rattle.sq_points.proofs.Bounds.{few_places}
use Rattle.std.proofs.lemmas.Fmt.{decimal_nonempty}
use Rattle.sq_due.specs.Due.{Answer, Due, answer_in, due_in, due_of, ended_in, fed_in, late_counts, replayed, dropped_from, plan_text, shown_at_output, due_from}
use Rattle.sq_due.specs.Answers.{IsPrefixText}
use Rattle.sq_gen.specs.Files.{made_of}
use Rattle.sq_work.specs.Generation.{HasBadMade, NamesMade}
use Rattle.sq_status.specs.Messages.{name_at, TellsStatus, source_told}
use Rattle.sq_due.specs.Summaries.{summary_of}
use Rattle.sq_drive.specs.Driving.{IsCutShort}
use Rattle.sq_work.specs.Scripts.{AcceptedReplay, Script, Reads, Done, Stops, after_words, made_script, script_of}
use Rattle.sq_work.specs.FolderStates.{FolderState}
use Rattle.sq_work.specs.declared.reading.Accepted.{Accepted}
use Rattle.sq_work.specs.declared.reading.Stopped.{Stopped}
use Rattle.sq_work.specs.AcceptedViews.{IsPrepared, replay_of}
use Rattle.sq_top.specs.Running.{EndsEarly}
use Rattle.sq_work.specs.Reads.{GoesBy, IfAccepted, ScriptLeads, network_read}
use Rattle.sq_pool.specs.Trust.{Tells, known}
use Rattle.sq_drive.specs.Stopping.{StopHasCause}
use Rattle.sq_drive.specs.Failing.{FedNeeded, IsOfRun}
use Rattle.sq_top.specs.Ends.{DiskFails, DoesAll, DoesNothing, DoesPart, Ends, IsEngineOf, KnowsDisk, OutputFails}
use Rattle.sq_top.specs.Outside.{Outside}
use Rattle.sq_top.specs.Texts.{BeginsText, IsPrefixOfDue, turns_for, verdict_text}
use Rattle.sq_top.proofs.ReadsLemmas.{leads_self, left_holds}
use Rattle.sq_work.proofs.StoppedLemmas.{memory_at, some_none, stopped_memory, stopped_rule}
use Rattle.sq_top.proofs.StopLemmas.{refused_garbled, refused_stop, refused_unchanged}
use Rattle.sq_due.proofs.ClassLemmas.{IsLineOf, IsPlainName, TellsClasses, is_end_field}
use Rattle.sq_top.proofs.OrderLemmas.{prefix_text}
use Rattle.sq_expr.specs.Tokens.{is_letter, in_word}
use Rattle.sq_words.proofs.Bools.{and_true}
use Rattle.sq_words.proofs.Lists.{same_bytes_itself}
use Rattle.sq_status.specs.StatusKinds.{is_refusal, hides_memory, is_changed, is_garbled}
use Rattle.sq_work.specs.Refusals.{NamesSource, IsRefusedAt, IsStopped}
use Rattle.sq_work.proofs.ReadsLemmas.{none_given}
use Rattle.sq_drive.proofs.StopLemmas.{stop_map}

-- a name begins with a lower-case letter, and lower-case letters, digits and `_` follow
name_parts : (b : ℕ) (bs : List ℕ) → is_name (b ∷ bs) ≡ true → (is_letter b ≡ true) × (list_all in_word bs ≡ true)
name_parts b bs h =
    let form = (and_true (has_name_form (b ∷ bs)) (not (contains_bytes (b ∷ bs) reserved)) h).0 in
    and_true (is_letter b) (list_all in_word bs) (and_true (is_letter b && list_all in_word bs) (nat_lt (length bs) 32) form).0

lower_above : (b : ℕ) → is_letter b ≡ true → 97 ≤ b
lower_above b h = grind (arith, nat_tests)

plain_lower : (b : ℕ) → is_letter b ≡ true → b ≢ 64
plain_lower b h e = absurd (omega (arith, e, lower_above b h))

quoteless_lower : (b : ℕ) → is_letter b ≡ true → needs_quotes b ≡ false
quoteless_lower b h = grind (arith, nat_tests)

quoteless_follow : (b : ℕ) → in_word b ≡ true → needs_quotes b ≡ false
quoteless_follow b h = grind (arith, nat_tests)

none_quoted : (bs : List ℕ) → list_all in_word bs ≡ true → list_any needs_quotes bs ≡ false
none_quoted [] h = refl
none_quoted (b ∷ bs) h = let both = and_true (in_word b) (list_all in_word bs) h in rw (quoteless_follow b both.0, none_quoted bs both.1) refl

name_quoteless : (b : ℕ) (bs : List ℕ) → is_name (b ∷ bs) ≡ true → list_any needs_quotes (b ∷ bs) ≡ false
name_quoteless b bs h = let parts = name_parts b bs h in rw (quoteless_lower b parts.0, none_quoted bs parts.1) refl

shown_lines : (b : ℕ) (bs : List ℕ) (ys : List Tuple) → list_any needs_quotes (b ∷ bs) ≡ false → AllByRecursion (IsLineOf (Shown (b ∷ bs))) (map (output_line (b ∷ bs)) ys)
shown_lines b bs [] h = tt
shown_lines b bs (y ∷ ys) h =
    let fields = decimal y.time ∷ map text_of y.fields in
    ((is_line-line_of ((b ∷ bs) ∷ fields), subst (λ f. same_bytes f (b ∷ bs) ≡ true) (sym (first_field-line_of b bs fields h)) (same_bytes_itself (b ∷ bs))), shown_lines b bs ys h)

end_line_of : (bs : List ℕ) (fields : List (List ℕ)) → list_any needs_quotes (64 ∷ bs) ≡ false → is_end_field (64 ∷ bs) ≡ true → IsLineOf Ended (line_of ((64 ∷ bs) ∷ fields))
end_line_of bs fields plain ends =
    (is_line-line_of ((64 ∷ bs) ∷ fields), subst (λ f. is_end_field f ≡ true) (sym (first_field-line_of 64 bs fields plain)) ends)

pub plain_name : (w : List ℕ) → is_name w ≡ true → IsPlainName w
plain_name [] h = absurd (cc)
plain_name (b ∷ bs) h = plain_lower b (name_parts b bs h).0

pub lines_shown : (w : List ℕ) (xs : List Tuple) → is_name w ≡ true → AllByRecursion (IsLineOf (Shown w)) (map (output_line w) xs)
lines_shown [] xs h = absurd (cc)
lines_shown (b ∷ bs) xs h = shown_lines b bs xs (name_quoteless b bs h)

-- the second field of a drop's line
second_is : (f : List ℕ) (fields : List (List ℕ)) → 0 < length f → list_any needs_quotes f ≡ false → second_field (line_of (codes "@drop" ∷ f ∷ fields)) ≡ f
second_is [] fields some plain = absurd (omega (arith, some))
second_is (b ∷ bs) fields some plain = first_field-line_of b bs fields plain

pub line_dropped : (w b level : ℕ) → w < 2 ^ 64 → IsLineOf (Dropped w) (drop_line w b level)
line_dropped w b level small =
    let fields = decimal b ∷ decimal level ∷ [] in
    let second = second_is (decimal w) fields (decimal_nonempty w small) (decimal_bare w small) in (
      is_line-line_of (codes "@drop" ∷ decimal w ∷ fields),
      subst (λ f. same_bytes f (decimal w) ≡ true) (sym second) (same_bytes_itself (decimal w)),
    )

pub line_planned : (epoch load capacity saved : ℕ) (fits : Bool) → IsLineOf Planned (plan_line epoch load capacity saved fits)
line_planned epoch load capacity saved fits =
    let fields = decimal epoch ∷ decimal load ∷ decimal capacity ∷ decimal saved ∷ (if fits then codes "fits" else codes "short") ∷ [] in
    (is_line-line_of (codes "@plan" ∷ fields), subst (λ f. same_bytes f (codes "@plan") ≡ true) (sym (first_field-line_of 64 (codes "plan") fields refl)) refl)

module _ (a : Answer) where
  names_plain : (os : List Output) (ss : List ℕ) → AllByRecursion (λ o. is_name o.name ≡ true) os → AllByRecursion (λ o. IsPlainName o.0) (map (shown_at_output a) (zip os ss))
  names_plain [] ss named = tt
  names_plain (o ∷ os) [] named = tt
  names_plain (o ∷ os) (s ∷ ss) named = (plain_name o.name named.0, names_plain os ss named.1)

  outputs_shown : (os : List Output) (ss : List ℕ) → AllByRecursion (λ o. is_name o.name ≡ true) os
      → AllByRecursion (λ o. AllByRecursion (IsLineOf (Shown o.0)) o.1) (map (shown_at_output a) (zip os ss))
  outputs_shown [] ss named = tt
  outputs_shown (o ∷ os) [] named = tt
  outputs_shown (o ∷ os) (s ∷ ss) named = (lines_shown o.name (a.tuples s) named.0, outputs_shown os ss named.1)

  decisions_shown : (w : ℕ) → w < 2 ^ 64 → (ds : List Decision) → AllByRecursion (IsLineOf (Dropped w)) (map (λ d. drop_line w d.batch d.level) ds)
  decisions_shown w small [] = tt
  decisions_shown w small (d ∷ ds) = (line_dropped w d.batch d.level small, decisions_shown w small ds)

  drops_shown : (from many : ℕ) → from + many < 2 ^ 64 → AllByRecursion (λ x. AllByRecursion (IsLineOf (Dropped x.0)) x.1) (map (dropped_from a) (range_with_len from many))
  drops_shown from zero few = tt
  drops_shown from (suc many) few = (decisions_shown from (omega (arith, few)) (a.decisions from), drops_shown (from + 1) many (omega (arith, few)))

plans_planned : (ps : List ShownPlan) → AllByRecursion (IsLineOf Planned) (map plan_text ps)
plans_planned [] = tt
plans_planned (p ∷ ps) = (line_planned p.epoch p.load p.capacity p.saved p.fits, plans_planned ps)

-- the box lines, the late lines and the last one
module _ (rest : List (List ℕ)) (rest_ends : AllByRecursion (IsLineOf Ended) rest) where
  boxes_ended : (bs : List Node) (fed : List ℕ) → AllByRecursion (IsLineOf Ended) (map fed_line (zip bs fed) ++ rest)
  boxes_ended [] fed = rest_ends
  boxes_ended (b ∷ bs) [] = rest_ends
  boxes_ended (b ∷ bs) (k ∷ fed) = (end_line_of (codes "box") (b.name ∷ decimal k ∷ []) refl refl, boxes_ended bs fed)

  late_ended : (sorter : Bool) (name : List ℕ) (k : ℕ) (more : List (List ℕ)) → AllByRecursion (IsLineOf Ended) more
      → AllByRecursion (IsLineOf Ended) ((if sorter then late_line name k ∷ [] else []) ++ more)
  late_ended true name k more ends = (end_line_of (codes "late") (name ∷ decimal k ∷ []) refl refl, ends)
  late_ended false name k more ends = ends

  lates_ended : (bs : List Node) (late : List ℕ) → AllByRecursion (IsLineOf Ended) (flat_map late_lines (zip bs late) ++ rest)
  lates_ended [] late = rest_ends
  lates_ended (b ∷ bs) [] = rest_ends
  lates_ended (b ∷ bs) (k ∷ late) =
      rw (append_assoc (late_lines (b, k)) (flat_map late_lines (zip bs late)) rest)
      (late_ended (is_sorter b.body) b.name k (flat_map late_lines (zip bs late) ++ rest) (lates_ended bs late))

pub all_ended : (n : Network) (fed late : List ℕ) → AllByRecursion (IsLineOf Ended) (end_lines n fed late)
all_ended n fed late =
    boxes_ended (flat_map late_lines (zip n.boxes late) ++ end_line ∷ [])
    (lates_ended (end_line ∷ []) (end_line_of (codes "end") [] refl refl, tt) n.boxes late) n.boxes fed

-- what is due of a sound network can be told apart by its classes
pub due_tells_classes : (n : Network) (a : Answer) (ended : List (List ℕ)) → AllByRecursion (IsLineOf Ended) ended → drops_in n < 2 ^ 64 → IsSound n → TellsClasses (due_from n a ended)
due_tells_classes n a ended ends few is =
    let named = recursion_from_All (λ (o : Output). is_name o.name ≡ true) n.outputs is.named in
    record {
      names = names_plain a n.outputs (numbers_to (length n.outputs)) named;
      shown = outputs_shown a n.outputs (numbers_to (length n.outputs)) named;
      dropped = drops_shown a 0 (drops_in n) (omega (arith, few));
      planned = plans_planned a.plans;
      ended = ends;
    }

-- there are few drops
pub few_drops : (n : Network) → IsSound n → drops_in n < 2 ^ 64
few_drops n is =
    let count : length (points_of n) ≡ length (drop_places_of n.wires (windows_of n)) = length-map (drop_places_of n.wires (windows_of n)) (point_at n.wires (windows_of n) n.batch) in
    omega (arith, count, drops-few n.wires (windows_of n), few_places n is)

pub replay_tells_classes : (r : model.Replay) (first : ℕ) → IsSound r.network → TellsClasses (due_in r first)
replay_tells_classes r first is =
    due_tells_classes r.network (answer_in r) (ended_in r first)
    (all_ended (boxes_from first r.network) (drop first (map (fed_in r) (numbers_to (length r.network.boxes)))) (drop first (map (late_counts r) (numbers_to (length r.network.boxes)))))
    (few_drops r.network is) is

pub left_tells_classes : (told : Option Files) (words : List (List ℕ)) (read : List (List ℕ × List ℕ)) (r : AcceptedReplay) → GoesBy told read (script_of words) (Done r) → TellsClasses (due_of r)
left_tells_classes told words read r goes = replay_tells_classes (replayed r) r.first (left_holds told words read (Done r) goes)

no_text : (d : Due) → TellsClasses d → IsPrefixText d []
no_text d s = prefix_text d [] [] s tt ([], refl)

-- nothing was written
pub appends_none : (o : Option (List ℕ)) (P : List ℕ → Type 0) → P [] → AppendsSuch o o P
appends_none None P p = refl
appends_none (Some before) P p = ([], ap Some (sym (append-nil before)), p)

-- at Ok there is no message
pub told_nothing : (source : List ℕ) (o : Option (List ℕ)) (faults : ℕ) → AppendsSuch o o (TellsStatus source faults faults status.Ok)
told_nothing source o faults = appends_none o (TellsStatus source faults faults status.Ok) (inl refl)

pub appends_all : (before now : Option (List ℕ)) (text : List ℕ) (P : List ℕ → Type 0) → now ≡ appended before text → P text → AppendsSuch before now P
appends_all None now text P e p = e
appends_all (Some before) now text P e p = (text, e, p)

pub appends_map : (before now : Option (List ℕ)) (P Q : List ℕ → Type 0) → ((text : List ℕ) → P text → Q text) → AppendsSuch before now P → AppendsSuch before now Q
appends_map None now P Q f a = a
appends_map (Some before) now P Q f a = (a.0, a.1, f a.0 a.2)

nothing_more : (before part : List ℕ) → before ++ part ≡ before → part ≡ []
nothing_more before [] e = refl
nothing_more before (b ∷ bs) e =
    let count : length (before ++ b ∷ bs) ≡ length before = ap (λ (xs : List ℕ). length xs) e in
    absurd (omega (arith, count, length-append before (b ∷ bs)))

-- a part of what is written at once
pub appends_begun : (whole : List ℕ) (before now : Option (List ℕ)) (s : Status) → AppendsPrefix before now whole → (s ≢ status.SinkFault → now ≡ before)
    → AppendsSuch before now (BeginsText whole s)
appends_begun whole None now s part alone = part.2
appends_begun whole (Some before) now s part alone =
    (part.0, part.2, (part.1, λ other. nothing_more before part.0 (let both : Some (before ++ part.0) ≡ Some before = sym part.2 ∙ alone other in cc)))

no_due : (c : Option Command) (r : AcceptedReplay) (s : Status) → TellsClasses (due_of r) → IsPrefixOfDue c r s []
no_due None r s tells = no_text (due_of r) tells
no_due (Some (command.Run args)) r s tells = no_text (due_of r) tells
no_due (Some (command.Gen number rows)) r s tells = ((summary_of number rows (replayed r), refl), λ other. refl)
no_due (Some (command.Audit net text)) r s tells = ((verdict_text r, refl), λ other. refl)
no_due (Some (command.Tap net stream tick history query)) r s tells = no_text (due_of r) tells

-- what is written at a status but that of the sink's may be at want of memory
due_memory : (c : Option Command) (r : AcceptedReplay) (s : Status) → s ≢ status.SinkFault → (text : List ℕ) → IsPrefixOfDue c r s text → IsPrefixOfDue c r status.Memory text
due_memory None r s other text p = p
due_memory (Some (command.Run args)) r s other text p = p
due_memory (Some (command.Gen number rows)) r s other text p = (p.0, λ memory. p.1 other)
due_memory (Some (command.Audit net out)) r s other text p = (p.0, λ memory. p.1 other)
due_memory (Some (command.Tap net stream tick history query)) r s other text p = p

-- each script that is left has its fact
pub if_accepted : (left : Script) (P : AcceptedReplay → Type 0) (Q : Type 0) → ((r : AcceptedReplay) → left ≡ Done r → P r) → Q → IfAccepted left P Q
if_accepted (Done r) P Q p q = p r refl
if_accepted (Stops s) P Q p q = q
if_accepted (Reads name limit more) P Q p q = q

accepted_map : (left : Script) (P P' : AcceptedReplay → Type 0) (Q : Type 0) → ((r : AcceptedReplay) → P r → P' r) → IfAccepted left P Q → IfAccepted left P' Q
accepted_map (Done r) P P' Q f m = f r m
accepted_map (Stops s) P P' Q f m = m
accepted_map (Reads name limit more) P P' Q f m = m

-- a beginning of the answer, and nothing where there is none
abbrev Begun : List (List ℕ) → Outside → Outside → Status → Script → Type 0
Begun words before after s left = IfAccepted left
    (λ r. KnowsDisk (command_in words) after → DoesPart (command_in words) r s before after)
    (DoesNothing before after)

nothing_appended : (before now : Option (List ℕ)) (P : List ℕ → Type 0) → now ≡ before → P [] → AppendsSuch before now P
nothing_appended before now P e p = subst (λ o. AppendsSuch before o P) (sym e) (appends_none before P p)

pub begun_nothing : (words : List (List ℕ)) (before after : Outside) (s : Status) (r : AcceptedReplay) → DoesNothing before after → TellsClasses (due_of r)
    → KnowsDisk (command_in words) after → DoesPart (command_in words) r s before after
begun_nothing words before after s r still tells known =
    let steps = still.1 in
    (nothing_appended before.output.written after.output.written (IsPrefixOfDue (command_in words) r s) still.0 (no_due (command_in words) r s tells), omega (arith, steps))

nothing_written : (words : List (List ℕ)) (before after : Outside) (s : Status) (read : List (List ℕ × List ℕ)) (left : Script) → GoesBy before.folder.told read (script_of words) left
    → DoesNothing before after → Begun words before after s left
nothing_written words before after s read left goes still = if_accepted left _ _
    (λ r e. begun_nothing words before after s r still (left_tells_classes before.folder.told words read r (subst (GoesBy before.folder.told read (script_of words)) e goes)))
    still

prefix_memory : (words : List (List ℕ)) (before after : Outside) (s : Status) (left : Script) → s ≢ status.SinkFault → Begun words before after s left → Begun words before after status.Memory left
prefix_memory words before after s left other = accepted_map left _ _ _
    (λ r prefix pages. (
      appends_map before.output.written after.output.written (IsPrefixOfDue (command_in words) r s) (IsPrefixOfDue (command_in words) r status.Memory) (due_memory (command_in words) r s other) (prefix pages).0,
      (prefix pages).1,
    ))

not_ok : (s : Status) → (is_refusal s ≡ true) ⊎ (s ≡ status.Memory) → s ≡ status.Ok → ⊥
not_ok s (inl refused) e = let r : is_refusal status.Ok ≡ true = subst (λ x. is_refusal x ≡ true) e refused in cc
not_ok s (inr memory) e = cc

not_sink : (s : Status) → (is_refusal s ≡ true) ⊎ (s ≡ status.Memory) → s ≡ status.SinkFault → ⊥
not_sink s (inl refused) e = let r : is_refusal status.SinkFault ≡ true = subst (λ x. is_refusal x ≡ true) e refused in cc
not_sink s (inr memory) e = cc

not_much : (s : Status) → (is_refusal s ≡ true) ⊎ (s ≡ status.Memory) → s ≡ status.TooMuch → ⊥
not_much s (inl refused) e = let r : is_refusal status.TooMuch ≡ true = subst (λ x. is_refusal x ≡ true) e refused in cc
not_much s (inr memory) e = cc

-- what is no refusal hides no want of memory
not_hidden : (s : Status) → is_refusal s ≡ false → hides_memory s ≡ false
not_hidden (status.BadNetwork e) is = absurd (cc)
not_hidden (status.BadQuery e) is = absurd (cc)
not_hidden (status.BadTap e) is = absurd (cc)
not_hidden s is = refl

-- where all was accepted no refusal comes
not_refused : (before after : FolderState) (s : Status) (left : Script) (r : AcceptedReplay) → (is_refusal s ≡ true) ⊎ (s ≡ status.Memory) → IsRefusedAt before after s left → left ≡ Done r
    → (s ≡ status.Ok) ⊎ (s ≡ status.Memory) ⊎ (is_garbled s ≡ true)
not_refused before after s left r (inl refused) why e =
    let not : is_refusal s ≡ false = subst (IsRefusedAt before after s) e why in
    let both : true ≡ false = sym refused ∙ not in absurd (cc)
not_refused before after s left r (inr memory) why e = inr (inl memory)

-- a run that stops before anything is replayed
pub stopped_ends : (words : List (List ℕ)) (before after : Outside) (s : Status) (source : List ℕ) → IsStopped words before.folder after.folder s source
    → DoesNothing before after → Ends words before after s source
stopped_ends words before after s source h still = record {
  read = h.read;
  given = h.given;
  left = h.left;
  goes = h.goes;
  ok = λ e. absurd (not_ok s h.ends e);
  fed = λ e engine. absurd (not_ok s h.ends e);
  other = λ e. nothing_written words before after s h.read h.left h.goes still;
  refused_early = λ e. still;
  faulted = λ rose. still;
  usage = h.usage;
  refusal = h.refusal;
  no_memory = h.no_memory;
  stopped = refused_stop _ _ _ _ _ s h.ends;
  unchanged = λ is-honest. refused_unchanged s h.ends;
  garbled = λ tells. refused_garbled s h.ends;
  sink = λ e. absurd (not_sink s h.ends e);
  too_much = λ e. absurd (not_much s h.ends e);
  complete = λ sound dry. if_accepted h.left _ _
      (λ r e pages few. not_refused before.folder after.folder s h.left r h.ends h.refusal e) tt;
  named = h.named;
}

module _ (words : List (List ℕ)) (before after : Outside) (r : AcceptedReplay) (source : List ℕ) (some : IsSome (command_in words))
    (came : ScriptLeads before.folder after.folder (script_of words) (Done r)) (faultless : after.folder.faults ≡ before.folder.faults) where
  abbrev turns : ℕ
  turns = turns_for (command_in words) r

  pub answered_ok : (KnowsDisk (command_in words) after → DoesAll (command_in words) r before after)
      → (runs_engine (command_in words) ≡ true → Tells (known after.disk.log) → FedNeeded before.disk.log after.disk.log r) → Ends words before after status.Ok source
  answered_ok whole fed = record {
    read = came.0;
    given = came.2;
    left = Done r;
    goes = came.1;
    ok = λ e. whole;
    fed = λ e engine. fed engine;
    other = λ e. absurd (e refl);
    refused_early = λ e. absurd (cc);
    faulted = λ rose. absurd (omega (arith, rose, faultless));
    usage = record { only = λ e. absurd (cc); when = λ e. absurd (some_none (command_in words) some e) };
    refusal = refl;
    no_memory = refl;
    stopped = tt;
    unchanged = λ is-honest. refl;
    garbled = λ tells is. absurd (cc);
    sink = λ e. absurd (cc);
    too_much = λ e. absurd (cc);
    complete = λ sound dry pages few. inl refl;
    named = tt;
  }

  -- no status of a refusal cuts short what was begun
  begun : (s t : Status) → is_refusal s ≡ false → is_refusal t ≡ true → s ≡ t → ⊥
  begun s t is refused same = let both : true ≡ false = sym refused ∙ ap is_refusal (sym same) ∙ is in cc

  names_none : (s : Status) → is_refusal s ≡ false → NamesSource words came.0 s source
  names_none (status.BadStream number line why) is = absurd (cc)
  names_none s is = tt

  -- without a fault it is want of memory, or too much, or a page that came back garbled
  ends_ok : (s : Status) → IsCutShort before.output.faults after.output.faults s → StopHasCause (IsOfRun before.disk.log after.disk.log r s) before.disk.log after.disk.log before.disk.faults after.disk.faults s
      → (is_changed s ≡ true → is_garbled s ≡ true) → (s ≡ status.TooMuch → 2 ^ 62 ≤ turns) → (s ≡ status.DiskFault → ¬ (DiskFails before after)) → ¬ (OutputFails before after) → turns < 2 ^ 62
      → (s ≡ status.Ok) ⊎ (s ≡ status.Memory) ⊎ (is_garbled s ≡ true)
  ends_ok status.Ok cut stop garbled much sound dry few = inl refl
  ends_ok status.Memory cut stop garbled much sound dry few = inr (inl refl)
  ends_ok status.SinkFault cut stop garbled much sound dry few = absurd (dry (cut.sink refl))
  ends_ok status.DiskFault cut stop garbled much sound dry few = absurd (sound refl stop)
  ends_ok status.TooMuch cut stop garbled much sound dry few = let most = much refl in absurd (omega (arith, most, few))
  ends_ok (status.Garbled page kept got) cut stop garbled much sound dry few = inr (inr (garbled refl))
  ends_ok (status.NotAPage page bytes) cut stop garbled much sound dry few = inr (inr (garbled refl))
  ends_ok (status.Strange arc item) cut stop garbled much sound dry few = inr (inr (garbled refl))
  ends_ok s cut stop garbled much sound dry few = let no = cut.begun in absurd (cc)

  -- the answer is cut short
  pub answered_cut : (s : Status) → EndsEarly (command_in words) r before after s → (s ≡ status.DiskFault → runs_engine (command_in words) ≡ true) → Ends words before after s source
  answered_cut s early runs =
      let cut = early.cut in
      record {
        read = came.0;
        given = came.2;
        left = Done r;
        goes = came.1;
        ok = λ e. absurd (cut.no_end e);
        fed = λ e engine. absurd (cut.no_end e);
        other = λ e. early.part;
        refused_early = λ e. let both : true ≡ false = sym e ∙ cut.begun in absurd (cc);
        faulted = λ rose. absurd (omega (arith, rose, faultless));
        usage = record { only = λ e. absurd (begun s status.Usage cut.begun refl e); when = λ e. absurd (some_none (command_in words) some e) };
        refusal = cut.begun;
        no_memory = not_hidden s cut.begun;
        stopped = stop_map _ (IsEngineOf (Done r) before after s) _ _ _ _ _ _ _ _ s (λ rose. rose) (λ queues e back. back) (λ e is. is) early.stopped;
        unchanged = early.unchanged;
        garbled = early.garbled;
        sink = cut.sink;
        too_much = λ e pages. early.too_much pages e;
        complete = λ sound dry pages few. ends_ok s cut early.stopped (early.garbled pages) (early.too_much pages) (λ fault. sound (runs fault)) dry few;
        named = names_none s cut.begun;
      }

-- any end but Ok and that of the sink may be one for want of memory
pub memory_ends : (words : List (List ℕ)) (before after : Outside) (s : Status) (source other : List ℕ) → s ≢ status.Ok → s ≢ status.SinkFault → Ends words before after s source
    → Ends words before after status.Memory other
memory_ends words before after s source other differs dry' h = record {
  read = h.read;
  given = h.given;
  left = h.left;
  goes = h.goes;
  ok = λ e. absurd (cc);
  fed = λ e engine. absurd (cc);
  other = λ e. prefix_memory words before after s h.left dry' (h.other differs);
  refused_early = λ e. absurd (cc);
  faulted = h.faulted;
  usage = record { only = λ e. absurd (cc); when = λ e. inr refl };
  refusal = memory_at before.folder after.folder h.left;
  no_memory = refl;
  stopped = tt;
  unchanged = λ is-honest. refl;
  garbled = λ tells is. absurd (cc);
  sink = λ e. absurd (cc);
  too_much = λ e. absurd (cc);
  complete = λ sound dry. if_accepted h.left _ _ (λ r e pages few. inr (inl refl)) tt;
  named = tt;
}

-- an end that is told stays, or is one for want of memory
pub told_ends : (words : List (List ℕ)) (before after : Outside) (s told : Status) (source : List ℕ) → s ≢ status.Ok → (told ≡ s) ⊎ ((told ≡ status.Memory) × (s ≢ status.SinkFault))
    → Ends words before after s source → Ends words before after told source
told_ends words before after s told source differs (inl same) h = subst (λ x. Ends words before after x source) (sym same) h
told_ends words before after s told source differs (inr memory) h = subst (λ x. Ends words before after x source) (sym memory.0) (memory_ends words before after s source source differs memory.1 h)

-- what is made comes to what it is said to, and reads no file
module _ (words : List (List ℕ)) (number rows : ℕ) (asked : command_in words ≡ Some (command.Gen number rows)) where
  script_made : (x : Script) → made_script number (made_of number rows) ≡ x → script_of words ≡ x
  script_made x e = ap after_words asked ∙ e

  is_made : IsSome (command_in words)
  is_made = rw asked refl

  accepted_made : (folder : FolderState) (r : AcceptedReplay) → made_script number (made_of number rows) ≡ Done r → ScriptLeads folder folder (script_of words) (Done r)
  accepted_made folder r e = ([], script_made (Done r) e, none_given folder.read folder.read refl)

  stopped_made : (folder : FolderState) (s : Status) (source : List ℕ) → HasBadMade number rows s source → IsStopped words folder folder s source
  stopped_made folder s source (inl memory) =
      subst (λ x. IsStopped words folder folder x source) (sym memory)
      (stopped_memory words folder folder source (script_of words) (leads_self folder (script_of words)))
  stopped_made folder s source (inr (rule, comes, named)) =
      stopped_rule words folder folder source s rule is_made ([], script_made (Stops s) comes, none_given folder.read folder.read refl) (names s named)
    where
      names : (s : Status) → NamesMade number rows s source → NamesSource words [] s source
      names (status.BadStream at line why) e = e ∙ sym (ap (λ c. name_at at (network_read c [])) asked)
      names s e = tt

  pub prepared_made : (folder : FolderState) (p : Result Accepted Stopped) → IfOk p (λ a. made_script number (made_of number rows) ≡ Done (replay_of a))
      → IfErr p (λ s. HasBadMade number rows s.status (source_told s.source)) → IsPrepared words folder folder p
  prepared_made folder (Ok a) made bad = accepted_made folder (replay_of a) made
  prepared_made folder (Err s) made bad = stopped_made folder s.status (source_told s.source) bad
