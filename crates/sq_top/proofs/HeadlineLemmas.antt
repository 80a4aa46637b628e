-- A whole text of a run keeps the headline.
use Rattle.std.proofs.Common.{◌≡◌, ◌≢◌, ◌⊎◌, inl, inr, ℕ, zero, suc, ◌<◌, ◌/◌, true, not, List, [], ◌∷◌, length, map, refl, ap, sym, ◌∙◌, subst, arith, Option, None, Some}
use Rattle.std.specs.Prelude.{slice_get}
use Rattle.std.specs.Fmt.{decimal}
use Rattle.std.specs.List.{filter, list_any, zip}
use Rattle.std.proofs.lemmas.Bool.{or_left, or_right}
use Rattle.std.proofs.lemmas.List.FromFn.{length-range_with_len}
use Rattle.std.proofs.lemmas.Option.{slice_get_within}
use Rattle.sq_value.specs.declared.Tuple.{Tuple}
use Rattle.sq_words.specs.Lists.{contains_number, numbers_to, same_bytes}
use Rattle.sq_words.proofs.Lists.{has_item, map_map, same_bytes_itself}
use Rattle.sq_graph.specs.Wires.{input_arcs_of}
use Rattle.sq_lines.specs.Classes.{Shown, Dropped, Planned, Ended}
use Rattle.sq_lines.specs.LineTexts.{drop_line, output_line}
use Rattle.sq_place.specs.declared.DropPoint.{DropPoint}
use Rattle.sq_net.specs.declared.Output.{Output}
use Rattle.sq_net.specs.SoundNetworks.{IsSound}
use Rattle.sq_oper.specs.declared.outs.Decision.{Decision}
use Rattle.sq_points.specs.Above.{drop_above_output}
use Rattle.sq_points.specs.Points.{drops_in, points_of}
use Rattle.sq_model.specs.KeptTuples.{kept_of}
use Rattle.sq_model.specs.Shedding.{record_of, shown}
use Rattle.sq_tap.specs.Parts.{full_output}
use Rattle.sq_starts.proofs.Starts.{times_start}
use Rattle.sq_start.specs.Nets.{decision_on, drop_decisions}
use Rattle.sq_audit.proofs.AuditLemmas.{above_there}
use Rattle.sq_pool.specs.Trust.{Tells, known}
use Rattle.sq_core.specs.Runs.{tuples_fed}
use Rattle.sq_status.specs.declared.Status.{Status}
use Rattle.sq_status.specs.declared.Status.TheVariants as status
use Rattle.sq_command.specs.declared.Command.{Command}
use Rattle.sq_command.specs.declared.Command.TheVariants as command
use Rattle.sq_command.specs.Commands.{command_in, runs_engine}
use Rattle.sq_work.specs.Reads.{GoesBy, IfAccepted}
use Rattle.sq_work.specs.Scripts.{AcceptedReplay, Done, Script, script_of}
use Rattle.sq_due.specs.Due.{Answer, answer_in, due_of, replayed, shown_at_output}
use Rattle.sq_drive.specs.Failing.{FedNeeded}
use Rattle.sq_due.specs.Answers.{IsPrefixText, IsWholeText}
use Rattle.sq_top.specs.Ends.{DoesAll, DoesNothing, DoesPart, KnowsDisk, Writes}
use Rattle.sq_top.specs.Headline.{FeedsNeeded, KeepsHeadline, RecordsDropped, ShowsUnrecorded, batch_line, unrecorded}
use Rattle.sq_top.specs.HeadlineLaw.{RunsKeepTheHeadline, ShowsOutputs, TookIn}
use Rattle.sq_top.specs.Texts.{IsPrefixOfDue, IsWholeOf}
use Rattle.sq_top.proofs.EndLemmas.{appends_map, few_drops}
use Rattle.sq_top.proofs.NamedLemmas.{number_at, one_numbered, picked_at}
use Rattle.sq_top.proofs.ReadsLemmas.{left_holds}

-- an output that is there has lines under its name
under_name : (a : Answer) (os : List Output) (ss : List ℕ) (o : ℕ) (out : Output) → length ss ≡ length os → slice_get os o ≡ Some out
    → list_any (λ y. same_bytes y.0 out.name) (map (shown_at_output a) (zip os ss)) ≡ true
under_name a [] ss o out even at = absurd (cc)
under_name a (x ∷ os) [] o out even at = absurd (omega (arith, even))
under_name a (x ∷ os) (s ∷ ss) zero out even at =
    let is : x ≡ out = cc in
    or_left (same_bytes x.name out.name) (list_any (λ y. same_bytes y.0 out.name) (map (shown_at_output a) (zip os ss)))
    (ap (λ (y : Output). same_bytes y.name out.name) is ∙ same_bytes_itself out.name)
under_name a (x ∷ os) (s ∷ ss) (suc o) out even at =
    or_right (same_bytes x.name out.name) (list_any (λ y. same_bytes y.0 out.name) (map (shown_at_output a) (zip os ss)))
    (under_name a os ss o out (omega (arith, even)) at)

number_of : (many o : ℕ) → o < many → slice_get (numbers_to many) o ≡ Some o
number_of many o low =
    let count : length (numbers_to many) ≡ many = length-range_with_len 0 many in
    let x = has_item (numbers_to many) o (omega (arith, count, low)) in
    x.1 ∙ ap Some (number_at many o x.0 x.1)

module _ (r : AcceptedReplay) (sound : IsSound r.network) (text : List ℕ) (whole : IsWholeText (due_of r) text) where
  -- what is recorded of a drop is its record
  abbrev record_at : ℕ → Option DropPoint → List ℕ
  record_at w None = []
  record_at w (Some p) = record_of (replayed r) w p

  abbrev records_of : ℕ → List ℕ
  records_of w = record_at w (slice_get (points_of r.network) w)

  same_left : (d : Option (ℕ × DropPoint)) → ((e : ℕ × DropPoint) → d ≡ Some e → slice_get (points_of r.network) e.0 ≡ Some e.1) → (xs : List Tuple)
      → shown (replayed r) d xs ≡ unrecorded records_of d xs
  same_left None there xs = refl
  same_left (Some e) there xs = ap (λ (bs : List ℕ). filter (λ (x : Tuple). not (contains_number bs (x.time / (e.1).length))) xs) (sym (ap (record_at e.0) (there e refl)))

  shows : ShowsUnrecorded r text records_of
  shows = record {
    lines = λ o output there.
        whole.lines (Shown output.name) (under_name (answer_in (replayed r)) r.network.outputs (numbers_to (length r.network.outputs)) o output (length-range_with_len 0 (length r.network.outputs)) there)
        ∙ picked_at (answer_in (replayed r)) r.network.outputs (numbers_to (length r.network.outputs)) o o output sound.distinct there
        (number_of (length r.network.outputs) o (slice_get_within r.network.outputs o output there))
        ∙ ap (map (output_line output.name)) (same_left (drop_above_output r.network o) (above_there r.network o) (full_output r.network r.sources o));
    starts = times_start r.network r.sources sound;
    alone = whole;
  }

  records : RecordsDropped r text records_of
  records = record {
    told = λ w p there.
        whole.lines (Dropped w) tt
        ∙ one_numbered (answer_in (replayed r)) w w (drops_in r.network) (slice_get_within (points_of r.network) w p there) (few_drops r.network sound) (same_bytes_itself (decimal w))
        ∙ ap (λ o. map (λ (d : Decision). drop_line w d.batch d.level) (drop_decisions (replayed r) w o)) there
        ∙ map_map (λ (d : Decision). drop_line w d.batch d.level) (decision_on (replayed r) w p) (record_of (replayed r) w p)
        ∙ ap (map (batch_line r w p)) (sym (ap (record_at w) there));
    dropped = λ w p there. ap (record_at w) there;
    plans = whole.lines Planned tt;
  }

  module _ (Took : (ℕ → ℕ → List Tuple) → Type 0) (took : ℕ → ℕ → List Tuple) (of_run : Took took)
      (needed : (at port arc : ℕ) → at < length r.network.boxes → slice_get (input_arcs_of r.network.wires at) port ≡ Some arc → took at port ≡ kept_of (replayed r) arc) where
    feeds : FeedsNeeded r text Took
    feeds = record { took = took; of_run = of_run; needed = needed; counted = whole.lines Ended tt }

    whole_keeps : KeepsHeadline r text status.Ok Took
    whole_keeps = record {
      recorded = records_of;
      shows = λ ok. shows;
      records = λ ok. records;
      feeds = λ ok. feeds;
      begins = λ other. absurd (other refl);
    }

prefix_keeps : (r : AcceptedReplay) (result : Status) (Took : (ℕ → ℕ → List Tuple) → Type 0) (text : List ℕ) → result ≢ status.Ok → IsPrefixText (due_of r) text
    → KeepsHeadline r text result Took
prefix_keeps r result Took text other first = record {
  recorded = λ w. [];
  shows = λ ok. absurd (other ok);
  records = λ ok. absurd (other ok);
  feeds = λ ok. absurd (other ok);
  begins = λ cut. first;
}

-- ---- what a call wrote

is_whole : (c : Option Command) (r : AcceptedReplay) (text : List ℕ) → ShowsOutputs c → IsWholeOf c r text → IsWholeText (due_of r) text
is_whole None r text h whole = absurd h
is_whole (Some (command.Run args)) r text h whole = whole
is_whole (Some (command.Gen number rows)) r text h whole = absurd h
is_whole (Some (command.Audit net out)) r text h whole = absurd h
is_whole (Some (command.Tap net stream tick history query)) r text h whole = whole

is_prefix : (c : Option Command) (r : AcceptedReplay) (result : Status) (text : List ℕ) → ShowsOutputs c → IsPrefixOfDue c r result text → IsPrefixText (due_of r) text
is_prefix None r result text h first = absurd h
is_prefix (Some (command.Run args)) r result text h first = first
is_prefix (Some (command.Gen number rows)) r result text h first = absurd h
is_prefix (Some (command.Audit net out)) r result text h first = absurd h
is_prefix (Some (command.Tap net stream tick history query)) r result text h first = first

runs : (c : Option Command) → ShowsOutputs c → runs_engine c ≡ true
runs None h = absurd h
runs (Some (command.Run args)) h = refl
runs (Some (command.Gen number rows)) h = absurd h
runs (Some (command.Audit net out)) h = absurd h
runs (Some (command.Tap net stream tick history query)) h = refl

ends_ok : (s : Status) → (s ≡ status.Ok) ⊎ (s ≢ status.Ok)
ends_ok status.Ok = inl refl
ends_ok s = inr (λ e. cc)

pub runs_keep : RunsKeepTheHeadline
runs_keep words before after result r call shows_them left known_disk = by (ends_ok result)
  where
    goes : GoesBy before.folder.told (call.ends).read (script_of words) (Done r)
    goes = subst (λ (s : Script). GoesBy before.folder.told (call.ends).read (script_of words) s) left (call.ends).goes

    sound : IsSound r.network
    sound = left_holds before.folder.told words (call.ends).read (Done r) goes

    of_left : (P : AcceptedReplay → Type 0) (Q : Type 0) → IfAccepted (call.ends).left P Q → P r
    of_left P Q h = subst (λ (s : Script). IfAccepted s P Q) left h

    by : (result ≡ status.Ok) ⊎ (result ≢ status.Ok) → Writes before after (λ text. KeepsHeadline r text result (TookIn before after r))
    by (inl ok) =
        let all = of_left (λ x. KnowsDisk (command_in words) after → DoesAll (command_in words) x before after) ⊥ ((call.ends).ok ok) (λ engine. known_disk) in
        let fed = of_left (λ x. Tells (known after.disk.log) → FedNeeded before.disk.log after.disk.log x) ⊥ ((call.ends).fed ok (runs (command_in words) shows_them)) known_disk in
        appends_map before.output.written after.output.written (IsWholeOf (command_in words) r) (λ text. KeepsHeadline r text result (TookIn before after r))
        (λ text whole. subst (λ s. KeepsHeadline r text s (TookIn before after r)) (sym ok)
        (whole_keeps r sound text (is_whole (command_in words) r text shows_them whole) (TookIn before after r) (tuples_fed fed.engine) (fed, refl) fed.needed)) all.0
    by (inr other) =
        let part = of_left (λ x. KnowsDisk (command_in words) after → DoesPart (command_in words) x result before after) (DoesNothing before after) ((call.ends).other other) (λ engine. known_disk) in
        appends_map before.output.written after.output.written (IsPrefixOfDue (command_in words) r result) (λ text. KeepsHeadline r text result (TookIn before after r))
        (λ text first. prefix_keeps r result (TookIn before after r) text other (is_prefix (command_in words) r result text shows_them first)) part.0
