-- A replay without capacities drops nothing, so each output shows its full answer.
use Rattle.std.proofs.Common.{◌≡◌, ℕ, zero, suc, Bool, true, false, List, [], ◌∷◌, ◌++◌, length, map, refl, ap, ap₂, ◌∙◌, subst, Option, Some, None, arith}
use Rattle.std.specs.Prelude.{Result, Ok, Err, slice_get, nat_lt, ◌*◌}
use Rattle.std.specs.List.{AllByRecursion, filter, flat_map, list_all}
use Rattle.std.proofs.lemmas.List.Elements.{All-from_recursion}
use Rattle.sq_outside.specs.Folders.{Files}
use Rattle.sq_value.specs.declared.Tuple.{Tuple}
use Rattle.sq_words.specs.Lists.{numbers_to}
use Rattle.sq_lines.specs.LineTexts.{output_line}
use Rattle.sq_value.specs.Values.{IsStream}
use Rattle.sq_graph.specs.Wires.{output_arc_at}
use Rattle.sq_road.specs.Draws.{draw_of}
use Rattle.sq_place.specs.declared.DropPoint.{DropPoint}
use Rattle.sq_plan.specs.Plans.{Setting}
use Rattle.sq_plan.specs.PlanRows.{is_quiet, shown_after, taken_after}
use Rattle.sq_points.specs.Points.{drops_in, points_of, setting_of}
use Rattle.sq_model.specs.FullStreams.{full_arc}
use Rattle.sq_model.specs.Shedding as model
use Rattle.sq_model.specs.Shedding.{answer_of, counts_in, epoch_of, is_dropped, batch_level, record_of, shown, touched_batches}
use Rattle.sq_net.specs.declared.Network.{Network}
use Rattle.sq_net.specs.declared.NetErr.{NetErr}
use Rattle.sq_net.specs.declared.Output.{Output}
use Rattle.sq_net.specs.declared.Source.{Source}
use Rattle.sq_net.specs.SoundNetworks.{IsSound, source_within}
use Rattle.sq_reader.specs.Networks.{network_in}
use Rattle.sq_reader.proofs.SoundLemmas.{network_sound}
use Rattle.sq_replay.specs.declared.why.Why.{Why}
use Rattle.sq_replay.specs.Streams.{stream_in}
use Rattle.sq_start.specs.Nets.{decision_on, drop_decisions}
use Rattle.std.proofs.lemmas.Bool.Decides.{nat_tests}
use Rattle.sq_tap.specs.declared.TapErr.{TapErr}
use Rattle.sq_tap.specs.declared.TapErr.TheVariants as error
use Rattle.sq_joined.specs.Joining.{joined}
use Rattle.sq_tap.specs.Names.{stream_named}
use Rattle.sq_tap.specs.Parts.{full_output, tuples_since}
use Rattle.sq_tap.proofs.Grafts.{answers_joined}
use Rattle.sq_tap.proofs.Naming.{named_there}
use Rattle.sq_due.specs.Due.{answer_in, outputs_of, dropped_from, shown_at_output}
use Rattle.sq_top.specs.Parts.{ShowsPart, ShowsRead, TapsShowParts}
use Rattle.sq_work.specs.Reads.{GoesBy}
use Rattle.sq_status.specs.declared.Status.{Status}
use Rattle.sq_status.specs.declared.Status.TheVariants as status
use Rattle.sq_work.specs.Scripts.{Done, AcceptedReplay, Script, Stops, after_query, after_stream, after_streams, after_tap, after_tapped, after_words, tap_script, tap_unread, with_sources}
use Rattle.sq_work.specs.Taps.{Tapped, first_tick, tapped}
use Rattle.sq_work.proofs.JoinLemmas.{kept_at, kept_few, kept_kinds_of, kept_one, tapped_sound}
use Rattle.sq_top.proofs.SourceLemmas.{sources_within, streams_more}
use Rattle.sq_words.proofs.Bools.{and_true}
use Rattle.sq_points.specs.Above.{drop_above_output}
use Rattle.sq_work.proofs.SourceLemmas.{text_is_recorded}

none_passes : {X : Type 0} (p : X → Bool) (xs : List X) → ((x : X) → p x ≡ false) → filter p xs ≡ []
none_passes p [] none = refl
none_passes p (x ∷ xs) none = rw (none x) (none_passes p xs none)

all_pass : {X : Type 0} (p : X → Bool) (xs : List X) → ((x : X) → p x ≡ true) → filter p xs ≡ xs
all_pass p [] every = refl
all_pass p (x ∷ xs) every = rw (every x) (ap (λ ys. x ∷ ys) (all_pass p xs every))

never_below : (k : ℕ) → nat_lt k 0 ≡ false
never_below k = grind (arith, nat_tests)

empty_all : {X Y : Type 0} (f : X → List Y) (xs : List X) → ((x : X) → f x ≡ []) → flat_map f xs ≡ []
empty_all f [] none = refl
empty_all f (x ∷ xs) none = rw (none x) (empty_all f xs none)

-- a replay without entries
module _ (n : Network) (sources : List (List Tuple)) (seed : ℕ) where
  abbrev r : model.Replay
  r = record { network = n; sources = sources; entries = []; seed = seed }

  abbrev setting : Setting
  setting = setting_of n []

  none_taken : (e : ℕ) → taken_after setting e (counts_in r e) ≡ 0
  none_taken e = by (is_quiet (counts_in r e)) refl
    where
      by : (b : Bool) → is_quiet (counts_in r e) ≡ b → taken_after setting e (counts_in r e) ≡ 0
      by true is = rw is refl
      by false is = rw is refl

  no_level : (e w : ℕ) → batch_level r e w ≡ 0
  no_level zero w = refl
  no_level (suc e) w = rw (none_taken e) refl

  not_dropped : (w : ℕ) (p : DropPoint) (b : ℕ) → is_dropped r w p b ≡ false
  not_dropped w p b = ap (nat_lt (draw_of seed w b)) (no_level (epoch_of r (b * p.length)) w) ∙ never_below (draw_of seed w b)

  no_record : (w : ℕ) (p : DropPoint) → record_of r w p ≡ []
  no_record w p = none_passes (is_dropped r w p) (touched_batches r p) (not_dropped w p)

  pub answer_full : (o : ℕ) → answer_of r o ≡ full_output n sources o
  answer_full o = by (drop_above_output n o)
    where
      by : (d : Option (ℕ × DropPoint)) → shown r d (full_arc n sources (output_arc_at n.wires o)) ≡ full_arc n sources (output_arc_at n.wires o)
      by None = refl
      by (Some d) = rw (no_record d.0 d.1) (all_pass _ (full_arc n sources (output_arc_at n.wires o)) (λ x. refl))

  no_decisions : (w : ℕ) → drop_decisions r w (slice_get (points_of n) w) ≡ []
  no_decisions w = by (slice_get (points_of n) w)
    where
      by : (o : Option DropPoint) → drop_decisions r w o ≡ []
      by None = refl
      by (Some p) = ap (map (decision_on r w p)) (no_record w p)

  pub no_drop_lines : (ws : List ℕ) → flat_map (λ (x : ℕ × List (List ℕ)). x.1) (map (dropped_from (answer_in r)) ws) ≡ []
  no_drop_lines [] = refl
  no_drop_lines (w ∷ ws) = rw (no_decisions w) (no_drop_lines ws)

  no_plan : (e : ℕ) → shown_after setting (counts_in r) e ≡ []
  no_plan e = by (is_quiet (counts_in r e)) refl
    where
      by : (b : Bool) → is_quiet (counts_in r e) ≡ b → shown_after setting (counts_in r) e ≡ []
      by true is = rw is refl
      by false is = rw is refl

  pub no_plans : (es : List ℕ) → flat_map (shown_after setting (counts_in r)) es ≡ []
  no_plans es = empty_all (shown_after setting (counts_in r)) es no_plan

-- outputs whose full answers are the same show the same
same_shown : (net : Network) (sources : List (List Tuple)) (seed : ℕ) (q : Network) (part : List Tuple) → ((o : ℕ) → full_output net sources o ≡ full_output q (part ∷ []) o)
    → (os : List (Output × ℕ))
    → map (shown_at_output (answer_in (record { network = net; sources = sources; entries = []; seed = seed }))) os ≡ map (λ o. ((o.0).name, map (output_line (o.0).name) (full_output q (part ∷ []) o.1))) os
same_shown net sources seed q part same [] = refl
same_shown net sources seed q part same (o ∷ os) =
    ap₂ (λ ts rest. ((o.0).name, map (output_line (o.0).name) ts) ∷ rest) (answer_full net sources seed o.1 ∙ same o.1) (same_shown net sources seed q part same os)

module _ (n q : Network) (stream from : ℕ) (sources : List (List Tuple)) (answers : (o : ℕ) → full_output (joined n stream from q) sources o ≡ full_output q (tuples_since n sources stream from ∷ []) o) where
  joined_shows : (first : ℕ) → ShowsPart n q stream from (with_sources (tap_unread (record { network = joined n stream from q; first = first })) sources)
  joined_shows first = record {
    shown = same_shown (joined n stream from q) sources 0 q (tuples_since n sources stream from) answers (outputs_of q);
    dropped = no_drop_lines (joined n stream from q) sources 0 (numbers_to (drops_in (joined n stream from q)));
    planned = ap (map _) (no_plans (joined n stream from q) sources 0 _);
  }

shows_part : (n q : Network) (name : List ℕ) (stream from : ℕ) (t : Tapped) (sources : List (List Tuple)) → IsSound n → IsSound q → AllByRecursion IsStream sources → stream_named n name ≡ Some stream
    → tapped n (Some stream) from q ≡ Ok t → ShowsPart n q stream from (with_sources (tap_unread t) sources)
shows_part n q name stream from t sources sound asked recorded named said =
    let k = kept_at n stream from q t said in
    subst (λ (x : Tapped). ShowsPart n q stream from (with_sources (tap_unread x) sources)) k.is
    (joined_shows n q stream from sources
    (λ o. answers_joined n stream from q sound asked (named_there n name stream sound named) (kept_one n stream from q t k) (kept_kinds_of n stream from q t k) (kept_few n stream from q t k) sources o
    (All-from_recursion IsStream sources recorded)) _)

-- ---- what is accepted of a tap

none_stops : (told : Option Files) (read : List (List ℕ × List ℕ)) (s : Status) (r : AcceptedReplay) → GoesBy told read (Stops s) (Done r) → ⊥
none_stops told [] s r goes = absurd (cc)
none_stops told (given ∷ read) s r goes = goes

-- what comes of the sources are their streams
record AreStreamsOf (p r : AcceptedReplay) : Type 0 where
  is : with_sources p r.sources ≡ r
  streams : AllByRecursion IsStream r.sources

all_read : (p r : AcceptedReplay) → AllByRecursion IsStream p.sources → p ≡ r → AreStreamsOf p r
all_read p r h same = subst (AreStreamsOf p) same (record { is = refl; streams = h })

own : (p r : AcceptedReplay) → Done p ≡ Done r → p ≡ r
own p r e = cc

module _ (told : Option Files) (r : AcceptedReplay) where
  stream_read : (s : Source) (bytes : List ℕ) (number : ℕ) (more : List Tuple → Script) (read : List (List ℕ × List ℕ)) (Q : Type 0) (o : Result (List Tuple) (ℕ × Why)) → stream_in s.schema bytes ≡ o
      → ((xs : List Tuple) → stream_in s.schema bytes ≡ Ok xs → GoesBy told read (more xs) (Done r) → Q) → GoesBy told read (after_stream number more o) (Done r) → Q
  stream_read s bytes number more read Q (Ok xs) said rest goes = rest xs said goes
  stream_read s bytes number more read Q (Err w) said rest goes = absurd (none_stops told read (status.BadStream number w.0 w.1) r goes)

  streams_read : (read : List (List ℕ × List ℕ)) (p : AcceptedReplay) (left : List Source) → list_all source_within left ≡ true → AllByRecursion IsStream p.sources
      → GoesBy told read (after_streams p left) (Done r) → AreStreamsOf p r
  streams_read [] p [] within h goes = all_read p r h (own p r goes)
  streams_read [] p (s ∷ left) within h goes = absurd (cc)
  streams_read (given ∷ read) p [] within h goes = absurd goes
  streams_read (given ∷ read) p (s ∷ left) within h goes =
      let both = and_true (source_within s) (list_all source_within left) within in
      stream_read s given.1 (length p.sources) (λ xs. after_streams (with_sources p (p.sources ++ xs ∷ [])) left) read (AreStreamsOf p r) (stream_in s.schema given.1) refl
      (λ xs said goes'. by (streams_read read (with_sources p (p.sources ++ xs ∷ [])) left both.1 (streams_more p.sources xs h (text_is_recorded s given.1 xs both.0 said).stream) goes')) goes.2
    where
      by : {xss : List (List Tuple)} → AreStreamsOf (with_sources p xss) r → AreStreamsOf p r
      by a = record { is = a.is; streams = a.streams }

  module _ (name : List ℕ) (from : ℕ) (net query : List ℕ × List ℕ) (read : List (List ℕ × List ℕ)) (n : Network) (first : network_in net.1 ≡ Ok n) where
    abbrev Answer : Type 0
    Answer = ShowsRead (net ∷ query ∷ read) name from r

    tap_read : (q : Network) (stream : ℕ) (o : Result Tapped TapErr) → network_in query.1 ≡ Ok q → stream_named n name ≡ Some stream → tapped n (Some stream) from q ≡ o
        → GoesBy told read (after_tap o) (Done r) → Answer
    tap_read q stream (Err e) second named said goes = absurd (none_stops told read (status.BadTap e) r goes)
    tap_read q stream (Ok t) second named said goes =
        let sound = network_sound net.1 n first in
        let asked = network_sound query.1 q second in
        let kept = tapped_sound n name from q t sound asked (ap (λ o. tapped n o from q) named ∙ said) in
        let all = streams_read read (tap_unread t) t.network.sources (sources_within t.network kept.within) tt goes in
        record {
          net = net;
          query = query;
          more = read;
          given = refl;
          network = n;
          asked = q;
          stream = stream;
          first = first;
          second = second;
          named = named;
          shows = subst (ShowsPart n q stream from) all.is (shows_part n q name stream from t r.sources sound asked all.streams named said);
        }

    named_read : (q : Network) → network_in query.1 ≡ Ok q → (o : Option ℕ) → stream_named n name ≡ o → GoesBy told read (after_tap (tapped n o from q)) (Done r) → Answer
    named_read q second None named goes = absurd (none_stops told read (status.BadTap error.NoStream) r goes)
    named_read q second (Some stream) named goes = tap_read q stream (tapped n (Some stream) from q) second named refl goes

    query_read : (o : Result Network NetErr) → network_in query.1 ≡ o → GoesBy told read (after_query n name from o) (Done r) → Answer
    query_read (Ok q) second goes = named_read q second (stream_named n name) refl goes
    query_read (Err e) second goes = absurd (none_stops told read (status.BadQuery e) r goes)

  net_read : (name : List ℕ) (from : ℕ) (query : List ℕ) (net : List ℕ × List ℕ) (read : List (List ℕ × List ℕ)) (o : Result Network NetErr) → network_in net.1 ≡ o
      → GoesBy told read (after_tapped name from query o) (Done r) → ShowsRead (net ∷ read) name from r
  net_read name from query net [] (Ok n) first goes = absurd (cc)
  net_read name from query net (given ∷ read) (Ok n) first goes = query_read name from net given read n first (network_in given.1) refl goes.2
  net_read name from query net read (Err e) first goes = absurd (none_stops told read (status.BadNetwork e) r goes)

  tap_goes : (net name : List ℕ) (from : ℕ) (query : List ℕ) (read : List (List ℕ × List ℕ)) → GoesBy told read (tap_script net name from query) (Done r) → ShowsRead read name from r
  tap_goes net name from query [] goes = absurd (cc)
  tap_goes net name from query (given ∷ read) goes = net_read name from query given read (network_in given.1) refl goes.2

pub taps_show : TapsShowParts
taps_show words net name tick history query told read r asked goes =
    tap_goes told r net name (first_tick tick history) query read (subst (λ c. GoesBy told read (after_words c) (Done r)) asked goes)
