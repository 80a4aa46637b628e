-- What a run of a replay is to write is what the verdict asks for.
use Rattle.std.proofs.Common.{◌≡◌, ℕ, zero, suc, ◌+◌, ◌*◌, ◌/◌, ◌%◌, ◌<◌, ◌≤◌, Bool, true, false, not, ◌&&◌, cond, List, [], ◌∷◌, ◌++◌, length, map, refl, ap, sym, ◌∙◌, subst, arith, append_assoc, append-nil, Option, Some, None}
use Rattle.std.specs.Prelude.{slice_get, nat_lt, nat_le}
use Rattle.std.specs.List.{All, AllByRecursion, filter, enumerate_from, range_with_len}
use Rattle.std.proofs.lemmas.Bool.Decides.{nat_tests}
use Rattle.std.proofs.lemmas.Grind.{flat_map-append}
use Rattle.std.proofs.lemmas.Option.{slice_get_within}
use Rattle.sq_value.specs.declared.Tuple.{Tuple}
use Rattle.sq_words.specs.Lists.{are_distinct, max_by, numbers_to, contains_number}
use Rattle.sq_value.specs.Values.{IsStream}
use Rattle.sq_lines.specs.LineTexts.{drop_line, output_line}
use Rattle.sq_lines.specs.Classes.{whole_lines}
use Rattle.sq_graph.specs.Wires.{Arc, arcs_of, output_arc_at}
use Rattle.sq_place.specs.declared.DropAt.{DropAt}
use Rattle.sq_place.specs.declared.DropAt.TheVariants as at
use Rattle.sq_place.specs.declared.DropPoint.{DropPoint}
use Rattle.sq_net.specs.declared.Output.{Output}
use Rattle.sq_net.specs.SoundNetworks.{IsSound}
use Rattle.sq_points.specs.Limits.{KeepsDropLimits}
use Rattle.sq_points.specs.Points.{drops_in, points_of}
use Rattle.sq_model.specs.FullStreams.{full_arc, full_on, full_stream, full_streams}
use Rattle.sq_model.specs.GivenLevels.{AreTicks}
use Rattle.sq_model.specs.Shedding.{Replay, epoch_of, batch_level, is_dropped, is_touched, full_at, last_of, record_of, shown}
use Rattle.sq_model.specs.PlanLines.{drop_lines}
use Rattle.sq_model.proofs.BatchLemmas.{last_low, batch_small}
use Rattle.sq_model.proofs.FullLemmas.{full_listed}
use Rattle.sq_model.proofs.PlacedLemmas.{placed_of}
use Rattle.sq_model.proofs.ShedLemmas.{stream_ticks}
use Rattle.sq_model.proofs.StreamLemmas.{full_are_streams, stream_at_number}
use Rattle.sq_verdict.specs.declared.verdict.Verdict.TheVariants as verdict
use Rattle.sq_verdict.specs.Faults.{batch_of, drop_told_in, recorded, batch_rises, is_level, verdict_on}
use Rattle.sq_verdict.specs.Wanting.{shown_of}
use Rattle.sq_wanted.specs.Showing.{is_left, shown_one}
use Rattle.sq_verdict.specs.WholeTexts.{AreEnds, Expected, IsWhole}
use Rattle.sq_verdict.proofs.Accepts.{recorded_of_class, whole_is_yes}
use Rattle.sq_verdict.proofs.DropLines.{IsTick, drops_have_class, read_back}
use Rattle.sq_audit.specs.Audits.{above_of, audit_of, wanted_of, wanted_one}
use Rattle.sq_audit.specs.Laws.{AcceptsWhole, answer_lines, due_for, record_lines}
use Rattle.sq_audit.proofs.AuditLemmas.{above_there, measured_at, outputs_even, points_few, stream_of_arc}
use Rattle.sq_audit.proofs.LevelBounds.{levels-low, levels-whole}
use Rattle.sq_verdict.proofs.WholeWords.{AreDrops, IsSoundDue}
use Rattle.sq_words.proofs.Lists.{max_one, filter_both}
use Rattle.sq_words.proofs.Bools.{and_second}
use Rattle.sq_points.specs.Above.{drop_above_output}

-- ---- numbers that rise

abbrev Rises : ℕ → List ℕ → Type 0
Rises low [] = Unit {0}
Rises low (b ∷ bs) = (low ≤ b) × Rises (b + 1) bs

rises_lower : (low high : ℕ) (bs : List ℕ) → low ≤ high → Rises high bs → Rises low bs
rises_lower low high [] le h = tt
rises_lower low high (b ∷ bs) le h = (let first = h.0 in omega (arith, le, first), h.1)

rises_filter : (t : ℕ → Bool) (low n : ℕ) → Rises low (filter t (range_with_len low n))
rises_filter t low zero = tt
rises_filter t low (suc n) = by (t low) (rises_filter t (low + 1) n)
  where
    by : (c : Bool) → Rises (low + 1) (filter t (range_with_len (low + 1) n)) → Rises low (cond c (low ∷ filter t (range_with_len (low + 1) n)) (filter t (range_with_len (low + 1) n)))
    by true more = (omega arith, more)
    by false more = rises_lower low (low + 1) (filter t (range_with_len (low + 1) n)) (omega arith) more

module _ (drops w : ℕ) (level_at : ℕ → ℕ) (inside : w < drops) (w_small : IsTick w) where
  abbrev line_at : ℕ → List ℕ
  line_at b = drop_line w b (level_at b)

  abbrev IsGood : ℕ → Type 0
  IsGood b = IsTick b × IsTick (level_at b) × (is_level (level_at b) ≡ true)

  good_line : (b : ℕ) → IsGood b → drop_told_in drops (line_at b) ≡ Some (w, b)
  good_line b g = read_back w b (level_at b) w_small g.0 g.1 drops inside g.2

  own_batch : (b : ℕ) → batch_of w (Some (w, b)) ≡ b ∷ []
  own_batch b = grind (arith, nat_tests)

  recorded_back : (bs : List ℕ) → AllByRecursion IsGood bs → recorded drops (map line_at bs) w ≡ bs
  recorded_back [] g = refl
  recorded_back (b ∷ bs) g =
      ap (λ o. batch_of w o ++ recorded drops (map line_at bs) w) (good_line b g.0)
      ∙ ap (λ x. x ++ recorded drops (map line_at bs) w) (own_batch b)
      ∙ ap (λ x. b ∷ x) (recorded_back bs g.1)

  nat_le-true : (a b : ℕ) → a ≤ b → nat_le a b ≡ true
  nat_le-true a b h = grind (arith, nat_tests, h)

  recorded_one : (done : List (List ℕ)) (b : ℕ) → IsGood b → recorded drops (done ++ (line_at b ∷ [])) w ≡ recorded drops done w ++ (b ∷ [])
  recorded_one done b g =
      flat_map-append (λ l. batch_of w (drop_told_in drops l)) done (line_at b ∷ [])
      ∙ ap (λ x. recorded drops done w ++ x) (recorded_back (b ∷ []) (g, tt))

  abbrev Goal : List (List ℕ) → List (List ℕ) → List ℕ → Type 0
  Goal done front l = (b : ℕ) × (drop_told_in drops l ≡ Some (w, b)) × (batch_rises drops (done ++ front) (Some (w, b)) ≡ true)

  same_head : {X : Type 0} (x y : X) (xs ys : List X) → x ∷ xs ≡ y ∷ ys → (x ≡ y) × (xs ≡ ys)
  same_head x y xs ys e = (cc, cc)

  drops_from : (done : List (List ℕ)) (low : ℕ) (bs : List ℕ) → AllByRecursion IsGood bs → max_by (λ k. k + 1) (recorded drops done w) ≤ low → Rises low bs
      → (front : List (List ℕ)) (l : List ℕ) (back : List (List ℕ)) → map line_at bs ≡ front ++ (l ∷ back) → Goal done front l
  drops_from done low [] g le up [] l back e = cc
  drops_from done low [] g le up (x ∷ front) l back e = cc
  drops_from done low (b ∷ bs) g le up [] l back e =
      let same = (same_head (line_at b) l (map line_at bs) back e).0 in
      let first = up.0 in (
        b,
        ap (drop_told_in drops) (sym same) ∙ good_line b g.0,
        ap (λ x. batch_rises drops x (Some (w, b))) (append-nil done) ∙ nat_le-true (max_by (λ k. k + 1) (recorded drops done w)) b (omega (arith, le, first)),
      )
  drops_from done low (b ∷ bs) g le up (x ∷ front) l back e =
      let same = same_head (line_at b) x (map line_at bs) (front ++ (l ∷ back)) e in
      let first = up.0 in
      let most = ap (max_by (λ k. k + 1)) (recorded_one done b g.0) ∙ max_one (recorded drops done w) b in
      let more = drops_from (done ++ (line_at b ∷ [])) (b + 1) bs g.1 (omega (arith, most, le, first)) up.1 front l back same.1 in
      subst (λ y. Goal y l) (append_assoc done (line_at b ∷ []) front ∙ ap (λ y. done ++ (y ∷ front)) same.0) more
    where
      Goal : List (List ℕ) → List ℕ → Type 0
      Goal y l = (b : ℕ) × (drop_told_in drops l ≡ Some (w, b)) × (batch_rises drops y (Some (w, b)) ≡ true)

  pub are_drops : (bs : List ℕ) → AllByRecursion IsGood bs → Rises 0 bs → AreDrops drops w (map line_at bs)
  are_drops bs g up front l back e = drops_from [] 0 bs g (omega arith) up front l back e

-- ---- a replay

level_fits : (level : ℕ) → level % 50 ≡ 0 → 0 < level → level ≤ 1000 → is_level level ≡ true
level_fits level whole some most =
    let least : 50 ≤ level = omega (arith, whole, some) in
    grind (arith, nat_tests, whole, least, most)

drawn_below : (draw level : ℕ) → nat_lt draw level ≡ true → 0 < level
drawn_below draw level h = grind (arith, nat_tests, h)

-- what holds of the numbers up to one that pass a test holds of the filter
kept_by : (P : ℕ → Type 0) (t : ℕ → Bool) (m : ℕ) → ((b : ℕ) → b ≤ m → t b ≡ true → P b) → (a n : ℕ) → a + n ≤ m + 1 → AllByRecursion P (filter t (range_with_len a n))
kept_by P t m f a zero h = tt
kept_by P t m f a (suc n) h = by (t a) refl (kept_by P t m f (a + 1) n (omega (arith, h)))
  where
    by : (c : Bool) → t a ≡ c → AllByRecursion P (filter t (range_with_len (a + 1) n)) → AllByRecursion P (cond c (a ∷ filter t (range_with_len (a + 1) n)) (filter t (range_with_len (a + 1) n)))
    by true e more = (f a (omega (arith, h)) e, more)
    by false e more = more

no_drops : (k w : ℕ) → AreDrops k w []
no_drops k w [] l back e = cc
no_drops k w (x ∷ front) l back e = cc

-- the names of outputs with numbers are those of the outputs
names_same : (f : ℕ × Output → List (List ℕ)) (k : ℕ) (os : List Output) → map (λ (o : List ℕ × List (List ℕ)). o.0) (map (λ (o : ℕ × Output). ((o.1).name, f o)) (enumerate_from k os)) ≡ map (λ (o : Output). o.name) os
names_same f k [] = refl
names_same f k (o ∷ os) = ap (λ x. o.name ∷ x) (names_same f (k + 1) os)

-- below no drop all is left
all_left : (record_at : ℕ → List ℕ) (xs : List Tuple) → filter (is_left record_at None) xs ≡ xs
all_left record_at [] = refl
all_left record_at (x ∷ xs) = ap (λ ys. x ∷ ys) (all_left record_at xs)

module _ (r : Replay) (sound : IsSound r.network) (limits : KeepsDropLimits r.network) (streams : All IsStream r.sources) where
  abbrev points : List DropPoint
  points = points_of r.network

  abbrev drops : ℕ
  drops = drops_in r.network

  is_stream : (s : ℕ) → IsStream (full_stream r.network r.sources s)
  is_stream s = subst IsStream (full_listed r.network r.sources (placed_of r.network sound) s) (stream_at_number (full_streams r.network r.sources) s (full_are_streams r.network r.sources streams))

  ticks_on : (a : Option Arc) → AreTicks (full_on r.network r.sources a)
  ticks_on None = tt
  ticks_on (Some a) = stream_ticks (full_stream r.network r.sources a.stream) (is_stream a.stream)

  ticks_at : (place : DropAt) → AreTicks (full_at r place)
  ticks_at (at.Stream s) = stream_ticks (full_stream r.network r.sources s) (is_stream s)
  ticks_at (at.Arc a) = ticks_on (slice_get (arcs_of r.network.wires) a)

  module _ (w : ℕ) (p : DropPoint) (there : slice_get points w ≡ Some p) where
    abbrev level_at : ℕ → ℕ
    level_at b = batch_level r (epoch_of r (b * p.length)) w

    inside : w < drops
    inside = slice_get_within points w p there

    w_small : IsTick w
    w_small = let i = inside in let f = points_few r.network sound in omega (arith, i, f)

    abbrev full : List Tuple
    full = full_at r p.at

    abbrev test : ℕ → Bool
    test b = is_touched p full b && is_dropped r w p b

    record_filter : record_of r w p ≡ filter test (numbers_to (last_of full / p.length + 1))
    record_filter = filter_both (is_touched p full) (is_dropped r w p) (numbers_to (last_of full / p.length + 1))

    good : (b : ℕ) → b ≤ last_of full / p.length → test b ≡ true → IsGood drops w level_at inside w_small b
    good b le passes =
        let low = last_low full (ticks_at p.at) in
        let dropped = and_second (is_touched p full b) (is_dropped r w p b) passes in
        let most = levels-low r (epoch_of r (b * p.length)) w in (
          batch_small b (last_of full) p.length (measured_at r.network sound limits w p there).least le low,
          omega (arith, most),
          level_fits (level_at b) (levels-whole r (epoch_of r (b * p.length)) w) (drawn_below _ (level_at b) dropped) most,
        )

    all_good : AllByRecursion (IsGood drops w level_at inside w_small) (record_of r w p)
    all_good = subst (λ bs. AllByRecursion (IsGood drops w level_at inside w_small) bs) (sym record_filter)
        (kept_by (IsGood drops w level_at inside w_small) test (last_of full / p.length) good 0 (last_of full / p.length + 1) (omega arith))

    record_rises : Rises 0 (record_of r w p)
    record_rises = subst (λ bs. Rises 0 bs) (sym record_filter) (rises_filter test 0 (last_of full / p.length + 1))

    lines_are_drops : AreDrops drops w (drop_lines r w p)
    lines_are_drops = are_drops drops w level_at inside w_small (record_of r w p) all_good record_rises

    -- what the lines of a drop record is its record
    lines_record : recorded drops (drop_lines r w p) w ≡ record_of r w p
    lines_record = recorded_back drops w level_at inside w_small (record_of r w p) all_good

  module _ (ended : List (List ℕ)) (ends : AreEnds ended) where
    abbrev d : Expected
    d = due_for r ended

    drops_at : (w : ℕ) (o : Option DropPoint) → slice_get points w ≡ o → AreDrops drops w (record_lines r w o)
    drops_at w None e = no_drops drops w
    drops_at w (Some p) e = lines_are_drops w p e

    due_is_sound : IsSoundDue d
    due_is_sound = record {
      distinct = ap are_distinct (names_same (λ o. (answer_lines r o).1) 0 r.network.outputs) ∙ sound.distinct;
      dropped = λ w low. drops_at w (slice_get points w) refl;
      ended = ends;
    }

    module _ (text : List ℕ) (h : IsWhole d text) where
      abbrev ls : List (List ℕ)
      ls = whole_lines text

      abbrev record_at : ℕ → List ℕ
      record_at w = recorded drops ls w

      -- the text records what is dropped
      records : (w : ℕ) (p : DropPoint) → slice_get points w ≡ Some p → record_at w ≡ record_of r w p
      records w p there =
          sym (recorded_of_class drops (drops_have_class drops) w ls)
          ∙ ap (λ x. recorded drops x w) (h.dropped w (inside w p there) ∙ ap (record_lines r w) there)
          ∙ lines_record w p there

      left_same : (o : Option (ℕ × DropPoint)) (xs : List Tuple) → ((e : ℕ × DropPoint) → o ≡ Some e → slice_get points e.0 ≡ Some e.1) → filter (is_left record_at (above_of o)) xs ≡ shown r o xs
      left_same None xs there = all_left record_at xs
      left_same (Some e) xs there =
          ap (λ (bs : List ℕ). filter (λ (x : Tuple). not (contains_number bs (x.time / (e.1).length))) xs) (records e.0 e.1 (there e refl))

      output_same : (k : ℕ) (o : Output) → k < length r.network.wires.outputs → shown_one record_at (full_streams r.network r.sources) (wanted_one r.network (k, o)) ≡ answer_lines r (k, o)
      output_same k o inside =
          ap (λ (xs : List Tuple). (o.name, map (output_line o.name) xs))
          (ap (filter (is_left record_at (above_of (drop_above_output r.network k)))) (stream_of_arc r.network r.sources sound k inside)
          ∙ left_same (drop_above_output r.network k) (full_arc r.network r.sources (output_arc_at r.network.wires k)) (above_there r.network k))

      all_same : (k : ℕ) (os : List Output) → k + length os ≤ length r.network.wires.outputs
          → shown_of record_at (full_streams r.network r.sources) (map (wanted_one r.network) (enumerate_from k os)) ≡ map (answer_lines r) (enumerate_from k os)
      all_same k [] le = refl
      all_same k (o ∷ os) le =
          ap (λ x. x ∷ shown_of record_at (full_streams r.network r.sources) (map (wanted_one r.network) (enumerate_from (k + 1) os))) (output_same k o (omega (arith, le)))
          ∙ ap (λ xs. answer_lines r (k, o) ∷ xs) (all_same (k + 1) os (omega (arith, le)))

      shown_same : shown_of record_at (full_streams r.network r.sources) (wanted_of r.network) ≡ d.shown
      shown_same = all_same 0 r.network.outputs (let even = outputs_even r.network sound in omega (arith, even))

      pub run_is_yes : audit_of r.network r.sources text ≡ verdict.Yes
      run_is_yes = ap (λ x. verdict_on x drops text) shown_same ∙ whole_is_yes d text (drops_have_class drops) due_is_sound h

pub accepts_whole : AcceptsWhole
accepts_whole r ended text sound limits streams ends h = run_is_yes r sound limits streams ended ends text h
