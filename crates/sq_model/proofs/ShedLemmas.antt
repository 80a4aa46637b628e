-- The record and the answer at given levels are those of the replay.
use Rattle.std.proofs.Common.{◌≡◌, ℕ, zero, suc, ◌+◌, ◌-◌, ◌*◌, ◌/◌, ◌≤◌, ◌<◌, ◌^◌, Bool, true, false, not, cond, List, [], ◌∷◌, refl, ap, sym, ◌∙◌, subst, arith}
use Rattle.std.specs.Prelude.{nat_lt, ◌==◌, slice_get, Option, Some, None}
use Rattle.std.specs.List.{filter, list_any, range_with_len, AllByRecursion}
use Rattle.std.specs.Option.{option_map}
use Rattle.std.proofs.lemmas.Option.{slice_get-map}
use Rattle.sq_value.specs.declared.Tuple.{Tuple}
use Rattle.sq_words.specs.Lists.{numbers_to, contains_number, nth}
use Rattle.sq_value.specs.Values.{IsStream}
use Rattle.sq_graph.specs.Wires.{Arc, arcs_of, output_arc_at}
use Rattle.sq_place.specs.declared.DropAt.{DropAt}
use Rattle.sq_place.specs.declared.DropAt.TheVariants as place
use Rattle.sq_model.specs.FullStreams.{full_on, full_arc, full_streams}
use Rattle.sq_model.proofs.FullLemmas.{full_listed}
use Rattle.sq_model.proofs.StreamLemmas.{stream_at_number}
use Rattle.sq_road.specs.Levels.{LevelTable}
use Rattle.sq_road.specs.Draws.{draw_of}
use Rattle.sq_place.specs.declared.DropPoint.{DropPoint}
use Rattle.sq_model.specs.Shedding.{Replay, is_touched, last_of, batch_level, is_dropped, full_at, touched_batches, record_of, shown, answer_of}
use Rattle.sq_words.specs.Lists.{max_by}
use Rattle.sq_place.specs.Points.{until_of}
use Rattle.sq_model.specs.KeptTuples.{needed_until, needed, kept_of}
use Rattle.sq_model.specs.GivenLevels.{needed_by, kept_by, drops_at, record_by, AreTicks, LevelsAre, shown_without}
use Rattle.sq_model.specs.declared.known.Known.{Known}
use Rattle.sq_model.specs.KnownStreams.{streams_in, stream_or_none, arc_in, stream_at_place, IsSafe, IsKnown}
use Rattle.sq_model.proofs.PlacedLemmas.{placed_of}
use Rattle.sq_model.proofs.BatchLemmas.{last_low, batch_begins, epochs_up}
use Rattle.sq_words.proofs.Alls.{all_weaker}
use Rattle.sq_words.proofs.Lists.{filter_agree}
use Rattle.sq_points.specs.Above.{first_drop, drop_above_output, drop_above_arc, distance_of}

-- a stream's times are ticks
pub stream_ticks : (xs : List Tuple) → IsStream xs → AreTicks xs
stream_ticks [] h = tt
stream_ticks (x ∷ []) h = (h, tt)
stream_ticks (x ∷ y ∷ rest) h = let more = stream_ticks (y ∷ rest) h.1 in (let low = h.0 in let next = more.0 in omega (arith, low, next), more)

-- what holds of the numbers up to one holds of those that pass a test
up_to : (P : ℕ → Type 0) (t : ℕ → Bool) (m : ℕ) → ((b : ℕ) → b ≤ m → P b) → (a n : ℕ) → a + n ≤ m + 1 → AllByRecursion P (filter t (range_with_len a n))
up_to P t m f a zero h = tt
up_to P t m f a (suc n) h = by (t a) (up_to P t m f (a + 1) n (omega (arith, h)))
  where
    by : (c : Bool) → AllByRecursion P (filter t (range_with_len (a + 1) n)) → AllByRecursion P (cond c (a ∷ filter t (range_with_len (a + 1) n)) (filter t (range_with_len (a + 1) n)))
    by true more = (f a (omega (arith, h)), more)
    by false more = more

module _ (r : Replay) (table : LevelTable) (levels : LevelsAre table r) (known : 2 ^ 40 / table.epoch < table.closed) (lasts : 1 ≤ table.epoch) (w : ℕ) (p : DropPoint) where
  drops_same : (b : ℕ) → b * p.length < 2 ^ 40 → drops_at table r.seed w p b ≡ is_dropped r w p b
  drops_same b low =
      let up = epochs_up (b * p.length) (2 ^ 40) table.epoch lasts (omega (arith, low)) in
      ap (nat_lt (draw_of r.seed w b))
      (sym (levels.agrees (b * p.length / table.epoch) w (omega (arith, up, known))) ∙ ap (λ e. batch_level r (b * p.length / e) w) levels.epoch)

  pub record_is : AreTicks (full_at r p.at) → record_by table r.seed w p (full_at r p.at) ≡ record_of r w p
  record_is ticks =
      filter_agree (drops_at table r.seed w p) (is_dropped r w p) (touched_batches r p)
      (up_to (λ b. drops_at table r.seed w p b ≡ is_dropped r w p b) (is_touched p (full_at r p.at)) (last_of (full_at r p.at) / p.length)
      (λ b le. let begins = batch_begins b (last_of (full_at r p.at)) p.length le in let low = last_low (full_at r p.at) ticks in drops_same b (omega (arith, begins, low)))
      0 (last_of (full_at r p.at) / p.length + 1) (omega arith))

pub known_by : (t : List Tuple) (epoch closed : ℕ) → AreTicks t → 1 ≤ epoch → 2 ^ 40 / epoch < closed → last_of t / epoch < closed
known_by t epoch closed ticks lasts known = let low = last_low t ticks in let up = epochs_up (last_of t) (2 ^ 40) epoch lasts (omega (arith, low)) in omega (arith, up, known)

-- ---- what is kept

up_to_all : (P : ℕ → Type 0) (m : ℕ) → ((b : ℕ) → b ≤ m → P b) → (a n : ℕ) → a + n ≤ m + 1 → AllByRecursion P (range_with_len a n)
up_to_all P m f a zero h = tt
up_to_all P m f a (suc n) h = (f a (omega (arith, h)), up_to_all P m f (a + 1) n (omega (arith, h)))

module _ (r : Replay) (table : LevelTable) (levels : LevelsAre table r) (known : 2 ^ 40 / table.epoch < table.closed) (lasts : 1 ≤ table.epoch) (w : ℕ) (p : DropPoint) where
  needed_is : (t : ℕ) → t < 2 ^ 40 → needed_by table r.seed w p (t / p.length) ≡ needed_until r w p t
  needed_is t low =
      ap (max_by (until_of p))
      (filter_agree (λ b. not (drops_at table r.seed w p b)) (λ b. not (is_dropped r w p b)) (numbers_to (t / p.length + 1))
      (up_to_all (λ b. not (drops_at table r.seed w p b) ≡ not (is_dropped r w p b)) (t / p.length)
      (λ b le. let begins = batch_begins b t p.length le in ap not (drops_same r table levels known lasts w p b (omega (arith, begins, low))))
      0 (t / p.length + 1) (omega arith)))

  pub kept_is : (a : ℕ) (xs : List Tuple) → AreTicks xs → kept_by table r.seed w p (distance_of p a) xs ≡ needed r (Some (w, p)) a xs
  kept_is a xs ticks =
      filter_agree (λ x. nat_lt x.time (needed_by table r.seed w p (x.time / p.length) - distance_of p a)) (λ x. nat_lt x.time (needed_until r w p x.time - distance_of p a)) xs
      (all_weaker (λ (x : Tuple). x.time < 2 ^ 40) (λ (x : Tuple). nat_lt x.time (needed_by table r.seed w p (x.time / p.length) - distance_of p a) ≡ nat_lt x.time (needed_until r w p x.time - distance_of p a))
      (λ x low. ap (λ k. nat_lt x.time (k - distance_of p a)) (needed_is x.time low)) xs ticks)

-- ---- of what is known of a replay

stream_is : (k : Known) → IsSafe k → (s : ℕ) → IsStream (nth (streams_in k) s)
stream_is k safe s = stream_at_number (streams_in k) s safe.streams

arc_is_stream : (k : Known) → IsSafe k → (a : ℕ) → IsStream (arc_in k a)
arc_is_stream k safe a = by (slice_get k.arcs.items a)
  where
    by : (o : Option ℕ) → IsStream (stream_or_none (streams_in k) o)
    by None = tt
    by (Some s) = stream_is k safe s

pub arc_ticks : (k : Known) → IsSafe k → (a : ℕ) → AreTicks (arc_in k a)
arc_ticks k safe a = stream_ticks (arc_in k a) (arc_is_stream k safe a)

pub place_stream : (k : Known) → IsSafe k → (at : DropAt) → IsStream (stream_at_place k at)
place_stream k safe (place.Stream s) = stream_is k safe s
place_stream k safe (place.Arc a) = arc_is_stream k safe a

pub place_ticks : (k : Known) → IsSafe k → (at : DropAt) → AreTicks (stream_at_place k at)
place_ticks k safe at = stream_ticks (stream_at_place k at) (place_stream k safe at)

module _ (k : Known) (r : Replay) (known : IsKnown k r) where
  pub arc_is : (a : ℕ) → arc_in k a ≡ full_arc r.network r.sources a
  arc_is a =
      ap (λ (ss : List (List Tuple)). stream_or_none ss (slice_get k.arcs.items a)) known.streams
      ∙ ap (λ (as' : List ℕ). stream_or_none (full_streams r.network r.sources) (slice_get as' a)) known.arcs
      ∙ ap (stream_or_none (full_streams r.network r.sources)) (slice_get-map (λ (x : Arc). x.stream) (arcs_of r.network.wires) a)
      ∙ by (slice_get (arcs_of r.network.wires) a)
    where
      by : (o : Option Arc) → stream_or_none (full_streams r.network r.sources) (option_map (λ (x : Arc). x.stream) o) ≡ full_on r.network r.sources o
      by None = refl
      by (Some x) = full_listed r.network r.sources (placed_of r.network known.sound) x.stream

  pub place_is : (at : DropAt) → stream_at_place k at ≡ full_at r at
  place_is (place.Stream s) = ap (λ (ss : List (List Tuple)). nth ss s) known.streams ∙ full_listed r.network r.sources (placed_of r.network known.sound) s
  place_is (place.Arc a) = arc_is a

  module _ (safe : IsSafe k) (lasts : 1 ≤ k.levels.epoch) (w : ℕ) (p : DropPoint) where
    pub record_known : record_by k.levels k.seed w p (stream_at_place k p.at) ≡ record_of r w p
    record_known =
        ap (λ s. record_by k.levels s w p (stream_at_place k p.at)) known.seed
        ∙ ap (record_by k.levels r.seed w p) (place_is p.at)
        ∙ record_is r k.levels known.levels safe.closed lasts w p (subst AreTicks (place_is p.at) (place_ticks k safe p.at))

    pub answer_shown : (o : ℕ) (dropped : List ℕ) → drop_above_output r.network o ≡ Some (w, p) → dropped ≡ record_of r w p
        → shown_without p dropped (arc_in k (output_arc_at r.network.wires o)) ≡ answer_of r o
    answer_shown o dropped above same =
        ap (λ z. shown_without p z (arc_in k (output_arc_at r.network.wires o))) same
        ∙ ap (shown_without p (record_of r w p)) (arc_is (output_arc_at r.network.wires o))
        ∙ sym (ap (λ z. shown r z (full_arc r.network r.sources (output_arc_at r.network.wires o))) above)

    pub kept_known : (a : ℕ) → drop_above_arc r.network a ≡ Some (w, p) → kept_by k.levels k.seed w p (distance_of p a) (arc_in k a) ≡ kept_of r a
    kept_known a above =
        ap (λ s. kept_by k.levels s w p (distance_of p a) (arc_in k a)) known.seed
        ∙ ap (kept_by k.levels r.seed w p (distance_of p a)) (arc_is a)
        ∙ kept_is r k.levels known.levels safe.closed lasts w p a (full_arc r.network r.sources a) (subst AreTicks (arc_is a) (arc_ticks k safe a))
        ∙ sym (ap (λ z. needed r z a (full_arc r.network r.sources a)) above)

  pub answer_plain : (o : ℕ) → drop_above_output r.network o ≡ None → arc_in k (output_arc_at r.network.wires o) ≡ answer_of r o
  answer_plain o none = arc_is (output_arc_at r.network.wires o) ∙ sym (ap (λ z. shown r z (full_arc r.network r.sources (output_arc_at r.network.wires o))) none)

  pub kept_plain : (a : ℕ) → drop_above_arc r.network a ≡ None → arc_in k a ≡ kept_of r a
  kept_plain a none = arc_is a ∙ sym (ap (λ z. needed r z a (full_arc r.network r.sources a)) none)

  -- a drop that is found among the known points is above
  pub found_output : (ps : List DropPoint) (o : ℕ) (x : Option (ℕ × DropPoint)) → ps ≡ k.points.items → first_drop (λ p. contains_number p.outputs o) 0 ps ≡ x → drop_above_output r.network o ≡ x
  found_output ps o x same found = ap (first_drop (λ p. contains_number p.outputs o) 0) (sym known.points ∙ sym same) ∙ found

  pub found_arc : (ps : List DropPoint) (a : ℕ) (x : Option (ℕ × DropPoint)) → ps ≡ k.points.items → first_drop (λ p. list_any (λ d. d.0 == a) p.reach) 0 ps ≡ x → drop_above_arc r.network a ≡ x
  found_arc ps a x same found = ap (first_drop (λ p. list_any (λ d. d.0 == a) p.reach) 0) (sym known.points ∙ sym same) ∙ found
