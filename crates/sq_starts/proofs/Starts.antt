-- The times of an output below a drop are starts of windows: by induction along the boxes.
use Rattle.std.proofs.Common.{◌≡◌, ◌≢◌, ◌⊎◌, inl, inr, ℕ, zero, suc, ◌+◌, ◌≤◌, ◌<◌, eqb, leb, ltb, Bool, true, false, cond, not, ◌&&◌, List, [], ◌∷◌, map, length, Option, Some, None, refl, ap, sym, ◌∙◌, subst, arith}
use Rattle.std.specs.Prelude.{slice_get, is_some}
use Rattle.std.specs.Option.{option_map}
use Rattle.std.specs.List.{flat_map, list_any, list_all, AllByRecursion}
use Rattle.std.proofs.lemmas.Bool.{or_left, or_right}
use Rattle.std.proofs.lemmas.Bool.Decides.{nat_tests}
use Rattle.std.proofs.lemmas.Option.{slice_get-map}
use Rattle.std.proofs.lemmas.List.FromFn.{length-map-range_with_len}
use Rattle.sq_value.specs.declared.Tuple.{Tuple}
use Rattle.sq_words.specs.Lists.{contains_number, nth, numbers_to}
use Rattle.sq_words.proofs.Alls.{all_weaker}
use Rattle.sq_words.proofs.Bools.{and_second}
use Rattle.sq_words.proofs.Lists.{contains_filter}
use Rattle.sq_aggfn.specs.declared.WindowSpec.{WindowSpec}
use Rattle.sq_aggfn.specs.Windows.{start_of}
use Rattle.sq_aggfn.specs.Functions.{answers_of}
use Rattle.sq_lists.specs.Windows.{aggregate_of, in_window}
use Rattle.sq_graph.specs.declared.BoxKind.TheVariants as boxes
use Rattle.sq_graph.specs.declared.BoxWires.{BoxWires}
use Rattle.sq_graph.specs.Wires.{arc_at, input_arcs_of, inputs_of, output_arc_at}
use Rattle.sq_place.specs.declared.DropAt.{DropAt}
use Rattle.sq_place.specs.declared.DropPoint.{DropPoint}
use Rattle.sq_place.specs.Places.{bare_through, box_of, box_passes_marks, boxes_below, is_bare, is_candidate, is_reached, outputs_below, passes_marks, window_at, window_if}
use Rattle.sq_place.specs.Ranks.{Somewhere}
use Rattle.sq_place.proofs.Climbs.{Enough, enough-before, producer_at}
use Rattle.sq_place.proofs.Lists.{all-contains}
use Rattle.sq_place.proofs.Paths.{IsBelow, bare-fixed, bares, below, owns}
use Rattle.sq_place.proofs.Wires.{arcs-rise}
use Rattle.sq_net.specs.declared.Network.{Network}
use Rattle.sq_net.specs.declared.Node.{Node}
use Rattle.sq_net.specs.declared.Body.{Body}
use Rattle.sq_net.specs.declared.Body.TheVariants as body
use Rattle.sq_net.specs.SoundNetworks.{IsSound}
use Rattle.sq_points.specs.Points.{points_of, window_in, windows_of}
use Rattle.sq_model.specs.FullStreams.{box_list, box_list_at, full_arc}
use Rattle.sq_model.specs.Shedding.{Replay}
use Rattle.sq_below.proofs.Apart.{place-of}
use Rattle.sq_below.proofs.ArcWords.{AllTimes}
use Rattle.sq_below.proofs.BoxSteps.{box-times, no-marks}
use Rattle.sq_below.proofs.Carries.{Somewhere-left, Somewhere-right, Within, any-within, node-there}
use Rattle.sq_below.proofs.FromSound.{ranks-of}
use Rattle.sq_below.proofs.Nearness.{times-aggregate}
use Rattle.sq_below.proofs.RankWords.{BodyFits, HasRanks}
use Rattle.sq_below.proofs.Regions.{each-within}
use Rattle.sq_below.proofs.Shown.{first-passes}
use Rattle.sq_below.proofs.Streams.{full-arc-fixed}
use Rattle.sq_starts.specs.LastAggregates.{StartsWindow, TimesAreStarts, lasts_at, lasts_behind, lasts_by, lasts_of, lasts_within}

-- ---- lists

-- what holds of all holds of one
of-one : {X : Type 0} (P : X → Type 0) (x : X) (xs : List X) → Somewhere (λ y. y ≡ x) xs → AllByRecursion P xs → P x
of-one P x [] i all = absurd i
of-one P x (y ∷ ys) (inl e) all = subst P e all.0
of-one P x (y ∷ ys) (inr i) all = of-one P x ys i all.1

some-joined : (P : ℕ → Type 0) (f : ℕ → List ℕ) (c : ℕ) (xs : List ℕ) → Within xs c → Somewhere P (f c) → Somewhere P (flat_map f xs)
some-joined P f c [] i h = absurd i
some-joined P f c (x ∷ xs) (inl e) h = Somewhere-left P (f x) (flat_map f xs) (subst (λ z. Somewhere P (f z)) (sym e) h)
some-joined P f c (x ∷ xs) (inr i) h = Somewhere-right P (f x) (flat_map f xs) (some-joined P f c xs i h)

-- an item of which it holds, among the numbers of the list
found : (P : ℕ → Type 0) (xs : List ℕ) → Somewhere P xs → (c : ℕ) × (contains_number xs c ≡ true) × P c
found P [] i = absurd i
found P (x ∷ xs) (inl p) = (x, or_left (eqb x x) (contains_number xs x) (same x), p)
  where
    same : (a : ℕ) → eqb a a ≡ true
    same a = grind (arith, nat_tests)
found P (x ∷ xs) (inr i) = let m = found P xs i in (m.0, or_right (eqb x m.0) (contains_number xs m.0) m.1, m.2)

some-item : (t : ℕ → Bool) (xs : List ℕ) → list_any t xs ≡ true → 1 ≤ length xs
some-item t [] h = absurd (cc h)
some-item t (x ∷ xs) h = omega arith

-- the first of the lists of some numbers
first-list : {X : Type 0} (F : ℕ → List X) (g : ℕ → ℕ) (m : ℕ) → 1 ≤ m → nth (map F (map g (numbers_to m))) 0 ≡ F (g 0)
first-list F g zero le = absurd (omega (arith, le))
first-list F g (suc m) le = refl

-- ---- windows

covered : (s t size : ℕ) → s ≤ t → t < s + size → (leb s t && ltb t (s + size)) ≡ true
covered s t size low high = grind (arith, nat_tests, low, high)

-- a window in which a tuple lies isn't empty
filled : (v : WindowSpec) (s : ℕ) (xs : List Tuple) → Somewhere (λ x. (s ≤ x.time) × (x.time < s + v.size)) xs → in_window v s xs ≢ []
filled v s [] i e = i
filled v s (x ∷ xs) i e = by (filled v s xs) (leb s x.time && ltb x.time (s + v.size)) refl i e
  where
    by : (Somewhere (λ (y : Tuple). (s ≤ y.time) × (y.time < s + v.size)) xs → in_window v s xs ≢ []) → (b : Bool) → (leb s x.time && ltb x.time (s + v.size)) ≡ b
        → Somewhere (λ (y : Tuple). (s ≤ y.time) × (y.time < s + v.size)) (x ∷ xs) → cond b (x ∷ in_window v s xs) (in_window v s xs) ≡ [] → ⊥
    by more true is i e = cc e
    by more false is (inl h) e = let no : true ≡ false = sym (covered s x.time v.size h.0 h.1) ∙ is in cc no
    by more false is (inr i) e = more i e

-- the results of an Aggregate begin at starts of windows that aren't empty
results-start : (P : ℕ → Type 0) (b : Body) (v : WindowSpec) (q : ℕ) (ins : List (List Tuple)) → window_in b ≡ Some v
    → ((k : ℕ) → in_window v (start_of v k) (nth ins 0) ≢ [] → P (start_of v k)) → AllTimes P (box_list b q ins)
results-start P (body.Filter ps) v q ins e h = absurd (cc e)
results-start P (body.Map es) v q ins e h = absurd (cc e)
results-start P body.Union v q ins e h = absurd (cc e)
results-start P (body.BSort by slack) v q ins e h = absurd (cc e)
results-start P (body.Aggregate fs group u) v q ins e h =
    let same : u ≡ v = cc in
    subst (λ (z : WindowSpec). AllTimes P (aggregate_of (answers_of fs) group z (nth ins 0))) (sym same)
    (times-aggregate P (answers_of fs) group v (nth ins 0) (λ k i. h k (filled v (start_of v k) (nth ins 0) i)))
results-start P (body.Join size on) v q ins e h = absurd (cc e)
results-start P (body.Resample size fs) v q ins e h = absurd (cc e)

-- ---- the last Aggregates behind a box

is-last : (b : Body) (v : WindowSpec) (at : ℕ) (before : List ℕ) → window_in b ≡ Some v → lasts_by b at before ≡ at ∷ []
is-last (body.Filter ps) v at before e = absurd (cc e)
is-last (body.Map es) v at before e = absurd (cc e)
is-last body.Union v at before e = absurd (cc e)
is-last (body.BSort by slack) v at before e = absurd (cc e)
is-last (body.Aggregate fs group u) v at before e = refl
is-last (body.Join size on) v at before e = absurd (cc e)
is-last (body.Resample size fs) v at before e = absurd (cc e)

hands-on : (b : Body) (y : BoxWires) → BodyFits b y → passes_marks y.kind ≡ true → window_in b ≡ None → (at : ℕ) (before : List ℕ) → lasts_by b at before ≡ before
hands-on (body.Filter ps) y f k none at before = refl
hands-on (body.Map es) y f k none at before = refl
hands-on body.Union y f k none at before = refl
hands-on (body.BSort by slack) y f k none at before = absurd (no-marks y.kind boxes.BSort f.0 refl k)
hands-on (body.Aggregate fs group u) y f k none at before = absurd (cc none)
hands-on (body.Join size on) y f k none at before = absurd (no-marks y.kind boxes.Join f.0 refl k)
hands-on (body.Resample size fs) y f k none at before = absurd (no-marks y.kind boxes.Resample f.0 refl k)

module _ (n : Network) (sources : List (List Tuple)) (sound : HasRanks n) where
  -- a window of a box starts at a tick, and a tuple lies in it
  record IsStart (tick at : ℕ) : Type 0 where
    window : WindowSpec
    of_box : window_at (windows_of n) at ≡ Some window
    number : ℕ
    starts : tick ≡ start_of window number
    filled : in_window window tick (full_arc n sources (arc_at n.wires at 0)) ≢ []

  module _ (place : DropAt) where
    abbrev bare : ℕ → Bool
    bare a = bares n.wires (windows_of n) place sound.rank sound.ranked a

    abbrev own : ℕ → Bool
    own a = owns n.wires (windows_of n) place sound.rank sound.ranked a

    -- so much fuel is enough for an arc
    abbrev Suffices : ℕ → ℕ → Type 0
    Suffices fuel a = Enough n.wires sound.rank (arcs-rise n.wires sound.rank sound.ranked) fuel a

    -- a path without an Aggregate leads to the arc, or a window of a last Aggregate starts at the tick
    abbrev Starts : ℕ → ℕ → ℕ → Type 0
    Starts fuel a t = (bare a ≡ true) ⊎ Somewhere (IsStart t) (lasts_within n fuel a)

    own-starts : (fuel a : ℕ) → own a ≡ true → AllTimes (Starts fuel a) (full_arc n sources a)
    own-starts fuel a h = always (full_arc n sources a)
      where
        is-bare : bare a ≡ true
        is-bare =
            bare-fixed n.wires (windows_of n) place sound.rank sound.ranked a
            ∙ ap (λ b. cond b true (bare_through n.wires (windows_of n) place bare (box_of (producer_at n.wires a)))) h

        always : (xs : List Tuple) → AllTimes (Starts fuel a) xs
        always [] = tt
        always (x ∷ xs) = (inl is-bare, always xs)

    -- from the arcs of a box to an arc behind it
    step-starts : (fuel a : ℕ) → own a ≡ false → (bel : IsBelow n.wires (windows_of n) place sound.rank sound.ranked a)
        → ((c : ℕ) → Within (input_arcs_of n.wires bel.at) c → AllTimes (Starts fuel c) (full_arc n sources c)) → AllTimes (Starts (suc fuel) a) (full_arc n sources a)
    step-starts fuel a foreign bel hold = subst (λ l. AllTimes (Starts (suc fuel) a) l) (sym full-is) (by-window (window_in x.body) refl)
      where
        arcs : List ℕ
        arcs = input_arcs_of n.wires bel.at

        node : (x : Node) × (slice_get n.boxes bel.at ≡ Some x) × BodyFits x.body bel.wires
        node = node-there (slice_get n.boxes bel.at) (slice_get n.wires.boxes bel.at) bel.wires (sound.fits bel.at) bel.there

        x : Node
        x = node.0

        x-is : slice_get n.boxes bel.at ≡ Some x
        x-is = node.1

        fits : BodyFits x.body bel.wires
        fits = node.2

        some : 1 ≤ length arcs
        some = some-item (is_reached n.wires (windows_of n) place) arcs bel.some

        some-input : 1 ≤ length (inputs_of n.wires bel.at)
        some-input =
            let many : length arcs ≡ length (inputs_of n.wires bel.at) = length-map-range_with_len (arc_at n.wires bel.at) 0 (length (inputs_of n.wires bel.at)) in
            let s : 1 ≤ length arcs = some in omega (arith, many, s)

        first-is : nth (map (full_arc n sources) arcs) 0 ≡ full_arc n sources (arc_at n.wires bel.at 0)
        first-is = first-list (full_arc n sources) (arc_at n.wires bel.at) (length (inputs_of n.wires bel.at)) some-input

        window-is : window_at (windows_of n) bel.at ≡ window_in x.body
        window-is = ap window_if (slice_get-map (λ b. window_in b.body) n.boxes bel.at ∙ ap (option_map (λ b. window_in b.body)) x-is)

        full-is : full_arc n sources a ≡ box_list x.body bel.port (map (full_arc n sources) arcs)
        full-is = full-arc-fixed n sources sound a bel.at bel.port bel.from ∙ ap (λ o. box_list_at o bel.port (map (full_arc n sources) arcs)) x-is

        lasts-are : lasts_within n (suc fuel) a ≡ lasts_by x.body bel.at (flat_map (lasts_within n fuel) arcs)
        lasts-are =
            ap (λ p. lasts_behind n (lasts_within n fuel) (box_of p)) bel.from
            ∙ ap (λ o. lasts_at o bel.at (flat_map (lasts_within n fuel) arcs)) x-is

        bare-is : bare a ≡ (not (is_some (window_in x.body)) && list_any bare arcs)
        bare-is =
            bare-fixed n.wires (windows_of n) place sound.rank sound.ranked a
            ∙ ap (λ b. cond b true (bare_through n.wires (windows_of n) place bare (box_of (producer_at n.wires a)))) foreign
            ∙ ap (λ p. bare_through n.wires (windows_of n) place bare (box_of p)) bel.from
            ∙ ap (λ o. not (is_some o) && list_any bare arcs) window-is

        up : window_in x.body ≡ None → (c : ℕ) → Within arcs c → (t : ℕ) → Starts fuel c t → Starts (suc fuel) a t
        up none c i t (inl b) = inl (bare-is ∙ ap (λ o. not (is_some o) && list_any bare arcs) none ∙ any-within bare arcs c i b)
        up none c i t (inr s) =
            inr (subst (Somewhere (IsStart t)) (sym (lasts-are ∙ hands-on x.body bel.wires fits bel.passes none bel.at (flat_map (lasts_within n fuel) arcs)))
            (some-joined (IsStart t) (lasts_within n fuel) c arcs i s))

        by-window : (o : Option WindowSpec) → window_in x.body ≡ o → AllTimes (Starts (suc fuel) a) (box_list x.body bel.port (map (full_arc n sources) arcs))
        by-window None e =
            box-times (Starts (suc fuel) a) (full_arc n sources) x.body bel.wires bel.port arcs fits bel.passes some e
            (each-within (λ c. AllTimes (Starts (suc fuel) a) (full_arc n sources c)) arcs
            (λ c i. all_weaker (λ y. Starts fuel c y.time) (λ y. Starts (suc fuel) a y.time) (λ y s. up e c i y.time s) (full_arc n sources c) (hold c i)))
        by-window (Some v) e =
            results-start (Starts (suc fuel) a) x.body v bel.port (map (full_arc n sources) arcs) e
            (λ k there. inr (subst (Somewhere (IsStart (start_of v k))) (sym (lasts-are ∙ is-last x.body v bel.at (flat_map (lasts_within n fuel) arcs) e))
            (inl (record {
              window = v;
              of_box = window-is ∙ e;
              number = k;
              starts = refl;
              filled = subst (λ (ts : List Tuple). in_window v (start_of v k) ts ≢ []) first-is there;
            }))))

    all-start : is_candidate n.wires (windows_of n) place ≡ true → (fuel a : ℕ) → Suffices fuel a → is_reached n.wires (windows_of n) place a ≡ true
        → AllTimes (Starts fuel a) (full_arc n sources a)
    all-start candidate zero a enough h = by (own a) refl
      where
        by : (b : Bool) → own a ≡ b → AllTimes (Starts zero a) (full_arc n sources a)
        by true e = own-starts zero a e
        by false e =
            let bel = below n.wires (windows_of n) place sound.rank sound.ranked candidate a e h in
            let no = enough bel.at bel.port bel.from in absurd (omega (arith, no))
    all-start candidate (suc fuel) a enough h = by (λ c e k. all-start candidate fuel c e k) (own a) refl
      where
        by : ((c : ℕ) → Suffices fuel c → is_reached n.wires (windows_of n) place c ≡ true → AllTimes (Starts fuel c) (full_arc n sources c)) → (b : Bool) → own a ≡ b
            → AllTimes (Starts (suc fuel) a) (full_arc n sources a)
        by more true e = own-starts (suc fuel) a e
        by more false e =
            let bel = below n.wires (windows_of n) place sound.rank sound.ranked candidate a e h in
            let before = enough-before n.wires sound.rank (arcs-rise n.wires sound.rank sound.ranked) fuel bel.at (enough bel.at bel.port bel.from) in
            step-starts fuel a e bel
            (λ c i. more c (of-one (Suffices fuel) c (input_arcs_of n.wires bel.at) i before)
            (of-one (λ d. is_reached n.wires (windows_of n) place d ≡ true) c (input_arcs_of n.wires bel.at) i bel.reached))

  -- ---- an output below a drop

  module _ (o : ℕ) (place : DropAt) (candidate : is_candidate n.wires (windows_of n) place ≡ true) (listed : contains_number (outputs_below n.wires (windows_of n) place) o ≡ true) where
    reached-there : is_reached n.wires (windows_of n) place (output_arc_at n.wires o) ≡ true
    reached-there =
        and_second (contains_number (numbers_to (length n.wires.outputs)) o) (is_reached n.wires (windows_of n) place (output_arc_at n.wires o))
        (sym (contains_filter (λ c. is_reached n.wires (windows_of n) place (output_arc_at n.wires c)) (numbers_to (length n.wires.outputs)) o) ∙ listed)

    not-bare : not (is_bare n.wires (windows_of n) place o) ≡ true
    not-bare =
        all-contains (λ c. not (is_bare n.wires (windows_of n) place c)) (outputs_below n.wires (windows_of n) place) o
        (and_second (not (eqb (length (outputs_below n.wires (windows_of n) place)) 0) && list_all (λ b. box_passes_marks (slice_get n.wires.boxes b) && list_all (is_reached n.wires (windows_of n) place) (input_arcs_of n.wires b)) (boxes_below n.wires (windows_of n) place))
        (list_all (λ c. not (is_bare n.wires (windows_of n) place c)) (outputs_below n.wires (windows_of n) place)) candidate) listed

    starts-at : (t : ℕ) → Starts place (length n.boxes) (output_arc_at n.wires o) t → StartsWindow n sources o t
    starts-at t (inl bare-there) = let no : false ≡ true = sym (ap not bare-there) ∙ not-bare in absurd (cc no)
    starts-at t (inr i) =
        let f = found (IsStart t) (lasts_of n o) i in
        let s = f.2 in
        record { at = f.0; is_last = f.1; window = s.window; of_box = s.of_box; number = s.number; starts = s.starts; filled = s.filled }

    pub output-starts : AllByRecursion (λ x. StartsWindow n sources o x.time) (full_arc n sources (output_arc_at n.wires o))
    output-starts =
        all_weaker (λ x. Starts place (length n.boxes) (output_arc_at n.wires o) x.time) (λ x. StartsWindow n sources o x.time) (λ x s. starts-at x.time s)
        (full_arc n sources (output_arc_at n.wires o))
        (all-start place candidate (length n.boxes) (output_arc_at n.wires o)
        (λ c q e. let low = sound.ranked.low _ c q e in let same = sound.same in omega (arith, low, same)) reached-there)

pub times_start : (n : Network) (sources : List (List Tuple)) → IsSound n → TimesAreStarts n sources
times_start n sources h o d e =
    let passes = first-passes (λ p. contains_number p.outputs o) 0 (points_of n) d.0 d.1 e in
    let place = place-of r sound d.1 passes.1 in
    output-starts n sources sound o place.0 place.2.candidate (subst (λ (p : DropPoint). contains_number p.outputs o ≡ true) (sym place.1) passes.0)
  where
    r : Replay
    r = record { network = n; sources = sources; entries = []; seed = 0 }

    sound : HasRanks n
    sound = ranks-of n h
