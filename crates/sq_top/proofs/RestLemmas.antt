-- What a history has still to show: where it has shown the first of an answer, more events make it whole. So each beginning of its text
-- is one of a whole text.
use Rattle.std.proofs.Common.{◌≡◌, ◌≢◌, ℕ, zero, suc, ◌<◌, ◌≤◌, ◌^◌, Bool, true, false, List, [], ◌∷◌, ◌++◌, length, drop, refl, ap, ap₂, sym, ◌∙◌, arith, append_assoc, append-nil}
use Rattle.std.specs.Prelude.{◌==◌, map}
use Rattle.std.specs.List.{AllByRecursion}
use Rattle.std.proofs.lemmas.Bool.{eq-eqb, eqb-true, eqb-false, false_from_ne_true}
use Rattle.std.proofs.lemmas.Grind.{flat_map-append}
use Rattle.std.proofs.Math.Seq.{drop-append_seam}
use Rattle.sq_value.specs.declared.Tuple.{Tuple}
use Rattle.sq_words.specs.Lists.{IsPrefixOf}
use Rattle.sq_lines.specs.Classes.{Ended}
use Rattle.sq_net.specs.declared.Network.{Network}
use Rattle.sq_net.specs.SoundNetworks.{IsSound}
use Rattle.sq_oper.specs.declared.outs.Event.{Event}
use Rattle.sq_oper.specs.declared.outs.Decision.{Decision}
use Rattle.sq_oper.specs.declared.outs.Event.TheVariants.{Line, Dropped as Decided, Plan}
use Rattle.sq_plan.specs.declared.closing.Shown.{Shown as ShownPlan}
use Rattle.sq_lines.specs.RunLines.{event_line, lines_text}
use Rattle.sq_flow.specs.Events.{drops_of, lines_of}
use Rattle.sq_flow.specs.Plans.{plans_of}
use Rattle.sq_points.specs.Points.{drops_in}
use Rattle.sq_due.specs.Due.{Answer, due_from}
use Rattle.sq_due.specs.Answers.{IsPrefixText}
use Rattle.sq_drive.specs.Driving.{BeginsAnswer, Completes}
use Rattle.sq_due.specs.Histories.{IsEventAt, history_text}
use Rattle.sq_due.proofs.ClassLemmas.{IsLineOf}
use Rattle.sq_top.proofs.HistoryLemmas.{beginning_of_history, drop_kept, drop_left, line_kept, line_left}
use Rattle.sq_flow.proofs.EventLemmas.{lines-append, plans-append, drops-append}
use Rattle.sq_words.proofs.Alls.{all_append}

-- a way to read a history, event by event
record Reads {X : Type 0} (read : List Event → List X) : Type 0 where
  none : read [] ≡ []
  joined : (xs ys : List Event) → read (xs ++ ys) ≡ read xs ++ read ys

reads_lines : (o : ℕ) → Reads (lines_of o)
reads_lines o = record { none = refl; joined = lines-append o }

reads_drops : (w : ℕ) → Reads (drops_of w)
reads_drops w = record { none = refl; joined = drops-append w }

reads_plans : Reads plans_of
reads_plans = record { none = refl; joined = plans-append }

-- events part by part, those of part 0 first
module _ (part : ℕ → List Event) where
  abbrev parts : ℕ → List Event
  parts zero = []
  parts (suc k) = parts k ++ part k

  parts_all : (P : Event → Type 0) (k : ℕ) → ((j : ℕ) → j < k → AllByRecursion P (part j)) → AllByRecursion P (parts k)
  parts_all P zero all = tt
  parts_all P (suc k) all = all_append P (parts k) (part k) (parts_all P k (λ j low. all j (omega (arith, low)))) (all k (omega arith))

  module _ {X : Type 0} (read : List Event → List X) (r : Reads read) where
    parts_blind : ((j : ℕ) → read (part j) ≡ []) → (k : ℕ) → read (parts k) ≡ []
    parts_blind blind zero = r.none
    parts_blind blind (suc k) = r.joined (parts k) (part k) ∙ ap₂ (λ xs ys. xs ++ ys) (parts_blind blind k) (blind k)

    -- what is read of one part alone
    module _ (o : ℕ) (other : (j : ℕ) → j ≢ o → read (part j) ≡ []) where
      parts_before : (k : ℕ) → k ≤ o → read (parts k) ≡ []
      parts_before zero past = r.none
      parts_before (suc k) past = r.joined (parts k) (part k) ∙ ap₂ (λ xs ys. xs ++ ys) (parts_before k (omega arith)) (other k (λ e. absurd (omega (arith, e))))

      parts_by : (k : ℕ) (b : Bool) → (k == o) ≡ b → (o < k → read (parts k) ≡ read (part o)) → o < suc k → read (parts (suc k)) ≡ read (part o)
      parts_by k true e before within =
          let same = eqb-true k o e in
          r.joined (parts k) (part k) ∙ ap₂ (λ xs ys. xs ++ ys) (parts_before k (omega (arith, same))) (ap (λ j. read (part j)) same)
      parts_by k false e before within =
          let differ = eqb-false k o e in
          r.joined (parts k) (part k) ∙ ap₂ (λ xs ys. xs ++ ys) (before (omega (arith, differ))) (other k differ) ∙ append-nil (read (part o))

      parts_one : (k : ℕ) → o < k → read (parts k) ≡ read (part o)
      parts_one zero within = absurd (omega arith)
      parts_one (suc k) within = parts_by k (k == o) refl (parts_one k) within

lines_own : (o : ℕ) (ts : List Tuple) → lines_of o (map (Line o) ts) ≡ ts
lines_own o [] = refl
lines_own o (t ∷ ts) = line_kept o o t (map (Line o) ts) (eq-eqb o o refl) ∙ ap (λ xs. t ∷ xs) (lines_own o ts)

lines_other : (o p : ℕ) (ts : List Tuple) → p ≢ o → lines_of o (map (Line p) ts) ≡ []
lines_other o p [] differ = refl
lines_other o p (t ∷ ts) differ = line_left p o t (map (Line p) ts) (false_from_ne_true (p == o) (λ h. differ (eqb-true p o h))) ∙ lines_other o p ts differ

lines_of_drops : (o : ℕ) (ds : List Decision) → lines_of o (map Decided ds) ≡ []
lines_of_drops o [] = refl
lines_of_drops o (d ∷ ds) = lines_of_drops o ds

drops_of_lines : (w o : ℕ) (ts : List Tuple) → drops_of w (map (Line o) ts) ≡ []
drops_of_lines w o [] = refl
drops_of_lines w o (t ∷ ts) = drops_of_lines w o ts

plans_of_lines : (o : ℕ) (ts : List Tuple) → plans_of (map (Line o) ts) ≡ []
plans_of_lines o [] = refl
plans_of_lines o (t ∷ ts) = plans_of_lines o ts

plans_of_drops : (ds : List Decision) → plans_of (map Decided ds) ≡ []
plans_of_drops [] = refl
plans_of_drops (d ∷ ds) = plans_of_drops ds

drops_own : (w : ℕ) (ds : List Decision) → AllByRecursion (λ d. d.drop ≡ w) ds → drops_of w (map Decided ds) ≡ ds
drops_own w [] all = refl
drops_own w (d ∷ ds) all = drop_kept w d (map Decided ds) (eq-eqb d.drop w all.0) ∙ ap (λ xs. d ∷ xs) (drops_own w ds all.1)

drops_other : (w v : ℕ) (ds : List Decision) → AllByRecursion (λ d. d.drop ≡ v) ds → v ≢ w → drops_of w (map Decided ds) ≡ []
drops_other w v [] all differ = refl
drops_other w v (d ∷ ds) all differ =
    drop_left w d (map Decided ds) (false_from_ne_true (d.drop == w) (λ h. differ (sym all.0 ∙ eqb-true d.drop w h))) ∙ drops_other w v ds all.1 differ

abbrev plan_event : ShownPlan → Event
plan_event p = Plan p.epoch p.load p.capacity p.saved p.fits

plans_own : (ps : List ShownPlan) → plans_of (map plan_event ps) ≡ ps
plans_own [] = refl
plans_own (p ∷ ps) = ap (λ xs. p ∷ xs) (plans_own ps)

lines_of_plans : (o : ℕ) (ps : List ShownPlan) → lines_of o (map plan_event ps) ≡ []
lines_of_plans o [] = refl
lines_of_plans o (p ∷ ps) = lines_of_plans o ps

drops_of_plans : (w : ℕ) (ps : List ShownPlan) → drops_of w (map plan_event ps) ≡ []
drops_of_plans w [] = refl
drops_of_plans w (p ∷ ps) = drops_of_plans w ps

all_lines : (n : Network) (o : ℕ) (ts : List Tuple) → o < length n.outputs → AllByRecursion (IsEventAt n) (map (Line o) ts)
all_lines n o [] within = tt
all_lines n o (t ∷ ts) within = (within, all_lines n o ts within)

all_drops : (n : Network) (w : ℕ) (ds : List Decision) → w < drops_in n → AllByRecursion (λ d. d.drop ≡ w) ds → AllByRecursion (IsEventAt n) (map Decided ds)
all_drops n w [] within all = tt
all_drops n w (d ∷ ds) within all = (omega (arith, within, all.0), all_drops n w ds within all.1)

all_plans : (n : Network) (ps : List ShownPlan) → AllByRecursion (IsEventAt n) (map plan_event ps)
all_plans n [] = tt
all_plans n (p ∷ ps) = (tt, all_plans n ps)

all_dropped : {X : Type 0} (P : X → Type 0) (k : ℕ) (xs : List X) → AllByRecursion P xs → AllByRecursion P (drop k xs)
all_dropped P zero xs all = all
all_dropped P (suc k) [] all = tt
all_dropped P (suc k) (x ∷ xs) all = all_dropped P k xs all.1

-- what begins a list, and the rest of it
rest_is : {X : Type 0} (xs ys : List X) → IsPrefixOf xs ys → xs ++ drop (length xs) ys ≡ ys
rest_is xs ys begins =
    let here = ap (drop (length xs)) begins.1 ∙ drop-append_seam xs begins.0 in ap (λ zs. xs ++ zs) here ∙ sym begins.1

nothing_both : {X : Type 0} (a b c xs ys zs : List X) → a ≡ xs → b ≡ ys → c ≡ zs → a ++ (b ++ c) ≡ xs ++ (ys ++ zs)
nothing_both a b c xs ys zs e f g = ap₂ (λ x y. x ++ y) e (ap₂ (λ x y. x ++ y) f g)

module _ (n : Network) (a : Answer) (own : (w : ℕ) → AllByRecursion (λ d. d.drop ≡ w) (a.decisions w)) (history : List Event) where
  abbrev tuples_left : ℕ → List Tuple
  tuples_left o = drop (length (lines_of o history)) (a.tuples o)

  abbrev drops_left : ℕ → List Decision
  drops_left w = drop (length (drops_of w history)) (a.decisions w)

  abbrev plans_left : List ShownPlan
  plans_left = drop (length (plans_of history)) a.plans

  abbrev shown_part : ℕ → List Event
  shown_part o = map (Line o) (tuples_left o)

  abbrev dropped_part : ℕ → List Event
  dropped_part w = map Decided (drops_left w)

  abbrev shown_parts : List Event
  shown_parts = parts shown_part (length n.outputs)

  abbrev dropped_parts : List Event
  dropped_parts = parts dropped_part (drops_in n)

  abbrev still : List Event
  still = shown_parts ++ (dropped_parts ++ map plan_event plans_left)

  own_left : (w : ℕ) → AllByRecursion (λ d. d.drop ≡ w) (drops_left w)
  own_left w = all_dropped (λ d. d.drop ≡ w) (length (drops_of w history)) (a.decisions w) (own w)

  still_shown : AllByRecursion (IsEventAt n) still
  still_shown =
      all_append (IsEventAt n) shown_parts (dropped_parts ++ map plan_event plans_left)
      (parts_all shown_part (IsEventAt n) (length n.outputs) (λ o low. all_lines n o (tuples_left o) low))
      (all_append (IsEventAt n) dropped_parts (map plan_event plans_left)
      (parts_all dropped_part (IsEventAt n) (drops_in n) (λ w low. all_drops n w (drops_left w) low (own_left w))) (all_plans n plans_left))

  -- what is read of the three
  read_still : {X : Type 0} (read : List Event → List X) → Reads read → read still ≡ read shown_parts ++ (read dropped_parts ++ read (map plan_event plans_left))
  read_still read r =
      r.joined shown_parts (dropped_parts ++ map plan_event plans_left) ∙ ap (λ xs. read shown_parts ++ xs) (r.joined dropped_parts (map plan_event plans_left))

  still_lines : (o : ℕ) → o < length n.outputs → lines_of o still ≡ tuples_left o
  still_lines o low =
      let r = reads_lines o in
      read_still (lines_of o) r
      ∙ nothing_both (lines_of o shown_parts) (lines_of o dropped_parts) (lines_of o (map plan_event plans_left)) (tuples_left o) [] []
      (parts_one shown_part (lines_of o) r o (λ p differ. lines_other o p (tuples_left p) differ) (length n.outputs) low ∙ lines_own o (tuples_left o))
      (parts_blind dropped_part (lines_of o) r (λ w. lines_of_drops o (drops_left w)) (drops_in n))
      (lines_of_plans o plans_left)
      ∙ append-nil (tuples_left o)

  still_drops : (w : ℕ) → w < drops_in n → drops_of w still ≡ drops_left w
  still_drops w low =
      let r = reads_drops w in
      read_still (drops_of w) r
      ∙ nothing_both (drops_of w shown_parts) (drops_of w dropped_parts) (drops_of w (map plan_event plans_left)) [] (drops_left w) []
      (parts_blind shown_part (drops_of w) r (λ o. drops_of_lines w o (tuples_left o)) (length n.outputs))
      (parts_one dropped_part (drops_of w) r w (λ v differ. drops_other w v (drops_left v) (own_left v) differ) (drops_in n) low ∙ drops_own w (drops_left w) (own_left w))
      (drops_of_plans w plans_left)
      ∙ append-nil (drops_left w)

  still_plans : plans_of still ≡ plans_left
  still_plans =
      read_still plans_of reads_plans
      ∙ nothing_both (plans_of shown_parts) (plans_of dropped_parts) (plans_of (map plan_event plans_left)) [] [] plans_left
      (parts_blind shown_part plans_of reads_plans (λ o. plans_of_lines o (tuples_left o)) (length n.outputs))
      (parts_blind dropped_part plans_of reads_plans (λ w. plans_of_drops (drops_left w)) (drops_in n))
      (plans_own plans_left)

  made_whole : BeginsAnswer n a history → Completes n a (history ++ still)
  made_whole begins = record {
    lines = λ o low. lines-append o history still ∙ ap (λ xs. lines_of o history ++ xs) (still_lines o low) ∙ rest_is (lines_of o history) (a.tuples o) (begins.lines o low);
    drops = λ w low. drops-append w history still ∙ ap (λ xs. drops_of w history ++ xs) (still_drops w low) ∙ rest_is (drops_of w history) (a.decisions w) (begins.drops w low);
    plans = plans-append history still ∙ ap (λ xs. plans_of history ++ xs) still_plans ∙ rest_is (plans_of history) a.plans begins.plans;
  }

  -- where the first of an answer was shown, each beginning of the text is one of a whole text
  pub prefix_of_history : IsSound n → (ended : List (List ℕ)) → AllByRecursion (IsLineOf Ended) ended → drops_in n < 2 ^ 64
      → AllByRecursion (IsEventAt n) history → BeginsAnswer n a history → (text : List ℕ) → IsPrefixOf text (history_text n history) → IsPrefixText (due_from n a ended) text
  prefix_of_history sound ended ends few shown begins text part =
      let behind = lines_text ended in
      beginning_of_history n sound a ended ends few (history ++ still) (all_append (IsEventAt n) history still shown still_shown) (made_whole begins) text (
        part.0 ++ (history_text n still ++ behind),
        ap (λ whole. whole ++ behind) (flat_map-append (event_line n) history still) ∙ append_assoc (history_text n history) (history_text n still) behind
            ∙ ap (λ whole. whole ++ (history_text n still ++ behind)) part.1 ∙ append_assoc text part.0 (history_text n still ++ behind),
      )
