-- A whole text of a run is whole in the words of the verdict.
use Rattle.std.proofs.Common.{◌≡◌, inl, inr, ℕ, zero, suc, ◌+◌, ◌*◌, ◌<◌, ◌≤◌, ◌^◌, eqb, ◌&&◌, ◌||◌, Bool, true, false, not, cond, List, [], ◌∷◌, ◌++◌, length, map, refl, ap, sym, ◌∙◌, subst, arith, append_assoc, append-nil, Option, Some, None}
use Rattle.std.specs.Prelude.{IsTrue, slice_get, codes, if◌then◌else◌}
use Rattle.std.specs.Fmt.{decimal}
use Rattle.std.specs.List.{filter, flat_map, list_any, list_all, zip, enumerate_from, range_with_len}
use Rattle.std.proofs.lemmas.Bool.{cases_Bool, and_parts, false_from_ne_true}
use Rattle.std.proofs.lemmas.Bool.Decides.{nat_tests}
use Rattle.std.proofs.lemmas.Fmt.{decimal_injective}
use Rattle.std.proofs.lemmas.List.Folds.{list_all-append}
use Rattle.sq_words.specs.Lists.{same_bytes, numbers_to}
use Rattle.sq_lines.specs.LineTexts.{box_line, drop_line, end_line, late_line}
use Rattle.sq_lines.specs.Classes.{Shown, Dropped, Planned, Ended, is_of_class, of_class, whole_lines}
use Rattle.sq_lines.proofs.RowLemmas.{first_field-line_of}
use Rattle.sq_place.specs.declared.DropPoint.{DropPoint}
use Rattle.sq_net.specs.declared.Network.{Network}
use Rattle.sq_net.specs.declared.Node.{Node}
use Rattle.sq_net.specs.declared.Output.{Output}
use Rattle.sq_net.specs.SoundNetworks.{IsSound}
use Rattle.sq_points.specs.Points.{drops_in, points_of}
use Rattle.sq_oper.specs.declared.outs.Decision.{Decision}
use Rattle.sq_start.specs.Nets.{decision_on, drop_decisions}
use Rattle.sq_model.specs.Shedding as model
use Rattle.sq_lines.specs.RunLines.{boxes_from, end_lines, fed_line, is_sorter, late_lines}
use Rattle.sq_wanted.specs.Showing.{has_first}
use Rattle.sq_verdict.specs.WholeTexts as whole
use Rattle.sq_verdict.specs.WholeTexts.{AreEnds, IsWhole}
use Rattle.sq_audit.specs.Laws.{answer_lines, due_for, record_lines}
use Rattle.sq_audit.proofs.AuditLemmas.{points_few}
use Rattle.sq_audit.proofs.Replays.{accepts_whole}
use Rattle.sq_due.specs.Due.{Due, answer_in, due_in, ended_in, replayed, shown_at_output}
use Rattle.sq_due.specs.Answers.{IsWholeText, is_classed}
use Rattle.sq_audited.specs.Laws.{AcceptsReplays}
use Rattle.sq_words.proofs.Lists.{same_bytes_true, same_bytes_itself}

module _ (r : model.Replay) where
  shown_same : (k : ℕ) (os : List Output) → map (shown_at_output (answer_in r)) (zip os (range_with_len k (length os))) ≡ map (answer_lines r) (enumerate_from k os)
  shown_same k [] = refl
  shown_same k (o ∷ os) = ap (λ xs. answer_lines r (k, o) ∷ xs) (shown_same (k + 1) os)

  -- the lines of a drop's decisions are those of its record
  decided_lines : (w : ℕ) (p : DropPoint) (bs : List ℕ) → map (λ (d : Decision). drop_line w d.batch d.level) (map (decision_on r w p) bs)
      ≡ map (λ b. drop_line w b (model.batch_level r (model.epoch_of r (b * p.length)) w)) bs
  decided_lines w p [] = refl
  decided_lines w p (b ∷ bs) = ap (λ xs. drop_line w b (model.batch_level r (model.epoch_of r (b * p.length)) w) ∷ xs) (decided_lines w p bs)

  lines_at : (w : ℕ) (o : Option DropPoint) → map (λ (d : Decision). drop_line w d.batch d.level) (drop_decisions r w o) ≡ record_lines r w o
  lines_at w None = refl
  lines_at w (Some p) = decided_lines w p (model.record_of r w p)

-- ---- the lines of one drop among those of all

differs : (a w : ℕ) → a < 2 ^ 64 → w < 2 ^ 64 → (a ≡ w → ⊥) → same_bytes (decimal a) (decimal w) ≡ false
differs a w a_small w_small apart = false_from_ne_true (same_bytes (decimal a) (decimal w)) (λ e. apart (decimal_injective a w a_small w_small (same_bytes_true (decimal a) (decimal w) e)))

module _ (g : ℕ → List (List ℕ)) (w : ℕ) (small : w < 2 ^ 64) where
  abbrev one : ℕ → ℕ × List (List ℕ)
  one k = (k, g k)

  abbrev test : ℕ × List (List ℕ) → Bool
  test x = same_bytes (decimal x.0) (decimal w)

  abbrev picked : List (ℕ × List (List ℕ)) → List (List ℕ)
  picked xs = flat_map (λ x. x.1) (filter test xs)

  skipped : (x : ℕ × List (List ℕ)) (xs : List (ℕ × List (List ℕ))) → test x ≡ false → picked (x ∷ xs) ≡ picked xs
  skipped x xs e = ap (λ b. flat_map (λ (y : ℕ × List (List ℕ)). y.1) (cond b (x ∷ filter test xs) (filter test xs))) e

  taken : (x : ℕ × List (List ℕ)) (xs : List (ℕ × List (List ℕ))) → test x ≡ true → picked (x ∷ xs) ≡ x.1 ++ picked xs
  taken x xs e = ap (λ b. flat_map (λ (y : ℕ × List (List ℕ)). y.1) (cond b (x ∷ filter test xs) (filter test xs))) e

  picked_none : (a n : ℕ) → w < a → a + n < 2 ^ 64 → picked (map one (range_with_len a n)) ≡ []
  picked_none a zero lt few = refl
  picked_none a (suc n) lt few =
      skipped (one a) (map one (range_with_len (a + 1) n)) (differs a w (omega (arith, few)) small (λ e. omega (arith, e, lt)))
      ∙ picked_none (a + 1) n (omega (arith, lt)) (omega (arith, few))

  picked_one : (a n : ℕ) → a ≤ w → w < a + n → a + n < 2 ^ 64 → picked (map one (range_with_len a n)) ≡ g w
  picked_one a zero le lt few = absurd (omega (arith, le, lt))
  picked_one a (suc n) le lt few = elim (cases_Bool (eqb a w)) [
    | inl holds ↦
        let same : a ≡ w = grind (arith, nat_tests, holds) in
        let here : test (one a) ≡ true = ap (λ k. same_bytes (decimal k) (decimal w)) same ∙ same_bytes_itself (decimal w) in
        taken (one a) (map one (range_with_len (a + 1) n)) here
        ∙ ap (λ xs. g a ++ xs) (picked_none (a + 1) n (omega (arith, same)) (omega (arith, few)))
        ∙ append-nil (g a) ∙ ap g same
    | inr fails ↦
        let apart : a ≡ w → ⊥ = λ e. (let yes : eqb a w ≡ true = grind (arith, nat_tests, e) in absurd (cc)) in
        let above : a + 1 ≤ w = grind (arith, nat_tests, fails, le) in
        skipped (one a) (map one (range_with_len (a + 1) n)) (differs a w (omega (arith, few)) small apart)
        ∙ picked_one (a + 1) n above (omega (arith, lt)) (omega (arith, few))
  ]

-- a line is of one of these drops
any_mapped : (line : List ℕ) (g : ℕ → List (List ℕ)) (ws : List ℕ) → list_any (λ (x : ℕ × List (List ℕ)). is_of_class (Dropped x.0) line) (map (λ k. (k, g k)) ws) ≡ list_any (λ k. is_of_class (Dropped k) line) ws
any_mapped line g [] = refl
any_mapped line g (w ∷ ws) = ap (λ t. is_of_class (Dropped w) line || t) (any_mapped line g ws)

all_classed : (p q : List ℕ → Bool) → ((l : List ℕ) → p l ≡ q l) → (ls : List (List ℕ)) → list_all p ls ≡ true → list_all q ls ≡ true
all_classed p q same [] h = refl
all_classed p q same (l ∷ ls) h = let both = and_parts (p l) (list_all p ls) h in rw (sym (same l) ∙ both.0, all_classed p q same ls both.1) refl

-- ---- the end lines

abbrev goes_on : List ℕ → Bool
goes_on l = not (has_first (codes "@end") l)

box_goes_on : (name : List ℕ) (k : ℕ) → goes_on (box_line name k) ≡ true
box_goes_on name k = ap (λ f. not (same_bytes f (codes "@end"))) (first_field-line_of 64 (codes "box") (name ∷ decimal k ∷ []) refl)

late_goes_on : (name : List ℕ) (k : ℕ) → goes_on (late_line name k) ≡ true
late_goes_on name k = ap (λ f. not (same_bytes f (codes "@end"))) (first_field-line_of 64 (codes "late") (name ∷ decimal k ∷ []) refl)

boxes_go_on : (bs : List Node) (fed : List ℕ) → list_all goes_on (map fed_line (zip bs fed)) ≡ true
boxes_go_on [] fed = refl
boxes_go_on (b ∷ bs) [] = refl
boxes_go_on (b ∷ bs) (k ∷ fed) = rw (box_goes_on b.name k, boxes_go_on bs fed) refl

late_go_on : (sorter : Bool) (name : List ℕ) (k : ℕ) → list_all goes_on (if sorter then late_line name k ∷ [] else []) ≡ true
late_go_on true name k = rw (late_goes_on name k) refl
late_go_on false name k = refl

lates_go_on : (bs : List Node) (late : List ℕ) → list_all goes_on (flat_map late_lines (zip bs late)) ≡ true
lates_go_on [] late = refl
lates_go_on (b ∷ bs) [] = refl
lates_go_on (b ∷ bs) (k ∷ late) =
    list_all-append goes_on (late_lines (b, k)) (flat_map late_lines (zip bs late))
    ∙ ap (λ t. t && list_all goes_on (flat_map late_lines (zip bs late))) (late_go_on (is_sorter b.body) b.name k)
    ∙ lates_go_on bs late

ends_are : (n : Network) (fed late : List ℕ) → AreEnds (end_lines n fed late)
ends_are n fed late = record {
  others = map fed_line (zip n.boxes fed) ++ flat_map late_lines (zip n.boxes late);
  is = sym (append_assoc (map fed_line (zip n.boxes fed)) (flat_map late_lines (zip n.boxes late)) (end_line ∷ []));
  none =
      list_all-append goes_on (map fed_line (zip n.boxes fed)) (flat_map late_lines (zip n.boxes late))
      ∙ ap (λ t. t && list_all goes_on (flat_map late_lines (zip n.boxes late))) (boxes_go_on n.boxes fed)
      ∙ lates_go_on n.boxes late;
}

-- ---- a whole text

module _ (r : model.Replay) (first : ℕ) (sound : IsSound r.network) (text : List ℕ) (h : IsWholeText (due_in r first) text) where
  abbrev d : Due
  d = due_in r first

  abbrev asked : whole.Expected
  asked = due_for r (ended_in r first)

  same : d.shown ≡ asked.shown
  same = shown_same r 0 r.network.outputs

  abbrev lines_of_drop : ℕ → List (List ℕ)
  lines_of_drop w = map (λ (x : Decision). drop_line w x.batch x.level) ((answer_in r).decisions w)

  few : drops_in r.network < 2 ^ 32
  few = points_few r.network sound

  dropped_is : (w : ℕ) → w < drops_in r.network → of_class (Dropped w) text ≡ record_lines r w (slice_get (points_of r.network) w)
  dropped_is w low =
      h.lines (Dropped w) tt
      ∙ picked_one lines_of_drop w (let f = few in omega (arith, low, f)) 0 (drops_in r.network) (omega arith) (omega (arith, low)) (let f = few in omega (arith, f))
      ∙ lines_at r w (slice_get (points_of r.network) w)

  shown_is : (name : List ℕ) → IsTrue (whole.is_shown asked name) → of_class (Shown name) text ≡ whole.lines_shown asked name
  shown_is name there =
      h.lines (Shown name) (subst (λ (ss : List (List ℕ × List (List ℕ))). IsTrue (list_any (λ o. same_bytes o.0 name) ss)) (sym same) there)
      ∙ ap (λ (ss : List (List ℕ × List (List ℕ))). flat_map (λ o. o.1) (filter (λ o. same_bytes o.0 name) ss)) same

  class_same : (l : List ℕ) → is_classed d l ≡ whole.is_expected asked l
  class_same l =
      ap (λ (ss : List (List ℕ × List (List ℕ))). list_any (λ o. is_of_class (Shown o.0) l) ss || list_any (λ (x : ℕ × List (List ℕ)). is_of_class (Dropped x.0) l) d.dropped
      || is_of_class Planned l || is_of_class Ended l) same
      ∙ ap (λ t. list_any (λ (o : List ℕ × List (List ℕ)). is_of_class (Shown o.0) l) asked.shown || t || is_of_class Planned l || is_of_class Ended l)
      (any_mapped l lines_of_drop (numbers_to (drops_in r.network)))

  pub is_whole : IsWhole asked text
  is_whole = record {
    shown = shown_is;
    dropped = dropped_is;
    classed = all_classed (is_classed d) (whole.is_expected asked) class_same (whole_lines text) h.classed;
    finished = h.finished;
    ends_last = h.ends_last;
  }

pub accepts_replays : AcceptsReplays
accepts_replays r text sound limits streams h =
    let m = replayed r in
    accepts_whole m (ended_in m r.first) text sound limits streams (ends_are (boxes_from r.first m.network) _ _) (is_whole m r.first sound text h)
