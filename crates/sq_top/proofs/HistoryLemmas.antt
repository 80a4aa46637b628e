-- Histories: the lines of a run that has shown its whole answer, in whatever order, are an order of writing with the end lines behind.
use Rattle.std.proofs.Common.{◌≡◌, ◌⊎◌, inl, inr, ℕ, ◌<◌, ◌^◌, arith, Bool, true, false, not, List, [], ◌∷◌, ◌++◌, length, refl, ap, ap₂, sym, ◌∙◌, subst, append-nil, Some}
use Rattle.std.specs.Prelude.{◌==◌, map, if◌then◌else◌, slice_get}
use Rattle.std.specs.List.{AllByRecursion, filter}
use Rattle.std.proofs.lemmas.Bool.{eqb-true, eqb-false, false_from_ne_true}
use Rattle.std.proofs.lemmas.List.Elements.{filter-append, recursion_from_All}
use Rattle.std.proofs.lemmas.List.FromFn.{length-range_with_len}
use Rattle.std.proofs.lemmas.Grind.{flat_map-append}
use Rattle.std.proofs.lemmas.Option.{slice_get_within}
use Rattle.sq_value.specs.declared.Tuple.{Tuple}
use Rattle.sq_words.specs.Lists.{IsPrefixOf, numbers_to}
use Rattle.sq_lines.specs.Classes.{Class, Shown, Dropped, Planned, Ended, is_of_class}
use Rattle.sq_lines.specs.LineTexts.{drop_line, output_line}
use Rattle.sq_net.specs.declared.Network.{Network}
use Rattle.sq_net.specs.declared.Output.{Output}
use Rattle.sq_net.specs.Names.{is_name}
use Rattle.sq_net.specs.SoundNetworks.{IsSound}
use Rattle.sq_oper.specs.declared.outs.Event.{Event}
use Rattle.sq_oper.specs.declared.outs.Decision.{Decision}
use Rattle.sq_oper.specs.declared.outs.Event.TheVariants.{Line, Dropped as Decided, Plan}
use Rattle.sq_lines.specs.RunLines.{event_line, output_name_in, lines_text}
use Rattle.sq_flow.specs.Events.{drops_of, lines_of}
use Rattle.sq_flow.specs.Plans.{plans_of}
use Rattle.sq_points.specs.Points.{drops_in}
use Rattle.sq_due.specs.Due.{Answer, Due, plan_text, due_from}
use Rattle.sq_due.specs.Answers.{IsClassIn, IsPrefixText, IsWholeText, is_classed, class_lines as due_lines}
use Rattle.sq_drive.specs.Driving.{Completes}
use Rattle.sq_due.specs.Histories.{IsEventAt, history_text}
use Rattle.sq_due.proofs.SortedLines.{filter_same}
use Rattle.sq_due.proofs.ClassLemmas.{IsLineOf, IsPlainClass, TellsClasses, all_map, classed_dropped, classed_ended, classed_planned, classed_shown, plain_class}
use Rattle.sq_due.proofs.DueLemmas.{IsWholeList, dropped_test, filter_ended, planned_test, shown_test, tells, whole_order, filter_kept, all_pass, both_pass}
use Rattle.sq_top.proofs.OrderLemmas.{prefix_text, whole_text}
use Rattle.sq_top.proofs.EndLemmas.{due_tells_classes, line_dropped, line_planned, lines_shown, plain_name}
use Rattle.sq_top.proofs.NamedLemmas.{HasOutput, due_at, find_drop, is_numbered, name_test, none_numbered, number_at, number_listed, one_numbered, output_of, picked_at, same_number}
use Rattle.sq_words.proofs.Lists.{has_item, flat_map_of_map}
use Rattle.sq_words.proofs.Alls.{all_at}

filter_left : (p : List ℕ → Bool) (x : List ℕ) (xs : List (List ℕ)) → p x ≡ false → filter p (x ∷ xs) ≡ filter p xs
filter_left p x xs h = rw h refl

pub line_kept : (p o : ℕ) (t : Tuple) (es : List Event) → (p == o) ≡ true → lines_of o (Line p t ∷ es) ≡ t ∷ lines_of o es
line_kept p o t es h = rw h refl

pub line_left : (p o : ℕ) (t : Tuple) (es : List Event) → (p == o) ≡ false → lines_of o (Line p t ∷ es) ≡ lines_of o es
line_left p o t es h = rw h refl

pub drop_kept : (w : ℕ) (d : Decision) (es : List Event) → (d.drop == w) ≡ true → drops_of w (Decided d ∷ es) ≡ d ∷ drops_of w es
drop_kept w d es h = rw h refl

pub drop_left : (w : ℕ) (d : Decision) (es : List Event) → (d.drop == w) ≡ false → drops_of w (Decided d ∷ es) ≡ drops_of w es
drop_left w d es h = rw h refl

module _ (n : Network) (sound : IsSound n) (a : Answer) (ended : List (List ℕ)) (ends : AllByRecursion (IsLineOf Ended) ended) (few : drops_in n < 2 ^ 64) where
  abbrev due : Due
  due = due_from n a ended

  told : TellsClasses due
  told = due_tells_classes n a ended ends few sound

  abbrev lines : List Event → List (List ℕ)
  lines history = map (event_line n) history

  -- an event that is a line, with its output
  module _ (p : ℕ) (t : Tuple) (q : Output) (at : slice_get n.outputs p ≡ Some q) where
    line_is : event_line n (Line p t) ≡ output_line q.name t
    line_is = ap (λ o. output_line (output_name_in o) t) at

    named : is_name q.name ≡ true
    named = all_at (λ (o : Output). is_name o.name ≡ true) n.outputs p q (recursion_from_All (λ (o : Output). is_name o.name ≡ true) n.outputs sound.named) at

    of_output : is_of_class (Shown q.name) (event_line n (Line p t)) ≡ true
    of_output = ap (is_of_class (Shown q.name)) line_is ∙ (lines_shown q.name (t ∷ []) named).0.1

    line_test : (c : Class) → is_of_class c (event_line n (Line p t)) ≡ tells (Shown q.name) c
    line_test c = shown_test c q.name (event_line n (Line p t)) (plain_name q.name named) of_output

    line_classed : is_classed due (event_line n (Line p t)) ≡ true
    line_classed =
        classed_shown due told q.name (event_line n (Line p t)) (due_at a n.outputs (numbers_to (length n.outputs)) p q (length-range_with_len 0 (length n.outputs)) at) of_output

  -- one that is a decision
  drop_test : (d : Decision) (c : Class) → d.drop < drops_in n → IsPlainClass c → is_of_class c (event_line n (Decided d)) ≡ tells (Dropped d.drop) c
  drop_test d c low plain =
      let small : d.drop < 2 ^ 64 = omega (arith, low, few) in
      dropped_test d.drop (event_line n (Decided d)) (line_dropped d.drop d.batch d.level small).1 c plain

  drop_classed : (d : Decision) → d.drop < drops_in n → is_classed due (event_line n (Decided d)) ≡ true
  drop_classed d low =
      let small : d.drop < 2 ^ 64 = omega (arith, low, few) in
      classed_dropped due told (event_line n (Decided d)) d.drop (number_listed a d.drop (drops_in n) low) (line_dropped d.drop d.batch d.level small).1

  -- and one that is a plan
  module _ (epoch load capacity saved : ℕ) (fits : Bool) where
    abbrev plan : Event
    plan = Plan epoch load capacity saved fits

    plan_test : (c : Class) → IsPlainClass c → is_of_class c (event_line n plan) ≡ tells Planned c
    plan_test c plain = planned_test c (event_line n plan) plain (line_planned epoch load capacity saved fits).1

    plan_classed : is_classed due (event_line n plan) ≡ true
    plan_classed = classed_planned due told (event_line n plan) (line_planned epoch load capacity saved fits).1

  classed : (history : List Event) → AllByRecursion (IsEventAt n) history → AllByRecursion (λ l. is_classed due l ≡ true) (lines history)
  classed [] all = tt
  classed (Line p t ∷ es) all = let q = has_item n.outputs p all.0 in (line_classed p t q.0 q.1, classed es all.1)
  classed (Decided d ∷ es) all = (drop_classed d all.0, classed es all.1)
  classed (Plan epoch load capacity saved fits ∷ es) all = (plan_classed epoch load capacity saved fits, classed es all.1)

  -- none of them is an end line
  none_ended : (history : List Event) → AllByRecursion (IsEventAt n) history → AllByRecursion (λ l. is_of_class Ended l ≡ false) (lines history)
  none_ended [] all = tt
  none_ended (Line p t ∷ es) all = let q = has_item n.outputs p all.0 in (line_test p t q.0 q.1 Ended, none_ended es all.1)
  none_ended (Decided d ∷ es) all = (drop_test d Ended all.0 tt, none_ended es all.1)
  none_ended (Plan epoch load capacity saved fits ∷ es) all = (plan_test epoch load capacity saved fits Ended tt, none_ended es all.1)

  -- those of an output are the lines of its tuples
  module _ (o : ℕ) (out : Output) (there : slice_get n.outputs o ≡ Some out) where
    abbrev of_out : List ℕ → Bool
    of_out = is_of_class (Shown out.name)

    out_plain : IsPlainClass (Shown out.name)
    out_plain = plain_name out.name (all_at (λ (x : Output). is_name x.name ≡ true) n.outputs o out (recursion_from_All (λ (x : Output). is_name x.name ≡ true) n.outputs sound.named) there)

    one_shown : (b : Bool) (p : ℕ) (t : Tuple) (es : List Event) (q : Output) → slice_get n.outputs p ≡ Some q → (p == o) ≡ b
        → filter of_out (lines es) ≡ map (output_line out.name) (lines_of o es)
        → filter of_out (lines (Line p t ∷ es)) ≡ map (output_line out.name) (lines_of o (Line p t ∷ es))
    one_shown true p t es q at e rest =
        let is : event_line n (Line p t) ≡ output_line out.name t = ap (λ x. output_line (output_name_in x) t) (ap (slice_get n.outputs) (eqb-true p o e) ∙ there) in
        filter_kept of_out (event_line n (Line p t)) (lines es) (line_test p t q at (Shown out.name) ∙ name_test n.outputs p o q out sound.distinct at there true e)
        ∙ ap₂ (λ l ls. l ∷ ls) is rest
        ∙ sym (ap (map (output_line out.name)) (line_kept p o t es e))
    one_shown false p t es q at e rest =
        filter_left of_out (event_line n (Line p t)) (lines es) (line_test p t q at (Shown out.name) ∙ name_test n.outputs p o q out sound.distinct at there false e)
        ∙ rest
        ∙ sym (ap (map (output_line out.name)) (line_left p o t es e))

    shown_of : (history : List Event) → AllByRecursion (IsEventAt n) history → filter of_out (lines history) ≡ map (output_line out.name) (lines_of o history)
    shown_of [] all = refl
    shown_of (Line p t ∷ es) all = let q = has_item n.outputs p all.0 in one_shown (p == o) p t es q.0 q.1 refl (shown_of es all.1)
    shown_of (Decided d ∷ es) all = filter_left of_out (event_line n (Decided d)) (lines es) (drop_test d (Shown out.name) all.0 out_plain) ∙ shown_of es all.1
    shown_of (Plan epoch load capacity saved fits ∷ es) all =
        filter_left of_out (event_line n (Plan epoch load capacity saved fits)) (lines es) (plan_test epoch load capacity saved fits (Shown out.name) out_plain) ∙ shown_of es all.1

  -- those of a drop are the lines of what it decides
  module _ (w : ℕ) where
    abbrev of_drop : List ℕ → Bool
    of_drop = is_of_class (Dropped w)

    none_dropped : ((v : ℕ) → v < drops_in n → is_numbered w v ≡ false) → (history : List Event) → AllByRecursion (IsEventAt n) history
        → AllByRecursion (λ l. of_drop l ≡ false) (lines history)
    none_dropped none [] all = tt
    none_dropped none (Line p t ∷ es) all = let q = has_item n.outputs p all.0 in (line_test p t q.0 q.1 (Dropped w), none_dropped none es all.1)
    none_dropped none (Decided d ∷ es) all = (drop_test d (Dropped w) all.0 tt ∙ none d.drop all.0, none_dropped none es all.1)
    none_dropped none (Plan epoch load capacity saved fits ∷ es) all = (plan_test epoch load capacity saved fits (Dropped w) tt, none_dropped none es all.1)

    module _ (v : ℕ) (low : v < drops_in n) (is : is_numbered w v ≡ true) where
      abbrev text_at : Decision → List ℕ
      text_at d = drop_line v d.batch d.level

      one_dropped : (b : Bool) (d : Decision) (es : List Event) → d.drop < drops_in n → (d.drop == v) ≡ b → filter of_drop (lines es) ≡ map text_at (drops_of v es)
          → filter of_drop (lines (Decided d ∷ es)) ≡ map text_at (drops_of v (Decided d ∷ es))
      one_dropped true d es there e rest =
          let same = eqb-true d.drop v e in
          filter_kept of_drop (event_line n (Decided d)) (lines es) (drop_test d (Dropped w) there tt ∙ ap (is_numbered w) same ∙ is)
          ∙ ap₂ (λ l ls. l ∷ ls) (ap (λ k. drop_line k d.batch d.level) same) rest
          ∙ sym (ap (map text_at) (drop_kept v d es e))
      one_dropped false d es there e rest =
          filter_left of_drop (event_line n (Decided d)) (lines es)
          (drop_test d (Dropped w) there tt ∙ false_from_ne_true (is_numbered w d.drop) (λ h. eqb-false d.drop v e (same_number w d.drop v (omega (arith, there, few)) (omega (arith, low, few)) h is)))
          ∙ rest
          ∙ sym (ap (map text_at) (drop_left v d es e))

      dropped_of : (history : List Event) → AllByRecursion (IsEventAt n) history → filter of_drop (lines history) ≡ map text_at (drops_of v history)
      dropped_of [] all = refl
      dropped_of (Line p t ∷ es) all = let q = has_item n.outputs p all.0 in filter_left of_drop (event_line n (Line p t)) (lines es) (line_test p t q.0 q.1 (Dropped w)) ∙ dropped_of es all.1
      dropped_of (Decided d ∷ es) all = one_dropped (d.drop == v) d es all.0 refl (dropped_of es all.1)
      dropped_of (Plan epoch load capacity saved fits ∷ es) all =
          filter_left of_drop (event_line n (Plan epoch load capacity saved fits)) (lines es) (plan_test epoch load capacity saved fits (Dropped w) tt) ∙ dropped_of es all.1

  -- and those of the plans are the lines of the plans
  planned_of : (history : List Event) → AllByRecursion (IsEventAt n) history → filter (is_of_class Planned) (lines history) ≡ map plan_text (plans_of history)
  planned_of [] all = refl
  planned_of (Line p t ∷ es) all =
      let q = has_item n.outputs p all.0 in filter_left (is_of_class Planned) (event_line n (Line p t)) (lines es) (line_test p t q.0 q.1 Planned) ∙ planned_of es all.1
  planned_of (Decided d ∷ es) all = filter_left (is_of_class Planned) (event_line n (Decided d)) (lines es) (drop_test d Planned all.0 tt) ∙ planned_of es all.1
  planned_of (Plan epoch load capacity saved fits ∷ es) all =
      filter_kept (is_of_class Planned) (event_line n (Plan epoch load capacity saved fits)) (lines es) (plan_test epoch load capacity saved fits Planned tt)
      ∙ ap (λ ls. event_line n (Plan epoch load capacity saved fits) ∷ ls) (planned_of es all.1)

  -- the whole answer was shown
  module _ (history : List Event) (shown : AllByRecursion (IsEventAt n) history) (complete : Completes n a history) where
    abbrev whole_list : List (List ℕ)
    whole_list = lines history ++ due.ended

    filter_both : (c : Class) → IsClassIn due c → filter (is_of_class c) whole_list ≡ filter (is_of_class c) (lines history) ++ (if tells Ended c then due.ended else [])
    filter_both c here =
        filter-append (is_of_class c) (lines history) due.ended
        ∙ ap (λ ls. filter (is_of_class c) (lines history) ++ ls) (filter_ended due told c (plain_class due c told here))

    output_all : (name : List ℕ) → IsClassIn due (Shown name) → HasOutput n.outputs (numbers_to (length n.outputs)) name
        → filter (is_of_class (Shown name)) whole_list ≡ due_lines due (Shown name)
    output_all name here h =
        filter_both (Shown name) here
        ∙ append-nil (filter (is_of_class (Shown name)) (lines history))
        ∙ subst (λ w. filter (is_of_class (Shown w)) (lines history) ≡ due_lines due (Shown w)) h.same
        (shown_of h.at h.output h.there history shown
        ∙ ap (map (output_line h.output.name)) (complete.lines h.at (slice_get_within n.outputs h.at h.output h.there) ∙ ap a.tuples (sym (number_at (length n.outputs) h.at h.stream h.shows)))
        ∙ sym (picked_at a n.outputs (numbers_to (length n.outputs)) h.at h.stream h.output sound.distinct h.there h.shows))

    drop_all : (w : ℕ) → filter (is_of_class (Dropped w)) (lines history) ≡ due_lines due (Dropped w)
    drop_all w = by (find_drop w (drops_in n))
      where
        by : ((v : ℕ) × (v < drops_in n) × (is_numbered w v ≡ true)) ⊎ ((v : ℕ) → v < drops_in n → is_numbered w v ≡ false)
            → filter (is_of_class (Dropped w)) (lines history) ≡ due_lines due (Dropped w)
        by (inl (v, low, is)) =
            dropped_of w v low is history shown ∙ ap (map (λ d. drop_line v d.batch d.level)) (complete.drops v low) ∙ sym (one_numbered a w v (drops_in n) low few is)
        by (inr none) = filter_same (is_of_class (Dropped w)) false (lines history) (none_dropped w none history shown) ∙ sym (none_numbered a w (drops_in n) none)

    class_all : (c : Class) → IsClassIn due c → filter (is_of_class c) whole_list ≡ due_lines due c
    class_all (Shown name) here = output_all name here (output_of a n.outputs (numbers_to (length n.outputs)) name here)
    class_all (Dropped w) here = filter_both (Dropped w) here ∙ append-nil (filter (is_of_class (Dropped w)) (lines history)) ∙ drop_all w
    class_all Planned here =
        filter_both Planned here ∙ append-nil (filter (is_of_class Planned) (lines history)) ∙ planned_of history shown ∙ ap (map plan_text) complete.plans
    class_all Ended here = filter_both Ended here ∙ ap (λ ls. ls ++ due.ended) (filter_same (is_of_class Ended) false (lines history) (none_ended history shown))

    pub history_whole : IsWholeList due whole_list
    history_whole = record {
      all = class_all;
      classed = both_pass (is_classed due) (lines history) due.ended (all_pass (is_classed due) (lines history) (classed history shown))
          (all_pass (is_classed due) due.ended (all_map {P = IsLineOf Ended} (λ l h. classed_ended due told l h.1) due.ended told.ended));
      front = lines history;
      lines_are = refl;
      others = all_pass (λ l. not (is_of_class Ended l)) (lines history)
          (all_map {P = λ l. is_of_class Ended l ≡ false} (λ l h. ap not h) (lines history) (none_ended history shown));
    }

    text_is : lines_text whole_list ≡ history_text n history ++ lines_text due.ended
    text_is = flat_map-append (λ l. l) (lines history) due.ended ∙ ap (λ text. text ++ lines_text due.ended) (flat_map_of_map (event_line n) history)

    -- with the end lines behind, its text is whole, and each beginning of it is one of such a text
    pub whole_of_history : IsWholeText due (history_text n history ++ lines_text due.ended)
    whole_of_history = subst (IsWholeText due) text_is (whole_text due whole_list told (whole_order due told whole_list history_whole) history_whole.all)

    pub beginning_of_history : (text : List ℕ) → IsPrefixOf text (history_text n history ++ lines_text due.ended) → IsPrefixText due text
    beginning_of_history text begins =
        prefix_text due whole_list text told (whole_order due told whole_list history_whole) (subst (λ whole. IsPrefixOf text whole) (sym text_is) begins)
