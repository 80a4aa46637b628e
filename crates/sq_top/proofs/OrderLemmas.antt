-- Lines that are written in an order in which each is the next of its class: what their text has of each class.
use Rattle.std.proofs.Common.{◌≡◌, ◌≢◌, ◌⊎◌, inl, inr, ℕ, Bool, true, false, not, List, [], ◌∷◌, ◌++◌, length, drop, refl, ap, sym, ◌∙◌, subst, arith, append_assoc, append-nil, Some}
use Rattle.std.specs.Prelude.{if◌then◌else◌, slice_get, IsSomeAnd}
use Rattle.std.specs.List.{AllByRecursion, filter, list_all}
use Rattle.std.proofs.lemmas.List.{length-append, take-append-drop}
use Rattle.std.proofs.lemmas.List.Elements.{filter-append}
use Rattle.sq_words.specs.Lists.{IsPrefixOf}
use Rattle.sq_lines.specs.Classes.{Class, Ended, is_of_class, of_class, whole_lines, unfinished}
use Rattle.sq_lines.proofs.LineLemmas.{AreLines, Cut, IsFront, cut_prefix, is_line, unfinished-cut, whole_lines-cut, whole_lines-lines, unfinished-lines}
use Rattle.sq_due.specs.Due.{Due}
use Rattle.sq_due.specs.Answers.{AreOthersAll, AreOthersWhole, BeginsNext, IsClassIn, IsPrefixText, IsWholeText, is_classed, class_lines}
use Rattle.sq_lines.specs.RunLines.{lines_text}
use Rattle.sq_due.proofs.ClassLemmas.{AreAlike, IsDueLine, TellsClasses, alike, is_ended, lines_due, not_ended, plain_class}
use Rattle.sq_due.proofs.OrderWords.{IsNextOf, EachIsNext, IsLineOrder, AreAll}
use Rattle.sq_words.proofs.Alls.{all_append}
use Rattle.sq_words.proofs.Lists.{get_next}
use Rattle.sq_top.proofs.ClassLemmas.{is_end, all_middle}
use Rattle.sq_due.proofs.DueLemmas.{both_pass}

filter_one : (p : List ℕ → Bool) (t : Bool) (ls : List (List ℕ)) (l : List ℕ) → p l ≡ t → filter p (ls ++ l ∷ []) ≡ filter p ls ++ (if t then l ∷ [] else [])
filter_one p true ls l e = filter-append p ls (l ∷ []) ∙ rw e refl
filter_one p false ls l e = filter-append p ls (l ∷ []) ∙ rw e refl

one_passes : (p : List ℕ → Bool) (l : List ℕ) → p l ≡ true → list_all p (l ∷ []) ≡ true
one_passes p l h = rw h refl

no_more : (xs : List (List ℕ)) (l : List ℕ) (rest : List (List ℕ)) → xs ≡ (xs ++ l ∷ []) ++ rest → ⊥
no_more xs l rest e =
    let n = ap length e in
    let m = length-append (xs ++ l ∷ []) rest in
    let k = length-append xs (l ∷ []) in
    absurd (omega (arith, n, m, k))

-- end lines stand behind all others
pub record EndsBehind (d : Due) (ls : List (List ℕ)) : Type 0 where
  pub front : List (List ℕ)
  pub lines_are : ls ≡ front ++ filter (is_of_class Ended) ls
  pub others : list_all (λ l. not (is_of_class Ended l)) front ≡ true

-- what lines that were written have of each class
pub record HaveSoFar (d : Due) (ls : List (List ℕ)) : Type 0 where
  pub each : (k : Class) → IsClassIn d k → IsPrefixOf (filter (is_of_class k) ls) (class_lines d k)
  pub classed : list_all (is_classed d) ls ≡ true
  pub lines : AreLines ls
  pub ends : (filter (is_of_class Ended) ls ≡ []) ⊎ AreOthersAll d ls
  pub behind : EndsBehind d ls

none_so_far : (d : Due) → HaveSoFar d []
none_so_far d = record {
  each = λ k here. (class_lines d k, refl);
  classed = refl;
  lines = tt;
  ends = inl refl;
  behind = record { front = []; lines_are = refl; others = refl };
}

-- one line more
module _ (d : Due) (s : TellsClasses d) (ls : List (List ℕ)) (has : HaveSoFar d ls) (l : List ℕ) (c : Class) (next : IsNextOf d ls l c) where
  due : IsDueLine d c l
  due =
      let all = subst (AllByRecursion (IsDueLine d c)) (next.1.1 ∙ append_assoc (filter (is_of_class c) ls) (l ∷ []) next.1.0) (lines_due d s c) in
      all_middle (IsDueLine d c) (filter (is_of_class c) ls) l next.1.0 all

  same_class : (k : Class) → IsClassIn d k → is_of_class k l ≡ true → AreAlike d c k
  same_class k here of = alike d c k l (plain_class d c s next.0) (plain_class d k s here) due.1 of

  each_by : (t : Bool) (k : Class) → IsClassIn d k → is_of_class k l ≡ t → IsPrefixOf (filter (is_of_class k) (ls ++ l ∷ [])) (class_lines d k)
  each_by true k here of =
      let a = same_class k here of in (
        next.1.0,
        sym a.lines ∙ next.1.1 ∙ ap (λ xs. (xs ++ l ∷ []) ++ next.1.0) (filter_alike (is_of_class c) (is_of_class k) a.test ls) ∙ ap (λ xs. xs ++ next.1.0) (sym (filter_one (is_of_class k) true ls l of)),
      )
    where
      filter_alike : (p q : List ℕ → Bool) → ((x : List ℕ) → p x ≡ q x) → (xs : List (List ℕ)) → filter p xs ≡ filter q xs
      filter_alike p q same [] = refl
      filter_alike p q same (x ∷ xs) = rw (same x, filter_alike p q same xs) refl
  each_by false k here of =
      let before = has.each k here in
      (before.0, before.1 ∙ ap (λ xs. xs ++ before.0) (sym (append-nil (filter (is_of_class k) ls)) ∙ sym (filter_one (is_of_class k) false ls l of)))

  -- a class that the line isn't of stays
  stays : (k : Class) → is_of_class k l ≡ false → filter (is_of_class k) (ls ++ l ∷ []) ≡ filter (is_of_class k) ls
  stays k of = filter_one (is_of_class k) false ls l of ∙ append-nil (filter (is_of_class k) ls)

  other_test : (t : Bool) (k : Class) → IsClassIn d k → is_ended k ≡ false → is_ended c ≡ true → is_of_class k l ≡ t → is_of_class k l ≡ false
  other_test true k here other ends of = let a = same_class k here of in let e = sym ends ∙ a.ended ∙ other in cc
  other_test false k here other ends of = of

  others_stay : c ≡ Ended → AreOthersAll d (ls ++ l ∷ [])
  others_stay ends k here other =
      let apart = other_test (is_of_class k l) k here (not_ended k other) (ap is_ended ends) refl in
      stays k apart ∙ next.2 ends k here other

  end_test : (t : Bool) → is_ended c ≡ false → is_of_class Ended l ≡ t → is_of_class Ended l ≡ false
  end_test true other of = let a = same_class Ended tt of in let e = sym other ∙ a.ended in cc
  end_test false other of = of

  -- where other lines come, no end line was written
  none_ended : is_ended c ≡ false → filter (is_of_class Ended) ls ≡ []
  none_ended other = by has.ends
    where
      is_other : c ≡ Ended → ⊥
      is_other e = let h : is_ended c ≡ true = ap is_ended e in let g = sym other ∙ h in cc

      by : (filter (is_of_class Ended) ls ≡ []) ⊎ AreOthersAll d ls → filter (is_of_class Ended) ls ≡ []
      by (inl none) = none
      by (inr all) = absurd (no_more (filter (is_of_class c) ls) l next.1.0 (all c next.0 is_other ∙ next.1.1))

  ends_by : (t : Bool) → is_ended c ≡ t → (filter (is_of_class Ended) (ls ++ l ∷ []) ≡ []) ⊎ AreOthersAll d (ls ++ l ∷ [])
  ends_by true e = inr (others_stay (is_end c e))
  ends_by false e = inl (stays Ended (end_test (is_of_class Ended l) e refl) ∙ none_ended e)

  is_end_line : c ≡ Ended → is_of_class Ended l ≡ true
  is_end_line e = subst (λ k. is_of_class k l ≡ true) e due.1

  behind_by : (t : Bool) → is_ended c ≡ t → EndsBehind d (ls ++ l ∷ [])
  behind_by true e =
      let b = has.behind in
      record {
        front = b.front;
        lines_are = ap (λ xs. xs ++ l ∷ []) b.lines_are ∙ append_assoc b.front (filter (is_of_class Ended) ls) (l ∷ []) ∙ ap (λ xs. b.front ++ xs) (sym (filter_one (is_of_class Ended) true ls l (is_end_line (is_end c e))));
        others = b.others;
      }
  behind_by false e =
      let b = has.behind in
      let apart = end_test (is_of_class Ended l) e refl in
      let none = none_ended e in
      let front_is : ls ≡ b.front = b.lines_are ∙ ap (λ xs. b.front ++ xs) none ∙ append-nil b.front in
      record {
        front = ls ++ l ∷ [];
        lines_are = sym (append-nil (ls ++ l ∷ [])) ∙ ap (λ xs. (ls ++ l ∷ []) ++ xs) (sym (stays Ended apart ∙ none));
        others = both_pass (λ x. not (is_of_class Ended x)) ls (l ∷ []) (subst (λ xs. list_all (λ x. not (is_of_class Ended x)) xs ≡ true) (sym front_is) b.others)
            (one_passes (λ x. not (is_of_class Ended x)) l (ap not apart));
      }

  pub one_more : HaveSoFar d (ls ++ l ∷ [])
  one_more = record {
    each = λ k here. each_by (is_of_class k l) k here refl;
    classed = both_pass (is_classed d) ls (l ∷ []) has.classed (one_passes (is_classed d) l due.2);
    lines = all_append (λ x. is_line false x ≡ true) ls (l ∷ []) has.lines (due.0, tt);
    ends = ends_by (is_ended c) refl;
    behind = behind_by (is_ended c) refl;
  }

all_so_far : (d : Due) → TellsClasses d → (before ls : List (List ℕ)) → HaveSoFar d before → EachIsNext d before ls → HaveSoFar d (before ++ ls)
all_so_far d s before [] has order = subst (HaveSoFar d) (sym (append-nil before)) has
all_so_far d s before (l ∷ ls) has order =
    subst (HaveSoFar d) (append_assoc before (l ∷ []) ls)
    (all_so_far d s (before ++ l ∷ []) ls (one_more d s before has l order.0.0 order.0.1) order.1)

pub so_far : (d : Due) → TellsClasses d → (ls : List (List ℕ)) → IsLineOrder d ls → HaveSoFar d ls
so_far d s ls order = all_so_far d s [] ls (none_so_far d) order

-- an order up to a place, and from there on
pub order_front : (d : Due) (before xs ys : List (List ℕ)) → EachIsNext d before (xs ++ ys) → EachIsNext d before xs
order_front d before [] ys order = tt
order_front d before (x ∷ xs) ys order = (order.0, order_front d (before ++ x ∷ []) xs ys order.1)

pub order_back : (d : Due) (before xs ys : List (List ℕ)) → EachIsNext d before (xs ++ ys) → EachIsNext d (before ++ xs) ys
order_back d before [] ys order = subst (λ b. EachIsNext d b ys) (sym (append-nil before)) order
order_back d before (x ∷ xs) ys order = subst (λ b. EachIsNext d b ys) (append_assoc before (x ∷ []) xs) (order_back d (before ++ x ∷ []) xs ys order.1)

-- a text that begins the text of such lines
module _ (d : Due) (s : TellsClasses d) (ls : List (List ℕ)) (order : IsLineOrder d ls) (text : List ℕ) (cut : Cut ls text) where
  order_is : IsLineOrder d (cut.done ++ cut.rest)
  order_is = subst (IsLineOrder d) cut.lines_are order

  done : HaveSoFar d cut.done
  done = so_far d s cut.done (order_front d [] cut.done cut.rest order_is)

  whole_are : AreLines ls
  whole_are = (so_far d s ls order).lines

  whole_is : whole_lines text ≡ cut.done
  whole_is = whole_lines-cut ls text cut whole_are

  unfinished_is : unfinished text ≡ cut.part
  unfinished_is = unfinished-cut ls text cut whole_are

  class_is : (k : Class) → of_class k text ≡ filter (is_of_class k) cut.done
  class_is k = ap (filter (is_of_class k)) whole_is

  others_are : AreOthersAll d cut.done → AreOthersWhole d text
  others_are all k here other = class_is k ∙ all k here other

  ends_are : of_class Ended text ≢ [] → AreOthersWhole d text
  ends_are some = elim done.ends [ inl none ↦ absurd (some (class_is Ended ∙ none)) | inr all ↦ others_are all ]

  module _ (f : IsFront cut.rest cut.part) where
    next : (c : Class) × IsNextOf d cut.done f.next c
    next = (subst (EachIsNext d cut.done) f.rest_is (order_back d [] cut.done cut.rest order_is)).0

    begins : IsPrefixOf (unfinished text) f.next
    begins = (
      drop f.size f.next,
      sym (take-append-drop f.size f.next) ∙ ap (λ x. x ++ drop f.size f.next) (sym f.part_is ∙ sym unfinished_is),
    )

    next_line : slice_get (class_lines d next.0) (length (of_class next.0 text)) ≡ Some f.next
    next_line =
        let p = is_of_class next.0 in
        let prefix = next.1.1 in
        ap (λ xs. slice_get xs (length (of_class next.0 text))) (prefix.1 ∙ append_assoc (filter p cut.done) (f.next ∷ []) prefix.0)
        ∙ ap (λ xs. slice_get (filter p cut.done ++ (f.next ∷ prefix.0)) (length xs)) (class_is next.0)
        ∙ get_next (filter p cut.done) f.next prefix.0

    begins_next : BeginsNext d text next.0
    begins_next = (next.1.0, subst (λ o. IsSomeAnd o (λ x. IsPrefixOf (unfinished text) x)) (sym next_line) begins)

  prefix_of_order : IsPrefixText d text
  prefix_of_order = record {
    lines = λ k here. subst (λ xs. IsPrefixOf xs (class_lines d k)) (sym (class_is k)) (done.each k here);
    classed = rw whole_is done.classed;
    begun = elim cut.part_is [
      | inl none ↦ inl (unfinished_is ∙ none)
      | inr f ↦ inr ((next f).0, begins_next f, λ e. others_are ((next f).1.2 e))
    ];
    ends_last = ends_are;
  }

-- each beginning of their text has a prefix of each class
pub prefix_text : (d : Due) (ls : List (List ℕ)) (text : List ℕ) → TellsClasses d → IsLineOrder d ls → IsPrefixOf text (lines_text ls) → IsPrefixText d text
prefix_text d ls text s order prefix = prefix_of_order d s ls order text (cut_prefix ls text prefix)

-- where they are all, their text is whole
pub whole_text : (d : Due) (ls : List (List ℕ)) → TellsClasses d → IsLineOrder d ls → AreAll d ls → IsWholeText d (lines_text ls)
whole_text d ls s order all =
    let has = so_far d s ls order in
    let lines_is : whole_lines (lines_text ls) ≡ ls = sym (ap whole_lines (append-nil (lines_text ls))) ∙ whole_lines-lines ls [] has.lines refl in
    let behind = has.behind in
    record {
      lines = λ k here. ap (filter (is_of_class k)) lines_is ∙ all k here;
      classed = rw lines_is has.classed;
      finished = sym (ap unfinished (append-nil (lines_text ls))) ∙ unfinished-lines ls [] has.lines refl;
      ends_last = (behind.front, lines_is ∙ behind.lines_are ∙ ap (λ xs. behind.front ++ xs) (all Ended tt), behind.others);
    }
