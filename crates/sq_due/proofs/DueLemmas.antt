-- Lists of all lines: one that has each class whole, nothing else, and the end lines last, is an order of writing.
use Rattle.std.proofs.Common.{◌≡◌, ◌≢◌, inl, inr, ℕ, Bool, true, false, not, ◌&&◌, ◌||◌, List, [], ◌∷◌, ◌++◌, refl, ap, sym, ◌∙◌, subst, append_assoc}
use Rattle.std.specs.Prelude.{if◌then◌else◌, codes}
use Rattle.std.specs.Fmt.{decimal}
use Rattle.std.specs.List.{AllByRecursion, filter, list_all, list_any}
use Rattle.std.proofs.lemmas.List.Elements.{filter-append}
use Rattle.std.proofs.lemmas.List.Folds.{list_all-append}
use Rattle.sq_words.specs.Lists.{same_bytes, IsPrefixOf}
use Rattle.sq_lines.specs.Classes.{Class, Shown, Dropped, Planned, Ended, first_field, second_field, is_of_class}
use Rattle.sq_flow.proofs.ArcLemmas.{front-none}
use Rattle.sq_due.specs.Due.{Due}
use Rattle.sq_due.specs.Answers.{AreOthersAll, IsClassIn, is_classed, class_lines}
use Rattle.sq_due.proofs.ClassLemmas.{Drops, IsLineOf, IsPlainClass, IsPlainName, Outputs, TellsClasses, alike, all_map, end_field-plain, is_end_field, not_ended, plain_class, plain_differs, same_bytes-plain}
use Rattle.sq_due.proofs.SortedLines.{InBack, InFront, cut_twice, filter_same, list_all-back}
use Rattle.sq_due.proofs.OrderWords.{IsNextOf, EachIsNext, IsLineOrder, AreAll}
use Rattle.sq_words.proofs.Bools.{and_true}
use Rattle.std.proofs.lemmas.Bool.{or_right, false_from_ne_true}
use Rattle.sq_words.proofs.Lists.{same_bytes_true, same_bytes_itself}

-- a list that has each class whole, nothing else, and the end lines last
pub record IsWholeList (d : Due) (ls : List (List ℕ)) : Type 0 where
  pub all : AreAll d ls
  pub classed : list_all (is_classed d) ls ≡ true
  pub front : List (List ℕ)
  pub lines_are : ls ≡ front ++ d.ended
  pub others : list_all (λ l. not (is_of_class Ended l)) front ≡ true

-- the class of a line
record HasClass (d : Due) (line : List ℕ) : Type 0 where
  class : Class
  here : IsClassIn d class
  of : is_of_class class line ≡ true

record HasName (os : Outputs) (f : List ℕ) : Type 0 where
  name : List ℕ
  same : same_bytes f name ≡ true
  named : list_any (λ o. same_bytes o.0 name) os ≡ true

name_first : (t : Bool) (o : List ℕ × List (List ℕ)) (os : Outputs) (f : List ℕ) → same_bytes f o.0 ≡ t
    → (list_any (λ x. same_bytes f x.0) os ≡ true → HasName os f) → list_any (λ x. same_bytes f x.0) (o ∷ os) ≡ true → HasName (o ∷ os) f
name_first true o os f e more h = record { name = o.0; same = e; named = rw (same_bytes_itself o.0) refl }
name_first false o os f e more h =
    let m = more (rw e at h) in
    record { name = m.name; same = m.same; named = or_right (same_bytes o.0 m.name) (list_any (λ x. same_bytes x.0 m.name) os) m.named }

name_of : (os : Outputs) (f : List ℕ) → list_any (λ x. same_bytes f x.0) os ≡ true → HasName os f
name_of [] f h = absurd (cc)
name_of (o ∷ os) f h = name_first (same_bytes f o.0) o os f refl (name_of os f) h

drop_first : (t : Bool) (w : ℕ × List (List ℕ)) (ws : Drops) (l : List ℕ) → is_of_class (Dropped w.0) l ≡ t
    → (list_any (λ x. is_of_class (Dropped x.0) l) ws ≡ true → (v : ℕ) × (is_of_class (Dropped v) l ≡ true))
    → list_any (λ x. is_of_class (Dropped x.0) l) (w ∷ ws) ≡ true → (v : ℕ) × (is_of_class (Dropped v) l ≡ true)
drop_first true w ws l e more h = (w.0, e)
drop_first false w ws l e more h = more (rw e at h)

drop_of : (ws : Drops) (l : List ℕ) → list_any (λ x. is_of_class (Dropped x.0) l) ws ≡ true → (w : ℕ) × (is_of_class (Dropped w) l ≡ true)
drop_of [] l h = absurd (cc)
drop_of (w ∷ ws) l h = drop_first (is_of_class (Dropped w.0) l) w ws l refl (drop_of ws l) h

class_by : (d : Due) (l : List ℕ) (a b c e : Bool) → list_any (λ o. is_of_class (Shown o.0) l) d.shown ≡ a → list_any (λ x. is_of_class (Dropped x.0) l) d.dropped ≡ b
    → is_of_class Planned l ≡ c → is_of_class Ended l ≡ e → (a || b || c || e) ≡ true → HasClass d l
class_by d l true b c e shown dropped planned ended h =
    let n = name_of d.shown (first_field l) shown in record { class = Shown n.name; here = n.named; of = n.same }
class_by d l false true c e shown dropped planned ended h = let w = drop_of d.dropped l dropped in record { class = Dropped w.0; here = tt; of = w.1 }
class_by d l false false true e shown dropped planned ended h = record { class = Planned; here = tt; of = planned }
class_by d l false false false true shown dropped planned ended h = record { class = Ended; here = tt; of = ended }
class_by d l false false false false shown dropped planned ended h = absurd (cc)

class_of : (d : Due) (l : List ℕ) → is_classed d l ≡ true → HasClass d l
class_of d l h =
    class_by d l (list_any (λ o. is_of_class (Shown o.0) l) d.shown) (list_any (λ x. is_of_class (Dropped x.0) l) d.dropped) (is_of_class Planned l) (is_of_class Ended l)
    refl refl refl refl h

pub filter_kept : (p : List ℕ → Bool) (x : List ℕ) (xs : List (List ℕ)) → p x ≡ true → filter p (x ∷ xs) ≡ x ∷ filter p xs
filter_kept p x xs h = rw h refl

first_of : {X : Type 0} (x y : X) (xs ys : List X) → x ∷ xs ≡ y ∷ ys → x ≡ y
first_of x y xs ys e = cc

all_first : (p : List ℕ → Bool) (x : List ℕ) (xs : List (List ℕ)) → list_all p (x ∷ xs) ≡ true → p x ≡ true
all_first p x xs h = (and_true (p x) (list_all p xs) h).0

module _ (d : Due) (s : TellsClasses d) (ls : List (List ℕ)) (whole : IsWholeList d ls) where
  -- no end line is of another class
  not_other : (k : Class) (l : List ℕ) → IsClassIn d k → k ≢ Ended → is_of_class Ended l ≡ true → is_of_class k l ≡ false
  not_other k l here other ends =
      false_from_ne_true (is_of_class k l) (λ of. let a = alike d Ended k l tt (plain_class d k s here) ends of in let e = a.ended ∙ not_ended k other in cc)

  no_ended : (k : Class) → IsClassIn d k → k ≢ Ended → filter (is_of_class k) d.ended ≡ []
  no_ended k here other = filter_same (is_of_class k) false d.ended (all_map {P = IsLineOf Ended} (λ l h. not_other k l here other h.1) d.ended s.ended)

  module _ (before : List (List ℕ)) (l : List ℕ) (rest : List (List ℕ)) (at : ls ≡ before ++ (l ∷ rest)) where
    class_here : HasClass d l
    class_here = class_of d l (all_first (is_classed d) l rest (list_all-back (is_classed d) before (l ∷ rest) (subst (λ xs. list_all (is_classed d) xs ≡ true) at whole.classed)))

    prefix_here : IsPrefixOf (filter (is_of_class class_here.class) before ++ l ∷ []) (class_lines d class_here.class)
    prefix_here =
        let p = is_of_class class_here.class in (
          filter p rest,
          sym (whole.all class_here.class class_here.here) ∙ ap (filter p) at ∙ filter-append p before (l ∷ rest)
              ∙ ap (λ xs. filter p before ++ xs) (filter_kept p l rest class_here.of) ∙ sym (append_assoc (filter p before) (l ∷ []) (filter p rest)),
        )

    others_before : InBack whole.front d.ended before (l ∷ rest) → AreOthersAll d before
    others_before b k here other =
        let p = is_of_class k in
        let none : filter p b.more ≡ [] = front-none (filter p b.more) (filter p (l ∷ rest)) (sym (filter-append p b.more (l ∷ rest)) ∙ sym (ap (filter p) b.back_is) ∙ no_ended k here other) in
        ap (filter p) b.done_is ∙ filter-append p whole.front b.more
        ∙ ap (λ xs. filter p whole.front ++ xs) (none ∙ sym (no_ended k here other))
        ∙ sym (filter-append p whole.front d.ended) ∙ sym (ap (filter p) whole.lines_are) ∙ whole.all k here

    not_in_front : InFront whole.front d.ended before (l ∷ rest) → is_of_class Ended l ≡ true → ⊥
    not_in_front f ends =
        let same : l ≡ f.next = first_of l f.next rest (f.more ++ d.ended) f.rest_is in
        let other = all_first (λ x. not (is_of_class Ended x)) f.next f.more
        (list_all-back (λ x. not (is_of_class Ended x)) before (f.next ∷ f.more) (subst (λ xs. list_all (λ x. not (is_of_class Ended x)) xs ≡ true) f.front_is whole.others)) in
        let ends' : is_of_class Ended f.next ≡ true = subst (λ x. is_of_class Ended x ≡ true) same ends in
        let both : not true ≡ true = subst (λ t. not t ≡ true) ends' other in cc

    ends_here : class_here.class ≡ Ended → AreOthersAll d before
    ends_here e = elim (cut_twice whole.front d.ended before (l ∷ rest) (sym whole.lines_are ∙ at)) [
      | inl b ↦ others_before b
      | inr f ↦ absurd (not_in_front f (subst (λ k. is_of_class k l ≡ true) e class_here.of))
    ]

    next_here : (c : Class) × IsNextOf d before l c
    next_here = (class_here.class, (class_here.here, prefix_here, ends_here))

  walk : (before rest : List (List ℕ)) → ls ≡ before ++ rest → EachIsNext d before rest
  walk before [] at = tt
  walk before (l ∷ rest) at = (next_here before l rest at, walk (before ++ l ∷ []) rest (at ∙ sym (append_assoc before (l ∷ []) rest)))

  -- such a list is an order of writing
  pub whole_order : IsLineOrder d ls
  whole_order = walk [] ls refl

-- how the test of a class answers for the lines of another
abbrev pub tells : Class → Class → Bool
tells (Shown n) (Shown name) = same_bytes n name
tells (Dropped w) (Dropped v) = same_bytes (decimal w) (decimal v)
tells Planned Planned = true
tells Ended Ended = true
tells k c = false

not_plain : (name bs : List ℕ) → IsPlainName name → same_bytes (64 ∷ bs) name ≡ false
not_plain name bs plain = false_from_ne_true (same_bytes (64 ∷ bs) name) (λ h. plain_differs name bs plain (sym (same_bytes_true (64 ∷ bs) name h)))

-- an end line's first field is no other text
end_field-other : (f other : List ℕ) → is_end_field f ≡ true → is_end_field other ≡ false → same_bytes f other ≡ false
end_field-other f other ends differs =
    false_from_ne_true (same_bytes f other) (λ h. let e : is_end_field other ≡ true = subst (λ x. is_end_field x ≡ true) (same_bytes_true f other h) ends in cc)

pub shown_test : (c : Class) (n l : List ℕ) → IsPlainName n → is_of_class (Shown n) l ≡ true → is_of_class c l ≡ tells (Shown n) c
shown_test (Shown name) n l plain is = rw (same_bytes_true (first_field l) n is) refl
shown_test (Dropped w) n l plain is = rw (same_bytes_true (first_field l) n is, same_bytes-plain n (codes "drop") plain) refl
shown_test Planned n l plain is = rw (same_bytes_true (first_field l) n is, same_bytes-plain n (codes "plan") plain) refl
shown_test Ended n l plain is = rw (same_bytes_true (first_field l) n is) (end_field-plain n plain)

module _ (w : ℕ) (l : List ℕ) (is : is_of_class (Dropped w) l ≡ true) where
  drop_field : first_field l ≡ codes "@drop"
  drop_field = same_bytes_true (first_field l) (codes "@drop") (and_true (same_bytes (first_field l) (codes "@drop")) (same_bytes (second_field l) (decimal w)) is).0

  drop_number : second_field l ≡ decimal w
  drop_number = same_bytes_true (second_field l) (decimal w) (and_true (same_bytes (first_field l) (codes "@drop")) (same_bytes (second_field l) (decimal w)) is).1

  pub dropped_test : (c : Class) → IsPlainClass c → is_of_class c l ≡ tells (Dropped w) c
  dropped_test (Shown name) plain = rw drop_field (not_plain name (codes "drop") plain)
  dropped_test (Dropped v) plain = rw (drop_field, drop_number) refl
  dropped_test Planned plain = rw drop_field refl
  dropped_test Ended plain = rw drop_field refl

pub planned_test : (c : Class) (l : List ℕ) → IsPlainClass c → is_of_class Planned l ≡ true → is_of_class c l ≡ tells Planned c
planned_test (Shown name) l plain is = rw (same_bytes_true (first_field l) (codes "@plan") is) (not_plain name (codes "plan") plain)
planned_test (Dropped v) l plain is = rw (same_bytes_true (first_field l) (codes "@plan") is) refl
planned_test Planned l plain is = is
planned_test Ended l plain is = rw (same_bytes_true (first_field l) (codes "@plan") is) refl

ended_test : (c : Class) (l : List ℕ) → IsPlainClass c → is_of_class Ended l ≡ true → is_of_class c l ≡ tells Ended c
ended_test (Shown name) l plain ends = end_field-other (first_field l) name ends (end_field-plain name plain)
ended_test (Dropped w) l plain ends = rw (end_field-other (first_field l) (codes "@drop") ends refl) refl
ended_test Planned l plain ends = end_field-other (first_field l) (codes "@plan") ends refl
ended_test Ended l plain ends = ends

pub all_pass : (q : List ℕ → Bool) (xs : List (List ℕ)) → AllByRecursion (λ l. q l ≡ true) xs → list_all q xs ≡ true
all_pass q [] all = refl
all_pass q (x ∷ xs) all = rw (all.0, all_pass q xs all.1) refl

pub both_pass : (q : List ℕ → Bool) (xs ys : List (List ℕ)) → list_all q xs ≡ true → list_all q ys ≡ true → list_all q (xs ++ ys) ≡ true
both_pass q xs ys a b = list_all-append q xs ys ∙ ap (λ t. t && list_all q ys) a ∙ b

-- of the end lines a class has all or none
pub filter_ended : (d : Due) → TellsClasses d → (c : Class) → IsPlainClass c → filter (is_of_class c) d.ended ≡ (if tells Ended c then d.ended else [])
filter_ended d s c plain = filter_same (is_of_class c) (tells Ended c) d.ended (all_map {P = IsLineOf Ended} (λ l h. ended_test c l plain h.1) d.ended s.ended)
