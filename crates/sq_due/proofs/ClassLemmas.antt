-- The lines that are due of each class: each is one line, of that class alone.
use Rattle.std.proofs.Common.{◌≡◌, ◌≢◌, ℕ, Bool, true, false, ◌&&◌, ◌||◌, List, [], ◌∷◌, refl, ap, sym, ◌∙◌, subst}
use Rattle.std.specs.Prelude.{codes, IsTrue, ⊤}
use Rattle.std.specs.Fmt.{decimal}
use Rattle.std.specs.List.{AllByRecursion, filter, flat_map, list_any}
use Rattle.sq_words.specs.Lists.{same_bytes}
use Rattle.sq_lines.specs.Classes.{Class, Shown, Dropped, Planned, Ended, first_field, second_field, is_of_class}
use Rattle.sq_lines.proofs.LineLemmas.{is_line}
use Rattle.sq_due.specs.Due.{Due}
use Rattle.sq_due.specs.Answers.{IsClassIn, is_classed, class_lines}
use Rattle.sq_words.proofs.Bools.{and_true}
use Rattle.std.proofs.lemmas.Bool.{or_right, false_from_ne_true, or_left}
use Rattle.sq_words.proofs.Alls.{all_append}
use Rattle.sq_words.proofs.Lists.{same_bytes_true, same_bytes_itself}

-- a name that doesn't begin with `@`
abbrev pub IsPlainName : List ℕ → Type 0
IsPlainName [] = ⊥
IsPlainName (b ∷ bs) = b ≢ 64

-- a line of a class
abbrev pub IsLineOf : Class → List ℕ → Type 0
IsLineOf c l = (is_line false l ≡ true) × (is_of_class c l ≡ true)

-- each line that is due is one line, and its class can be told
pub record TellsClasses (d : Due) : Type 0 where
  pub names : AllByRecursion (λ o. IsPlainName o.0) d.shown
  pub shown : AllByRecursion (λ o. AllByRecursion (IsLineOf (Shown o.0)) o.1) d.shown
  pub dropped : AllByRecursion (λ x. AllByRecursion (IsLineOf (Dropped x.0)) x.1) d.dropped
  pub planned : AllByRecursion (IsLineOf Planned) d.planned
  pub ended : AllByRecursion (IsLineOf Ended) d.ended

abbrev pub is_end_field : List ℕ → Bool
is_end_field f = same_bytes f (codes "@box") || same_bytes f (codes "@late") || same_bytes f (codes "@end")

pub plain_differs : (n bs : List ℕ) → IsPlainName n → n ≡ 64 ∷ bs → ⊥
plain_differs [] bs plain e = plain
plain_differs (b ∷ n) bs plain e = plain cc

pub same_bytes-plain : (n bs : List ℕ) → IsPlainName n → same_bytes n (64 ∷ bs) ≡ false
same_bytes-plain n bs plain = false_from_ne_true (same_bytes n (64 ∷ bs)) (λ h. plain_differs n bs plain (same_bytes_true n (64 ∷ bs) h))

pub end_field-plain : (n : List ℕ) → IsPlainName n → is_end_field n ≡ false
end_field-plain n plain = rw (same_bytes-plain n (codes "box") plain, same_bytes-plain n (codes "late") plain, same_bytes-plain n (codes "end") plain) refl

-- the end lines apart
abbrev pub is_ended : Class → Bool
is_ended Ended = true
is_ended c = false

pub not_ended : (k : Class) → k ≢ Ended → is_ended k ≡ false
not_ended (Shown name) h = refl
not_ended (Dropped w) h = refl
not_ended Planned h = refl
not_ended Ended h = absurd (h refl)

-- two classes with the same lines
pub record AreAlike (d : Due) (c k : Class) : Type 0 where
  pub lines : class_lines d c ≡ class_lines d k
  pub test : (l : List ℕ) → is_of_class c l ≡ is_of_class k l
  pub ended : is_ended c ≡ is_ended k

alike_self : (d : Due) (c : Class) → AreAlike d c c
alike_self d c = record { lines = refl; test = λ l. refl; ended = refl }

alike_shown : (d : Due) (a b : List ℕ) → a ≡ b → AreAlike d (Shown a) (Shown b)
alike_shown d a b e = subst (λ x. AreAlike d (Shown a) (Shown x)) e (alike_self d (Shown a))

alike_dropped : (d : Due) (w v : ℕ) → decimal w ≡ decimal v → AreAlike d (Dropped w) (Dropped v)
alike_dropped d w v e = record {
  lines = ap (λ t. flat_map (λ x. x.1) (filter (λ x. same_bytes (decimal x.0) t) d.dropped)) e;
  test = λ l. ap (λ t. same_bytes (first_field l) (codes "@drop") && same_bytes (second_field l) t) e;
  ended = refl;
}

-- the classes that a run has, with plain names
abbrev pub IsPlainClass : Class → Type 0
IsPlainClass (Shown name) = IsPlainName name
IsPlainClass c = ⊤

module _ (f : List ℕ) where
  no_plain : (name bs : List ℕ) → IsPlainName name → same_bytes f name ≡ true → same_bytes f (64 ∷ bs) ≡ true → ⊥
  no_plain name bs plain is other = plain_differs name bs plain (sym (same_bytes_true f name is) ∙ same_bytes_true f (64 ∷ bs) other)

  no_plain_end : (name : List ℕ) → IsPlainName name → same_bytes f name ≡ true → is_end_field f ≡ true → ⊥
  no_plain_end name plain is ends =
      let e : is_end_field name ≡ true = subst (λ x. is_end_field x ≡ true) (same_bytes_true f name is) ends in
      let none = end_field-plain name plain in cc

  no_end : (bs : List ℕ) → is_end_field (64 ∷ bs) ≡ false → same_bytes f (64 ∷ bs) ≡ true → is_end_field f ≡ true → ⊥
  no_end bs none is ends = let e : is_end_field (64 ∷ bs) ≡ true = subst (λ x. is_end_field x ≡ true) (same_bytes_true f (64 ∷ bs) is) ends in cc

  no_two : (a b : List ℕ) → same_bytes a b ≡ false → same_bytes f a ≡ true → same_bytes f b ≡ true → ⊥
  no_two a b differ is other =
      let e : same_bytes a b ≡ true = subst (λ x. same_bytes x b ≡ true) (same_bytes_true f a is) other in cc

-- a line is of one class alone
pub alike : (d : Due) (c k : Class) (l : List ℕ) → IsPlainClass c → IsPlainClass k → is_of_class c l ≡ true → is_of_class k l ≡ true → AreAlike d c k
alike d (Shown a) (Shown b) l p q is other = alike_shown d a b (sym (same_bytes_true (first_field l) a is) ∙ same_bytes_true (first_field l) b other)
alike d (Shown a) (Dropped v) l p q is other = absurd (no_plain (first_field l) a (codes "drop") p is (and_true _ _ other).0)
alike d (Shown a) Planned l p q is other = absurd (no_plain (first_field l) a (codes "plan") p is other)
alike d (Shown a) Ended l p q is other = absurd (no_plain_end (first_field l) a p is other)
alike d (Dropped w) (Shown b) l p q is other = absurd (no_plain (first_field l) b (codes "drop") q other (and_true _ _ is).0)
alike d (Dropped w) (Dropped v) l p q is other =
    alike_dropped d w v (sym (same_bytes_true (second_field l) (decimal w) (and_true _ _ is).1) ∙ same_bytes_true (second_field l) (decimal v) (and_true _ _ other).1)
alike d (Dropped w) Planned l p q is other = absurd (no_two (first_field l) (codes "@drop") (codes "@plan") refl (and_true _ _ is).0 other)
alike d (Dropped w) Ended l p q is other = absurd (no_end (first_field l) (codes "drop") refl (and_true _ _ is).0 other)
alike d Planned (Shown b) l p q is other = absurd (no_plain (first_field l) b (codes "plan") q other is)
alike d Planned (Dropped v) l p q is other = absurd (no_two (first_field l) (codes "@drop") (codes "@plan") refl (and_true _ _ other).0 is)
alike d Planned Planned l p q is other = alike_self d Planned
alike d Planned Ended l p q is other = absurd (no_end (first_field l) (codes "plan") refl is other)
alike d Ended (Shown b) l p q is other = absurd (no_plain_end (first_field l) b q other is)
alike d Ended (Dropped v) l p q is other = absurd (no_end (first_field l) (codes "drop") refl (and_true _ _ other).0 is)
alike d Ended Planned l p q is other = absurd (no_end (first_field l) (codes "plan") refl other is)
alike d Ended Ended l p q is other = alike_self d Ended

abbrev pub Outputs : Type 0
Outputs = List (List ℕ × List (List ℕ))

abbrev pub Drops : Type 0
Drops = List (ℕ × List (List ℕ))

plain_named : (t : Bool) (o : List ℕ × List (List ℕ)) (os : Outputs) (name : List ℕ) → same_bytes o.0 name ≡ t → IsPlainName o.0
    → (IsTrue (list_any (λ x. same_bytes x.0 name) os) → IsPlainName name) → IsTrue (list_any (λ x. same_bytes x.0 name) (o ∷ os)) → IsPlainName name
plain_named true o os name e plain more h = subst IsPlainName (same_bytes_true o.0 name e) plain
plain_named false o os name e plain more h = more (rw e at h)

plain_name : (os : Outputs) (name : List ℕ) → AllByRecursion (λ o. IsPlainName o.0) os → IsTrue (list_any (λ o. same_bytes o.0 name) os) → IsPlainName name
plain_name [] name names h = absurd (cc)
plain_name (o ∷ os) name names h = plain_named (same_bytes o.0 name) o os name refl names.0 (plain_name os name names.1) h

pub plain_class : (d : Due) (c : Class) → TellsClasses d → IsClassIn d c → IsPlainClass c
plain_class d (Shown name) s here = plain_name d.shown name s.names here
plain_class d (Dropped w) s here = tt
plain_class d Planned s here = tt
plain_class d Ended s here = tt

pub all_map : {X : Type 0} {P Q : X → Type 0} (f : (x : X) → P x → Q x) (xs : List X) → AllByRecursion P xs → AllByRecursion Q xs
all_map f [] all = tt
all_map f (x ∷ xs) all = (f x all.0, all_map f xs all.1)

-- a line of the run: one line, of the class, and of a class of the run
abbrev pub IsDueLine : Due → Class → List ℕ → Type 0
IsDueLine d c l = (is_line false l ≡ true) × (is_of_class c l ≡ true) × (is_classed d l ≡ true)

-- the lines of the parts that a test picks
module _ {A : Type 0} (P : List ℕ → Type 0) (p : A → Bool) where
  picked_first : (t : Bool) (o : A × List (List ℕ)) (os : List (A × List (List ℕ))) → p o.0 ≡ t → (p o.0 ≡ true → AllByRecursion P o.1)
      → AllByRecursion P (flat_map (λ x. x.1) (filter (λ x. p x.0) os)) → AllByRecursion P (flat_map (λ x. x.1) (filter (λ x. p x.0) (o ∷ os)))
  picked_first true o os e one more = rw e (all_append P o.1 (flat_map (λ x. x.1) (filter (λ x. p x.0) os)) (one e) more)
  picked_first false o os e one more = rw e more

  picked : (os : List (A × List (List ℕ))) → AllByRecursion (λ o. p o.0 ≡ true → AllByRecursion P o.1) os → AllByRecursion P (flat_map (λ o. o.1) (filter (λ o. p o.0) os))
  picked [] all = tt
  picked (o ∷ os) all = picked_first (p o.0) o os refl all.0 (picked os all.1)

-- the name of each part is one of them
own : {A : Type 0} (text : A → List ℕ) (os : List (A × List (List ℕ))) → AllByRecursion (λ o. list_any (λ x. same_bytes (text o.0) (text x.0)) os ≡ true) os
own text [] = tt
own text (o ∷ os) = (
  rw (same_bytes_itself (text o.0)) refl,
  all_map {P = λ y. list_any (λ x. same_bytes (text y.0) (text x.0)) os ≡ true}
      (λ y h. or_right (same_bytes (text y.0) (text o.0)) (list_any (λ x. same_bytes (text y.0) (text x.0)) os) h) os (own text os),
)

dropped_first : (t : Bool) (x : ℕ × List (List ℕ)) (ws : Drops) (l w : List ℕ) → same_bytes (first_field l) (codes "@drop") ≡ true → second_field l ≡ w → same_bytes w (decimal x.0) ≡ t
    → (list_any (λ y. same_bytes w (decimal y.0)) ws ≡ true → list_any (λ y. is_of_class (Dropped y.0) l) ws ≡ true)
    → list_any (λ y. same_bytes w (decimal y.0)) (x ∷ ws) ≡ true → list_any (λ y. is_of_class (Dropped y.0) l) (x ∷ ws) ≡ true
dropped_first true x ws l w first second e more h = or_left (is_of_class (Dropped x.0) l) (list_any (λ y. is_of_class (Dropped y.0) l) ws) (rw (first, second, e) refl)
dropped_first false x ws l w first second e more h = or_right (is_of_class (Dropped x.0) l) (list_any (λ y. is_of_class (Dropped y.0) l) ws) (more (rw e at h))

any_dropped : (ws : Drops) (l w : List ℕ) → same_bytes (first_field l) (codes "@drop") ≡ true → second_field l ≡ w
    → list_any (λ x. same_bytes w (decimal x.0)) ws ≡ true → list_any (λ x. is_of_class (Dropped x.0) l) ws ≡ true
any_dropped [] l w first second h = cc
any_dropped (x ∷ ws) l w first second h = dropped_first (same_bytes w (decimal x.0)) x ws l w first second refl (any_dropped ws l w first second) h

module _ (d : Due) (s : TellsClasses d) where
  pub classed_shown : (n l : List ℕ) → list_any (λ x. same_bytes n x.0) d.shown ≡ true → is_of_class (Shown n) l ≡ true → is_classed d l ≡ true
  classed_shown n l named is =
      let first = same_bytes_true (first_field l) n is in
      let any : list_any (λ x. same_bytes (first_field l) x.0) d.shown ≡ true = rw first named in rw any refl

  -- a line of the drops, of the plans or of the end passes a test behind those before
  module _ (l : List ℕ) where
    abbrev of_output : Bool
    of_output = list_any (λ o. is_of_class (Shown o.0) l) d.shown

    abbrev of_drop : Bool
    of_drop = list_any (λ x. is_of_class (Dropped x.0) l) d.dropped

    pub classed_dropped : (w : ℕ) → list_any (λ x. same_bytes (decimal w) (decimal x.0)) d.dropped ≡ true → is_of_class (Dropped w) l ≡ true → is_classed d l ≡ true
    classed_dropped w named is =
        let both = and_true _ _ is in
        or_left (of_output || of_drop || is_of_class Planned l) (is_of_class Ended l) (or_left (of_output || of_drop) (is_of_class Planned l)
        (or_right of_output of_drop (any_dropped d.dropped l (decimal w) both.0 (same_bytes_true (second_field l) (decimal w) both.1) named)))

    pub classed_planned : is_of_class Planned l ≡ true → is_classed d l ≡ true
    classed_planned is = or_left (of_output || of_drop || is_of_class Planned l) (is_of_class Ended l) (or_right (of_output || of_drop) (is_of_class Planned l) is)

    pub classed_ended : is_of_class Ended l ≡ true → is_classed d l ≡ true
    classed_ended is = or_right (of_output || of_drop || is_of_class Planned l) (is_of_class Ended l) is

  -- the lines of a part are lines of each class that has its name
  parts_due : {A : Type 0} (of : A → Class) (c : Class) (p : A → Bool) (N : A → Type 0) → ((a : A) (l : List ℕ) → N a → p a ≡ true → IsLineOf (of a) l → IsDueLine d c l)
      → (os : List (A × List (List ℕ))) → AllByRecursion (λ o. N o.0) os → AllByRecursion (λ o. AllByRecursion (IsLineOf (of o.0)) o.1) os
      → AllByRecursion (λ o. p o.0 ≡ true → AllByRecursion (IsDueLine d c) o.1) os
  parts_due of c p N f [] named all = tt
  parts_due of c p N f (o ∷ os) named all = (λ e. all_map {P = IsLineOf (of o.0)} (λ l h. f o.0 l named.0 e h) o.1 all.0, parts_due of c p N f os named.1 all.1)

  -- each line of a class is one line, of the class
  pub lines_due : (c : Class) → AllByRecursion (IsDueLine d c) (class_lines d c)
  lines_due (Shown name) =
      let p = λ (n : List ℕ). same_bytes n name in
      picked (IsDueLine d (Shown name)) p d.shown
      (parts_due (λ n. Shown n) (Shown name) p (λ n. list_any (λ x. same_bytes n x.0) d.shown ≡ true)
      (λ n l named e h. (h.0, subst (λ x. same_bytes (first_field l) x ≡ true) (same_bytes_true n name e) h.1, classed_shown n l named h.1)) d.shown (own (λ n. n) d.shown) s.shown)
  lines_due (Dropped w) =
      let p = λ (v : ℕ). same_bytes (decimal v) (decimal w) in
      picked (IsDueLine d (Dropped w)) p d.dropped
      (parts_due (λ v. Dropped v) (Dropped w) p (λ v. list_any (λ x. same_bytes (decimal v) (decimal x.0)) d.dropped ≡ true)
      (λ v l named e h. (
        h.0,
        subst (λ t. (same_bytes (first_field l) (codes "@drop") && same_bytes (second_field l) t) ≡ true) (same_bytes_true (decimal v) (decimal w) e) h.1,
        classed_dropped l v named h.1,
      )) d.dropped (own (λ v. decimal v) d.dropped) s.dropped)
  lines_due Planned = all_map {P = IsLineOf Planned} (λ l h. (h.0, h.1, classed_planned l h.1)) d.planned s.planned
  lines_due Ended = all_map {P = IsLineOf Ended} (λ l h. (h.0, h.1, classed_ended l h.1)) d.ended s.ended
