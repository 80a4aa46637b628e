-- Sets of the batches that some lines record.
use Rattle.std.proofs.Common.{◌≡◌, ◌≢◌, inl, inr, ℕ, zero, suc, ◌<◌, ◌==◌, ◌||◌, Bool, true, false, cond, List, [], ◌∷◌, ◌++◌, length, refl, ap, sym, ◌∙◌, arith, Option, None, Some}
use Rattle.std.specs.Prelude.{slice_get}
use Rattle.std.specs.Ordering.{nat_cmp, is_eq}
use Rattle.std.specs.BTreeSet.{BTreeSet, contains}
use Rattle.std.proofs.lemmas.Bool.{cases_Bool}
use Rattle.std.proofs.lemmas.Bool.Decides.{nat_tests}
use Rattle.sq_verdict.specs.Faults.{batch_of, drop_told_in, recorded}
use Rattle.sq_verdict.specs.Walking.{IsPut}
use Rattle.sq_wanted.specs.Places.{HoldRecord}
use Rattle.sq_words.specs.Lists.{contains_number}

-- what all lines record of each drop is in the sets or recorded by the lines that are left
abbrev pub HoldFront : ℕ → List (BTreeSet ℕ) → List (List ℕ) → List (List ℕ) → Type 0
HoldFront drops sets left all = (w : ℕ) (s : BTreeSet ℕ) (b : ℕ) → slice_get sets w ≡ Some s → contains_number (recorded drops all w) b ≡ (contains nat_cmp s b || contains_number (recorded drops left w) b)

same_number : (k b : ℕ) → is_eq (nat_cmp k b) ≡ (k == b)
same_number k b = grind (arith, nat_tests)

pub hold_none : (drops : ℕ) (sets : List (BTreeSet ℕ)) (all : List (List ℕ)) → HoldRecord sets (λ w. []) → HoldFront drops sets all all
hold_none drops sets all h w s b at = sym (ap (λ t. t || contains_number (recorded drops all w) b) (h w s at b))

pub hold_all : (drops : ℕ) (sets : List (BTreeSet ℕ)) (left all : List (List ℕ)) → left ≡ [] → HoldFront drops sets left all → HoldRecord sets (recorded drops all)
hold_all drops sets left all none h w s at b = sym (h w s b at ∙ ap (λ ls. contains nat_cmp s b || contains_number (recorded drops ls w) b) none ∙ or_none (contains nat_cmp s b))
  where
    or_none : (t : Bool) → (t || false) ≡ t
    or_none true = refl
    or_none false = refl

module _ (drops : ℕ) (sets now : List (BTreeSet ℕ)) (line : List ℕ) (rest left all : List (List ℕ)) (cut : left ≡ line ∷ rest) (h : HoldFront drops sets left all) where
  first : (w : ℕ) → recorded drops left w ≡ batch_of w (drop_told_in drops line) ++ recorded drops rest w
  first w = ap (λ ls. recorded drops ls w) cut

  pub hold_same : drop_told_in drops line ≡ None → HoldFront drops sets rest all
  hold_same none w s b at =
      h w s b at ∙ ap (λ bs. contains nat_cmp s b || contains_number bs b) (first w ∙ ap (λ o. batch_of w o ++ recorded drops rest w) none)

  module _ (v c : ℕ) (is : drop_told_in drops line ≡ Some (v, c)) where
    none_of : (w : ℕ) → (v == w) ≡ false → batch_of w (Some (v, c)) ≡ []
    none_of w e = rw e refl

    one_of : (w : ℕ) → (v == w) ≡ true → batch_of w (Some (v, c)) ≡ c ∷ []
    one_of w e = rw e refl

    other : (w b : ℕ) → (v == w) ≡ false → contains_number (recorded drops left w) b ≡ contains_number (recorded drops rest w) b
    other w b e = ap (λ bs. contains_number bs b) (first w ∙ ap (λ o. batch_of w o ++ recorded drops rest w) is ∙ ap (λ bs. bs ++ recorded drops rest w) (none_of w e))

    own : (w b : ℕ) → (v == w) ≡ true → contains_number (recorded drops left w) b ≡ ((c == b) || contains_number (recorded drops rest w) b)
    own w b e = ap (λ bs. contains_number bs b) (first w ∙ ap (λ o. batch_of w o ++ recorded drops rest w) is ∙ ap (λ bs. bs ++ recorded drops rest w) (one_of w e))

    joined : (t x y : Bool) → (x || (t || y)) ≡ (cond t true x || y)
    joined true true y = refl
    joined true false y = refl
    joined false x y = refl

    pub hold_more : (v < length sets) → IsPut sets now v c
        → ((j : ℕ) → j ≢ v → slice_get now j ≡ slice_get sets j) → HoldFront drops now rest all
    hold_more inside hit miss w n b at = elim (cases_Bool (v == w)) [
      | inl holds ↦ let same : v ≡ w = grind (arith, nat_tests, holds) in mine same holds (slice_get sets v) refl
      | inr fails ↦
          let apart : w ≢ v = λ e. (let yes : (v == w) ≡ true = grind (arith, nat_tests, e) in absurd (cc)) in
          h w n b (sym (miss w apart) ∙ at) ∙ ap (λ t. contains nat_cmp n b || t) (other w b fails)
    ]
      where
        there : (xs : List (BTreeSet ℕ)) (i : ℕ) → i < length xs → slice_get xs i ≡ None → ⊥
        there [] i lt e = omega (arith, lt)
        there (x ∷ xs) zero lt e = cc
        there (x ∷ xs) (suc i) lt e = there xs i (omega (arith, lt)) e

        mine : v ≡ w → (v == w) ≡ true → (o : Option (BTreeSet ℕ)) → slice_get sets v ≡ o → contains_number (recorded drops all w) b ≡ (contains nat_cmp n b || contains_number (recorded drops rest w) b)
        mine same holds None e = absurd (there sets v inside e)
        mine same holds (Some s) e =
            let put = (hit s n e (ap (slice_get now) same ∙ at)).0 b ∙ ap (λ t. cond t true (contains nat_cmp s b)) (same_number c b) in
            h w s b (ap (slice_get sets) (sym same) ∙ e)
            ∙ ap (λ t. contains nat_cmp s b || t) (own w b holds)
            ∙ joined (c == b) (contains nat_cmp s b) (contains_number (recorded drops rest w) b)
            ∙ ap (λ t. t || contains_number (recorded drops rest w) b) (sym put)
