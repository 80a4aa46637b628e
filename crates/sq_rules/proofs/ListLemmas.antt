-- Lists by the places of their items.
use Rattle.std.proofs.Common.{◌≡◌, ◌∙◌, sym, ap, refl, ℕ, suc, ◌+◌, ◌<◌, Bool, true, false, not, ◌&&◌, List, [], ◌∷◌, length, Option, Some, None, slice_get, get_or, cond}
use Rattle.std.specs.Prelude.{is_some}
use Rattle.std.specs.List.{cons_option, filter_map, list_all, position_from, AllByRecursion}
use Rattle.std.specs.Option.{option_map}
use Rattle.std.proofs.lemmas.Iterator.Adapters.{position_from-zero}
use Rattle.std.proofs.lemmas.Option.{slice_get-get_or}
use Rattle.sq_rules.specs.Limits.{first_failing}
use Rattle.sq_words.proofs.Bools.{and_true}
use Rattle.sq_words.proofs.Lists.{list_all_at}

none_failing_from : {A : Type 0} (test : A → Bool) (n : ℕ) (xs : List A) → position_from (λ x. not (test x)) n xs ≡ None → list_all test xs ≡ true
none_failing_from test n [] e = refl
none_failing_from {A} test n (x ∷ xs) e = by_test (test x) refl (none_failing_from test (n + 1) xs) e
  where
    by_test : (b : Bool) → test x ≡ b → (position_from (λ y. not (test y)) (n + 1) xs ≡ None → list_all test xs ≡ true)
        → cond (not b) (Some n) (position_from (λ y. not (test y)) (n + 1) xs) ≡ None → (b && list_all test xs) ≡ true
    by_test true is more e = more e
    by_test false is more e = cc

-- where no item fails, all pass
pub none_failing : {A : Type 0} (test : A → Bool) (xs : List A) → first_failing test xs ≡ None → list_all test xs ≡ true
none_failing test xs e = none_failing_from test 0 xs (sym (position_from-zero (λ x. not (test x)) xs) ∙ e)

pub nothing_mapped : {A B : Type 0} (f : A → B) (o : Option A) → option_map f o ≡ None → o ≡ None
nothing_mapped f None e = refl
nothing_mapped f (Some x) e = cc

pub each_passes : {A : Type 0} (test : A → Bool) (xs : List A) → list_all test xs ≡ true → AllByRecursion (λ x. test x ≡ true) xs
each_passes test [] h = tt
each_passes test (x ∷ xs) h = let parts = and_true (test x) (list_all test xs) h in (parts.0, each_passes test xs parts.1)

pub item_there : {A : Type 0} (xs : List A) (i : ℕ) (x : A) → i < length xs → x ≡ get_or xs i x → slice_get xs i ≡ Some x
item_there xs i x low is = slice_get-get_or xs i x low ∙ ap Some (sym is)

-- an item of a list in which all pass
pub item_passes : {A : Type 0} (test : A → Bool) (xs : List A) (i : ℕ) (x : A) → list_all test xs ≡ true → i < length xs → x ≡ get_or xs i x → test x ≡ true
item_passes test xs i x h low is = list_all_at test xs i x h (item_there xs i x low is)

-- where each item gives something, nothing is left out
pub all_given : {A B : Type 0} (f : A → Option B) (xs : List A) → list_all (λ x. is_some (f x)) xs ≡ true → length (filter_map f xs) ≡ length xs
all_given f [] h = refl
all_given {A} {B} f (x ∷ xs) h =
    let parts = and_true (is_some (f x)) (list_all (λ y. is_some (f y)) xs) h in
    by_case (f x) parts.0 (all_given f xs parts.1)
  where
    by_case : (o : Option B) → is_some o ≡ true → length (filter_map f xs) ≡ length xs → length (cons_option o (filter_map f xs)) ≡ suc (length xs)
    by_case None e more = cc
    by_case (Some y) e more = ap suc more
