-- Lists.
use Rattle.std.proofs.Common.{List, arith, max, ℕ, [], ◌≡◌, ◌+◌, ◌∷◌, ◌++◌, Some, length, suc, zero, ◌<◌, Bool, true, get_or, slice_get, refl, set, ap, ◌≢◌, eqb, ◌||◌, cond, false, sym, ◌&&◌, ◌∙◌, replicate, inl, inr, map, subst}
use Rattle.sq_words.specs.Lists.{max_by, contains_number, same_bytes}
use Rattle.std.specs.Prelude.{slice_index, IsUtf8}
use Rattle.std.specs.List.{AllByRecursion, list_all, filter, list_any, position_or_len, flat_map}
use Rattle.sq_words.proofs.Bools.{and_second, and_first, and_true, is_eq_true}
use Rattle.std.proofs.lemmas.Option.{slice_get-get_or, slice_get_read}
use Rattle.std.proofs.lemmas.List.Folds.{list_any-append}
use Rattle.std.proofs.lemmas.Map.Views.{exact_unsigned_eq}
use Rattle.std.proofs.lemmas.Bool.{cases_Bool, false_from_ne_true}
use Rattle.std.proofs.lemmas.Str.{IsUtf8-from_is_utf8}
use Rattle.std.specs.Str.{is_utf8}
use Rattle.std.proofs.lemmas.Bool.Decides.{nat_tests}
use Rattle.std.specs.Ordering.{nat_cmp}
use Rattle.std.specs.FinMap.{nat_cmp-IsAntisymmetric, slice_cmp-IsAntisymmetric}
use Rattle.std.specs.Cmp.Lexicographic.{slice_cmp}
use Rattle.std.proofs.lemmas.Slice.Eq.{bytes_eq-Decides}
use Rattle.std.proofs.lemmas.Map.Text.{is_eq-slice_cmp}

pub max_one : (bs : List ℕ) (b : ℕ) → max_by (λ k. k + 1) (bs ++ (b ∷ [])) ≡ max (max_by (λ k. k + 1) bs) (b + 1)
max_one [] b = omega arith
max_one (c ∷ bs) b = let more = max_one bs b in omega (arith, more)

pub number_there : (ss : List ℕ) (i s : ℕ) → slice_get ss i ≡ Some s → i < length ss
number_there [] i s e = absurd (cc e)
number_there (x ∷ ss) zero s e = omega arith
number_there (x ∷ ss) (suc i) s e = let m = number_there ss i s e in omega (arith, m)

pub all_true : (t : ℕ → Bool) (xs : List ℕ) → list_all t xs ≡ true → AllByRecursion (λ a. t a ≡ true) xs
all_true t [] h = tt
all_true t (x ∷ xs) h = (and_first (t x) (list_all t xs) h, all_true t xs (and_second (t x) (list_all t xs) h))

pub has_item : {A : Type 0} (xs : List A) (i : ℕ) → i < length xs → (x : A) × (slice_get xs i ≡ Some x)
has_item [] i low = absurd (omega arith)
has_item (x ∷ xs) i low = (get_or (x ∷ xs) i x, slice_get-get_or (x ∷ xs) i x low)

pub get_set_same : {A : Type 0} (xs : List A) (i : ℕ) (x : A) → i < length xs → slice_get (set xs i x) i ≡ Some x
get_set_same [] i x low = absurd (omega arith)
get_set_same (y ∷ ys) zero x low = refl
get_set_same (y ∷ ys) (suc i) x low = get_set_same ys i x (omega arith)

pub get_set_other : {X : Type 0} (xs : List X) (i j : ℕ) (v : X) → j ≢ i → slice_get (set xs i v) j ≡ slice_get xs j
get_set_other [] i j v h = refl
get_set_other (x ∷ xs) zero zero v h = absurd (h refl)
get_set_other (x ∷ xs) zero (suc j) v h = refl
get_set_other (x ∷ xs) (suc i) zero v h = refl
get_set_other (x ∷ xs) (suc i) (suc j) v h = get_set_other xs i j v (λ e. h (ap suc e))

pub contains_append : (xs ys : List ℕ) (n : ℕ) → contains_number (xs ++ ys) n ≡ (contains_number xs n || contains_number ys n)
contains_append xs ys n = list_any-append (λ x. eqb x n) xs ys

pub contains_filter : (p : ℕ → Bool) (xs : List ℕ) (n : ℕ) → contains_number (filter p xs) n ≡ (contains_number xs n && p n)
contains_filter p [] n = refl
contains_filter p (x ∷ xs) n = by (p x) (eqb x n) refl refl (contains_filter p xs n)
  where
    none : (b c : Bool) → c ≡ false → (b && c) ≡ c
    none true c h = refl
    none false c h = sym h

    by : (kept same : Bool) → p x ≡ kept → eqb x n ≡ same → contains_number (filter p xs) n ≡ (contains_number xs n && p n)
        → contains_number (cond kept (x ∷ filter p xs) (filter p xs)) n ≡ ((same || contains_number xs n) && p n)
    by true true k e more = ap (λ b. b || contains_number (filter p xs) n) e ∙ sym (ap p (sym (exact_unsigned_eq x n e)) ∙ k)
    by true false k e more = ap (λ b. b || contains_number (filter p xs) n) e ∙ more
    by false true k e more = more ∙ none (contains_number xs n) (p n) (ap p (sym (exact_unsigned_eq x n e)) ∙ k)
    by false false k e more = more

pub zeros_at : (n k : ℕ) → slice_index (replicate n 0) k ≡ 0
zeros_at zero k = refl
zeros_at (suc n) zero = refl
zeros_at (suc n) (suc k) = zeros_at n k

-- where no element passes none is first
pub none_first : {X : Type 0} (p : X → Bool) (xs : List X) → position_or_len p xs ≡ length xs → list_any p xs ≡ false
none_first p [] e = refl
none_first p (x ∷ xs) e = elim (cases_Bool (p x)) [
  | inl passes ↦ let zero : 0 ≡ length (x ∷ xs) = rw passes at e in absurd (omega (arith, zero))
  | inr fails ↦ let more : 1 + position_or_len p xs ≡ length (x ∷ xs) = rw fails at e in rw (fails, none_first p xs (omega (arith, more))) refl
]

pub filter_both : {X : Type 0} (p q : X → Bool) (xs : List X) → filter q (filter p xs) ≡ filter (λ x. p x && q x) xs
filter_both p q [] = refl
filter_both p q (x ∷ xs) = by (filter_both p q xs) (p x) (q x) refl
  where
    by : filter q (filter p xs) ≡ filter (λ x. p x && q x) xs → (a b : Bool) → q x ≡ b
        → filter q (cond a (x ∷ filter p xs) (filter p xs)) ≡ cond (a && q x) (x ∷ filter (λ x. p x && q x) xs) (filter (λ x. p x && q x) xs)
    by more true b e = ap (λ zs. cond (q x) (x ∷ zs) zs) more
    by more false b e = more

pub map_append : {X Y : Type 0} (f : X → Y) (xs ys : List X) → map f (xs ++ ys) ≡ map f xs ++ map f ys
map_append f [] ys = refl
map_append f (x ∷ xs) ys = ap (λ l. f x ∷ l) (map_append f xs ys)

pub filter_agree : {X : Type 0} (p q : X → Bool) (xs : List X) → AllByRecursion (λ x. p x ≡ q x) xs → filter p xs ≡ filter q xs
filter_agree p q [] h = refl
filter_agree p q (x ∷ xs) h = ap (λ b. cond b (x ∷ filter p xs) (filter p xs)) h.0 ∙ ap (λ l. cond (q x) (x ∷ l) l) (filter_agree p q xs h.1)

-- what is read at a place of a slice of these items is the item there
pub item_there : {X : Type 0} (xs ys : List X) (i : ℕ) (x : X) → ys ≡ xs → i < length xs → x ≡ get_or ys i x → slice_get xs i ≡ Some x
item_there {X} xs ys i x same low is = slice_get_read xs (length xs) i x refl low (subst (λ (zs : List X). x ≡ get_or zs i x) same is)

pub no_utf8 : (bytes : List ℕ) → ¬ (IsUtf8 bytes) → is_utf8 bytes ≡ false
no_utf8 bytes bad = elim (cases_Bool (is_utf8 bytes)) [
  | inl text ↦ absurd (bad (IsUtf8-from_is_utf8 bytes text))
  | inr no_text ↦ no_text
]

pub contains_middle : (front rest : List ℕ) (at : ℕ) → contains_number (front ++ at ∷ rest) at ≡ true
contains_middle front rest at = contains_append front (at ∷ rest) at ∙ ap (λ b. contains_number front at || (b || contains_number rest at)) (same at) ∙ last (contains_number front at)
  where
    same : (a : ℕ) → eqb a a ≡ true
    same a = grind (arith, nat_tests)

    last : (b : Bool) → (b || true) ≡ true
    last true = refl
    last false = refl

pub map_map : {X Y Z : Type 0} (f : Y → Z) (g : X → Y) (xs : List X) → map f (map g xs) ≡ map (λ x. f (g x)) xs
map_map f g [] = refl
map_map f g (x ∷ xs) = ap (λ l. f (g x) ∷ l) (map_map f g xs)

pub length_map : {X Y : Type 0} (f : X → Y) (xs : List X) → length (map f xs) ≡ length xs
length_map f [] = refl
length_map f (x ∷ xs) = ap suc (length_map f xs)

pub list_all_at : {X : Type 0} (test : X → Bool) (xs : List X) (i : ℕ) (x : X) → list_all test xs ≡ true → slice_get xs i ≡ Some x → test x ≡ true
list_all_at test [] i x h there = cc
list_all_at test (y ∷ ys) zero x h there = let same : y ≡ x = cc in rw (← same) (and_true (test y) (list_all test ys) h).0
list_all_at test (y ∷ ys) (suc i) x h there = list_all_at test ys i x (and_true (test y) (list_all test ys) h).1 there

-- texts of the same bytes are the same
pub same_bytes_true : (a b : List ℕ) → same_bytes a b ≡ true → a ≡ b
same_bytes_true a b h = slice_cmp-IsAntisymmetric nat_cmp-IsAntisymmetric a b (is_eq_true (slice_cmp nat_cmp a b) h)

pub same_bytes_itself : (a : List ℕ) → same_bytes a a ≡ true
same_bytes_itself a = is_eq-slice_cmp a a ∙ (bytes_eq-Decides a a).1 refl

pub same_bytes_turned : (a b : List ℕ) → same_bytes a b ≡ false → same_bytes b a ≡ false
same_bytes_turned a b h = false_from_ne_true (same_bytes b a) (λ e. let same = same_bytes_true b a e in let yes : same_bytes a b ≡ true = subst (λ x. same_bytes x b ≡ true) same (same_bytes_itself b) in cc)

-- the text of lines that a function gives
pub flat_map_of_map : {X : Type 0} (f : X → List ℕ) (xs : List X) → flat_map (λ l. l) (map f xs) ≡ flat_map f xs
flat_map_of_map f [] = refl
flat_map_of_map f (x ∷ xs) = ap (λ y. f x ++ y) (flat_map_of_map f xs)

-- the element after those that pass in a front
pub get_next : {X : Type 0} (xs : List X) (x : X) (ys : List X) → slice_get (xs ++ (x ∷ ys)) (length xs) ≡ Some x
get_next [] x ys = refl
get_next (z ∷ xs) x ys = get_next xs x ys

pub list_all_front : {X : Type 0} (p : X → Bool) (front back : List X) → list_all p (front ++ back) ≡ true → list_all p front ≡ true
list_all_front p [] back h = refl
list_all_front p (y ∷ front) back h = let both = and_true (p y) (list_all p (front ++ back)) h in rw (both.0, list_all_front p front back both.1) refl

pub cons_parts : {X : Type 0} (x y : X) (xs ys : List X) → x ∷ xs ≡ y ∷ ys → (x ≡ y) × (xs ≡ ys)
cons_parts x y xs ys e = (cc, cc)
