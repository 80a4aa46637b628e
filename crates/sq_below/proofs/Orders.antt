-- Sorting by a number, and filters.
use Rattle.std.proofs.Common.{◌≡◌, ℕ, ◌≤◌, ◌<◌, ltb, Bool, true, false, cond, List, [], ◌∷◌, refl, ap, sym, ◌∙◌, arith}
use Rattle.std.proofs.lemmas.Bool.Decides.{nat_tests}
use Rattle.std.specs.List.{filter, AllByRecursion}
use Rattle.sq_words.specs.Lists.{insert_by, sort_by}
use Rattle.sq_model.proofs.Alls.{by_key}

-- sorting by a number
module _ {X : Type 0} (key : X → ℕ) where
  -- each key is at least this
  abbrev pub AtLeast : ℕ → List X → Type 0
  AtLeast n xs = AllByRecursion (λ x. n ≤ key x) xs

  abbrev pub Ascends : List X → Type 0
  Ascends [] = Unit {0}
  Ascends (x ∷ xs) = AtLeast (key x) xs × Ascends xs

  pub AtLeast-weaker : (m n : ℕ) → m ≤ n → (xs : List X) → AtLeast n xs → AtLeast m xs
  AtLeast-weaker m n le [] h = tt
  AtLeast-weaker m n le (x ∷ xs) h = (let low = h.0 in omega arith, AtLeast-weaker m n le xs h.1)

  yes : (a b : X) → by_key key a b ≡ true → key a < key b
  yes a b h = lem (key a) (key b) h
    where
      lem : (m n : ℕ) → ltb m n ≡ true → m < n
      lem m n h = grind (arith, nat_tests)

  no : (a b : X) → by_key key a b ≡ false → key b ≤ key a
  no a b h = lem (key a) (key b) h
    where
      lem : (m n : ℕ) → ltb m n ≡ false → n ≤ m
      lem m n h = grind (arith, nat_tests)

  insert-least : (n : ℕ) (x : X) (ys : List X) → n ≤ key x → AtLeast n ys → AtLeast n (insert_by (by_key key) x ys)
  insert-least n x [] h all = (h, tt)
  insert-least n x (y ∷ ys) h all = by (insert-least n x ys h all.1) (by_key key y x)
    where
      by : AtLeast n (insert_by (by_key key) x ys) → (b : Bool) → AtLeast n (cond b (y ∷ insert_by (by_key key) x ys) (x ∷ y ∷ ys))
      by more true = (all.0, more)
      by more false = (h, (all.0, all.1))

  insert-ascends : (x : X) (ys : List X) → Ascends ys → Ascends (insert_by (by_key key) x ys)
  insert-ascends x [] h = (tt, tt)
  insert-ascends x (y ∷ ys) h = by (insert-ascends x ys h.1) (by_key key y x) refl
    where
      by : Ascends (insert_by (by_key key) x ys) → (b : Bool) → by_key key y x ≡ b → Ascends (cond b (y ∷ insert_by (by_key key) x ys) (x ∷ y ∷ ys))
      by more true e = let lt = yes y x e in (insert-least (key y) x ys (omega arith) h.0, more)
      by more false e = let le = no y x e in ((le, AtLeast-weaker (key x) (key y) le ys h.0), h)

  pub sort-ascends : (xs : List X) → Ascends (sort_by (by_key key) xs)
  sort-ascends [] = tt
  sort-ascends (x ∷ xs) = insert-ascends x (sort_by (by_key key) xs) (sort-ascends xs)

  -- at the front of what has no lesser key
  pub insert-front : (x : X) (ys : List X) → AtLeast (key x) ys → insert_by (by_key key) x ys ≡ x ∷ ys
  insert-front x [] h = refl
  insert-front x (y ∷ ys) h = ap (λ b. cond b (y ∷ insert_by (by_key key) x ys) (x ∷ y ∷ ys)) (lem (key y) (key x) h.0)
    where
      lem : (m n : ℕ) → n ≤ m → ltb m n ≡ false
      lem m n h = grind (arith, nat_tests)

  pub AtLeast-filter : (p : X → Bool) (n : ℕ) (xs : List X) → AtLeast n xs → AtLeast n (filter p xs)
  AtLeast-filter p n [] h = tt
  AtLeast-filter p n (x ∷ xs) h = by (AtLeast-filter p n xs h.1) (p x)
    where
      by : AtLeast n (filter p xs) → (b : Bool) → AtLeast n (cond b (x ∷ filter p xs) (filter p xs))
      by more true = (h.0, more)
      by more false = more

  -- a filter and an insertion
  pub filter-insert : (p : X → Bool) (x : X) (ys : List X) → Ascends ys → filter p (insert_by (by_key key) x ys) ≡ cond (p x) (insert_by (by_key key) x (filter p ys)) (filter p ys)
  filter-insert p x [] h = refl
  filter-insert p x (y ∷ ys) h = by (filter-insert p x ys h.1) (p x) (p y) (by_key key y x) refl refl refl
    where
      by : filter p (insert_by (by_key key) x ys) ≡ cond (p x) (insert_by (by_key key) x (filter p ys)) (filter p ys)
          → (a b c : Bool) → p x ≡ a → p y ≡ b → by_key key y x ≡ c
          → filter p (cond c (y ∷ insert_by (by_key key) x ys) (x ∷ y ∷ ys)) ≡ cond a (insert_by (by_key key) x (cond b (y ∷ filter p ys) (filter p ys))) (cond b (y ∷ filter p ys) (filter p ys))
      by more true true true pa pb pc = rw (pb, pc) (ap (λ zs. y ∷ zs) (more ∙ ap (λ a. cond a (insert_by (by_key key) x (filter p ys)) (filter p ys)) pa))
      by more true true false pa pb pc = rw (pa, pb, pc) refl
      by more true false true pa pb pc = rw pb (more ∙ ap (λ a. cond a (insert_by (by_key key) x (filter p ys)) (filter p ys)) pa)
      by more true false false pa pb pc =
          let le = no y x pc in
          rw (pa, pb) (sym (insert-front x (filter p ys) (AtLeast-weaker (key x) (key y) le (filter p ys) (AtLeast-filter p (key y) ys h.0))))
      by more false true true pa pb pc = rw pb (ap (λ zs. y ∷ zs) (more ∙ ap (λ a. cond a (insert_by (by_key key) x (filter p ys)) (filter p ys)) pa))
      by more false true false pa pb pc = rw (pa, pb) refl
      by more false false true pa pb pc = rw pb (more ∙ ap (λ a. cond a (insert_by (by_key key) x (filter p ys)) (filter p ys)) pa)
      by more false false false pa pb pc = rw (pa, pb) refl

  pub filter-sort : (p : X → Bool) (xs : List X) → filter p (sort_by (by_key key) xs) ≡ sort_by (by_key key) (filter p xs)
  filter-sort p [] = refl
  filter-sort p (x ∷ xs) = filter-insert p x (sort_by (by_key key) xs) (sort-ascends xs) ∙ by (filter-sort p xs) (p x)
    where
      by : filter p (sort_by (by_key key) xs) ≡ sort_by (by_key key) (filter p xs) → (b : Bool)
          → cond b (insert_by (by_key key) x (filter p (sort_by (by_key key) xs))) (filter p (sort_by (by_key key) xs)) ≡ sort_by (by_key key) (cond b (x ∷ filter p xs) (filter p xs))
      by more true = ap (insert_by (by_key key) x) more
      by more false = more
