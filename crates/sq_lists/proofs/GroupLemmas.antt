-- Groups that are built one item at a time are the groups of the whole, ascending, each with the join of its items.
use Rattle.std.proofs.Common.{◌≡◌, Bool, true, false, cond, ◌||◌, List, [], ◌∷◌, ◌++◌, map, refl, ap, sym, ◌∙◌, append-nil, append_assoc, Ordering, Less, Equal, Greater}
use Rattle.std.specs.Ordering.{match_ordering, is_eq, ordering_reverse}
use Rattle.std.specs.Cmp.{IsTotalOrder}
use Rattle.std.specs.List.{AllByRecursion, filter}
use Rattle.sq_words.specs.Lists.{add_to, ascending}
use Rattle.sq_aggfn.specs.Folds.{joined_from}
use Rattle.sq_aggfn.specs.KeyedStates.{added, keyed_from}
use Rattle.sq_words.proofs.Alls.{all_weaker}

module _ {G : Type 0} (cmp : G → G → Ordering) (order : IsTotalOrder cmp) (same : (x y : G) → cmp x y ≡ Equal → x ≡ y) where
  flip : (x y : G) (o : Ordering) → cmp x y ≡ o → cmp y x ≡ ordering_reverse o
  flip x y o e = order.antisymm y x ∙ ap ordering_reverse e

  -- the order of insertion doesn't matter
  add-add-by : (x z y : G) (ys : List G) → add_to cmp z (add_to cmp x ys) ≡ add_to cmp x (add_to cmp z ys)
      → (a b c : Ordering) → cmp x y ≡ a → cmp z y ≡ b → cmp z x ≡ c
      → add_to cmp z (add_to cmp x (y ∷ ys)) ≡ add_to cmp x (add_to cmp z (y ∷ ys))
  add-add-by x z y ys ih Less Less Less ea eb ec = simp (ea, eb, ec, flip z x Less ec)
  add-add-by x z y ys ih Less Less Equal ea eb ec = simp (ea, eb, ec, flip z x Equal ec) (ap (λ w. w ∷ y ∷ ys) (sym (same z x ec)))
  add-add-by x z y ys ih Less Less Greater ea eb ec = simp (ea, eb, ec, flip z x Greater ec)
  add-add-by x z y ys ih Less Equal c ea eb ec = simp (ea, eb, order.congr z y x eb ∙ flip x y Less ea)
  add-add-by x z y ys ih Less Greater c ea eb ec = simp (ea, eb, flip x z Less (order.trans x y z ea (flip z y Greater eb)))
  add-add-by x z y ys ih Equal Less c ea eb ec = simp (ea, eb, order.congr x y z ea ∙ flip z y Less eb)
  add-add-by x z y ys ih Equal Equal c ea eb ec = simp (ea, eb)
  add-add-by x z y ys ih Equal Greater c ea eb ec = simp (ea, eb)
  add-add-by x z y ys ih Greater Less c ea eb ec = simp (ea, eb, flip z x Less (order.trans z y x eb (flip x y Greater ea)))
  add-add-by x z y ys ih Greater Equal c ea eb ec = simp (ea, eb)
  add-add-by x z y ys ih Greater Greater c ea eb ec = simp (ea, eb, ih)

  add-add-nil : (x z : G) (c : Ordering) → cmp z x ≡ c → add_to cmp z (x ∷ []) ≡ add_to cmp x (z ∷ [])
  add-add-nil x z Less e = simp (e, flip z x Less e)
  add-add-nil x z Equal e = simp (e, flip z x Equal e) (ap (λ w. w ∷ []) (sym (same z x e)))
  add-add-nil x z Greater e = simp (e, flip z x Greater e)

  add-add : (x z : G) (ys : List G) → add_to cmp z (add_to cmp x ys) ≡ add_to cmp x (add_to cmp z ys)
  add-add x z [] = add-add-nil x z (cmp z x) refl
  add-add x z (y ∷ ys) = add-add-by x z y ys (add-add x z ys) (cmp x y) (cmp z y) (cmp z x) refl refl refl

  pub ascending-push : (xs : List G) (x : G) → ascending cmp (xs ++ x ∷ []) ≡ add_to cmp x (ascending cmp xs)
  ascending-push [] x = refl
  ascending-push (y ∷ ys) x = ap (add_to cmp y) (ascending-push ys x) ∙ add-add x y (ascending cmp ys)

  -- each is before those after it
  abbrev Climbs : List G → Type 0
  Climbs [] = Unit {0}
  Climbs (x ∷ xs) = AllByRecursion (λ y. cmp x y ≡ Less) xs × Climbs xs

  All-add-by : (P : G → Type 0) (x y : G) (ys : List G) → P x → P y → AllByRecursion P ys → AllByRecursion P (add_to cmp x ys) → (o : Ordering)
      → AllByRecursion P (match_ordering o (x ∷ y ∷ ys) (y ∷ ys) (y ∷ add_to cmp x ys))
  All-add-by P x y ys p q all ih Less = (p, (q, all))
  All-add-by P x y ys p q all ih Equal = (q, all)
  All-add-by P x y ys p q all ih Greater = (q, ih)

  All-add : (P : G → Type 0) (x : G) (ys : List G) → P x → AllByRecursion P ys → AllByRecursion P (add_to cmp x ys)
  All-add P x [] p all = (p, tt)
  All-add P x (y ∷ ys) p all = All-add-by P x y ys p all.0 all.1 (All-add P x ys p all.1) (cmp x y)

  Climbs-add-by : (x y : G) (ys : List G) → Climbs (y ∷ ys) → Climbs (add_to cmp x ys) → (o : Ordering) → cmp x y ≡ o
      → Climbs (match_ordering o (x ∷ y ∷ ys) (y ∷ ys) (y ∷ add_to cmp x ys))
  Climbs-add-by x y ys h ih Less e = ((e, all_weaker (λ z. cmp y z ≡ Less) (λ z. cmp x z ≡ Less) (λ z k. order.trans x y z e k) ys h.0), h)
  Climbs-add-by x y ys h ih Equal e = h
  Climbs-add-by x y ys h ih Greater e = (All-add (λ z. cmp y z ≡ Less) x ys (flip x y Greater e) h.0, ih)

  Climbs-add : (x : G) (ys : List G) → Climbs ys → Climbs (add_to cmp x ys)
  Climbs-add x [] h = (tt, tt)
  Climbs-add x (y ∷ ys) h = Climbs-add-by x y ys h (Climbs-add x ys h.1) (cmp x y) refl

  climbs : (xs : List G) → Climbs (ascending cmp xs)
  climbs [] = tt
  climbs (x ∷ xs) = Climbs-add x (ascending cmp xs) (climbs xs)

  -- which groups are there
  abbrev has : G → List G → Bool
  has g [] = false
  has g (x ∷ xs) = is_eq (cmp g x) || has g xs

  has-above : (g : G) (xs : List G) → AllByRecursion (λ y. cmp g y ≡ Less) xs → has g xs ≡ false
  has-above g [] all = refl
  has-above g (x ∷ xs) all = ap (λ o. is_eq o || has g xs) all.0 ∙ has-above g xs all.1

  swap-or : (a b c : Bool) → (a || (b || c)) ≡ (b || (a || c))
  swap-or true true c = refl
  swap-or true false c = refl
  swap-or false true c = refl
  swap-or false false c = refl

  absorb-or : (a c : Bool) → (a || c) ≡ (a || (a || c))
  absorb-or true c = refl
  absorb-or false c = refl

  has-add-by : (g x y : G) (ys : List G) → has g (add_to cmp x ys) ≡ (is_eq (cmp g x) || has g ys) → (o : Ordering) → cmp x y ≡ o
      → has g (match_ordering o (x ∷ y ∷ ys) (y ∷ ys) (y ∷ add_to cmp x ys)) ≡ (is_eq (cmp g x) || (is_eq (cmp g y) || has g ys))
  has-add-by g x y ys ih Less e = refl
  has-add-by g x y ys ih Equal e = absorb-or (is_eq (cmp g y)) (has g ys) ∙ ap (λ z. is_eq (cmp g z) || (is_eq (cmp g y) || has g ys)) (sym (same x y e))
  has-add-by g x y ys ih Greater e = ap (λ b. is_eq (cmp g y) || b) ih ∙ swap-or (is_eq (cmp g y)) (is_eq (cmp g x)) (has g ys)

  has-add : (g x : G) (ys : List G) → has g (add_to cmp x ys) ≡ (is_eq (cmp g x) || has g ys)
  has-add g x [] = refl
  has-add g x (y ∷ ys) = has-add-by g x y ys (has-add g x ys) (cmp x y) refl

  has-ascending : (g : G) (xs : List G) → has g (ascending cmp xs) ≡ has g xs
  has-ascending g [] = refl
  has-ascending g (x ∷ xs) = has-add g x (ascending cmp xs) ∙ ap (λ b. is_eq (cmp g x) || b) (has-ascending g xs)

  module _ {M : Type 0} (none : M) (join : M → M → M) where
    abbrev with : (G → M) → List G → List (G × M)
    with f gs = map (λ g. (g, f g)) gs

    with-same : (f f' : G → M) (gs : List G) → AllByRecursion (λ h. f h ≡ f' h) gs → with f gs ≡ with f' gs
    with-same f f' [] all = refl
    with-same f f' (g ∷ gs) all = ap (λ m. (g, m) ∷ with f gs) all.0 ∙ ap (λ l. (g, f' g) ∷ l) (with-same f f' gs all.1)

    -- one item more
    module _ (g : G) (u : M) (f f' : G → M) (here : (h : G) → cmp g h ≡ Equal → f' h ≡ join (f h) u) (there : (h : G) → is_eq (cmp g h) ≡ false → f' h ≡ f h) where
      add-with-by : (h : G) (hs : List G) → Climbs (h ∷ hs) → (has g (h ∷ hs) ≡ false → f' g ≡ join none u)
          → ((has g hs ≡ false → f' g ≡ join none u) → added cmp none join g u (with f hs) ≡ with f' (add_to cmp g hs))
          → (o : Ordering) → cmp g h ≡ o
          → match_ordering o ((g, join none u) ∷ with f (h ∷ hs)) ((g, join (f h) u) ∷ with f hs) ((h, f h) ∷ added cmp none join g u (with f hs))
          ≡ with f' (match_ordering o (g ∷ h ∷ hs) (h ∷ hs) (h ∷ add_to cmp g hs))
      add-with-by h hs up absent ih Less e =
          let above = all_weaker (λ y. cmp h y ≡ Less) (λ y. cmp g y ≡ Less) (λ y k. order.trans g h y e k) hs up.0 in
          ap (λ m. (g, m) ∷ with f (h ∷ hs)) (sym (absent (has-above g (h ∷ hs) (e, above))))
          ∙ ap (λ l. (g, f' g) ∷ l) (with-same f f' (h ∷ hs) (sym (there h (ap is_eq e)), all_weaker (λ y. cmp g y ≡ Less) (λ y. f y ≡ f' y) (λ y k. sym (there y (ap is_eq k))) hs above))
      add-with-by h hs up absent ih Equal e =
          ap (λ k. (k, join (f h) u) ∷ with f hs) (same g h e)
          ∙ ap (λ m. (h, m) ∷ with f hs) (sym (here h e))
          ∙ ap (λ l. (h, f' h) ∷ l) (with-same f f' hs (all_weaker (λ y. cmp h y ≡ Less) (λ y. f y ≡ f' y) (λ y k. sym (there y (ap is_eq (order.congr g h y e ∙ k)))) hs up.0))
      add-with-by h hs up absent ih Greater e =
          ap (λ m. (h, m) ∷ added cmp none join g u (with f hs)) (sym (there h (ap is_eq e)))
          ∙ ap (λ l. (h, f' h) ∷ l) (ih (λ k. absent (ap (λ o. is_eq o || has g hs) e ∙ k)))

      add-with : (hs : List G) → Climbs hs → (has g hs ≡ false → f' g ≡ join none u) → added cmp none join g u (with f hs) ≡ with f' (add_to cmp g hs)
      add-with [] up absent = ap (λ m. (g, m) ∷ []) (sym (absent refl))
      add-with (h ∷ hs) up absent = add-with-by h hs up absent (add-with hs up.1) (cmp g h) refl

    module _ {X : Type 0} (group : X → G) (one : X → M) where
      abbrev pub in_group : G → List X → List X
      in_group h xs = filter (λ x. is_eq (cmp (group x) h)) xs

      -- the groups of some items, each with the join of its items
      abbrev pub groups_with : List X → List (G × M)
      groups_with xs = map (λ h. (h, joined_from join one none (in_group h xs))) (ascending cmp (map group xs))

      joined-push : (m : M) (xs : List X) (x : X) → joined_from join one m (xs ++ x ∷ []) ≡ join (joined_from join one m xs) (one x)
      joined-push m [] x = refl
      joined-push m (y ∷ ys) x = joined-push (join m (one y)) ys x

      in-push : (h : G) (xs : List X) (x : X) (b : Bool) → is_eq (cmp (group x) h) ≡ b → in_group h (xs ++ x ∷ []) ≡ in_group h xs ++ cond b (x ∷ []) []
      in-push h [] x b e = ap (λ b. cond b (x ∷ []) []) e
      in-push h (y ∷ ys) x b e =
          ap (λ l. cond (is_eq (cmp (group y) h)) (y ∷ l) l) (in-push h ys x b e)
          ∙ (elim (is_eq (cmp (group y) h)) as (λ c. cond c (y ∷ (in_group h ys ++ cond b (x ∷ []) [])) (in_group h ys ++ cond b (x ∷ []) []) ≡ cond c (y ∷ in_group h ys) (in_group h ys) ++ cond b (x ∷ []) []) [
            | true ↦ refl
            | false ↦ refl
          ])

      map-push : (xs : List X) (x : X) → map group (xs ++ x ∷ []) ≡ map group xs ++ group x ∷ []
      map-push [] x = refl
      map-push (y ∷ ys) x = ap (λ l. group y ∷ l) (map-push ys x)

      eq-turned : (x y : G) → is_eq (cmp x y) ≡ is_eq (cmp y x)
      eq-turned x y = ap is_eq (order.antisymm x y) ∙ turned (cmp y x)
        where
          turned : (o : Ordering) → is_eq (ordering_reverse o) ≡ is_eq o
          turned Less = refl
          turned Equal = refl
          turned Greater = refl

      none-in-by : (h : G) (x : X) (xs : List X) → (has h (map group xs) ≡ false → in_group h xs ≡ []) → (b : Bool) → is_eq (cmp h (group x)) ≡ b
          → (b || has h (map group xs)) ≡ false → in_group h (x ∷ xs) ≡ []
      none-in-by h x xs ih true k e = cc
      none-in-by h x xs ih false k e = ap (λ b. cond b (x ∷ in_group h xs) (in_group h xs)) (eq-turned (group x) h ∙ k) ∙ ih e

      none-in : (h : G) (xs : List X) → has h (map group xs) ≡ false → in_group h xs ≡ []
      none-in h [] e = refl
      none-in h (x ∷ xs) e = none-in-by h x xs (none-in h xs) (is_eq (cmp h (group x))) refl e

      itself : (g : G) → cmp g g ≡ Equal
      itself g = own (cmp g g) (order.antisymm g g)
        where
          own : (o : Ordering) → o ≡ ordering_reverse o → o ≡ Equal
          own Less e = cc
          own Equal e = refl
          own Greater e = cc

      pub groups-push : (xs : List X) (x : X) → added cmp none join (group x) (one x) (groups_with xs) ≡ groups_with (xs ++ x ∷ [])
      groups-push xs x =
          let f = λ (h : G). joined_from join one none (in_group h xs) in
          let f' = λ (h : G). joined_from join one none (in_group h (xs ++ x ∷ [])) in
          let here = λ (h : G). λ (e : cmp (group x) h ≡ Equal). ap (joined_from join one none) (in-push h xs x true (ap is_eq e)) ∙ joined-push none (in_group h xs) x in
          let there = λ (h : G). λ (e : is_eq (cmp (group x) h) ≡ false). ap (joined_from join one none) (in-push h xs x false e ∙ append-nil (in_group h xs)) in
          add-with (group x) (one x) f f' here there (ascending cmp (map group xs)) (climbs (map group xs))
          (λ k. here (group x) (itself (group x)) ∙ ap (λ l. join (joined_from join one none l) (one x)) (none-in (group x) xs (sym (has-ascending (group x) (map group xs)) ∙ k)))
          ∙ ap (λ l. with f' l) (sym (ascending-push (map group xs) (group x)) ∙ ap (ascending cmp) (sym (map-push xs x)))

      keyed-more : (xs ys : List X) → keyed_from cmp none join group one (groups_with ys) xs ≡ groups_with (ys ++ xs)
      keyed-more [] ys = ap groups_with (sym (append-nil ys))
      keyed-more (x ∷ xs) ys =
          ap (λ gs. keyed_from cmp none join group one gs xs) (groups-push ys x)
          ∙ keyed-more xs (ys ++ x ∷ [])
          ∙ ap groups_with (append_assoc ys (x ∷ []) xs)

      -- built one at a time
      pub keyed-list : (xs : List X) → keyed_from cmp none join group one [] xs ≡ groups_with xs
      keyed-list xs = keyed-more xs []
