-- What stands along the nodes of an arc, where one node changed.
use Rattle.std.proofs.Common.{◌≡◌, ◌≢◌, ℕ, ◌+◌, ◌<◌, List, [], ◌∷◌, ◌++◌, Some, None, length, refl, sym, ap, subst, ◌∙◌, append_assoc, inl, inr, arith, get_or-set_other, get_or-set_same}
use Rattle.std.proofs.Math.ListN.{set}
use Rattle.std.specs.List.{flat_map}
use Rattle.std.proofs.lemmas.List.{append-nil}
use Rattle.sq_item.specs.declared.Item.{Item}
use Rattle.sq_link.specs.ChainLists.{StandsIn, Apart, head_or}
use Rattle.sq_paged.specs.Faces.{last_node, count_along, kept_at, no_page}
use Rattle.sq_bring.specs.declared.bring.Kept.{Kept}

-- items along nodes that have the same
pub along-same : (f g : ℕ → List Item) (xs : List ℕ) → ((n : ℕ) → StandsIn n xs → g n ≡ f n) → flat_map g xs ≡ flat_map f xs
along-same f g [] h = refl
along-same f g (x ∷ xs) h = ap (λ (is : List Item). is ++ flat_map g xs) (h x (inl refl)) ∙ ap (λ (is : List Item). f x ++ is) (along-same f g xs (λ n s. h n (inr s)))

pub last-stands : (n : ℕ) (ys : List ℕ) → last_node ys ≡ Some n → StandsIn n ys
last-stands n [] e = absurd cc
last-stands n (z ∷ []) e = let is : z ≡ n = cc in inl (sym is)
last-stands n (z ∷ w ∷ ys) e = inr (last-stands n (w ∷ ys) e)

-- the last node gained something
pub along-last : (f g : ℕ → List Item) (more : List Item) (node : ℕ) (xs : List ℕ) → Apart xs → last_node xs ≡ Some node → ((n : ℕ) → StandsIn n xs → n ≢ node → g n ≡ f n) → g node ≡ f node ++ more
    → flat_map g xs ≡ flat_map f xs ++ more
along-last f g more node [] apart last h here = absurd cc
along-last f g more node (x ∷ []) apart last h here =
    let is : x ≡ node = cc in
    ap (λ (n : ℕ). g n ++ []) is ∙ append-nil (g node) ∙ here ∙ ap (λ (is : List Item). is ++ more) (sym (append-nil (f node)) ∙ ap (λ (n : ℕ). f n ++ []) (sym is))
along-last f g more node (x ∷ y ∷ xs) apart last h here =
    let other : x ≢ node = λ e. apart.0 (subst (λ (n : ℕ). StandsIn n (y ∷ xs)) (sym e) (last-stands node (y ∷ xs) last)) in
    ap (λ (is : List Item). is ++ flat_map g (y ∷ xs)) (h x (inl refl) other)
    ∙ ap (λ (is : List Item). f x ++ is) (along-last f g more node (y ∷ xs) apart.1 last (λ n s. h n (inr s)) here)
    ∙ sym (append_assoc (f x) (flat_map f (y ∷ xs)) more)

-- the first node lost its first item
pub along-first : (f g : ℕ → List Item) (item : Item) (node : ℕ) (xs : List ℕ) → ((n : ℕ) → StandsIn n xs → g n ≡ f n) → f node ≡ item ∷ g node → flat_map f (node ∷ xs) ≡ item ∷ flat_map g (node ∷ xs)
along-first f g item node xs h here = ap (λ (is : List Item). is ++ flat_map f xs) here ∙ ap (λ (is : List Item). item ∷ (g node ++ is)) (sym (along-same f g xs h))

-- the first node lost its only item, and is gone
pub along-gone : (f g : ℕ → List Item) (item : Item) (node : ℕ) (xs : List ℕ) → ((n : ℕ) → StandsIn n xs → g n ≡ f n) → f node ≡ item ∷ [] → flat_map f (node ∷ xs) ≡ item ∷ flat_map g xs
along-gone f g item node xs h here = ap (λ (is : List Item). is ++ flat_map f xs) here ∙ ap (λ (is : List Item). item ∷ is) (sym (along-same f g xs h))

-- a node more, behind the others
pub along-more : (f g : ℕ → List Item) (item : Item) (node : ℕ) (xs : List ℕ) → ((n : ℕ) → StandsIn n xs → g n ≡ f n) → g node ≡ item ∷ [] → flat_map g (xs ++ node ∷ []) ≡ flat_map f xs ++ item ∷ []
along-more f g item node [] h here = append-nil (g node) ∙ here
along-more f g item node (x ∷ xs) h here =
    ap (λ (is : List Item). is ++ flat_map g (xs ++ node ∷ [])) (h x (inl refl))
    ∙ ap (λ (is : List Item). f x ++ is) (along-more f g item node xs (λ n s. h n (inr s)) here)
    ∙ sym (append_assoc (f x) (flat_map f xs) (item ∷ []))

pub last-behind : (n : ℕ) (xs : List ℕ) → last_node (xs ++ n ∷ []) ≡ Some n
last-behind n [] = refl
last-behind n (x ∷ []) = refl
last-behind n (x ∷ y ∷ xs) = last-behind n (y ∷ xs)

pub stands-behind : (n m : ℕ) (xs : List ℕ) → StandsIn n (xs ++ m ∷ []) → n ≢ m → StandsIn n xs
stands-behind n m [] h differ = elim h [ inl same ↦ absurd (differ same) | inr none ↦ absurd none ]
stands-behind n m (x ∷ xs) h differ = elim h [ inl same ↦ inl same | inr more ↦ inr (stands-behind n m xs more differ) ]

pub stands-before : (n m : ℕ) (xs : List ℕ) → StandsIn n xs → StandsIn n (xs ++ m ∷ [])
stands-before n m [] h = absurd h
stands-before n m (x ∷ xs) h = elim h [ inl same ↦ inl same | inr more ↦ inr (stands-before n m xs more) ]

pub behind-first : (n m : ℕ) (xs : List ℕ) → StandsIn n (m ∷ xs) → n ≢ m → StandsIn n xs
behind-first n m xs h differ = elim h [ inl same ↦ absurd (differ same) | inr more ↦ more ]

pub head-is : (n : ℕ) (xs : List ℕ) → head_or xs None ≡ Some n → (rest : List ℕ) × (xs ≡ n ∷ rest)
head-is n [] h = absurd cc
head-is n (x ∷ xs) h = let is : x ≡ n = cc in (xs, ap (λ (m : ℕ). m ∷ xs) is)

-- how many items stand along nodes of which the same is kept, and along one more
pub count-same : (a b : List Kept) (xs : List ℕ) → ((n : ℕ) → StandsIn n xs → kept_at b n ≡ kept_at a n) → count_along b xs ≡ count_along a xs
count-same a b [] h = refl
count-same a b (x ∷ xs) h = let one : (kept_at b x).count ≡ (kept_at a x).count = ap (λ (k : Kept). k.count) (h x (inl refl)) in omega (arith, one, count-same a b xs (λ n s. h n (inr s)))

pub count-more : (a b : List Kept) (node : ℕ) (xs : List ℕ) → ((n : ℕ) → StandsIn n xs → kept_at b n ≡ kept_at a n) → count_along b (xs ++ node ∷ []) ≡ count_along a xs + (kept_at b node).count
count-more a b node [] h = omega arith
count-more a b node (x ∷ xs) h = let one : (kept_at b x).count ≡ (kept_at a x).count = ap (λ (k : Kept). k.count) (h x (inl refl)) in omega (arith, one, count-more a b node xs (λ n s. h n (inr s)))

-- what is kept of a node that was written, and of another
pub kept-same : (kept : List Kept) (node : ℕ) (after : Kept) → node < length kept → kept_at (set kept node after) node ≡ after
kept-same kept node after h = get_or-set_same kept node after no_page h

pub kept-other : (kept : List Kept) (node other : ℕ) (after : Kept) → other ≢ node → kept_at (set kept node after) other ≡ kept_at kept other
kept-other kept node other after h = get_or-set_other kept node other after no_page h

-- one more stands at the last node
pub count-last : (kept : List Kept) (node : ℕ) (after : Kept) (xs : List ℕ) → Apart xs → last_node xs ≡ Some node → node < length kept → after.count ≡ (kept_at kept node).count + 1 → count_along (set kept node after) xs ≡ count_along kept xs + 1
count-last kept node after [] apart last h c = absurd cc
count-last kept node after (x ∷ []) apart last h c =
    let is : x ≡ node = cc in
    let one : (kept_at (set kept node after) x).count ≡ after.count = ap (λ (n : ℕ). (kept_at (set kept node after) n).count) is ∙ ap (λ (k : Kept). k.count) (kept-same kept node after h) in
    let two : (kept_at kept x).count ≡ (kept_at kept node).count = ap (λ (n : ℕ). (kept_at kept n).count) is in
    omega (arith, one, two, c)
count-last kept node after (x ∷ y ∷ xs) apart last h c =
    let other : x ≢ node = λ e. apart.0 (subst (λ (n : ℕ). StandsIn n (y ∷ xs)) (sym e) (last-stands node (y ∷ xs) last)) in
    let one : (kept_at (set kept node after) x).count ≡ (kept_at kept x).count = ap (λ (k : Kept). k.count) (kept-other kept node x after other) in
    omega (arith, one, count-last kept node after (y ∷ xs) apart.1 last h c)
