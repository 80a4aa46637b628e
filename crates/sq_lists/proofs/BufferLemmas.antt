-- What a sorter holds: a tuple more in either of its two lists, and the first of both.
use Rattle.std.proofs.Common.{◌≡◌, ℕ, zero, suc, ◌+◌, ◌-◌, ◌<◌, ◌≤◌, Bool, true, false, not, List, [], ◌∷◌, ◌++◌, length, get_or, take, drop, slice_get, Some, refl, ap, subst, sym, ◌∙◌, arith, tests}
use Rattle.std.specs.Prelude.{if◌then◌else◌, nat_lt, ◌==◌}
use Rattle.std.specs.List.{AllByRecursion, insert}
use Rattle.sq_value.specs.declared.Value.{Value}
use Rattle.sq_lists.specs.Sorting.{Numbered, numbered_sooner}
use Rattle.sq_lists.specs.Sorters.{put_in}
use Rattle.sq_lists.specs.Buffers.{Held, numbered_tuple, held_of, comes_before, key_of, with_held, both_of, AreInOrder}
use Rattle.sq_words.proofs.Alls.{all_weaker}

abbrev Key : Type 0
Key = ℕ × ℕ

-- by the two tests
by-tests : (a b : Key) → (P : Bool → Type 0) → (nat_lt a.0 b.0 ≡ true → P true) → (nat_lt a.0 b.0 ≡ false → a.0 ≡ b.0 → P (nat_lt a.1 b.1)) → (nat_lt a.0 b.0 ≡ false → b.0 < a.0 → P false) → P (comes_before a b)
by-tests a b P less same more = by (nat_lt a.0 b.0) refl (a.0 == b.0) refl
  where
    by : (s : Bool) → nat_lt a.0 b.0 ≡ s → (t : Bool) → (a.0 == b.0) ≡ t → P (if s then true else if t then nat_lt a.1 b.1 else false)
    by true es t et = less es
    by false es true et = same es (grind (arith, tests))
    by false es false et = more es (grind (arith, tests))

before-le : (a b : Key) → comes_before a b ≡ true → a.0 ≤ b.0
before-le a b = by-tests a b (λ s. s ≡ true → a.0 ≤ b.0) (λ l e. grind (arith, tests)) (λ l k e. omega (arith, k)) (λ l k e. cc)

not-before-le : (a b : Key) → comes_before a b ≡ false → b.0 ≤ a.0
not-before-le a b = by-tests a b (λ s. s ≡ false → b.0 ≤ a.0) (λ l e. cc) (λ l k e. omega (arith, k)) (λ l k e. omega (arith, k))

before-number : (a b : Key) → comes_before a b ≡ true → b.0 ≤ a.0 → a.1 < b.1
before-number a b = by-tests a b (λ s. s ≡ true → b.0 ≤ a.0 → a.1 < b.1) (λ l e k. absurd (grind (arith, tests))) (λ l k e h. grind (arith, tests)) (λ l k e. cc)

not-before-number : (a b : Key) → comes_before a b ≡ false → a.0 ≡ b.0 → b.1 ≤ a.1
not-before-number a b = by-tests a b (λ s. s ≡ false → a.0 ≡ b.0 → b.1 ≤ a.1) (λ l e. cc) (λ l k e h. grind (arith, tests)) (λ l k e h. absurd (omega (arith, k, h)))

earlier : (a b : Key) → a.0 < b.0 → comes_before a b ≡ true
earlier a b lt = by-tests a b (λ s. s ≡ true) (λ l. refl) (λ l k. absurd (omega (arith, k, lt))) (λ l k. absurd (omega (arith, k, lt)))

not-later : (a b : Key) → a.0 ≤ b.0 → a.1 < b.1 → comes_before a b ≡ true
not-later a b le lt = by-tests a b (λ s. s ≡ true) (λ l. refl) (λ l k. grind (arith, tests)) (λ l k. absurd (omega (arith, k, le)))

-- what an earlier one does not come before, no later one does
none-later : (a e f : Key) → comes_before a e ≡ true → comes_before a f ≡ false → comes_before e f ≡ false
none-later a e f ae af =
    let le = before-le a e ae in
    let ge = not-before-le a f af in
    by-tests e f (λ s. s ≡ false) (λ l. absurd (grind (arith, tests)))
    (λ l k. let lower = before-number a e ae (omega (arith, ge, k)) in let higher = not-before-number a f af (omega (arith, le, ge, k)) in grind (arith, tests))
    (λ l k. refl)

greater-number : (a b : Key) → b.1 < a.1 → comes_before a b ≡ nat_lt a.0 b.0
greater-number a b lt = by-tests a b (λ s. s ≡ nat_lt a.0 b.0) (λ l. cc) (λ l k. grind (arith, tests)) (λ l k. cc)

lesser-number : (a b : Key) → a.1 < b.1 → comes_before a b ≡ not (nat_lt b.0 a.0)
lesser-number a b lt = by (nat_lt b.0 a.0) refl
  where
    by : (r : Bool) → nat_lt b.0 a.0 ≡ r → comes_before a b ≡ not r
    by true e = by-tests a b (λ s. s ≡ false) (λ l. absurd (grind (arith, tests))) (λ l k. absurd (grind (arith, tests))) (λ l k. refl)
    by false e = not-later a b (grind (arith, tests)) lt

-- one that has a greater number than all stands behind those of its time
with-is-put : (x : Numbered) (ys : List Numbered) → AllByRecursion (λ a. a.0 < x.0) ys → with_held x ys ≡ put_in x ys
with-is-put x [] low = refl
with-is-put x (y ∷ ys) low =
    ap (λ b. if b then x ∷ y ∷ ys else y ∷ with_held x ys) (greater-number (key_of x) (key_of y) low.0)
    ∙ ap (λ l. if numbered_sooner x y then x ∷ y ∷ ys else y ∷ l) (with-is-put x ys low.1)

-- one of a lesser number, and then one of a greater, or the other way round
with-put : (y x : Numbered) (l : List Numbered) → y.0 < x.0 → with_held y (put_in x l) ≡ put_in x (with_held y l)
with-put y x [] lt =
    ap (λ b. if b then y ∷ x ∷ [] else x ∷ y ∷ []) (lesser-number (key_of y) (key_of x) lt)
    ∙ elim (nat_lt (x.1).time (y.1).time) as (λ b. (if not b then y ∷ x ∷ [] else x ∷ y ∷ []) ≡ (if b then x ∷ y ∷ [] else y ∷ x ∷ [])) [ true ↦ refl | false ↦ refl ]
with-put y x (z ∷ zs) lt = by (with-put y x zs lt) (comes_before (key_of y) (key_of z)) (numbered_sooner x z) (numbered_sooner x y) refl refl refl
  where
    by : with_held y (put_in x zs) ≡ put_in x (with_held y zs) → (s t r : Bool) → comes_before (key_of y) (key_of z) ≡ s → numbered_sooner x z ≡ t → numbered_sooner x y ≡ r
        → with_held y (if t then x ∷ z ∷ zs else z ∷ put_in x zs) ≡ put_in x (if s then y ∷ z ∷ zs else z ∷ with_held y zs)
    by later true true true es et er = (let e : comes_before (key_of y) (key_of x) ≡ false = lesser-number (key_of y) (key_of x) lt ∙ ap not er in simp (e, es, et, er))
    by later true true false es et er = (let e : comes_before (key_of y) (key_of x) ≡ true = lesser-number (key_of y) (key_of x) lt ∙ ap not er in simp (e, es, et, er))
    by later true false true es et er = (let le = before-le (key_of y) (key_of z) es in absurd (grind (arith, tests)))
    by later true false false es et er = simp (es, et, er)
    by later false true true es et er = (let e : comes_before (key_of y) (key_of x) ≡ false = lesser-number (key_of y) (key_of x) lt ∙ ap not er in simp (e, es, et))
    by later false true false es et er = (let ge = not-before-le (key_of y) (key_of z) es in absurd (grind (arith, tests)))
    by later false false r es et er = simp (es, et) (ap (λ l. z ∷ l) later)

with-all : (P : Numbered → Type 0) (x : Numbered) (l : List Numbered) → AllByRecursion P (with_held x l) → P x × AllByRecursion P l
with-all P x [] all = all
with-all P x (y ∷ ys) all = by (with-all P x ys) (comes_before (key_of x) (key_of y)) all
  where
    by : (AllByRecursion P (with_held x ys) → P x × AllByRecursion P ys) → (b : Bool) → AllByRecursion P (if b then x ∷ y ∷ ys else y ∷ with_held x ys) → P x × AllByRecursion P (y ∷ ys)
    by later true h = h
    by later false h = (let rest = later h.1 in (rest.0, (h.0, rest.1)))

-- what holds of all that are held
pub both-all : (P : Numbered → Type 0) (near far : List Held) → AllByRecursion P (both_of near far) → AllByRecursion (λ e. P (numbered_tuple e)) near × AllByRecursion P (held_of far)
both-all P [] far all = (tt, all)
both-all P (e ∷ es) far all =
    let here = with-all P (numbered_tuple e) (both_of es far) all in
    let rest = both-all P es far here.1 in
    ((here.0, rest.0), rest.1)

length-with : (x : Numbered) (l : List Numbered) → length (with_held x l) ≡ suc (length l)
length-with x [] = refl
length-with x (y ∷ ys) = elim (comes_before (key_of x) (key_of y)) as (λ b. length (if b then x ∷ y ∷ ys else y ∷ with_held x ys) ≡ suc (suc (length ys))) [ true ↦ refl | false ↦ ap suc (length-with x ys) ]

length-held : (es : List Held) → length (held_of es) ≡ length es
length-held [] = refl
length-held (e ∷ es) = ap suc (length-held es)

pub length-both : (near far : List Held) → length (both_of near far) ≡ length near + length far
length-both [] far = omega (arith, length-held far)
length-both (e ∷ es) far = omega (arith, length-with (numbered_tuple e) (both_of es far), length-both es far)

-- one more among the far ones
pub both-put-far : (near far more : List Held) (x : Numbered) → AllByRecursion (λ e. e.0.1 < x.0) near → held_of more ≡ put_in x (held_of far) → both_of near more ≡ put_in x (both_of near far)
both-put-far [] far more x low is = is
both-put-far (e ∷ es) far more x low is = ap (with_held (numbered_tuple e)) (both-put-far es far more x low.1 is) ∙ with-put (numbered_tuple e) x (both_of es far) low.0

-- one more among the near ones
pub both-put-near : (near far : List Held) (i : ℕ) (x : Held) → AllByRecursion (λ a. a.0 < x.0.1) (both_of near far) → both_of (insert near i x) far ≡ put_in (numbered_tuple x) (both_of near far)
both-put-near near far zero x low = with-is-put (numbered_tuple x) (both_of near far) low
both-put-near [] far (suc i) x low = with-is-put (numbered_tuple x) (held_of far) low
both-put-near (e ∷ es) far (suc i) x low =
    let below = with-all (λ a. a.0 < x.0.1) (numbered_tuple e) (both_of es far) low in
    ap (with_held (numbered_tuple e)) (both-put-near es far i x below.1) ∙ with-put (numbered_tuple e) (numbered_tuple x) (both_of es far) below.0

all-insert : {A : Type 0} (P : A → Type 0) (xs : List A) (i : ℕ) (x : A) → AllByRecursion P xs → P x → AllByRecursion P (insert xs i x)
all-insert P xs zero x all p = (p, all)
all-insert P [] (suc i) x all p = (p, tt)
all-insert P (y ∷ ys) (suc i) x all p = (all.0, all-insert P ys i x all.1 p)

order-put : (near : List Held) (i : ℕ) (x : Held) → AreInOrder near → AllByRecursion (λ e. e.0.1 < x.0.1) near → AllByRecursion (λ e. e.0.0 ≤ x.0.0) (take i near) → AllByRecursion (λ e. x.0.0 < e.0.0) (drop i near)
    → AreInOrder (insert near i x)
order-put near zero x up low before after = (all_weaker (λ (e : Held). x.0.0 < e.0.0) (λ e. comes_before x.0 e.0 ≡ true) (λ e h. earlier x.0 e.0 h) near after, up)
order-put [] (suc i) x up low before after = (tt, tt)
order-put (e ∷ es) (suc i) x up low before after =
    (all-insert (λ (f : Held). comes_before e.0 f.0 ≡ true) es i x up.0 (not-later e.0 x.0 before.0 low.0), order-put es i x up.1 low.1 before.1 after)

-- where the last of some is not later, none of them is
low-take : (near : List Held) (i t : ℕ) → AreInOrder near → ((d : Held) → 0 < i → (get_or near (i - 1) d).0.0 ≤ t) → AllByRecursion (λ e. e.0.0 ≤ t) (take i near)
low-take near zero t up last = tt
low-take [] (suc i) t up last = tt
low-take (e ∷ es) (suc zero) t up last = (last e (omega arith), tt)
low-take (e ∷ []) (suc (suc i)) t up last = (let less : suc (suc i) - 1 ≡ suc i = omega arith in subst (λ n. (get_or (e ∷ []) n e).0.0 ≤ t) less (last e (omega arith)), tt)
low-take (e ∷ f ∷ fs) (suc (suc i)) t up last =
    let less : suc (suc i) - 1 ≡ suc i = omega arith in
    let lesser : suc i - 1 ≡ i = omega arith in
    let rest = low-take (f ∷ fs) (suc i) t up.1 (λ d h. subst (λ n. (get_or (f ∷ fs) n d).0.0 ≤ t) (sym lesser) (subst (λ n. (get_or (e ∷ f ∷ fs) n d).0.0 ≤ t) less (last d (omega arith)))) in
    (omega (arith, before-le e.0 f.0 up.0.0, rest.0), rest)

pub order-insert : (near : List Held) (i : ℕ) (x : Held) → AreInOrder near → AllByRecursion (λ e. e.0.1 < x.0.1) near → ((d : Held) → 0 < i → (get_or near (i - 1) d).0.0 ≤ x.0.0) → AllByRecursion (λ e. x.0.0 < e.0.0) (drop i near)
    → AreInOrder (insert near i x)
order-insert near i x up low last after = order-put near i x up low (low-take near i x.0.0 up last) after

-- a key comes before the first, if there is one
abbrev IsBeforeFirst : Key → List Numbered → Type 0
IsBeforeFirst k [] = Unit {0}
IsBeforeFirst k (y ∷ ys) = comes_before k (key_of y) ≡ true

with-first : (x : Numbered) (l : List Numbered) → IsBeforeFirst (key_of x) l → with_held x l ≡ x ∷ l
with-first x [] h = refl
with-first x (y ∷ ys) h = ap (λ b. if b then x ∷ y ∷ ys else y ∷ with_held x ys) h

before-with : (k : Key) (x : Numbered) (l : List Numbered) → comes_before k (key_of x) ≡ true → IsBeforeFirst k l → IsBeforeFirst k (with_held x l)
before-with k x [] e h = e
before-with k x (y ∷ ys) e h = elim (comes_before (key_of x) (key_of y)) as (λ b. IsBeforeFirst k (if b then x ∷ y ∷ ys else y ∷ with_held x ys)) [ true ↦ e | false ↦ h ]

before-both : (k : Key) (es far : List Held) → AllByRecursion (λ f. comes_before k f.0 ≡ true) es → IsBeforeFirst k (held_of far) → IsBeforeFirst k (both_of es far)
before-both k [] far all h = h
before-both k (e ∷ es) far all h = before-with k (numbered_tuple e) (both_of es far) all.0 (before-both k es far all.1 h)

pub near-first : (e : Held) (es far : List Held) → AreInOrder (e ∷ es) → IsBeforeFirst e.0 (held_of far) → both_of (e ∷ es) far ≡ numbered_tuple e ∷ both_of es far
near-first e es far up h = with-first (numbered_tuple e) (both_of es far) (before-both e.0 es far up.0 h)

far-all : (near : List Held) (f : Held) (far : List Held) → AllByRecursion (λ e. comes_before e.0 f.0 ≡ false) near → both_of near (f ∷ far) ≡ numbered_tuple f ∷ both_of near far
far-all [] f far all = refl
far-all (e ∷ es) f far all =
    ap (with_held (numbered_tuple e)) (far-all es f far all.1)
    ∙ ap (λ b. if b then numbered_tuple e ∷ numbered_tuple f ∷ both_of es far else numbered_tuple f ∷ with_held (numbered_tuple e) (both_of es far)) all.0

pub far-first : (e : Held) (es : List Held) (f : Held) (far : List Held) → AreInOrder (e ∷ es) → comes_before e.0 f.0 ≡ false → both_of (e ∷ es) (f ∷ far) ≡ numbered_tuple f ∷ both_of (e ∷ es) far
far-first e es f far up h =
    far-all (e ∷ es) f far (h, all_weaker (λ (g : Held). comes_before e.0 g.0 ≡ true) (λ g. comes_before g.0 f.0 ≡ false) (λ g k. none-later e.0 g.0 f.0 k h) es up.0)

-- the first of the near ones, and the others: where none is far, and where it comes before the first that is
pub near-alone : (near far : List Held) → AreInOrder near → length far ≡ 0 → both_of near far ≡ held_of (take 1 near) ++ both_of (drop 1 near) far
near-alone [] far up none = refl
near-alone (e ∷ es) [] up none = near-first e es [] up tt
near-alone (e ∷ es) (f ∷ fs) up none = absurd (omega (arith, none))

pub near-before : (near far : List Held) (a b : Key) → AreInOrder near → (x : Held) → 0 < length near → x ≡ get_or near 0 x → a ≡ x.0 → (v : List Value) → slice_get far 0 ≡ Some (b, v)
    → comes_before a b ≡ true → both_of near far ≡ held_of (take 1 near) ++ both_of (drop 1 near) far
near-before [] far a b up x some is key v at h = absurd (omega (arith, some))
near-before (e ∷ es) [] a b up x some is key v at h = cc
near-before (e ∷ es) (f ∷ fs) a b up x some is key v at h =
    let ea : a ≡ e.0 = key ∙ ap (λ (z : Held). z.0) is in
    let eb : b ≡ f.0 = let same : (b, v) ≡ f = cc in ap (λ (z : Held). z.0) same in
    near-first e es (f ∷ fs) up (subst (λ k. comes_before k f.0 ≡ true) ea (subst (λ k. comes_before a k ≡ true) eb h))

pub far-before : (near far : List Held) (a b : Key) → AreInOrder near → (x : Held) → 0 < length near → x ≡ get_or near 0 x → a ≡ x.0 → (v : List Value) → slice_get far 0 ≡ Some (b, v)
    → comes_before a b ≡ false → both_of near far ≡ held_of (take 1 far) ++ both_of near (drop 1 far)
far-before [] far a b up x some is key v at h = absurd (omega (arith, some))
far-before (e ∷ es) [] a b up x some is key v at h = cc
far-before (e ∷ es) (f ∷ fs) a b up x some is key v at h =
    let ea : a ≡ e.0 = key ∙ ap (λ (z : Held). z.0) is in
    let eb : b ≡ f.0 = let same : (b, v) ≡ f = cc in ap (λ (z : Held). z.0) same in
    far-first e es f fs up (subst (λ k. comes_before k f.0 ≡ false) ea (subst (λ k. comes_before a k ≡ false) eb h))
