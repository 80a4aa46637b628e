-- The numbers of batches stay small, and filters of ranges grow at their end.
use Rattle.std.proofs.Common.{◌≡◌, ℕ, zero, suc, ◌+◌, ◌-◌, ◌*◌, ◌/◌, ◌≤◌, ◌<◌, ◌^◌, Bool, true, false, not, ◌&&◌, ◌||◌, cond, if◌then◌else◌, List, [], ◌∷◌, ◌++◌, max, length, get_or, refl, ap, ◌∙◌, arith}
use Rattle.std.proofs.Math.Nat.{div-lt_iff_lt-mul, div-mul-le_self}
use Rattle.std.proofs.lemmas.List.Elements.{filter-append}
use Rattle.std.specs.Prelude.{nat_lt, nat_le}
use Rattle.std.specs.List.{filter, list_any, range_with_len, AllByRecursion}
use Rattle.std.proofs.lemmas.Bool.Decides.{nat_tests}
use Rattle.sq_value.specs.Values.{IsStream}
use Rattle.sq_road.specs.Levels.{LevelTable}
use Rattle.sq_place.specs.declared.DropPoint.{DropPoint}
use Rattle.sq_place.specs.Points.{until_of}
use Rattle.sq_value.specs.declared.Tuple.{Tuple}
use Rattle.sq_words.specs.Lists.{numbers_to, max_by}
use Rattle.sq_model.specs.Shedding.{last_of, is_touched}
use Rattle.sq_model.specs.GivenLevels.{AreTicks, drops_at, needed_by, needs_at}
use Rattle.sq_words.proofs.Ranges.{range_more}
use Rattle.sq_words.proofs.Numbers.{times_up}

pub last_low : (xs : List Tuple) → AreTicks xs → last_of xs < 2 ^ 40
last_low [] h = omega arith
last_low (x ∷ xs) h = let more = last_low xs h.1 in let first = h.0 in omega (arith, more, first)

-- a batch that begins by the last tick
pub batch_begins : (b last len : ℕ) → b ≤ last / len → b * len ≤ last
batch_begins b last len h = let up = times_up b (last / len) len h in let low = div-mul-le_self last len in omega (arith, up, low)

pub batch_fits : (b last len keep : ℕ) → b ≤ last / len → last < 2 ^ 40 → len ≤ 2 ^ 34 → keep < 2 ^ 47 → (b + 1) * len + keep < 2 ^ 64
batch_fits b last len keep h low l k = let begins = batch_begins b last len h in let next = one_more b len in omega (arith, begins, next, low, l, k)
  where
    one_more : (b len : ℕ) → (b + 1) * len ≡ b * len + len
    one_more b len = grind arith

pub batch_small : (b last len : ℕ) → 1 ≤ len → b ≤ last / len → last < 2 ^ 40 → b < 2 ^ 40
batch_small b last len one h low = let begins = batch_begins b last len h in let grows = up b len one in omega (arith, begins, grows, low)
  where
    up : (b len : ℕ) → 1 ≤ len → b ≤ b * len
    up b len one = let x = times_up 1 len b one in flip b len x
      where
        flip : (b len : ℕ) → 1 * b ≤ len * b → b ≤ b * len
        flip b len h = grind arith

pub epochs_up : (a b n : ℕ) → 1 ≤ n → a ≤ b → a / n ≤ b / n
epochs_up a b n one h =
    let low : b < (b / n + 1) * n = (div-lt_iff_lt-mul one).0 (omega arith) in
    let down : a / n < b / n + 1 = (div-lt_iff_lt-mul one).1 (omega (arith, low, h)) in
    omega (arith, down)

pub filter_more : (t : ℕ → Bool) (n : ℕ) → filter t (numbers_to (n + 1)) ≡ filter t (numbers_to n) ++ (if t n then n ∷ [] else [])
filter_more t n =
    let same : n + 1 ≡ suc n = omega arith in
    ap (λ k. filter t (numbers_to k)) same ∙ ap (filter t) (range_more 0 n) ∙ filter-append t (numbers_to n) ((0 + n) ∷ []) ∙ (let flat : 0 + n ≡ n = omega arith in ap (λ k. filter t (numbers_to n) ++ filter t (k ∷ [])) flat)

later_of : (t a b d : ℕ) → nat_lt t (max a b - d) ≡ (nat_lt t (a - d) || nat_lt t (b - d))
later_of t a b d = grind (arith, nat_tests)

max_any : (f : ℕ → ℕ) (p : ℕ → Bool) (t d : ℕ) (bs : List ℕ) → nat_lt t (max_by f (filter p bs) - d) ≡ list_any (λ b. p b && nat_lt t (f b - d)) bs
max_any f p t d [] = none t d
  where
    none : (t d : ℕ) → nat_lt t (0 - d) ≡ false
    none t d = grind (arith, nat_tests)
max_any f p t d (b ∷ bs) = by (max_any f p t d bs) (p b)
  where
    by : nat_lt t (max_by f (filter p bs) - d) ≡ list_any (λ b. p b && nat_lt t (f b - d)) bs → (c : Bool)
        → nat_lt t (max_by f (cond c (b ∷ filter p bs) (filter p bs)) - d) ≡ ((c && nat_lt t (f b - d)) || list_any (λ b. p b && nat_lt t (f b - d)) bs)
    by more true = later_of t (f b) (max_by f (filter p bs)) d ∙ ap (λ z. nat_lt t (f b - d) || z) more
    by more false = more

pub needed_any : (table : LevelTable) (seed w : ℕ) (p : DropPoint) (d t : ℕ) → nat_lt t (needed_by table seed w p (t / p.length) - d) ≡ list_any (needs_at table seed w p d t) (numbers_to (t / p.length + 1))
needed_any table seed w p d t = max_any (until_of p) (λ b. not (drops_at table seed w p b)) t d (numbers_to (t / p.length + 1))

pub any_none : (test : ℕ → Bool) (a n : ℕ) → ((b : ℕ) → b < a + n → test b ≡ false) → list_any test (range_with_len a n) ≡ false
any_none test a zero h = refl
any_none test a (suc n) h = ap (λ z. z || list_any test (range_with_len (a + 1) n)) (h a (omega arith)) ∙ any_none test (a + 1) n (λ b lt. h b (omega (arith, lt)))

-- a batch that ends, with what is kept for it, by a tick
pub ends_by : (b t len keep : ℕ) → 1 ≤ len → b < (t - keep) / len → (b + 1) * len + keep ≤ t
ends_by b t len keep one lt =
    let up = times_up (b + 1) ((t - keep) / len) len (omega (arith, lt)) in
    let low = div-mul-le_self (t - keep) len in
    let some = times_up 1 (b + 1) len (omega arith) in
    let flat : 1 * len ≡ len = omega arith in
    omega (arith, up, low, some, flat, one)

pub too_early : (table : LevelTable) (seed w : ℕ) (p : DropPoint) (d t b : ℕ) → 1 ≤ p.length → b < (t - p.keep) / p.length → needs_at table seed w p d t b ≡ false
too_early table seed w p d t b one lt = ap (λ z. not (drops_at table seed w p b) && z) (past t (until_of p b) d (ends_by b t p.length p.keep one lt)) ∙ last (not (drops_at table seed w p b))
  where
    past : (t u d : ℕ) → u ≤ t → nat_lt t (u - d) ≡ false
    past t u d h = grind (arith, nat_tests)

    last : (z : Bool) → (z && false) ≡ false
    last true = refl
    last false = refl

-- ---- which batches no tuple touches

pub untouched : (p : DropPoint) (xs : List Tuple) (t b : ℕ) → 1 ≤ p.length → AllByRecursion (λ (x : Tuple). t ≤ x.time) xs → b < (t - p.keep) / p.length → is_touched p xs b ≡ false
untouched p [] t b one all lt = refl
untouched p (x ∷ xs) t b one all lt =
    ap (λ z. z || is_touched p xs b) (ap (λ z. nat_le (b * p.length) x.time && z) (past x.time (until_of p b) (let ends = ends_by b t p.length p.keep one lt in let low = all.0 in omega (arith, ends, low))) ∙ last (nat_le (b * p.length) x.time))
    ∙ untouched p xs t b one all.1 lt
  where
    past : (t u : ℕ) → u ≤ t → nat_lt t u ≡ false
    past t u h = grind (arith, nat_tests)

    last : (z : Bool) → (z && false) ≡ false
    last true = refl
    last false = refl

least_first : (t : ℕ) (x : Tuple) (xs : List Tuple) → t ≤ x.time → IsStream (x ∷ xs) → AllByRecursion (λ (y : Tuple). t ≤ y.time) (x ∷ xs)
least_first t x [] low s = (low, tt)
least_first t x (y ∷ ys) low s = (low, least_first t y ys (let up = s.0 in omega (arith, low, up)) s.1)

pub first_least : (xs : List Tuple) (x : Tuple) → IsStream xs → 1 ≤ length xs → x ≡ get_or xs 0 x → AllByRecursion (λ (y : Tuple). x.time ≤ y.time) xs
first_least [] x s some is = tt
first_least (y ∷ ys) x s some is = least_first x.time y ys (let same : x.time ≡ y.time = ap (λ (z : Tuple). z.time) is in omega (arith, same)) s

pub filter_nothing : (test : ℕ → Bool) (a n : ℕ) → ((b : ℕ) → b < a + n → test b ≡ false) → filter test (range_with_len a n) ≡ []
filter_nothing test a zero h = refl
filter_nothing test a (suc n) h = ap (λ z. cond z (a ∷ filter test (range_with_len (a + 1) n)) (filter test (range_with_len (a + 1) n))) (h a (omega arith)) ∙ filter_nothing test (a + 1) n (λ b lt. h b (omega (arith, lt)))
