-- Lists of bytes are ordered as numbers made of their first bytes, and where these are the same as what stands behind.
use Rattle.std.proofs.Common.{◌≡◌, ◌∙◌, refl, sym, ap, ap₂, zero, suc, ℕ, ◌+◌, ◌*◌, ◌^◌, ◌<◌, ◌≤◌, List, [], ◌∷◌, ◌++◌, fold, length, get_or, take, drop, Ordering, Less, Equal, Greater, Fits, w8, arith}
use Rattle.std.specs.Int.{w64, from_be_bytes}
use Rattle.std.specs.Ordering.{nat_cmp, ordering_then, MatchOrdering}
use Rattle.std.specs.Cmp.{ranks, nat_cmp_is}
use Rattle.std.specs.Cmp.Lexicographic.{slice_cmp}
use Rattle.std.proofs.Math.Nat.{mul-le-mul_right}

-- the number made of the first bytes, the first the greatest
abbrev pub number : ℕ → List ℕ → ℕ
number zero xs = 0
number (suc k) [] = 0
number (suc k) (x ∷ xs) = x * 256 ^ k + number k xs

abbrev pub AreBytes : List ℕ → Type 0
AreBytes xs = (k : ℕ) → Fits w8 (get_or xs k 0)

behind : (xs : List ℕ) (x : ℕ) → AreBytes (x ∷ xs) → AreBytes xs
behind xs x small = λ k. small (suc k)

pub number_below : (k : ℕ) (xs : List ℕ) → AreBytes xs → number k xs < 256 ^ k
number_below zero xs small = omega arith
number_below (suc k) [] small = let most = number_below k [] small in omega (arith, most)
number_below (suc k) (x ∷ xs) small =
    let least = (small 0).fits in
    let most = number_below k xs (behind xs x small) in
    let up : (x + 1) * 256 ^ k ≤ 256 * 256 ^ k = mul-le-mul_right (256 ^ k) (omega (arith, least)) in
    omega (arith, most, up)

-- numbers of two parts: the greater part decides, and where it is the same the less one
two_parts : (p a b x y : ℕ) (r s : Ordering) → x < p → y < p → MatchOrdering r (a < b) (a ≡ b) (b < a) → MatchOrdering s (x < y) (x ≡ y) (y < x)
    → ordering_then r s ≡ nat_cmp (a * p + x) (b * p + y)
two_parts p a b x y Less s fx fy h k =
    let up : (a + 1) * p ≤ b * p = mul-le-mul_right p (omega (arith, h)) in
    nat_cmp_is (a * p + x) (b * p + y) Less (omega (arith, up))
two_parts p a b x y Greater s fx fy h k =
    let up : (b + 1) * p ≤ a * p = mul-le-mul_right p (omega (arith, h)) in
    nat_cmp_is (a * p + x) (b * p + y) Greater (omega (arith, up))
two_parts p a b x y Equal Less fx fy h k =
    let same = ap (λ z. z * p) h in
    nat_cmp_is (a * p + x) (b * p + y) Less (omega (arith, same, k))
two_parts p a b x y Equal Equal fx fy h k =
    let same = ap (λ z. z * p) h in
    nat_cmp_is (a * p + x) (b * p + y) Equal (omega (arith, same, k))
two_parts p a b x y Equal Greater fx fy h k =
    let same = ap (λ z. z * p) h in
    nat_cmp_is (a * p + x) (b * p + y) Greater (omega (arith, same, k))

thens : (r s t : Ordering) → ordering_then r (ordering_then s t) ≡ ordering_then (ordering_then r s) t
thens Less s t = refl
thens Equal s t = refl
thens Greater s t = refl

pub first_then_rest : (k : ℕ) (xs ys : List ℕ) → k ≤ length xs → k ≤ length ys → AreBytes xs → AreBytes ys
    → slice_cmp nat_cmp xs ys ≡ ordering_then (nat_cmp (number k xs) (number k ys)) (slice_cmp nat_cmp (drop k xs) (drop k ys))
first_then_rest zero xs ys long long' small small' = refl
first_then_rest (suc k) [] ys long long' small small' = absurd (omega (arith, long))
first_then_rest (suc k) (x ∷ xs) [] long long' small small' = absurd (omega (arith, long'))
first_then_rest (suc k) (x ∷ xs) (y ∷ ys) long long' small small' =
    let bx = behind xs x small in
    let by = behind ys y small' in
    let rest = slice_cmp nat_cmp (drop k xs) (drop k ys) in
    ap (λ r. ordering_then (nat_cmp x y) r) (first_then_rest k xs ys (omega (arith, long)) (omega (arith, long')) bx by)
    ∙ thens (nat_cmp x y) (nat_cmp (number k xs) (number k ys)) rest
    ∙ ap (λ r. ordering_then r rest)
    (two_parts (256 ^ k) x y (number k xs) (number k ys) (nat_cmp x y) (nat_cmp (number k xs) (number k ys)) (number_below k xs bx) (number_below k ys by) (ranks x y) (ranks (number k xs) (number k ys)))

pub eight_bytes : (xs : List ℕ) → 8 ≤ length xs → from_be_bytes w64 (take 8 xs) ≡ number 8 xs
eight_bytes [] long = absurd (omega (arith, long))
eight_bytes (a ∷ []) long = absurd (omega (arith, long))
eight_bytes (a ∷ b ∷ []) long = absurd (omega (arith, long))
eight_bytes (a ∷ b ∷ c ∷ []) long = absurd (omega (arith, long))
eight_bytes (a ∷ b ∷ c ∷ d ∷ []) long = absurd (omega (arith, long))
eight_bytes (a ∷ b ∷ c ∷ d ∷ e ∷ []) long = absurd (omega (arith, long))
eight_bytes (a ∷ b ∷ c ∷ d ∷ e ∷ f ∷ []) long = absurd (omega (arith, long))
eight_bytes (a ∷ b ∷ c ∷ d ∷ e ∷ f ∷ g ∷ []) long = absurd (omega (arith, long))
eight_bytes (a ∷ b ∷ c ∷ d ∷ e ∷ f ∷ g ∷ h ∷ xs) long = omega arith

-- the same at eight bytes, as the code makes the numbers
pub eight_then_rest : (xs ys front back front' back' : List ℕ) (m n : ℕ) (r : Ordering) → front ≡ take 8 xs → back ≡ drop 8 xs → front' ≡ take 8 ys → back' ≡ drop 8 ys
    → 8 ≤ length xs → 8 ≤ length ys → AreBytes xs → AreBytes ys → m ≡ from_be_bytes w64 front → n ≡ from_be_bytes w64 front' → MatchOrdering r (m < n) (m ≡ n) (n < m)
    → ordering_then r (slice_cmp nat_cmp back back') ≡ slice_cmp nat_cmp xs ys
eight_then_rest xs ys front back front' back' m n r f b f' b' long long' small small' made made' is =
    ap₂ (λ q t. ordering_then q t) (nat_cmp_is m n r is ∙ ap₂ nat_cmp (made ∙ ap (from_be_bytes w64) f ∙ eight_bytes xs long) (made' ∙ ap (from_be_bytes w64) f' ∙ eight_bytes ys long')) (ap₂ (slice_cmp nat_cmp) b b')
    ∙ sym (first_then_rest 8 xs ys long long' small small')

-- what is written first, and then the rest
pub fold_append : {S A : Type 0} (f : S → A → S) (s : S) (xs ys : List A) → fold f s (xs ++ ys) ≡ fold f (fold f s xs) ys
fold_append f s [] ys = refl
fold_append f s (x ∷ xs) ys = fold_append f (f s x) xs ys
