-- From a word of eight bytes to the digits among them.
use Rattle.std.proofs.Common.{◌≡◌, ◌∙◌, ap, sym, subst, refl, ℕ, zero, suc, ◌+◌, ◌-◌, ◌*◌, ◌/◌, ◌%◌, ◌^◌, ◌<◌, ◌≤◌, Bool, true, false, not, cond, eqb, eqb→eq, T, map-id, List, [], ◌∷◌, ◌++◌, map, length, take, drop, replicate, get_or, bit_and, bit_or, bit_xor, Fits, w8, arith}
use Rattle.std.proofs.Common.{eq-eqb, ne_eqb, length-append, length-drop, length-take, length-take-le, take-take, mod-eq_of_lt, mul-div_cancel, mul_assoc, add-zero, pow-suc, pow-add}
use Rattle.std.specs.Int.Digits.{number_from_digits, AllBelowBase}
use Rattle.std.specs.List.{prefix_len, list_all, slice_range}
use Rattle.std.proofs.Math.Arith.{digits_div, digits_mod, mod-mul}
use Rattle.std.proofs.Math.Nat.{mul-mod_left, one-le-pow, zero-mod}
use Rattle.std.proofs.lemmas.Bool.{agree_below, agree_below_at, le-leb}
use Rattle.std.proofs.lemmas.Bool.Decides.{nat_tests}
use Rattle.std.proofs.lemmas.List.{get_or-drop, get_or-take, length-map, length-replicate, take-map}
use Rattle.std.proofs.lemmas.List.Sums.{prefix_len-le-length, prefix_len_stops}
use Rattle.std.proofs.lemmas.Nat.{and_block, and_le_r, and_mask, mul-mod_first, or_block, or_lt, xor_block, xor_lt}
use Rattle.std.proofs.lemmas.Simd.{first_set_mask_l}
use lib.Count.{count_trailing_zeros}
use lib.Lanes.{mask_l, number_l}
use Rattle.sq_value.specs.Texts.{digit_values, is_digit, number_in}
use Rattle.sq_csv.specs.Lanes.{AreEight, less_zero, flag}
use Rattle.sq_csv.proofs.LaneLemmas.{told_by_run}

-- the mask keeps bytes 0 and 4
masked : (x : ℕ) → bit_and x 0x0000_00ff_0000_00ff ≡ x / 2 ^ 32 % 256 * 2 ^ 32 + x % 2 ^ 32 % 256
masked x =
    let e : x ≡ x / 2 ^ 32 * 2 ^ 32 + x % 2 ^ 32 = omega arith in
    ap (λ y. bit_and y 0x0000_00ff_0000_00ff) e ∙ and_block 32 (x / 2 ^ 32) 255 (x % 2 ^ 32) 255 (omega arith) (omega arith)
    ∙ (λ i. and_mask (x / 2 ^ 32) 8 i * 2 ^ 32 + and_mask (x % 2 ^ 32) 8 i)

abbrev worth : ℕ → ℕ
worth word =
    let pairs = (word * 10 % 2 ^ 64 + word / 256) % 2 ^ 64 in
    (bit_and pairs 0x0000_00ff_0000_00ff * 4294967296000100 % 2 ^ 64 + bit_and (pairs / 65536) 0x0000_00ff_0000_00ff * 42949672960001 % 2 ^ 64) % 2 ^ 64 / 2 ^ 32

below : (x : ℕ) → x < 100 → x < 256
below x h = omega arith

first : (p r : ℕ) → p < 100 → r < 100 → (r * 2 ^ 32 + p) * 4294967296000100 % 2 ^ 64 ≡ (p * 1000000 + r * 100) * 2 ^ 32 + p * 100
first p r P R = omega arith

second : (q s : ℕ) → q < 100 → s < 100 → (s * 2 ^ 32 + q) * 42949672960001 % 2 ^ 64 ≡ (q * 10000 + s) * 2 ^ 32 + q
second q s Q S = omega arith

last : (p q r s : ℕ) → p < 100 → q < 100 → r < 100 → s < 100
    → ((p * 1000000 + r * 100) * 2 ^ 32 + p * 100 + ((q * 10000 + s) * 2 ^ 32 + q)) % 2 ^ 64 / 2 ^ 32 ≡ p * 1000000 + q * 10000 + r * 100 + s
last p q r s P Q R S =
    let sum = (p * 1000000 + r * 100) * 2 ^ 32 + p * 100 + ((q * 10000 + s) * 2 ^ 32 + q) in
    let small : sum < 2 ^ 64 = omega arith in
    let parts : sum ≡ (p * 1000000 + q * 10000 + r * 100 + s) * 2 ^ 32 + (p * 100 + q) = omega arith in
    let low : p * 100 + q < 2 ^ 32 = omega arith in
    ap (λ x. x / 2 ^ 32) (mod-eq_of_lt small ∙ parts) ∙ digits_div _ low

-- p, q, r and s are the four pairs of digits, and x, y, z and w the bytes between them
combined : (p q r s x y z w pairs : ℕ) → p < 100 → q < 100 → r < 100 → s < 100 → x < 100 → y < 100 → z < 100 → w < 100
    → pairs ≡ p + 2 ^ 8 * x + 2 ^ 16 * q + 2 ^ 24 * y + 2 ^ 32 * r + 2 ^ 40 * z + 2 ^ 48 * s + 2 ^ 56 * w
    → (bit_and pairs 0x0000_00ff_0000_00ff * 4294967296000100 % 2 ^ 64 + bit_and (pairs / 65536) 0x0000_00ff_0000_00ff * 42949672960001 % 2 ^ 64) % 2 ^ 64 / 2 ^ 32
    ≡ p * 1000000 + q * 10000 + r * 100 + s
combined p q r s x y z w pairs P Q R S X Y Z W e =
    let high : pairs / 2 ^ 32 ≡ (z + 2 ^ 8 * s + 2 ^ 16 * w) * 256 + r = omega arith in
    let low : pairs % 2 ^ 32 ≡ (x + 2 ^ 8 * q + 2 ^ 16 * y) * 256 + p = omega arith in
    let down : pairs / 65536 ≡ (((w * 256) + s) * 2 ^ 32) + ((y + 2 ^ 8 * r + 2 ^ 16 * z) * 256 + q) = omega arith in
    let a : pairs / 2 ^ 32 % 256 ≡ r = rw high (digits_mod _ (below r R)) in
    let b : pairs % 2 ^ 32 % 256 ≡ p = rw low (digits_mod _ (below p P)) in
    let part : (y + 2 ^ 8 * r + 2 ^ 16 * z) * 256 + q < 2 ^ 32 = omega arith in
    let c : pairs / 65536 / 2 ^ 32 % 256 ≡ s = rw (down, digits_div _ part) (digits_mod _ (below s S)) in
    let d : pairs / 65536 % 2 ^ 32 % 256 ≡ q = rw (down, digits_mod _ part) (digits_mod _ (below q Q)) in
    rw (masked pairs, masked (pairs / 65536), a, b, c, d, first p r P R, second q s Q S) (last p q r s P Q R S)

-- the three multiplications give the number that eight digits write
pub eight_is : (ds : List ℕ) (word : ℕ) → AreEight 10 ds → word ≡ number_l 256 ds → worth word ≡ number_from_digits 10 ds
eight_is [] word h e = absurd (omega arith)
eight_is (a ∷ []) word h e = absurd (omega arith)
eight_is (a ∷ b ∷ []) word h e = absurd (omega arith)
eight_is (a ∷ b ∷ c ∷ []) word h e = absurd (omega arith)
eight_is (a ∷ b ∷ c ∷ d ∷ []) word h e = absurd (omega arith)
eight_is (a ∷ b ∷ c ∷ d ∷ f ∷ []) word h e = absurd (omega arith)
eight_is (a ∷ b ∷ c ∷ d ∷ f ∷ g ∷ []) word h e = absurd (omega arith)
eight_is (a ∷ b ∷ c ∷ d ∷ f ∷ g ∷ i ∷ []) word h e = absurd (omega arith)
eight_is (a ∷ b ∷ c ∷ d ∷ f ∷ g ∷ i ∷ j ∷ k ∷ ds) word h e = absurd (omega arith)
eight_is (a ∷ b ∷ c ∷ d ∷ f ∷ g ∷ i ∷ j ∷ []) word h e =
    let rest = b + 256 * (c + 256 * (d + 256 * (f + 256 * (g + 256 * (i + 256 * (j + 256 * 0)))))) in
    let parts : word ≡ rest * 256 + a = omega arith in
    let small : a < 256 = omega arith in
    let shifted : word / 256 ≡ rest = ap (λ x. x / 256) parts ∙ digits_div rest small in
    let tens : word * 10 < 2 ^ 64 = omega arith in
    let sum : word * 10 + rest < 2 ^ 64 = omega arith in
    let pairs : (word * 10 % 2 ^ 64 + word / 256) % 2 ^ 64
    ≡ 10 * a + b + 2 ^ 8 * (10 * b + c) + 2 ^ 16 * (10 * c + d) + 2 ^ 24 * (10 * d + f) + 2 ^ 32 * (10 * f + g) + 2 ^ 40 * (10 * g + i) + 2 ^ 48 * (10 * i + j) + 2 ^ 56 * (10 * j) =
    rw (mod-eq_of_lt tens, shifted, mod-eq_of_lt sum) (omega arith) in
    combined _ _ _ _ _ _ _ _ _ (omega arith) (omega arith) (omega arith) (omega arith) (omega arith) (omega arith) (omega arith) (omega arith) pairs ∙ omega arith

-- ---- an operation goes by the byte
module _ (o : ℕ → ℕ → ℕ) (zeros : o 0 0 ≡ 0) (block : (k a b r s : ℕ) → r < 2 ^ k → s < 2 ^ k → o (a * 2 ^ k + r) (b * 2 ^ k + s) ≡ o a b * 2 ^ k + o r s) where
  by_byte : (f g : ℕ → ℕ) → ((b : ℕ) → b < 256 → f b < 256) → ((b : ℕ) → b < 256 → g b < 256) → (bs : List ℕ) → AllBelowBase 256 bs
      → o (number_l 256 (map f bs)) (number_l 256 (map g bs)) ≡ number_l 256 (map (λ b. o (f b) (g b)) bs)
  by_byte f g f_small g_small [] h = zeros
  by_byte f g f_small g_small (b ∷ bs) h =
      let x : f b + 256 * number_l 256 (map f bs) ≡ number_l 256 (map f bs) * 256 + f b = omega arith in
      let y : g b + 256 * number_l 256 (map g bs) ≡ number_l 256 (map g bs) * 256 + g b = omega arith in
      (λ i. o (x i) (y i)) ∙ block 8 _ _ _ _ (f_small b h.0) (g_small b h.0) ∙ omega (arith, by_byte f g f_small g_small bs h.1)

one_byte : (c : ℕ) (bs : List ℕ) → number_l 256 (map (λ b. c) bs) ≡ number_l 256 (replicate (length bs) c)
one_byte c [] = refl
one_byte c (b ∷ bs) = ap (λ n. c + 256 * n) (one_byte c bs)

-- a word with the same byte at each place
each_byte : (c : ℕ) (bs : List ℕ) → length bs ≡ 8 → c * 0x0101_0101_0101_0101 ≡ number_l 256 (map (λ b. c) bs)
each_byte c bs eight =
    let spread : c * 0x0101_0101_0101_0101 ≡ number_l 256 (replicate 8 c) = omega arith in
    spread ∙ sym (one_byte c bs ∙ ap (λ n. number_l 256 (replicate n c)) eight)

added : (f : ℕ → ℕ) (c : ℕ) (bs : List ℕ) → number_l 256 (map f bs) + number_l 256 (map (λ b. c) bs) ≡ number_l 256 (map (λ b. f b + c) bs)
added f c [] = refl
added f c (b ∷ bs) = omega (arith, added f c bs)

same_each : (f g : ℕ → ℕ) → ((b : ℕ) → b < 256 → f b ≡ g b) → (bs : List ℕ) → AllBelowBase 256 bs → map f bs ≡ map g bs
same_each f g same [] h = refl
same_each f g same (b ∷ bs) h = λ i. same b h.0 i ∷ same_each f g same bs h.1 i

-- numbers that agree at each byte, by trying each
agree : (f g : ℕ → ℕ) → agree_below (λ b. eqb (f b) (g b)) (λ b. true) 256 ≡ true → (b : ℕ) → b < 256 → f b ≡ g b
agree f g all b small = eqb→eq _ _ (subst T (sym (agree_below_at (λ b. eqb (f b) (g b)) (λ b. true) 256 b all small)) tt)

pub lanes_are : (bs : List ℕ) (word : ℕ) → AreEight 256 bs → word ≡ number_l 256 bs → bit_xor word 0x3030_3030_3030_3030 ≡ number_l 256 (map less_zero bs)
lanes_are bs word eight is =
    (λ i. bit_xor ((is ∙ ap (number_l 256) (sym (map-id bs))) i) (each_byte 48 bs eight.0 i))
    ∙ by_byte bit_xor refl xor_block (λ b. b) (λ b. 48) (λ b h. h) (λ b h. omega arith) bs eight.1

lane_small : (b : ℕ) → b < 256 → less_zero b < 256
lane_small b small = xor_lt 8 b 48 small (omega arith)

-- each byte is flagged that is no digit
pub flags_are : (bs : List ℕ) (lanes : ℕ) → AreEight 256 bs → lanes ≡ number_l 256 (map less_zero bs)
    → bit_and (bit_or (bit_and lanes 0x7f7f_7f7f_7f7f_7f7f + 0x7676_7676_7676_7676) lanes) 0x8080_8080_8080_8080 ≡ number_l 256 (map flag bs)
flags_are bs lanes eight is =
    let low : ℕ → ℕ = λ b. bit_and (less_zero b) 127 in
    let sum : ℕ → ℕ = λ b. low b + 118 in
    let either : ℕ → ℕ = λ b. bit_or (sum b) (less_zero b) in
    let sum_small : (b : ℕ) → b < 256 → sum b < 256 = λ b h. omega (arith, and_le_r (less_zero b) 127) in
    let either_small : (b : ℕ) → b < 256 → either b < 256 = λ b h. or_lt 8 (sum b) (less_zero b) (sum_small b h) (lane_small b h) in
    let kept = (λ i. bit_and (is i) (each_byte 127 bs eight.0 i)) ∙ by_byte bit_and refl and_block less_zero (λ b. 127) lane_small (λ b h. omega arith) bs eight.1 in
    let summed = (λ i. kept i + each_byte 118 bs eight.0 i) ∙ added low 118 bs in
    let joined = (λ i. bit_or (summed i) (is i)) ∙ by_byte bit_or refl or_block sum less_zero sum_small lane_small bs eight.1 in
    (λ i. bit_and (joined i) (each_byte 128 bs eight.0 i)) ∙ by_byte bit_and refl and_block either (λ b. 128) either_small (λ b h. omega arith) bs eight.1
    ∙ ap (number_l 256) (same_each (λ b. bit_and (either b) 128) flag (agree (λ b. bit_and (either b) 128) flag refl) bs eight.1)

-- ---- the flags, bit by bit
abbrev bits : List ℕ → List Bool
bits [] = []
bits (b ∷ bs) = false ∷ false ∷ false ∷ false ∷ false ∷ false ∷ false ∷ not (is_digit b) ∷ bits bs

one_flag : (b : Bool) → 128 * cond (not b) 1 0 ≡ cond b 0 128
one_flag true = refl
one_flag false = refl

flags_mask : (bs : List ℕ) → number_l 256 (map flag bs) ≡ mask_l (map (λ b. b) (bits bs))
flags_mask [] = refl
flags_mask (b ∷ bs) = omega (arith, flags_mask bs, one_flag (is_digit b))

length-bits : (bs : List ℕ) → length (bits bs) ≡ 8 * length bs
length-bits [] = refl
length-bits (b ∷ bs) = omega (arith, length-bits bs)

run_bits : (bs : List ℕ) → prefix_len not (bits bs) / 8 ≡ prefix_len is_digit bs
run_bits [] = refl
run_bits (b ∷ bs) = told (is_digit b) (prefix_len not (bits bs)) (prefix_len is_digit bs) (run_bits bs)
  where
    told : (d : Bool) (n k : ℕ) → n / 8 ≡ k → (1 + (1 + (1 + (1 + (1 + (1 + (1 + cond (not (not d)) (1 + n) 0))))))) / 8 ≡ cond d (1 + k) 0
    told true n k h = omega (arith, h)
    told false n k h = omega arith

run_flagged : (bs : List ℕ) (flags : ℕ) → AreEight 256 bs → flags ≡ number_l 256 (map flag bs) → cond (eqb flags 0) 64 (count_trailing_zeros 64 flags) / 8 ≡ prefix_len is_digit bs
run_flagged bs flags eight is =
    let mask = is ∙ flags_mask bs in
    ap (λ m. cond (eqb m 0) 64 (count_trailing_zeros 64 m) / 8) mask ∙ ap (λ n. n / 8) (first_set_mask_l (λ b. b) (bits bs) 64 (omega (arith, length-bits bs, eight.0)) (omega arith)) ∙ run_bits bs

-- the first flag tells how many digits come before it
pub none_flagged : (bs : List ℕ) (flags : ℕ) → AreEight 256 bs → flags ≡ number_l 256 (map flag bs) → flags ≡ 0 → 8 ≡ prefix_len is_digit bs
none_flagged bs flags eight is none = ap (λ t. cond t 64 (count_trailing_zeros 64 flags) / 8) (sym (eq-eqb flags 0 none)) ∙ run_flagged bs flags eight is

pub first_flagged : (bs : List ℕ) (flags : ℕ) → AreEight 256 bs → flags ≡ number_l 256 (map flag bs) → ¬ (flags ≡ 0) → count_trailing_zeros 64 flags / 8 ≡ prefix_len is_digit bs
first_flagged bs flags eight is some = ap (λ t. cond t 64 (count_trailing_zeros 64 flags) / 8) (sym (ne_eqb flags 0 some)) ∙ run_flagged bs flags eight is

-- ---- the digits' number
digit_lane : (b : ℕ) → b < 256 → is_digit b ≡ true → (less_zero b < 10) × (less_zero b ≡ b - 48)
digit_lane b small digit =
    let value : cond (is_digit b) (less_zero b) 0 ≡ cond (is_digit b) (b - 48) 0 = agree (λ b. cond (is_digit b) (less_zero b) 0) (λ b. cond (is_digit b) (b - 48) 0) refl b small in
    let same : less_zero b ≡ b - 48 = rw digit at value in
    let most : b ≤ 57 = grind (arith, nat_tests) in
    (omega (arith, same, most), same)

values : (bs : List ℕ) (n : ℕ) → AllBelowBase 256 bs → n ≤ prefix_len is_digit bs → AllBelowBase 10 (map less_zero (take n bs)) × (map less_zero (take n bs) ≡ digit_values (take n bs))
values bs zero small h = (tt, refl)
values [] (suc n) small h = (tt, refl)
values (b ∷ bs) (suc n) small h = go (values bs n small.1) (is_digit b) refl h
  where
    go : (n ≤ prefix_len is_digit bs → AllBelowBase 10 (map less_zero (take n bs)) × (map less_zero (take n bs) ≡ digit_values (take n bs))) → (d : Bool) → is_digit b ≡ d → suc n ≤ cond d (1 + prefix_len is_digit bs) 0
        → AllBelowBase 10 (map less_zero (take (suc n) (b ∷ bs))) × (map less_zero (take (suc n) (b ∷ bs)) ≡ digit_values (take (suc n) (b ∷ bs)))
    go others true e k = let rest = others (omega arith) in let d = digit_lane b small.0 e in ((d.0, rest.0), λ i. d.1 i ∷ rest.1 i)
    go others false e k = absurd (omega arith)

padded : (k : ℕ) (ds : List ℕ) → AllBelowBase 10 ds
    → AllBelowBase 10 (replicate k 0 ++ ds) × (number_l 256 (replicate k 0 ++ ds) ≡ number_l 256 ds * 256 ^ k) × (number_from_digits 10 (replicate k 0 ++ ds) ≡ number_from_digits 10 ds)
padded zero ds h = (h, omega arith, refl)
padded (suc k) ds h = let r = padded k ds h in ((omega arith, r.0), omega (arith, ap (λ x. number_l 256 ds * x) (pow-suc 256 k)), r.2)

front : (xs : List ℕ) (n : ℕ) → AllBelowBase 256 xs → number_l 256 xs % 256 ^ n ≡ number_l 256 (take n xs)
front xs zero h = omega arith
front [] (suc n) h = zero-mod _
front (x ∷ xs) (suc n) h =
    let e : x + 256 * number_l 256 xs ≡ number_l 256 xs * 256 + x = omega arith in
    let byte : 0 < 256 = omega arith in
    rw (pow-suc, e, mod-mul _ (one-le-pow n 256 byte) byte, digits_div _ h.0, digits_mod _ h.0, front xs n h.1) (omega arith)

mod_scaled : (a m c : ℕ) → 0 < m → 0 < c → a * c % (m * c) ≡ a % m * c
mod_scaled a m c M C = rw (mod-mul _ M C, mul-div_cancel a C, mul-mod_left, add-zero)

-- the two shifts of `keep_first` are one
pub bytes_up : (word n : ℕ) → n < 8 → word * 2 ^ (56 - 8 * n) % 2 ^ 64 * 256 % 2 ^ 64 ≡ word * 256 ^ (8 - n) % 2 ^ 64
bytes_up word n h =
    let same : 2 ^ (56 - 8 * n) * 256 ≡ 256 ^ (8 - n) = eqb→eq _ _ (subst T (sym (agree_below_at (λ k. eqb (2 ^ (56 - 8 * k) * 256) (256 ^ (8 - k))) (λ k. true) 8 n refl h)) tt) in
    rw (mul-mod_first, mul_assoc, same)

lanes_fit : (bs : List ℕ) → AllBelowBase 256 bs → AllBelowBase 256 (map less_zero bs)
lanes_fit [] h = tt
lanes_fit (b ∷ bs) h = (lane_small b h.0, lanes_fit bs h.1)

-- moved up until the first n lanes are the last, the word has zeros and then the n digits
pub shifted_is : (bs : List ℕ) (n word : ℕ) → AreEight 256 bs → n ≤ prefix_len is_digit bs → n ≤ 8 → word ≡ number_l 256 (map less_zero bs) * 256 ^ (8 - n) % 2 ^ 64
    → (ds : List ℕ) × AreEight 10 ds × (word ≡ number_l 256 ds) × (number_from_digits 10 ds ≡ number_in (take n bs))
shifted_is bs n word eight digits few e =
    let long = eight.0 in
    let v = values bs n eight.1 digits in
    let p = padded (8 - n) (map less_zero (take n bs)) v.0 in
    let all : 256 ^ n * 256 ^ (8 - n) ≡ 2 ^ 64 = sym (pow-add 256 n (8 - n)) ∙ ap (λ k. 256 ^ k) {y = 8} (omega arith) in (
      replicate (8 - n) 0 ++ map less_zero (take n bs),
      (omega (arith, length-append (replicate (8 - n) 0) (map less_zero (take n bs)), length-replicate {A = ℕ} (8 - n) 0, length-map (take n bs) less_zero, length-take n bs), p.0),
      e ∙ rw (← all, mod_scaled _ _ _ (one-le-pow n 256 (omega arith)) (one-le-pow (8 - n) 256 (omega arith)), front _ n (lanes_fit bs eight.1), take-map) (sym p.1),
      p.2 ∙ ap (number_from_digits 10) v.1,
    )

-- ---- the eight bytes at a place of a text
bytes_of : (bs : List ℕ) → ((k : ℕ) → get_or bs k 0 < 256) → AllBelowBase 256 bs
bytes_of [] h = tt
bytes_of (b ∷ bs) h = (h 0, bytes_of bs (λ k. h (suc k)))

bytes-take : (n : ℕ) (bs : List ℕ) → AllBelowBase 256 bs → AllBelowBase 256 (take n bs)
bytes-take zero bs h = tt
bytes-take (suc n) [] h = tt
bytes-take (suc n) (b ∷ bs) h = (h.0, bytes-take n bs h.1)

bytes-drop : (n : ℕ) (bs : List ℕ) → AllBelowBase 256 bs → AllBelowBase 256 (drop n bs)
bytes-drop zero bs h = h
bytes-drop (suc n) [] h = tt
bytes-drop (suc n) (b ∷ bs) h = bytes-drop n bs h.1

pub eight_at : (text : List ℕ) (at : ℕ) → ((k : ℕ) → Fits w8 (get_or text k 0)) → at + 8 ≤ length text → AreEight 256 (take 8 (drop at text))
eight_at text at fits room =
    (length-take-le 8 (drop at text) (omega (arith, length-drop at text)), bytes-take 8 _ (bytes-drop at text (bytes_of text (λ k. (fits k).fits))))

pub first_here : (text : List ℕ) (at n : ℕ) → n ≤ 8 → slice_range text at (at + n) ≡ take n (take 8 (drop at text))
first_here text at n few = ap (λ k. take k (drop at text)) (omega arith) ∙ sym (take-take n 8 (drop at text) few)

-- the first digits of eight bytes are digits of the text
pub digits_here : (text : List ℕ) (at n : ℕ) → at + 8 ≤ length text → n ≡ prefix_len is_digit (take 8 (drop at text)) → (n ≤ 8) × (list_all is_digit (slice_range text at (at + n)) ≡ true)
digits_here text at n room is =
    let bytes = take 8 (drop at text) in
    let long = length-take-le 8 (drop at text) (omega (arith, length-drop at text)) in
    let few : n ≤ 8 = omega (arith, is, prefix_len-le-length is_digit bytes, long) in
    (few, ap (list_all is_digit) (first_here text at n few) ∙ sym (told_by_run is_digit n bytes (omega (arith, few, long))) ∙ le-leb _ _ (omega (arith, is)))

-- and the byte behind them is none
pub digits_end : (text : List ℕ) (at n : ℕ) → at + 8 ≤ length text → n ≡ prefix_len is_digit (take 8 (drop at text)) → n < 8 → is_digit (get_or text (at + n) 0) ≡ false
digits_end text at n room is few =
    let bytes = take 8 (drop at text) in
    let long = length-take-le 8 (drop at text) (omega (arith, length-drop at text)) in
    sym (ap is_digit (get_or-take 8 (drop at text) n 0 few ∙ get_or-drop at text n 0)) ∙ ap (λ k. is_digit (get_or bytes k 0)) is
    ∙ prefix_len_stops is_digit bytes 0 (omega (arith, is, long))
