-- The tuple of a line's fields, step by step.
use Rattle.std.proofs.Common.{◌≡◌, ℕ, ◌+◌, ◌^◌, ◌<◌, ◌≤◌, true, false, List, [], ◌∷◌, length, map, get_or, take, drop, Some, None, Ok, Err, refl, sym, ap, ◌∙◌, arith, length-drop}
use Rattle.std.specs.Prelude.{Result, nat_lt, ◌==◌}
use Rattle.std.specs.Borrow.{Bor}
use Rattle.std.specs.List.{list_all}
use Rattle.std.specs.Str.{is_utf8}
use Rattle.std.proofs.lemmas.Bool.Decides.{nat_tests}
use Rattle.std.proofs.lemmas.List.{length-map, take_all}
use Rattle.sq_words.proofs.Numbers.{nat_lt_true}
use Rattle.sq_value.specs.declared.Kind.{Kind}
use Rattle.sq_value.specs.declared.Value.{Value}
use Rattle.sq_value.specs.Texts.{read_number}
use Rattle.sq_replay.specs.declared.why.Why.{Why}
use Rattle.sq_replay.specs.declared.why.Why.TheVariants as why
use Rattle.sq_replay.specs.declared.line.TupleErr.{TupleErr}
use Rattle.sq_replay.specs.declared.line.TupleErr.TheVariants as tuple_error
use Rattle.sq_replay.specs.Answers.{IsTupleRefused}
use Rattle.sq_replay.specs.Streams.{tuple_of_fields, values_in}
use Rattle.sq_words.specs.Lists.{nth}
use Rattle.sq_words.specs.Results.{◌>>=◌}
use Rattle.sq_words.proofs.Bools.{and_second}

first-is : (fs : List (Bor (List ℕ))) (d : Bor (List ℕ)) → 1 ≤ length fs → (get_or fs 0 d).now ≡ nth (map (λ f. f.now) fs) 0
first-is [] d some = absurd (omega arith)
first-is (f ∷ fs) d some = refl

later-is : (fs : List (Bor (List ℕ))) → map (λ f. f.now) (drop 1 fs) ≡ drop 1 (map (λ f. f.now) fs)
later-is [] = refl
later-is (f ∷ fs) = refl

-- the fields after the first
others-are : (n : ℕ) (fs : List (Bor (List ℕ))) → length fs ≤ n + 1 → map (λ f. f.now) (take n (drop 1 fs)) ≡ drop 1 (map (λ f. f.now) fs)
others-are n fs few =
    let whole : take n (drop 1 fs) ≡ drop 1 fs = take_all n (drop 1 fs) (omega (arith, length-drop 1 fs)) in
    ap (λ (xs : List (Bor (List ℕ))). map (λ f. f.now) xs) whole ∙ later-is fs

pub others_text : (n : ℕ) (fs : List (Bor (List ℕ))) → length fs ≤ n + 1 → list_all is_utf8 (map (λ f. f.now) fs) ≡ true → list_all is_utf8 (map (λ f. f.now) (take n (drop 1 fs))) ≡ true
others_text n fs few texts = ap (list_all is_utf8) (others-are n fs few) ∙ later fs texts
  where
    later : (fs : List (Bor (List ℕ))) → list_all is_utf8 (map (λ f. f.now) fs) ≡ true → list_all is_utf8 (drop 1 (map (λ f. f.now) fs)) ≡ true
    later [] texts = refl
    later (f ∷ fs) texts = and_second (is_utf8 f.now) (list_all is_utf8 (map (λ f. f.now) fs)) texts

same-count : (ks : List Kind) (fs : List (Bor (List ℕ))) → length fs ≡ length ks + 1 → (length fs == length ks + 1) ≡ true
same-count ks fs h = grind (arith, nat_tests)

other-count : (a b : ℕ) → ¬ (a ≡ b) → (a == b) ≡ false
other-count a b h = grind (arith, nat_tests)

pub other_count : (ks : List Kind) (latest : ℕ) (fs : List (Bor (List ℕ))) → ¬ (length fs ≡ length ks + 1) → tuple_of_fields ks latest (map (λ f. f.now) fs) ≡ Err why.Fields
other_count ks latest fs h = let other = other-count (length fs) (length ks + 1) h in rw (length-map fs (λ f. f.now), other)

pub no_text : (ks : List Kind) (latest : ℕ) (fs : List (Bor (List ℕ))) → length fs ≡ length ks + 1 → list_all is_utf8 (map (λ f. f.now) fs) ≡ false → tuple_of_fields ks latest (map (λ f. f.now) fs) ≡ Err why.Utf8
no_text ks latest fs counted texts = let same = same-count ks fs counted in rw (length-map fs (λ f. f.now), same, texts)

pub no_tick : (ks : List Kind) (latest : ℕ) (fs : List (Bor (List ℕ))) (d : Bor (List ℕ)) → length fs ≡ length ks + 1 → list_all is_utf8 (map (λ f. f.now) fs) ≡ true → read_number 13 (2 ^ 40) (get_or fs 0 d).now ≡ None
    → tuple_of_fields ks latest (map (λ f. f.now) fs) ≡ Err why.Tick
no_tick ks latest fs d counted texts tick =
    let same = same-count ks fs counted in
    let first : read_number 13 (2 ^ 40) (nth (map (λ f. f.now) fs) 0) ≡ None = ap (read_number 13 (2 ^ 40)) (sym (first-is fs d (omega arith))) ∙ tick in
    rw (length-map fs (λ f. f.now), same, texts, first)

pub too_soon : (ks : List Kind) (latest : ℕ) (fs : List (Bor (List ℕ))) (d : Bor (List ℕ)) (time : ℕ) → length fs ≡ length ks + 1 → list_all is_utf8 (map (λ f. f.now) fs) ≡ true
    → read_number 13 (2 ^ 40) (get_or fs 0 d).now ≡ Some time → time < latest → tuple_of_fields ks latest (map (λ f. f.now) fs) ≡ Err why.Falls
too_soon ks latest fs d time counted texts tick soon =
    let same = same-count ks fs counted in
    let first : read_number 13 (2 ^ 40) (nth (map (λ f. f.now) fs) 0) ≡ Some time = ap (read_number 13 (2 ^ 40)) (sym (first-is fs d (omega arith))) ∙ tick in
    let falls = nat_lt_true time latest soon in
    rw (length-map fs (λ f. f.now), same, texts, first, falls)

-- the values decide
values-left : (ks : List Kind) (latest : ℕ) (fs : List (Bor (List ℕ))) (d : Bor (List ℕ)) (time : ℕ) (n : ℕ) (r : Result (List Value) Why) → length fs ≡ length ks + 1 → list_all is_utf8 (map (λ f. f.now) fs) ≡ true
    → read_number 13 (2 ^ 40) (get_or fs 0 d).now ≡ Some time → latest ≤ time → length fs ≤ n + 1 → values_in ks (map (λ f. f.now) (take n (drop 1 fs))) ≡ r
    → tuple_of_fields ks latest (map (λ f. f.now) fs) ≡ (r >>= (λ vs. Ok (record { time = time; fields = vs })))
values-left ks latest fs d time n r counted texts tick soon few values =
    let same = same-count ks fs counted in
    let first : read_number 13 (2 ^ 40) (nth (map (λ f. f.now) fs) 0) ≡ Some time = ap (read_number 13 (2 ^ 40)) (sym (first-is fs d (omega arith))) ∙ tick in
    let later : nat_lt time latest ≡ false = grind (arith, nat_tests) in
    let left : values_in ks (drop 1 (map (λ f. f.now) fs)) ≡ r = ap (values_in ks) (sym (others-are n fs few)) ∙ values in
    rw (length-map fs (λ f. f.now), same, texts, first, later, left)

pub tuple_on : (ks : List Kind) (latest : ℕ) (fs : List (Bor (List ℕ))) (d : Bor (List ℕ)) (time : ℕ) (n : ℕ) (vs : List Value) → length fs ≡ length ks + 1 → list_all is_utf8 (map (λ f. f.now) fs) ≡ true
    → read_number 13 (2 ^ 40) (get_or fs 0 d).now ≡ Some time → latest ≤ time → length fs ≤ n + 1 → values_in ks (map (λ f. f.now) (take n (drop 1 fs))) ≡ Ok vs
    → tuple_of_fields ks latest (map (λ f. f.now) fs) ≡ Ok (record { time = time; fields = vs })
tuple_on ks latest fs d time n vs counted texts tick soon few values = values-left ks latest fs d time n (Ok vs) counted texts tick soon few values

pub tuple_off : (e : TupleErr) (ks : List Kind) (latest : ℕ) (fs : List (Bor (List ℕ))) (d : Bor (List ℕ)) (time : ℕ) (n : ℕ) → length fs ≡ length ks + 1 → list_all is_utf8 (map (λ f. f.now) fs) ≡ true
    → read_number 13 (2 ^ 40) (get_or fs 0 d).now ≡ Some time → latest ≤ time → length fs ≤ n + 1 → IsTupleRefused e (values_in ks (map (λ f. f.now) (take n (drop 1 fs))))
    → IsTupleRefused e (tuple_of_fields ks latest (map (λ f. f.now) fs))
tuple_off tuple_error.Memory ks latest fs d time n counted texts tick soon few values = tt
tuple_off (tuple_error.Bad w) ks latest fs d time n counted texts tick soon few values = values-left ks latest fs d time n (Err w) counted texts tick soon few values
