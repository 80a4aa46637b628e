-- The lines of a file one by one, and the entries of a capacity file.
use Rattle.std.proofs.Common.{◌≡◌, ℕ, ◌+◌, ◌*◌, ◌^◌, ◌<◌, ◌≤◌, eqb, ltb, Bool, true, false, cond, List, [], ◌∷◌, ◌++◌, length, map, ◌-◌, get_or, drop, zero, suc, Option, Some, None, Ok, Err, refl, ap, sym, subst, ◌∙◌, arith, lit<}
use Rattle.std.proofs.lemmas.Bool.Decides.{nat_tests}
use Rattle.std.proofs.lemmas.Grind.{pow_more}
use Rattle.std.proofs.lemmas.List.{drop_all, drop_more}
use Rattle.std.specs.Int.Digits.{number_from_digits_after}
use Rattle.std.proofs.Math.Nat.{pow-le-pow_right}
use Rattle.std.specs.Prelude.{Result, nat_le, nat_lt, ◌&&◌, if◌then◌else◌}
use Rattle.std.specs.Borrow.{Bor}
use Rattle.std.specs.List.{filter, list_all, slice_split, AllByRecursion}
use Rattle.std.specs.Str.Lines.{strip_carriage_return}
use Rattle.sq_value.specs.Texts.{read_number, are_digits, digit_values, is_digit, number_in}
use Rattle.sq_plan.specs.Plans.{Entries}
use Rattle.sq_plan.specs.Settings.{AreAscending}
use Rattle.sq_replay.specs.FileLines.{Line, has_text, lines_from}
use Rattle.sq_replay.specs.Entries.{good_or, capacity_text, is_later, with_capacity, entry_of, entry_fields, entry_in, entries_from, line_view, pick_in, picks_from, wide_number}
use Rattle.sq_replay.proofs.StreamLemmas.{with_front, front_cons, front_end}
use Rattle.sq_words.specs.Results.{◌>>=◌}

-- the lines of one piece more
pub one_line : (n : ℕ) (piece : List ℕ) (pieces : List (List ℕ)) → lines_from n (piece ∷ pieces) ≡ filter has_text ((n, strip_carriage_return piece) ∷ []) ++ lines_from (n + 1) pieces
one_line n piece pieces = by (has_text (n, strip_carriage_return piece))
  where
    by : (b : Bool) → cond b ((n, strip_carriage_return piece) ∷ lines_from (n + 1) pieces) (lines_from (n + 1) pieces) ≡ cond b ((n, strip_carriage_return piece) ∷ []) [] ++ lines_from (n + 1) pieces
    by true = refl
    by false = refl

-- the number of some digits and one more, 24 at most
pub wide_below : (n d i : ℕ) → n < 10 ^ i → d ≤ 9 → i < 24 → (n * 10 + d < 10 ^ (i + 1)) × (10 ^ (i + 1) ≤ 10 ^ 24)
wide_below n d i below digit inside = (omega (arith, pow_more 10 i), pow-le-pow_right {n = 10} (lit< tt) {i = i + 1} {j = 24} (omega arith))

-- a number and one digit more
pub wide_on : (text : List ℕ) (i n digit whole : ℕ) → i < length text → digit ≡ get_or text i 0 - 48 → number_from_digits_after 10 n (digit_values (drop i text)) ≡ whole
    → number_from_digits_after 10 (n * 10 + digit) (digit_values (drop (i + 1) text)) ≡ whole
wide_on text i n digit whole within is so_far =
    subst (λ (d : ℕ). number_from_digits_after 10 (n * 10 + d) (digit_values (drop (i + 1) text)) ≡ whole) (sym is)
    (subst (λ (ds : List ℕ). number_from_digits_after 10 n (digit_values ds) ≡ whole) (drop_more text i 0 within) so_far)

digits-here : (text : List ℕ) (i : ℕ) (b : Bool) → i < length text → is_digit (get_or text i 0) ≡ b → list_all is_digit (drop i text) ≡ (b && list_all is_digit (drop (i + 1) text))
digits-here text i b within here = rw (drop_more text i 0 within, here) refl

pub digits_on : (text : List ℕ) (i : ℕ) (whole : Bool) → i < length text → 48 ≤ get_or text i 0 → get_or text i 0 ≤ 57 → list_all is_digit (drop i text) ≡ whole → list_all is_digit (drop (i + 1) text) ≡ whole
digits_on text i whole within low high so_far =
    let here : is_digit (get_or text i 0) ≡ true = grind (arith, nat_tests) in
    sym (digits-here text i true within here) ∙ so_far

pub digits_off : (text : List ℕ) (i : ℕ) → i < length text → is_digit (get_or text i 0) ≡ false → list_all is_digit (drop i text) ≡ list_all is_digit text → None ≡ wide_number text
digits_off text i within here so_far =
    let none : list_all is_digit text ≡ false = sym so_far ∙ digits-here text i false within here in
    by (nat_lt 0 (length text)) (nat_le (length text) 24) (list_all is_digit text) none
  where
    by : (a b d : Bool) → d ≡ false → None ≡ (if a && b && d then Some (number_in text) else None)
    by false b d none = refl
    by true false d none = refl
    by true true false none = refl
    by true true true none = absurd (cc none)

pub wide_end : (text : List ℕ) (i n : ℕ) → 0 < length text → length text ≤ 24 → length text ≤ i → list_all is_digit (drop i text) ≡ list_all is_digit text → number_from_digits_after 10 n (digit_values (drop i text)) ≡ number_in text
    → Some n ≡ wide_number text
wide_end text i n some few past digits is =
    let none = drop_all i text past in
    let all : true ≡ list_all is_digit text = rw none at digits in
    let number : n ≡ number_in text = rw none at is in
    let least : nat_lt 0 (length text) ≡ true = grind (arith, nat_tests) in
    let most : nat_le (length text) 24 ≡ true = grind (arith, nat_tests) in
    by (nat_lt 0 (length text)) (nat_le (length text) 24) (list_all is_digit text) least most (sym all) number
  where
    by : (a b d : Bool) → a ≡ true → b ≡ true → d ≡ true → n ≡ number_in text → Some n ≡ (if a && b && d then Some (number_in text) else None)
    by false b d a-is b-is d-is is = absurd (cc a-is)
    by true false d a-is b-is d-is is = absurd (cc b-is)
    by true true false a-is b-is d-is is = absurd (cc d-is)
    by true true true a-is b-is d-is is = ap Some is

pub entries_step : (front : Entries) (after : Option ℕ) (n : ℕ) (line : List ℕ) (ls : List Line) (x : ℕ × Option ℕ) → entry_in after line ≡ Some x
    → with_front front (entries_from after ((n, line) ∷ ls)) ≡ with_front (front ++ x ∷ []) (entries_from (Some x.0) ls)
entries_step front after n line ls x e = ap (λ o. with_front front (good_or n o >>= (λ x. entries_from (Some x.0) ls >>= (λ xs. Ok (x ∷ xs))))) e ∙ front_cons front x (entries_from (Some x.0) ls)

pub entries_refused : (front : Entries) (after : Option ℕ) (n : ℕ) (line : List ℕ) (ls : List Line) → entry_in after line ≡ None → with_front front (entries_from after ((n, line) ∷ ls)) ≡ Err n
entries_refused front after n line ls e = ap (λ o. with_front front (good_or n o >>= (λ x. entries_from (Some x.0) ls >>= (λ xs. Ok (x ∷ xs))))) e

-- the entry of the line at a place
entry_next : (front es : Entries) (after : Option ℕ) (lines : List (ℕ × Bor (List ℕ))) (i : ℕ) (d : ℕ × Bor (List ℕ)) (x : ℕ × Option ℕ) (whole : Result Entries ℕ) → i < length lines
    → entry_in after (get_or lines i d).1.now ≡ Some x → es ≡ front ++ x ∷ [] → with_front front (entries_from after (map line_view (drop i lines))) ≡ whole
    → with_front es (entries_from (Some x.0) (map line_view (drop (suc i) lines))) ≡ whole
entry_next front es after [] i d x whole within e same so_far = absurd (omega arith)
entry_next front es after (l ∷ ls) zero d x whole within e same so_far =
    subst (λ (z : Entries). with_front z (entries_from (Some x.0) (map line_view ls)) ≡ whole) (sym same) (sym (entries_step front after l.0 l.1.now (map line_view ls) x e) ∙ so_far)
entry_next front es after (l ∷ ls) (suc i) d x whole within e same so_far = entry_next front es after ls i d x whole (omega arith) e same so_far

pub entry_on : (front es : Entries) (after : Option ℕ) (lines : List (ℕ × Bor (List ℕ))) (i : ℕ) (d : ℕ × Bor (List ℕ)) (x : ℕ × Option ℕ) (whole : Result Entries ℕ) → i < length lines
    → entry_in after (get_or lines i d).1.now ≡ Some x → es ≡ front ++ x ∷ [] → with_front front (entries_from after (map line_view (drop i lines))) ≡ whole
    → with_front es (entries_from (Some x.0) (map line_view (drop (i + 1) lines))) ≡ whole
entry_on front es after lines i d x whole within e same so_far =
    let next : suc i ≡ i + 1 = omega arith in
    subst (λ (j : ℕ). with_front es (entries_from (Some x.0) (map line_view (drop j lines))) ≡ whole) next (entry_next front es after lines i d x whole within e same so_far)

-- no entry on the line at a place
pub entry_off : (front : Entries) (after : Option ℕ) (lines : List (ℕ × Bor (List ℕ))) (i : ℕ) (d : ℕ × Bor (List ℕ)) (whole : Result Entries ℕ) → i < length lines → entry_in after (get_or lines i d).1.now ≡ None
    → with_front front (entries_from after (map line_view (drop i lines))) ≡ whole → whole ≡ Err (get_or lines i d).0
entry_off front after [] i d whole within e so_far = absurd (omega arith)
entry_off front after (l ∷ ls) zero d whole within e so_far = sym so_far ∙ entries_refused front after l.0 l.1.now (map line_view ls) e
entry_off front after (l ∷ ls) (suc i) d whole within e so_far = entry_off front after ls i d whole (omega arith) e so_far

-- no line is left
pub entries_end : (front : Entries) (after : Option ℕ) (lines : List (ℕ × Bor (List ℕ))) (i : ℕ) (whole : Result Entries ℕ) → length lines ≤ i → with_front front (entries_from after (map line_view (drop i lines))) ≡ whole → whole ≡ Ok front
entries_end front after [] zero whole past so_far = front_end front whole so_far
entries_end front after [] (suc i) whole past so_far = front_end front whole so_far
entries_end front after (l ∷ ls) zero whole past so_far = absurd (omega arith)
entries_end front after (l ∷ ls) (suc i) whole past so_far = entries_end front after ls i whole (omega arith) so_far

-- the pick of the line at a place
pick_next : (front es : List ℕ) (lines : List (ℕ × Bor (List ℕ))) (i : ℕ) (d : ℕ × Bor (List ℕ)) (x : ℕ) (whole : Result (List ℕ) ℕ) → i < length lines → pick_in (get_or lines i d).1.now ≡ Some x → es ≡ front ++ x ∷ []
    → with_front front (picks_from (map line_view (drop i lines))) ≡ whole → with_front es (picks_from (map line_view (drop (suc i) lines))) ≡ whole
pick_next front es [] i d x whole within e same so_far = absurd (omega arith)
pick_next front es (l ∷ ls) zero d x whole within e same so_far =
    let step : with_front front (picks_from (map line_view (l ∷ ls))) ≡ with_front (front ++ x ∷ []) (picks_from (map line_view ls)) =
    ap (λ o. with_front front (good_or l.0 o >>= (λ x. picks_from (map line_view ls) >>= (λ xs. Ok (x ∷ xs))))) e ∙ front_cons front x (picks_from (map line_view ls)) in
    subst (λ (z : List ℕ). with_front z (picks_from (map line_view ls)) ≡ whole) (sym same) (sym step ∙ so_far)
pick_next front es (l ∷ ls) (suc i) d x whole within e same so_far = pick_next front es ls i d x whole (omega arith) e same so_far

pub pick_on : (front es : List ℕ) (lines : List (ℕ × Bor (List ℕ))) (i : ℕ) (d : ℕ × Bor (List ℕ)) (x : ℕ) (whole : Result (List ℕ) ℕ) → i < length lines → pick_in (get_or lines i d).1.now ≡ Some x → es ≡ front ++ x ∷ []
    → with_front front (picks_from (map line_view (drop i lines))) ≡ whole → with_front es (picks_from (map line_view (drop (i + 1) lines))) ≡ whole
pick_on front es lines i d x whole within e same so_far =
    let next : suc i ≡ i + 1 = omega arith in
    subst (λ (j : ℕ). with_front es (picks_from (map line_view (drop j lines))) ≡ whole) next (pick_next front es lines i d x whole within e same so_far)

-- no pick on the line at a place
pub pick_off : (front : List ℕ) (lines : List (ℕ × Bor (List ℕ))) (i : ℕ) (d : ℕ × Bor (List ℕ)) (whole : Result (List ℕ) ℕ) → i < length lines → pick_in (get_or lines i d).1.now ≡ None
    → with_front front (picks_from (map line_view (drop i lines))) ≡ whole → whole ≡ Err (get_or lines i d).0
pick_off front [] i d whole within e so_far = absurd (omega arith)
pick_off front (l ∷ ls) zero d whole within e so_far = sym so_far ∙ ap (λ o. with_front front (good_or l.0 o >>= (λ x. picks_from (map line_view ls) >>= (λ xs. Ok (x ∷ xs))))) e
pick_off front (l ∷ ls) (suc i) d whole within e so_far = pick_off front ls i d whole (omega arith) e so_far

-- no line is left
pub picks_end : (front : List ℕ) (lines : List (ℕ × Bor (List ℕ))) (i : ℕ) (whole : Result (List ℕ) ℕ) → length lines ≤ i → with_front front (picks_from (map line_view (drop i lines))) ≡ whole → whole ≡ Ok front
picks_end front [] zero whole past so_far = front_end front whole so_far
picks_end front [] (suc i) whole past so_far = front_end front whole so_far
picks_end front (l ∷ ls) zero whole past so_far = absurd (omega arith)
picks_end front (l ∷ ls) (suc i) whole past so_far = picks_end front ls i whole (omega arith) so_far

-- what is read is below its limit
pub read_below : (most limit : ℕ) (bs : List ℕ) (n : ℕ) → read_number most limit bs ≡ Some n → n < limit
read_below most limit bs n h = by (are_digits most bs) (nat_lt (number_in bs) limit) refl h
  where
    by : (a b : Bool) → nat_lt (number_in bs) limit ≡ b → (if a && b then Some (number_in bs) else None) ≡ Some n → n < limit
    by false b t h = absurd (cc h)
    by true false t h = absurd (cc h)
    by true true t h = let same : number_in bs ≡ n = cc in let less : number_in bs < limit = grind (arith, nat_tests) in subst (λ (k : ℕ). k < limit) same less

-- more than two fields are no entry
pub too_many : (after : Option ℕ) (e c : List ℕ) (rest : List (List ℕ)) → 1 ≤ length rest → None ≡ entry_fields after (e ∷ c ∷ rest)
too_many after e c [] h = absurd (omega (arith, h))
too_many after e c (d ∷ ds) h = refl

-- entries that are read ascend
later-by : (after : Option ℕ) (e : Option ℕ) (c : List ℕ) (x : ℕ × Option ℕ) → entry_of after e c ≡ Some x → is_later after x.0 ≡ true
later-by after None c x h = absurd (cc h)
later-by after (Some e) c x h = by (is_later after e) refl h
  where
    taken : (o : Option (Option ℕ)) → with_capacity e o ≡ Some x → is_later after e ≡ true → is_later after x.0 ≡ true
    taken None k l = absurd (cc k)
    taken (Some d) k l = let pair : ◌≡◌ {A = ℕ × Option ℕ} (e, d) x = cc in ap (λ (z : ℕ × Option ℕ). is_later after z.0) (sym pair) ∙ l

    by : (b : Bool) → is_later after e ≡ b → cond b (with_capacity e (capacity_text c)) None ≡ Some x → is_later after x.0 ≡ true
    by true l k = taken (capacity_text c) k l
    by false l k = absurd (cc k)

later-in : (after : Option ℕ) (fields : List (List ℕ)) (x : ℕ × Option ℕ) → entry_fields after fields ≡ Some x → is_later after x.0 ≡ true
later-in after [] x h = absurd (cc h)
later-in after (e ∷ []) x h = absurd (cc h)
later-in after (e ∷ c ∷ []) x h = later-by after (read_number 13 (2 ^ 40) e) c x h
later-in after (e ∷ c ∷ d ∷ ds) x h = absurd (cc h)

later-still : (a : ℕ) (after : Option ℕ) (e : ℕ) → ltb a e ≡ true → is_later after a ≡ true → is_later after e ≡ true
later-still a None e h k = refl
later-still a (Some b) e h k = grind (arith, nat_tests)

pub ascend : (ls : List Line) (after : Option ℕ) (es : Entries) → entries_from after ls ≡ Ok es → AllByRecursion (λ d. is_later after d.0 ≡ true) es × AreAscending es
ascend [] after es h = let same : ◌≡◌ {A = Entries} [] es = cc in subst (λ (z : Entries). AllByRecursion (λ d. is_later after d.0 ≡ true) z × AreAscending z) same (tt, tt)
ascend (l ∷ ls) after es h = by (entry_in after l.1) refl (λ a es h. ascend ls a es h) h
  where
    weaker : (x : ℕ) → is_later after x ≡ true → (ds : Entries) → AllByRecursion (λ d. ltb x d.0 ≡ true) ds → AllByRecursion (λ d. is_later after d.0 ≡ true) ds
    weaker x l [] m = tt
    weaker x l (d ∷ ds) m = (later-still x after d.0 m.0 l, weaker x l ds m.1)

    above : (x : ℕ) (ds : Entries) → AllByRecursion (λ d. ltb x d.0 ≡ true) ds → AllByRecursion (λ d. x < d.0) ds
    above x [] m = tt
    above x (d ∷ ds) m = (lt x d.0 m.0, above x ds m.1)
      where
        lt : (a b : ℕ) → ltb a b ≡ true → a < b
        lt a b h = grind (arith, nat_tests)

    rest : (x : ℕ × Option ℕ) → is_later after x.0 ≡ true → (r : Result Entries ℕ) → ((es : Entries) → r ≡ Ok es → AllByRecursion (λ d. ltb x.0 d.0 ≡ true) es × AreAscending es) → (r >>= (λ xs. Ok (x ∷ xs))) ≡ Ok es
        → AllByRecursion (λ d. is_later after d.0 ≡ true) es × AreAscending es
    rest x l (Err e) more k = absurd (cc k)
    rest x l (Ok xs) more k =
        let same : ◌≡◌ {A = Entries} (x ∷ xs) es = cc in let m = more xs refl in
        subst (λ (z : Entries). AllByRecursion (λ d. is_later after d.0 ≡ true) z × AreAscending z) same ((l, weaker x.0 l xs m.0), (above x.0 xs m.0, m.1))

    by : (o : Option (ℕ × Option ℕ)) → entry_in after l.1 ≡ o → ((a : Option ℕ) (es : Entries) → entries_from a ls ≡ Ok es → AllByRecursion (λ d. is_later a d.0 ≡ true) es × AreAscending es)
        → (good_or l.0 o >>= (λ x. entries_from (Some x.0) ls >>= (λ xs. Ok (x ∷ xs)))) ≡ Ok es → AllByRecursion (λ d. is_later after d.0 ≡ true) es × AreAscending es
    by None e more k = absurd (cc k)
    by (Some x) e more k = rest x (later-in after (slice_split (λ b. eqb b 44) l.1) x e) (entries_from (Some x.0) ls) (λ es h. more (Some x.0) es h) k
