-- States of tuples, joined.
use Rattle.std.proofs.Common.{◌≡◌, ℕ, suc, ◌+◌, ◌-◌, ◌^◌, ◌<◌, List, [], ◌∷◌, ◌++◌, length, drop, get_or, Option, Some, None, refl, ap, ap₂, sym, subst, ◌∙◌, append-nil, append_assoc, length-append, arith}
use Rattle.std.specs.Option.{IfSome}
use Rattle.std.proofs.lemmas.List.{drop_more}
use Rattle.sq_value.specs.declared.Tuple.{Tuple}
use Rattle.sq_aggfn.specs.Folds.{joined_from, number_if}
use Rattle.sq_running.specs.Running.{AreHeads, IfFirst, IsRunning, IsSum, IsTail, before_first, joined_behind, first_number, first_state, followed}

-- the laws of a fold
pub record IsLawful {M : Type 0} (join : M → M → M) (unit : Tuple → M) (none : M) (made shaped : M → Type 0) : Type 0 where
  pub shaped_made : (a : M) → made a → shaped a
  pub shaped_none : shaped none
  pub shaped_unit : (t : Tuple) → shaped (unit t)
  pub shaped_joined : (a b : M) → shaped a → shaped b → shaped (join a b)
  pub associates : (a b c : M) → shaped a → shaped b → shaped c → join (join a b) c ≡ join a (join b c)
  pub none_first : (a : M) → shaped a → join none a ≡ a
  pub none_last : (a : M) → shaped a → join a none ≡ a

-- from the back on, one more
pub back-one : (xs : List Tuple) (i j : ℕ) (y : Tuple) → i < length xs → j ≡ length xs - 1 - i → y ≡ get_or xs j y
    → drop (length xs - (i + 1)) xs ≡ y ∷ drop (length xs - i) xs
back-one xs i j y lt is at =
    let same : length xs - (i + 1) ≡ j = omega arith in
    let next : j + 1 ≡ length xs - i = omega arith in
    ap (λ k. drop k xs) same ∙ drop_more xs j y (omega arith) ∙ ap₂ (λ a k. a ∷ drop k xs) (sym at) next

-- ---- where some have states

module _ {M : Type 0} (P : List Tuple → M → Type 0) where
  pub no-heads : (xs : List Tuple) (ss : List M) → AreHeads P xs ss → ss ≡ [] → xs ≡ []
  no-heads [] [] h e = refl
  no-heads [] (s ∷ ss) h e = absurd h
  no-heads (x ∷ xs) [] h e = absurd h
  no-heads (x ∷ xs) (s ∷ ss) h e = cc

  pub new-running : IsRunning P [] [] None
  new-running = record { front = []; back = []; parts = refl; each = tt; all = refl; few = omega arith }

  pop-by : (front back : List Tuple) (heads : List M) (tail : Option M) → AreHeads P front heads → IsTail P back tail → length (front ++ back) < 2 ^ 62 → 0 < length heads
      → IsRunning P (drop 1 (front ++ back)) (drop 1 heads) tail
  pop-by [] back [] tail each all few some = absurd (omega arith)
  pop-by [] back (s ∷ ss) tail each all few some = absurd each
  pop-by (x ∷ xs) back [] tail each all few some = absurd each
  pop-by (x ∷ xs) back (s ∷ ss) tail each all few some = record { front = xs; back = back; parts = refl; each = each.1; all = all; few = omega arith }

  -- without the first tuple, where it has a state
  pub pop-running : (tuples : List Tuple) (heads : List M) (tail : Option M) → IsRunning P tuples heads tail → 0 < length heads → IsRunning P (drop 1 tuples) (drop 1 heads) tail
  pop-running tuples heads tail r some =
      subst (λ (l : List Tuple). IsRunning P (drop 1 l) (drop 1 heads) tail) (sym r.parts)
      (pop-by r.front r.back heads tail r.each r.all (subst (λ (l : List Tuple). length l < 2 ^ 62) r.parts r.few) some)

  -- each has a state
  pub all-running : (tuples : List Tuple) (heads : List M) → AreHeads P tuples heads → length tuples < 2 ^ 62 → IsRunning P tuples heads None
  all-running tuples heads each few = record { front = tuples; back = []; parts = sym (append-nil tuples); each = each; all = refl; few = few }

  pub as-many : (xs : List Tuple) (ss : List M) → AreHeads P xs ss → length ss ≡ length xs
  as-many [] [] h = refl
  as-many [] (s ∷ ss) h = absurd h
  as-many (x ∷ xs) [] h = absurd h
  as-many (x ∷ xs) (s ∷ ss) h = ap suc (as-many xs ss h.1)

module _ {M : Type 0} (join : M → M → M) (unit : Tuple → M) (none : M) (made shaped : M → Type 0) (number : M → ℕ) (law : IsLawful join unit none made shaped) where
  abbrev sum : List Tuple → M
  sum xs = joined_from join unit none xs

  abbrev Sum : List Tuple → M → Type 0
  Sum = IsSum join unit none made number

  -- ---- sums

  from-append : (m : M) (xs ys : List Tuple) → joined_from join unit m (xs ++ ys) ≡ joined_from join unit (joined_from join unit m xs) ys
  from-append m [] ys = refl
  from-append m (x ∷ xs) ys = from-append (join m (unit x)) xs ys

  from-shaped : (m : M) (xs : List Tuple) → shaped m → shaped (joined_from join unit m xs)
  from-shaped m [] h = h
  from-shaped m (x ∷ xs) h = from-shaped (join m (unit x)) xs (law.shaped_joined m (unit x) h (law.shaped_unit x))

  sum-shaped : (xs : List Tuple) → shaped (sum xs)
  sum-shaped xs = from-shaped none xs law.shaped_none

  from-split : (m : M) (xs : List Tuple) → shaped m → joined_from join unit m xs ≡ join m (sum xs)
  from-split m [] h = sym (law.none_last m h)
  from-split m (x ∷ xs) h =
      let u = law.shaped_unit x in
      from-split (join m (unit x)) xs (law.shaped_joined m (unit x) h u)
      ∙ law.associates m (unit x) (sum xs) h u (sum-shaped xs)
      ∙ ap (join m) (ap (λ a. join a (sum xs)) (sym (law.none_first (unit x) u)) ∙ sym (from-split (join none (unit x)) xs (law.shaped_joined none (unit x) law.shaped_none u)))

  sum-append : (xs ys : List Tuple) → sum (xs ++ ys) ≡ join (sum xs) (sum ys)
  sum-append xs ys = from-append none xs ys ∙ from-split (sum xs) ys (sum-shaped xs)

  sum-one : (x : Tuple) → sum (x ∷ []) ≡ unit x
  sum-one x = law.none_first (unit x) (law.shaped_unit x)

  -- ---- states

  -- before those that have states, one more
  pub heads-more : (x : Tuple) (xs : List Tuple) (ss : List M) (t : M) → AreHeads Sum xs ss → t ≡ before_first join (unit x) ss → made t → number t ≡ 1 + first_number number ss
      → AreHeads Sum (x ∷ xs) (t ∷ ss)
  heads-more x [] [] t each is kept count = (record { value = is ∙ sym (sum-one x); kept = kept; count = count }, each)
  heads-more x [] (s ∷ ss) t each is kept count = absurd each
  heads-more x (y ∷ ys) [] t each is kept count = absurd each
  heads-more x (y ∷ ys) (s ∷ ss) t each is kept count =
      let first = each.0 in
      let value : t ≡ sum (x ∷ y ∷ ys) =
      is ∙ ap (join (unit x)) first.value ∙ ap (λ a. join a (sum (y ∷ ys))) (sym (sum-one x)) ∙ sym (sum-append (x ∷ []) (y ∷ ys)) in
      (record { value = value; kept = kept; count = let n = first.count in omega (arith, count, n) }, each)

  -- the first state may be joined with one more tuple
  pub heads-room : (xs : List Tuple) (ss : List M) → AreHeads Sum xs ss → length xs + 1 < 2 ^ 62 → IfFirst (λ s. made s × (number s + 1 < 2 ^ 62)) ss
  heads-room [] [] each few = tt
  heads-room [] (s ∷ ss) each few = absurd each
  heads-room (x ∷ xs) [] each few = absurd each
  heads-room (x ∷ xs) (s ∷ ss) each few = (each.0.kept, let n = each.0.count in omega (arith, few, n))

  pub heads-made : (xs : List Tuple) (ss : List M) → AreHeads Sum xs ss → IfFirst made ss
  heads-made [] [] each = tt
  heads-made [] (s ∷ ss) each = absurd each
  heads-made (x ∷ xs) [] each = absurd each
  heads-made (x ∷ xs) (s ∷ ss) each = each.0.kept

  heads-first : (xs : List Tuple) (ss : List M) → AreHeads Sum xs ss → (first_state none ss ≡ sum xs) × (first_number number ss ≡ length xs)
  heads-first [] [] each = (refl, refl)
  heads-first [] (s ∷ ss) each = absurd each
  heads-first (x ∷ xs) [] each = absurd each
  heads-first (x ∷ xs) (s ∷ ss) each = (each.0.value, each.0.count)

  -- the tail may be joined with one more tuple
  pub tail-room : (tuples : List Tuple) (heads : List M) (tail : Option M) → IsRunning Sum tuples heads tail → length tuples + 1 < 2 ^ 62
      → IfSome tail (λ s. made s × (number s + 1 < 2 ^ 62))
  tail-room tuples heads None r few = tt
  tail-room tuples heads (Some s) r few =
      (r.all.kept, let n = r.all.count in let all = ap length r.parts ∙ length-append r.front r.back in omega (arith, few, n, all))

  push-by : (front back : List Tuple) (heads : List M) (tail : Option M) (x : Tuple) (t : M) → AreHeads Sum front heads → IsTail Sum back tail → length (front ++ back) + 1 < 2 ^ 62
      → t ≡ joined_behind join (unit x) tail → made t → number t ≡ number_if number tail + 1 → IsRunning Sum ((front ++ back) ++ x ∷ []) heads (Some t)
  push-by front back heads None x t each all few is kept count = record {
    front = front;
    back = x ∷ [];
    parts = ap (λ l. (front ++ l) ++ x ∷ []) all ∙ ap (λ l. l ++ x ∷ []) (append-nil front);
    each = each;
    all = record { value = is ∙ sym (sum-one x); kept = kept; count = count };
    few = let n = length-append (front ++ back) (x ∷ []) in omega (arith, few, n);
  }
  push-by front back heads (Some s) x t each all few is kept count = record {
    front = front;
    back = back ++ x ∷ [];
    parts = append_assoc front back (x ∷ []);
    each = each;
    all = record {
      value = is ∙ ap (λ a. join a (unit x)) all.value ∙ sym (from-append none back (x ∷ []));
      kept = kept;
      count = let n = length-append back (x ∷ []) in let m = all.count in omega (arith, count, n, m);
    };
    few = let n = length-append (front ++ back) (x ∷ []) in omega (arith, few, n);
  }

  -- with one more tuple
  pub push-running : (tuples : List Tuple) (heads : List M) (tail : Option M) (x : Tuple) (t : M) → IsRunning Sum tuples heads tail → length tuples + 1 < 2 ^ 62
      → t ≡ joined_behind join (unit x) tail → made t → number t ≡ number_if number tail + 1 → IsRunning Sum (tuples ++ x ∷ []) heads (Some t)
  push-running tuples heads tail x t r few is kept count =
      subst (λ (l : List Tuple). IsRunning Sum (l ++ x ∷ []) heads (Some t)) (sym r.parts)
      (push-by r.front r.back heads tail x t r.each r.all (subst (λ (l : List Tuple). length l + 1 < 2 ^ 62) r.parts few) is kept count)

  -- the premises of joining the two states
  pub tail-made : (tuples : List Tuple) (heads : List M) (tail : Option M) → IsRunning Sum tuples heads tail → IfSome tail made
  tail-made tuples heads None r = tt
  tail-made tuples heads (Some s) r = r.all.kept

  pub two-few : (tuples : List Tuple) (heads : List M) (tail : Option M) → IsRunning Sum tuples heads tail → first_number number heads + number_if number tail < 2 ^ 62
  two-few tuples heads None r =
      let n = (heads-first r.front heads r.each).1 in let few = r.few in
      let all = ap length r.parts ∙ length-append r.front r.back in omega (arith, n, few, all)
  two-few tuples heads (Some s) r =
      let n = (heads-first r.front heads r.each).1 in let few = r.few in let m = r.all.count in
      let all = ap length r.parts ∙ length-append r.front r.back in omega (arith, n, few, all, m)

  -- the two states joined are that of all tuples
  pub all-joined : (tuples : List Tuple) (heads : List M) (tail : Option M) → IsRunning Sum tuples heads tail → followed join (first_state none heads) tail ≡ sum tuples
  all-joined tuples heads None r =
      (heads-first r.front heads r.each).0 ∙ ap (λ l. sum l) (sym (append-nil r.front) ∙ ap (λ l. r.front ++ l) (sym r.all) ∙ sym r.parts)
  all-joined tuples heads (Some s) r =
      ap₂ join (heads-first r.front heads r.each).0 r.all.value ∙ sym (sum-append r.front r.back) ∙ ap (λ l. sum l) (sym r.parts)
