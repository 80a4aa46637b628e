-- A Union of branches at unequal distances.
use Rattle.std.proofs.Common.{◌≡◌, ℕ, ◌+◌, ◌-◌, ◌≤◌, ◌<◌, eqb, ltb, Bool, true, false, cond, not, List, [], ◌∷◌, ◌++◌, map, refl, ap, sym, ◌∙◌, inl, inr, arith}
use Rattle.std.proofs.lemmas.Bool.Decides.{nat_tests}
use Rattle.std.specs.List.{filter, flat_map, AllByRecursion}
use Rattle.sq_value.specs.declared.Tuple.{Tuple}
use Rattle.sq_words.specs.Lists.{insert_by, sort_by, ports_from}
use Rattle.sq_lists.specs.Merge.{union}
use Rattle.sq_tagged.specs.TaggedStreams.{Timed, Tagged, same_time, first_marks, lessened_by, bound_at, below_bounds}
use Rattle.sq_place.specs.Ranks.{Somewhere}
use Rattle.sq_below.proofs.Lists.{filter-swap, filter-under, filter-flat_map, flat_map-map}
use Rattle.sq_below.proofs.Bounds.{bound-less, lessened-twice}
use Rattle.sq_below.proofs.Orders.{AtLeast, Ascends, insert-front, filter-insert, filter-sort, sort-ascends, AtLeast-weaker, AtLeast-filter}
use Rattle.sq_below.proofs.ArcWords.{marked, MarksRise}
use Rattle.sq_words.proofs.Sorting.{without_ports}
use Rattle.sq_tagged.specs.Boxes.{union_tagged, lagging, union_marks}
use Rattle.sq_model.proofs.Alls.{by_key, map-sort, time_of, union-sorted}

-- marks by their times
abbrev pub mark_time : Timed → ℕ
mark_time m = m.0

abbrev other_time : Timed → Timed → Bool
other_time m n = not (same_time m.0 n)

first-least : (n : ℕ) (ms : List Timed) → AtLeast mark_time n ms → AtLeast mark_time n (first_marks ms)
first-least n [] h = tt
first-least n (m ∷ ms) h = (h.0, AtLeast-filter mark_time (other_time m) n (first_marks ms) (first-least n ms h.1))

Ascends-filter : (p : Timed → Bool) (ms : List Timed) → Ascends mark_time ms → Ascends mark_time (filter p ms)
Ascends-filter p [] h = tt
Ascends-filter p (m ∷ ms) h = by (AtLeast-filter mark_time p m.0 ms h.0) (Ascends-filter p ms h.1) (p m)
  where
    by : AtLeast mark_time m.0 (filter p ms) → Ascends mark_time (filter p ms) → (b : Bool) → Ascends mark_time (cond b (m ∷ filter p ms) (filter p ms))
    by low more true = (low, more)
    by low more false = more

first-ascends : (ms : List Timed) → Ascends mark_time ms → Ascends mark_time (first_marks ms)
first-ascends [] h = tt
first-ascends (m ∷ ms) h = (AtLeast-filter mark_time (other_time m) m.0 (first_marks ms) (first-least m.0 ms h.0), Ascends-filter (other_time m) (first_marks ms) (first-ascends ms h.1))

first-insert : (m : Timed) (ns : List Timed) → Ascends mark_time ns → first_marks (insert_by (by_key mark_time) m ns) ≡ insert_by (by_key mark_time) m (filter (other_time m) (first_marks ns))
first-insert m [] h = refl
first-insert m (n ∷ ns) h = by (first-insert m ns h.1) (ltb n.0 m.0) refl
  where
    lt : (a b : ℕ) → ltb a b ≡ true → not (eqb a b) ≡ true
    lt a b h = grind (arith, nat_tests)

    gt : (a b : ℕ) → ltb a b ≡ true → not (eqb b a) ≡ true
    gt a b h = grind (arith, nat_tests)

    le : (a b : ℕ) → ltb a b ≡ false → b ≤ a
    le a b h = grind (arith, nat_tests)

    by : first_marks (insert_by (by_key mark_time) m ns) ≡ insert_by (by_key mark_time) m (filter (other_time m) (first_marks ns)) → (b : Bool) → ltb n.0 m.0 ≡ b
        → first_marks (cond b (n ∷ insert_by (by_key mark_time) m ns) (m ∷ n ∷ ns)) ≡ insert_by (by_key mark_time) m (filter (other_time m) (n ∷ filter (other_time n) (first_marks ns)))
    by more true e =
        let keeps-n : other_time m n ≡ true = lt n.0 m.0 e in
        let keeps-m : other_time n m ≡ true = gt n.0 m.0 e in
        let rest = filter (other_time m) (first_marks ns) in
        let moved : filter (other_time n) (insert_by (by_key mark_time) m rest) ≡ insert_by (by_key mark_time) m (filter (other_time n) rest) =
        filter-insert mark_time (other_time n) m rest (Ascends-filter (other_time m) (first_marks ns) (first-ascends ns h.1)) ∙ ap (λ b. cond b (insert_by (by_key mark_time) m (filter (other_time n) rest)) (filter (other_time n) rest)) keeps-m in
        ap (λ l. n ∷ filter (other_time n) l) more
        ∙ ap (λ l. n ∷ l) moved
        ∙ ap (λ l. n ∷ insert_by (by_key mark_time) m l) (filter-swap (other_time n) (other_time m) (first_marks ns))
        ∙ ap (λ b. cond b (n ∷ insert_by (by_key mark_time) m (filter (other_time m) (filter (other_time n) (first_marks ns)))) (m ∷ n ∷ filter (other_time m) (filter (other_time n) (first_marks ns)))) (sym e)
        ∙ ap (λ b. insert_by (by_key mark_time) m (cond b (n ∷ filter (other_time m) (filter (other_time n) (first_marks ns))) (filter (other_time m) (filter (other_time n) (first_marks ns))))) (sym keeps-n)
    by more false e =
        let low : m.0 ≤ n.0 = le n.0 m.0 e in
        sym (insert-front mark_time m (filter (other_time m) (first_marks (n ∷ ns)))
        (AtLeast-filter mark_time (other_time m) m.0 (first_marks (n ∷ ns)) (AtLeast-weaker mark_time m.0 n.0 low (first_marks (n ∷ ns)) (first-least n.0 (n ∷ ns) (let r : n.0 ≤ n.0 = omega arith in r, h.0)))))

pub rise-ascends : (ms : List Timed) → MarksRise ms → Ascends mark_time ms
rise-ascends [] h = tt
rise-ascends (m ∷ ms) h = (low ms h.0, rise-ascends ms h.1)
  where
    low : (ns : List Timed) → AllByRecursion (λ n. m.0 < n.0) ns → AtLeast mark_time m.0 ns
    low [] h = tt
    low (n ∷ ns) h = (let a = h.0 in omega arith, low ns h.1)

-- later marks are marks of other times
others-stay : (m : Timed) (ns : List Timed) → AllByRecursion (λ n. m.0 < n.0) ns → filter (other_time m) ns ≡ ns
others-stay m [] h = refl
others-stay m (n ∷ ns) h = ap (λ b. cond b (n ∷ filter (other_time m) ns) (filter (other_time m) ns)) (lem m.0 n.0 h.0) ∙ ap (λ l. n ∷ l) (others-stay m ns h.1)
  where
    lem : (a b : ℕ) → a < b → not (eqb b a) ≡ true
    lem a b h = grind (arith, nat_tests)

first-rise : (ms : List Timed) → MarksRise ms → first_marks ms ≡ ms
first-rise [] h = refl
first-rise (m ∷ ms) h = ap (λ l. m ∷ filter (other_time m) l) (first-rise ms h.1) ∙ ap (λ l. m ∷ l) (others-stay m ms h.0)

sort-rise : (ms : List Timed) → MarksRise ms → sort_by (by_key mark_time) ms ≡ ms
sort-rise [] h = refl
sort-rise (m ∷ ms) h = ap (insert_by (by_key mark_time) m) (sort-rise ms h.1) ∙ insert-front mark_time m ms (rise-ascends (m ∷ ms) h).0

-- a mark that is put back
put-back : (m : Timed) (ms : List Timed) → MarksRise ms → Somewhere (λ n. n ≡ m) ms → insert_by (by_key mark_time) m (filter (other_time m) ms) ≡ ms
put-back m [] h i = absurd i
put-back m (n ∷ ns) h i = by (put-back m ns h.1) i
  where
    same : (a : ℕ) → not (eqb a a) ≡ false
    same a = grind (arith, nat_tests)

    lt : (a b : ℕ) → a < b → ltb a b ≡ true
    lt a b h = grind (arith, nat_tests)

    ne : (a b : ℕ) → a < b → not (eqb a b) ≡ true
    ne a b h = grind (arith, nat_tests)

    here : insert_by (by_key mark_time) n (cond (other_time n n) (n ∷ filter (other_time n) ns) (filter (other_time n) ns)) ≡ n ∷ ns
    here =
        ap (λ b. insert_by (by_key mark_time) n (cond b (n ∷ filter (other_time n) ns) (filter (other_time n) ns))) (same n.0)
        ∙ ap (insert_by (by_key mark_time) n) (others-stay n ns h.0)
        ∙ insert-front mark_time n ns (rise-ascends (n ∷ ns) h).0

    later : (ks : List Timed) → AllByRecursion (λ k. n.0 < k.0) ks → Somewhere (λ k. k ≡ m) ks → n.0 < m.0
    later [] a i = absurd i
    later (k ∷ ks) a (inl e) = let z : k.0 ≡ m.0 = ap (λ x. x.0) e in let b = a.0 in omega (arith, z, b)
    later (k ∷ ks) a (inr i) = later ks a.1 i

    by : (Somewhere (λ k. k ≡ m) ns → insert_by (by_key mark_time) m (filter (other_time m) ns) ≡ ns) → Somewhere (λ k. k ≡ m) (n ∷ ns)
        → insert_by (by_key mark_time) m (cond (other_time m n) (n ∷ filter (other_time m) ns) (filter (other_time m) ns)) ≡ n ∷ ns
    by more (inl e) = rw (← e) here
    by more (inr i) =
        let low = later ns h.0 i in
        ap (λ b. insert_by (by_key mark_time) m (cond b (n ∷ filter (other_time m) ns) (filter (other_time m) ns))) (ne n.0 m.0 low)
        ∙ ap (λ b. cond b (n ∷ insert_by (by_key mark_time) m (filter (other_time m) ns)) (m ∷ n ∷ filter (other_time m) ns)) (lt n.0 m.0 low)
        ∙ ap (λ l. n ∷ l) (more i)

-- marks that are there already add nothing
add-nothing : (all ms more : List Timed) → MarksRise all → AllByRecursion (λ m. Somewhere (λ n. n ≡ m) all) ms
    → first_marks (sort_by (by_key mark_time) more) ≡ all → first_marks (sort_by (by_key mark_time) (ms ++ more)) ≡ all
add-nothing all [] more rise within e = e
add-nothing all (m ∷ ms) more rise within e =
    first-insert m (sort_by (by_key mark_time) (ms ++ more)) (sort-ascends mark_time (ms ++ more))
    ∙ ap (λ l. insert_by (by_key mark_time) m (filter (other_time m) l)) (add-nothing all ms more rise within.1 e)
    ∙ put-back m all rise within.0

within-more : (m : Timed) (all ms : List Timed) → AllByRecursion (λ k. Somewhere (λ n. n ≡ k) all) ms → AllByRecursion (λ k. Somewhere (λ n. n ≡ k) (m ∷ all)) ms
within-more m all [] h = tt
within-more m all (k ∷ ks) h = (inr h.0, within-more m all ks h.1)

within-itself : (ms : List Timed) → AllByRecursion (λ k. Somewhere (λ n. n ≡ k) ms) ms
within-itself [] = tt
within-itself (m ∷ ms) = (inl refl, within-more m ms ms (within-itself ms))

-- a branch: its distance, and its full list
abbrev pub Branch : Type 0
Branch = ℕ × List Tuple

-- the first marks of copies of some marks are these marks
copies : (all : List Timed) → MarksRise all → (b : Branch) (bs : List Branch) → first_marks (sort_by (by_key mark_time) (flat_map (λ (c : Branch). all) (b ∷ bs))) ≡ all
copies all rise b [] = ap (λ l. first_marks (sort_by (by_key mark_time) l)) (none all) ∙ ap first_marks (sort-rise all rise) ∙ first-rise all rise
  where
    none : (ms : List Timed) → ms ++ [] ≡ ms
    none [] = refl
    none (m ∷ ms) = ap (λ l. m ∷ l) (none ms)
copies all rise b (c ∷ cs) = add-nothing all all (flat_map (λ (c : Branch). all) (c ∷ cs)) rise (within-itself all) (copies all rise c cs)

pub rise-lessened : (d : ℕ) (ms : List Timed) → MarksRise ms → MarksRise (lessened_by d ms)
rise-lessened d [] h = tt
rise-lessened d (m ∷ ms) h = (low ms h.0, rise-lessened d ms h.1)
  where
    low : (ns : List Timed) → AllByRecursion (λ n. m.0 < n.0) ns → AllByRecursion (λ n. m.0 < n.0) (lessened_by d ns)
    low [] h = tt
    low (n ∷ ns) h = (h.0, low ns h.1)

module _ (ms : List Timed) (far : ℕ) where
  -- the marked branches, and their lags
  abbrev pub branches : List Branch → List Tagged
  branches bs = map (λ b. marked ms b.0 b.1) bs

  abbrev pub lags_of : List Branch → List ℕ
  lags_of bs = map (λ b. far - b.0) bs

  lags-same : (bs : List Branch) → AllByRecursion (λ b. b.0 ≤ far) bs → flat_map (λ xs. xs) (lagging (lags_of bs) (branches bs)) ≡ flat_map (λ (c : Branch). lessened_by far ms) bs
  lags-same [] h = refl
  lags-same (b ∷ bs) h =
      let le = h.0 in let sum : b.0 + (far - b.0) ≡ far = omega arith in
      ap (λ l. l ++ flat_map (λ xs. xs) (lagging (lags_of bs) (branches bs))) (lessened-twice b.0 (far - b.0) ms ∙ ap (λ d. lessened_by d ms) sum)
      ∙ ap (λ l. lessened_by far ms ++ l) (lags-same bs h.1)

  union-marks : (b : Branch) (bs : List Branch) → MarksRise ms → AllByRecursion (λ b. b.0 ≤ far) (b ∷ bs) → union_marks (lags_of (b ∷ bs)) (branches (b ∷ bs)) ≡ lessened_by far ms
  union-marks b bs rise h =
      ap first_marks (map-sort mark_time (λ (e : ℕ × Timed). (e.1).0) (λ e. e.1) (λ e. refl) (ports_from 0 (lagging (lags_of (b ∷ bs)) (branches (b ∷ bs)))))
      ∙ ap (λ l. first_marks (sort_by (by_key mark_time) l)) (without_ports 0 (lagging (lags_of (b ∷ bs)) (branches (b ∷ bs))) ∙ lags-same (b ∷ bs) h)
      ∙ copies (lessened_by far ms) (rise-lessened far ms rise) b bs

  -- below the bounds of the result only tuples that are below those of their branch
  branch-below : (bs : List Branch) → AllByRecursion (λ b. b.0 ≤ far) bs
      → flat_map (λ (x : Tagged). below_bounds (lessened_by far ms) x.tuples) (branches bs) ≡ flat_map (λ (b : Branch). below_bounds (lessened_by far ms) b.1) bs
  branch-below [] h = refl
  branch-below (b ∷ bs) h =
      ap (λ l. l ++ flat_map (λ (x : Tagged). below_bounds (lessened_by far ms) x.tuples) (branches bs))
      (filter-under (λ x. ltb x.time (bound_at (lessened_by b.0 ms) x.time)) (λ x. ltb x.time (bound_at (lessened_by far ms) x.time)) (λ x. under x.time) b.1)
      ∙ ap (λ l. below_bounds (lessened_by far ms) b.1 ++ l) (branch-below bs h.1)
    where
      le : b.0 ≤ far
      le = h.0

      lem : (t a b : ℕ) → a ≤ b → ltb t a ≡ true → ltb t b ≡ true
      lem t a b le h = grind (arith, nat_tests)

      under : (t : ℕ) → ltb t (bound_at (lessened_by far ms) t) ≡ true → ltb t (bound_at (lessened_by b.0 ms) t) ≡ true
      under t h = let x = bound-less far ms t in let y = bound-less b.0 ms t in let z = le in lem t (bound_at (lessened_by far ms) t) (bound_at (lessened_by b.0 ms) t) (omega (arith, x, y, z)) h

  union-below : (bs : List Branch) → AllByRecursion (λ b. b.0 ≤ far) bs
      → below_bounds (lessened_by far ms) (union (map (λ x. x.tuples) (branches bs))) ≡ below_bounds (lessened_by far ms) (union (map (λ b. b.1) bs))
  union-below bs h =
      out (map (λ x. x.tuples) (branches bs))
      ∙ ap (sort_by (by_key time_of)) (flat_map-map own (λ x. x.tuples) (branches bs) ∙ branch-below bs h ∙ sym (flat_map-map own (λ (b : Branch). b.1) bs))
      ∙ sym (out (map (λ b. b.1) bs))
    where
      own : List Tuple → List Tuple
      own = below_bounds (lessened_by far ms)

      out : (ins : List (List Tuple)) → below_bounds (lessened_by far ms) (union ins) ≡ sort_by (by_key time_of) (flat_map (below_bounds (lessened_by far ms)) ins)
      out ins =
          ap (below_bounds (lessened_by far ms)) (union-sorted ins)
          ∙ filter-sort time_of (λ x. ltb x.time (bound_at (lessened_by far ms) x.time)) (flat_map (λ xs. xs) ins)
          ∙ ap (sort_by (by_key time_of)) (filter-flat_map (λ x. ltb x.time (bound_at (lessened_by far ms) x.time)) (λ xs. xs) ins)

  pub union-marked : (b : Branch) (bs : List Branch) → MarksRise ms → AllByRecursion (λ b. b.0 ≤ far) (b ∷ bs)
      → union_tagged (lags_of (b ∷ bs)) (branches (b ∷ bs)) ≡ marked ms far (union (map (λ b. b.1) (b ∷ bs)))
  union-marked b bs rise h =
      ap (λ own. record { marks = own; tuples = below_bounds own (union (map (λ x. x.tuples) (branches (b ∷ bs)))) }) (union-marks b bs rise h)
      ∙ ap (λ ts. record { marks = lessened_by far ms; tuples = ts }) (union-below (b ∷ bs) h)
