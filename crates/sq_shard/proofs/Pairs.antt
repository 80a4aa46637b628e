-- A Join whose predicate makes the keys equal, or one side of which is whole: its pairs of the class are those of what is of the class.
use Rattle.std.proofs.Common.{◌≡◌, ℕ, ◌+◌, eqb, Bool, true, false, not, cond, ◌&&◌, ◌||◌, List, [], ◌∷◌, ◌++◌, map, length, refl, ap, sym, ◌∙◌, inl, inr, ◌⊎◌, arith, append-nil}
use Rattle.std.proofs.lemmas.Bool.Decides.{nat_tests}
use Rattle.std.proofs.lemmas.List.MinMax.{IsStrictWeakOrder-by_number}
use Rattle.std.proofs.lemmas.List.Elements.{filter-append}
use Rattle.std.specs.Prelude.{if◌then◌else◌}
use Rattle.std.specs.List.{filter, AllByRecursion}
use Rattle.sq_value.specs.declared.Value.{Value}
use Rattle.sq_value.specs.declared.Tuple.{Tuple}
use Rattle.sq_value.specs.Values.{field}
use Rattle.sq_words.specs.Lists.{ports_from, ports_of, sort_by}
use Rattle.sq_expr.specs.Keys.{equated}
use Rattle.sq_expr.specs.Trees.{Expr, Field, Compare, Logic}
use Rattle.sq_expr.specs.declared.CompareOp.TheVariants as compare
use Rattle.sq_expr.specs.declared.LogicOp.TheVariants as logic
use Rattle.sq_expr.specs.Expressions.{holds_of, pair_of, value_of}
use Rattle.sq_road.proofs.Parts.{filter_sort}
use Rattle.sq_lists.specs.Merge.{PortTuple, tuple_earlier, merge_tuples}
use Rattle.sq_lists.specs.Pairs.{meets, paired, pairs_of, pairs_from, join_list_of}
use Rattle.sq_model.proofs.Alls.{All-append, All-mapped, All-sorted, All-every}
use Rattle.sq_shard.specs.Keys.{is_pair_of, joins_on}
use Rattle.sq_place.proofs.Deciding.{filter-mapped}
use Rattle.sq_shard.proofs.Lists.{filter-none}
use Rattle.sq_words.proofs.Bools.{and_true, or_cases}
use Rattle.std.proofs.lemmas.Map.Views.{exact_unsigned_eq}
use Rattle.sq_expr.proofs.EqualLemmas.{compared-equal, both-true}
use Rattle.sq_words.proofs.Alls.{all_weaker}

-- ---- merges

-- of each list what passes at its port
abbrev pub kept_from : {X : Type 0} → (ℕ → X → Bool) → ℕ → List (List X) → List (List X)
kept_from q port [] = []
kept_from q port (xs ∷ rest) = filter (q port) xs ∷ kept_from q (port + 1) rest

filter-ports : {X : Type 0} (q : ℕ → X → Bool) (port : ℕ) (xss : List (List X)) → filter (λ (e : ℕ × X). q e.0 e.1) (ports_from port xss) ≡ ports_from port (kept_from q port xss)
filter-ports q port [] = refl
filter-ports {X} q port (xs ∷ rest) =
    filter-append (λ (e : ℕ × X). q e.0 e.1) (map (λ x. (port, x)) xs) (ports_from (port + 1) rest)
    ∙ ap (λ l. l ++ filter (λ (e : ℕ × X). q e.0 e.1) (ports_from (port + 1) rest)) (filter-mapped (λ (e : ℕ × X). q e.0 e.1) (λ x. (port, x)) xs)
    ∙ ap (λ l. map (λ x. (port, x)) (filter (q port) xs) ++ l) (filter-ports q (port + 1) rest)

pub filter-merge : (q : ℕ → Tuple → Bool) (ins : List (List Tuple)) → filter (λ (e : PortTuple). q e.0 e.1) (merge_tuples ins) ≡ merge_tuples (kept_from q 0 ins)
filter-merge q ins =
    filter_sort tuple_earlier (IsStrictWeakOrder-by_number (λ e. (e.1).time)) (λ (e : PortTuple). q e.0 e.1) (ports_of ins)
    ∙ ap (sort_by tuple_earlier) (filter-ports q 0 ins)

-- ---- filters of pairs

three : {X : Type 0} (o h m k : X → Bool) (xs : List X) → AllByRecursion (λ x. m x ≡ true → h x ≡ true → o x ≡ k x) xs → filter o (filter h (filter m xs)) ≡ filter h (filter m (filter k xs))
three o h m k [] all = refl
three {X} o h m k (x ∷ xs) all = by (three o h m k xs all.1) (m x) (h x) (k x) refl refl refl
  where
    by : filter o (filter h (filter m xs)) ≡ filter h (filter m (filter k xs)) → (a b c : Bool) → m x ≡ a → h x ≡ b → k x ≡ c
        → filter o (filter h (cond a (x ∷ filter m xs) (filter m xs))) ≡ filter h (filter m (cond c (x ∷ filter k xs) (filter k xs)))
    by more false b true ma hb kc = rw ma more
    by more false b false ma hb kc = more
    by more true false true ma hb kc = rw (ma, hb) more
    by more true false false ma hb kc = rw hb more
    by more true true true ma hb kc = let oc : o x ≡ true = all.0 ma hb ∙ kc in rw (ma, hb, oc) (ap (λ zs. x ∷ zs) more)
    by more true true false ma hb kc = let oc : o x ≡ false = all.0 ma hb ∙ kc in rw (hb, oc) more

module _ (E : PortTuple → Type 0) (keep : PortTuple → Bool) (out : Tuple → Bool) (size : ℕ) (on : Expr)
    (agree : (now before : PortTuple) → E now → E before → meets size now before ≡ true → holds_of on (paired now before) ≡ true → out (paired now before) ≡ (keep now && keep before)) where
  one-of : (before : List PortTuple) (now : PortTuple) → E now → AllByRecursion E before
      → filter out (pairs_of size on before now) ≡ pairs_of size on (filter (λ b. keep now && keep b) before) now
  one-of before now e all =
      let o : PortTuple → Bool = λ b. out (paired now b) in
      let h : PortTuple → Bool = λ b. holds_of on (paired now b) in
      ap (filter out) (filter-mapped (holds_of on) (paired now) (filter (meets size now) before))
      ∙ filter-mapped out (paired now) (filter h (filter (meets size now) before))
      ∙ ap (map (paired now)) (three o h (meets size now) (λ b. keep now && keep b) before (all_weaker E (λ b. meets size now b ≡ true → h b ≡ true → o b ≡ (keep now && keep b)) (λ b k m t. agree now b e k m t) before all))
      ∙ sym (filter-mapped (holds_of on) (paired now) (filter (meets size now) (filter (λ b. keep now && keep b) before)))

  none-kept : (before : List PortTuple) → filter (λ (b : PortTuple). false) before ≡ []
  none-kept before = filter-none (λ (b : PortTuple). false) before (All-every (λ (b : PortTuple). false ≡ false) (λ b. refl) before)

  pub pairs-taken : (before later : List PortTuple) → AllByRecursion E before → AllByRecursion E later
      → filter out (pairs_from size on before later) ≡ pairs_from size on (filter keep before) (filter keep later)
  pairs-taken before [] b l = refl
  pairs-taken before (now ∷ later) b l =
      filter-append out (pairs_of size on before now) (pairs_from size on (before ++ now ∷ []) later)
      ∙ ap (λ ys. ys ++ filter out (pairs_from size on (before ++ now ∷ []) later)) (one-of before now l.0 b)
      ∙ ap (λ ys. pairs_of size on (filter (λ e. keep now && keep e) before) now ++ ys)
      (pairs-taken (before ++ now ∷ []) later (All-append E before (now ∷ []) b (l.0, tt)) l.1
      ∙ ap (λ ys. pairs_from size on ys (filter keep later)) (filter-append keep before (now ∷ [])))
      ∙ by (keep now) refl
    where
      by : (a : Bool) → keep now ≡ a
          → pairs_of size on (filter (λ e. keep now && keep e) before) now ++ pairs_from size on (filter keep before ++ filter keep (now ∷ [])) (filter keep later)
          ≡ pairs_from size on (filter keep before) (cond a (now ∷ filter keep later) (filter keep later))
      by true e = rw e refl
      by false e = rw (e, none-kept before, append-nil (filter keep before)) refl

-- ---- the pairs of two sides

module _ (pl pr out : Tuple → Bool) (width size : ℕ) (on : Expr)
    (agree : (l r : Tuple) → length l.fields ≡ width → holds_of on (pair_of l r) ≡ true → out (pair_of l r) ≡ (pl l && pr r)) where
  abbrev at_side : ℕ → Tuple → Bool
  at_side side x = if eqb side 0 then pl x else pr x

  abbrev keep_entry : PortTuple → Bool
  keep_entry e = at_side e.0 e.1

  abbrev Sided : PortTuple → Type 0
  Sided e = ((e.0 ≡ 0) × (length (e.1).fields ≡ width)) ⊎ (e.0 ≡ 1)

  not-met : (now before : PortTuple) → now.0 ≡ before.0 → meets size now before ≡ true → ⊥
  not-met now before same h =
      let e : eqb now.0 before.0 ≡ true = equal now.0 before.0 same in
      first (eqb now.0 before.0) _ e h
    where
      equal : (a b : ℕ) → a ≡ b → eqb a b ≡ true
      equal a b h = grind (arith, nat_tests)

      first : (a b : Bool) → a ≡ true → (not a && b) ≡ true → ⊥
      first true b e h = cc h
      first false b e h = cc e

  swapped : (a b : Bool) → (a && b) ≡ (b && a)
  swapped true true = refl
  swapped true false = refl
  swapped false true = refl
  swapped false false = refl

  sides-agree : (now before : PortTuple) → Sided now → Sided before → meets size now before ≡ true → holds_of on (paired now before) ≡ true → out (paired now before) ≡ (keep_entry now && keep_entry before)
  sides-agree now before (inl a) (inl b) m t = absurd (not-met now before (a.0 ∙ sym b.0) m)
  sides-agree now before (inr a) (inr b) m t = absurd (not-met now before (a ∙ sym b) m)
  sides-agree now before (inl a) (inr b) m t =
      let is : paired now before ≡ pair_of now.1 before.1 = ap (λ (z : ℕ). if eqb z 0 then pair_of now.1 before.1 else pair_of before.1 now.1) a.0 in
      ap out is
      ∙ agree now.1 before.1 a.1 (sym (ap (holds_of on) is) ∙ t)
      ∙ sym (ap (λ (z : ℕ). at_side z now.1 && keep_entry before) a.0 ∙ ap (λ (z : ℕ). pl now.1 && at_side z before.1) b)
  sides-agree now before (inr a) (inl b) m t =
      let is : paired now before ≡ pair_of before.1 now.1 = ap (λ (z : ℕ). if eqb z 0 then pair_of now.1 before.1 else pair_of before.1 now.1) a in
      ap out is
      ∙ agree before.1 now.1 b.1 (sym (ap (holds_of on) is) ∙ t)
      ∙ swapped (pl before.1) (pr now.1)
      ∙ sym (ap (λ (z : ℕ). at_side z now.1 && keep_entry before) a ∙ ap (λ (z : ℕ). pr now.1 && at_side z before.1) b.0)

  sided : (left right : List Tuple) → AllByRecursion (λ (x : Tuple). length x.fields ≡ width) left → AllByRecursion Sided (ports_from 0 (left ∷ right ∷ []))
  sided left right h =
      All-append Sided (map (λ x. (0, x)) left) (ports_from 1 (right ∷ []))
      (All-mapped Sided (λ x. (0, x)) left (all_weaker (λ (x : Tuple). length x.fields ≡ width) (λ x. Sided (0, x)) (λ x f. inl (refl, f)) left h))
      (All-append Sided (map (λ x. (1, x)) right) [] (All-mapped Sided (λ x. (1, x)) right (All-every (λ x. Sided (1, x)) (λ x. inr refl) right)) tt)

  pub join-taken : (left right : List Tuple) → AllByRecursion (λ (x : Tuple). length x.fields ≡ width) left
      → filter out (join_list_of size on left right) ≡ join_list_of size on (filter pl left) (filter pr right)
  join-taken left right h =
      pairs-taken Sided keep_entry out size on sides-agree [] (merge_tuples (left ∷ right ∷ [])) tt (All-sorted Sided tuple_earlier (ports_of (left ∷ right ∷ [])) (sided left right h))
      ∙ ap (λ es. pairs_from size on [] es) (filter-merge at_side (left ∷ right ∷ []))

-- ---- what the predicate says

fields-named : (i j a b : ℕ) (vs : List Value) → ((eqb a i && eqb b j) || (eqb a j && eqb b i)) ≡ true → field vs a ≡ field vs b → field vs i ≡ field vs j
fields-named i j a b vs h e =
    elim (or_cases (eqb a i && eqb b j) (eqb a j && eqb b i) h) [
      | inl t ↦ (let p = and_true (eqb a i) (eqb b j) t in ap (field vs) (sym (exact_unsigned_eq a i p.0)) ∙ e ∙ ap (field vs) (exact_unsigned_eq b j p.1))
      | inr t ↦ (let p = and_true (eqb a j) (eqb b i) t in ap (field vs) (sym (exact_unsigned_eq b i p.1)) ∙ sym e ∙ ap (field vs) (exact_unsigned_eq a j p.0))
    ]

named-somewhere : (i j : ℕ) (xs ys : List (ℕ × ℕ)) → joins_on i j (xs ++ ys) ≡ true → (joins_on i j xs ≡ true) ⊎ (joins_on i j ys ≡ true)
named-somewhere i j [] ys h = inr h
named-somewhere i j (x ∷ xs) ys h = by (is_pair_of i j x) refl h (named-somewhere i j xs ys)
  where
    by : (b : Bool) → is_pair_of i j x ≡ b → (b || joins_on i j (xs ++ ys)) ≡ true → (joins_on i j (xs ++ ys) ≡ true → (joins_on i j xs ≡ true) ⊎ (joins_on i j ys ≡ true))
        → ((is_pair_of i j x || joins_on i j xs) ≡ true) ⊎ (joins_on i j ys ≡ true)
    by true e h more = inl (ap (λ b. b || joins_on i j xs) e)
    by false e h more = elim (more h) [ inl g ↦ inl (ap (λ b. b || joins_on i j xs) e ∙ g) | inr g ↦ inr g ]

one-named : (i j a b : ℕ) → joins_on i j ((a, b) ∷ []) ≡ true → is_pair_of i j (a, b) ≡ true
one-named i j a b h = by (is_pair_of i j (a, b)) h
  where
    by : (c : Bool) → (c || false) ≡ true → c ≡ true
    by true h = refl
    by false h = absurd (cc h)

pub joins-equal : (i j : ℕ) (on : Expr) (t : Tuple) → joins_on i j (equated on) ≡ true → holds_of on t ≡ true → field t.fields i ≡ field t.fields j
joins-equal i j (Compare compare.Equal (Field a) (Field b)) t h k = fields-named i j a b t.fields (one-named i j a b h) (compared-equal (field t.fields a) (field t.fields b) k)
joins-equal i j (Logic logic.And p q) t h k =
    let parts = both-true (value_of p t) (value_of q t) k in
    elim (named-somewhere i j (equated p) (equated q) h) [
      | inl g ↦ joins-equal i j p t g parts.0
      | inr g ↦ joins-equal i j q t g parts.1
    ]
joins-equal i j e t h k = absurd (cc h)
