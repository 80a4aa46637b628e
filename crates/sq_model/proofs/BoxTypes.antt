-- Where a box's inputs fit their columns, so does what it gives.
use Rattle.std.proofs.Common.{◌≡◌, ℕ, zero, suc, ◌+◌, ◌<◌, eqb, leb, Bool, true, false, not, ◌&&◌, cond, List, [], ◌∷◌, ◌++◌, map, length, Option, Some, None, refl, ap, sym, ◌∙◌, subst, inl, inr, ◌⊎◌, ℤ, arith}
use Rattle.std.proofs.lemmas.Bool.Decides.{nat_tests}
use Rattle.std.specs.Prelude.{slice_get, if◌then◌else◌, nat_lt, max, pos}
use Rattle.std.specs.List.{filter, cons_option, enumerate_from, last_or, AllByRecursion}
use Rattle.std.specs.declared.cmp.Ordering.{Ordering}
use Rattle.std.specs.Ordering.{match_ordering}
use Rattle.std.specs.declared.cmp.Ordering.TheVariants as ordering
use Rattle.sq_value.specs.declared.Kind.{Kind}
use Rattle.sq_value.specs.declared.Kind.TheVariants as kind
use Rattle.sq_value.specs.declared.Value.{Value}
use Rattle.sq_value.specs.declared.Value.TheVariants as value
use Rattle.sq_value.specs.declared.Tuple.{Tuple}
use Rattle.sq_value.specs.Values.{Columns, field, fields_cmp, fields_fit, kinds_fit, kinds_of, is_of_kind, is_null, int_or_null, is_i64}
use Rattle.sq_words.specs.Lists.{add_to, ascending, lesser, least_by, ports_from}
use Rattle.sq_expr.specs.Trees.{Checked, Expr}
use Rattle.sq_expr.specs.Expressions.{holds_of, pair_of, value_of}
use Rattle.sq_expr.specs.Kinds.{has_kind, kind_at, kind_in}
use Rattle.sq_aggfn.specs.declared.Func.{Func}
use Rattle.sq_aggfn.specs.declared.Func.TheVariants as func
use Rattle.sq_aggfn.specs.declared.WindowSpec.{WindowSpec}
use Rattle.sq_aggfn.specs.Functions.{known_values, numbers_of, sum_value, average_value, or_null, function_answer, answers_of, total_of}
use Rattle.sq_aggfn.specs.Groups.{group_of}
use Rattle.sq_lists.specs.Boxes.{mapped}
use Rattle.sq_lists.specs.Sorting.{Numbered, numbered_sooner, time_in, at_time, retimed, without_number, tuple_if, sorted_within, without_late, bsort_list_of}
use Rattle.sq_lists.specs.Windows.{in_window, in_group, groups_of, window_results, aggregate_list_of, starts_of}
use Rattle.sq_lists.specs.Pairs.{meets, paired, pairs_of, pairs_from}
use Rattle.sq_lists.specs.Resamples.{near, resampled, resample_list_of}
use Rattle.sq_net.specs.Columns.{if_int, kind_of_func, prefixed, columns_at}
use Rattle.sq_model.proofs.Alls.{All-append, All-kept, All-mapped, All-flat_map}
use Rattle.sq_expr.proofs.KindLemmas.{field_has_kind, value_has_kind}
use Rattle.sq_words.proofs.Bools.{and_second, and_first}
use Rattle.std.proofs.lemmas.Bool.{and_from}
use Rattle.sq_words.proofs.Alls.{all_weaker}

abbrev pub FitsColumns : Columns → List Tuple → Type 0
FitsColumns cs xs = AllByRecursion (λ (x : Tuple). fields_fit cs x.fields ≡ true) xs

-- only the kinds count
pub fits-kinds : (cs : Columns) (vs : List Value) → fields_fit cs vs ≡ kinds_fit (kinds_of cs) vs
fits-kinds [] [] = refl
fits-kinds [] (v ∷ vs) = refl
fits-kinds (c ∷ cs) [] = refl
fits-kinds (c ∷ cs) (v ∷ vs) = ap (λ b. is_of_kind c.1 v && b) (fits-kinds cs vs)

pub same-kinds : (cs ds : Columns) → kinds_of cs ≡ kinds_of ds → (xs : List Tuple) → FitsColumns ds xs → FitsColumns cs xs
same-kinds cs ds e xs h =
    all_weaker (λ (x : Tuple). fields_fit ds x.fields ≡ true) (λ (x : Tuple). fields_fit cs x.fields ≡ true)
    (λ x k. fits-kinds cs x.fields ∙ ap (λ ks. kinds_fit ks x.fields) e ∙ sym (fits-kinds ds x.fields) ∙ k) xs h

-- ---- Map

map-fields : (scope cs : Columns) (es : List Checked) (x : Tuple) → AllByRecursion (λ (e : Checked). e.scope ≡ scope) es → map (λ (e : Checked). kind_in e.scope e.tree) es ≡ map Some (kinds_of cs)
    → fields_fit scope x.fields ≡ true → kinds_fit (kinds_of cs) (map (λ e. value_of e x) (map (λ (e : Checked). e.tree) es)) ≡ true
map-fields scope [] [] x over e h = refl
map-fields scope (c ∷ cs) [] x over e h = absurd (cc e)
map-fields scope [] (t ∷ es) x over e h = absurd (cc e)
map-fields scope (c ∷ cs) (t ∷ es) x over e h =
    let first : kind_in t.scope t.tree ≡ Some c.1 = cc e in
    let rest : map (λ (e : Checked). kind_in e.scope e.tree) es ≡ map Some (kinds_of cs) = cc e in
    and_from (is_of_kind c.1 (value_of t.tree x)) (kinds_fit (kinds_of cs) (map (λ e. value_of e x) (map (λ (e : Checked). e.tree) es)))
    (sym (ap (λ k. has_kind k (value_of t.tree x)) (ap (λ z. kind_in z t.tree) (sym over.0) ∙ first)) ∙ value_has_kind scope t.tree x h)
    (map-fields scope cs es x over.1 rest h)

pub map-fits : (scope cs : Columns) (es : List Checked) → AllByRecursion (λ (e : Checked). e.scope ≡ scope) es → map (λ (e : Checked). kind_in e.scope e.tree) es ≡ map Some (kinds_of cs) → (xs : List Tuple) → FitsColumns scope xs
    → FitsColumns cs (map (mapped (map (λ (e : Checked). e.tree) es)) xs)
map-fits scope cs es over e xs h =
    All-mapped (λ (x : Tuple). fields_fit cs x.fields ≡ true) (mapped (map (λ (e : Checked). e.tree) es)) xs
    (all_weaker (λ (x : Tuple). fields_fit scope x.fields ≡ true) (λ (x : Tuple). fields_fit cs (mapped (map (λ (e : Checked). e.tree) es) x).fields ≡ true)
    (λ x k. fits-kinds cs (mapped (map (λ (e : Checked). e.tree) es) x).fields ∙ map-fields scope cs es x over e k) xs h)

-- ---- BSort: it only picks, and changes times

module _ (P : List Value → Type 0) where
  abbrev Each : List Tuple → Type 0
  Each xs = AllByRecursion (λ x. P x.fields) xs

  abbrev EachNumbered : List Numbered → Type 0
  EachNumbered xs = AllByRecursion (λ (a : Numbered). P (a.1).fields) xs

  retimed-keeps : (by : ℕ) (xs : List Tuple) → Each xs → Each (retimed by xs)
  retimed-keeps by [] h = tt
  retimed-keeps by (x ∷ xs) h = put (time_in x.time (field x.fields by)) (retimed-keeps by xs h.1)
    where
      put : (o : Option ℕ) → Each (retimed by xs) → Each (cons_option (at_time x o) (retimed by xs))
      put None more = more
      put (Some t) more = (h.0, more)

  numbered-keeps : (k : ℕ) (xs : List Tuple) → Each xs → EachNumbered (enumerate_from k xs)
  numbered-keeps k [] h = tt
  numbered-keeps k (x ∷ xs) h = (h.0, numbered-keeps (k + 1) xs h.1)

  abbrev IfThere : Option Numbered → Type 0
  IfThere None = Unit {0}
  IfThere (Some a) = P (a.1).fields

  least-keeps : (xs : List Numbered) → EachNumbered xs → IfThere (least_by numbered_sooner xs)
  least-keeps [] h = tt
  least-keeps (x ∷ xs) h = put (least_by numbered_sooner xs) (least-keeps xs h.1)
    where
      both : (b : Numbered) → P (b.1).fields → (c : Bool) → P ((if c then b else x).1).fields
      both b p true = p
      both b p false = h.0

      put : (o : Option Numbered) → IfThere o → P ((lesser numbered_sooner x o).1).fields
      put None p = h.0
      put (Some b) p = both b p (numbered_sooner b x)

  chosen-one : (o : Option Numbered) → IfThere o → Each (tuple_if o)
  chosen-one None p = tt
  chosen-one (Some a) p = (p, tt)

  without-keeps : (o : Option Numbered) (xs : List Numbered) → EachNumbered xs → EachNumbered (without_number o xs)
  without-keeps None xs h = h
  without-keeps (Some a) xs h = All-kept (λ (a : Numbered). P (a.1).fields) (λ b. not (eqb b.0 a.0)) xs h

  chosen-keeps : (slack j count : ℕ) (rest : List Numbered) → EachNumbered rest → Each (sorted_within slack j count rest)
  chosen-keeps slack j zero rest h = tt
  chosen-keeps slack j (suc count) rest h =
      let early = filter (λ (a : Numbered). leb a.0 (j + slack)) rest in
      let next = least_by numbered_sooner early in
      All-append (λ x. P x.fields) (tuple_if next) (sorted_within slack (j + 1) count (without_number next rest))
      (chosen-one next (least-keeps early (All-kept (λ (a : Numbered). P (a.1).fields) (λ a. leb a.0 (j + slack)) rest h)))
      (chosen-keeps slack (j + 1) count (without_number next rest) (without-keeps next rest h))

  late-keeps : (latest : ℕ) (xs : List Tuple) → Each xs → Each (without_late latest xs)
  late-keeps latest [] h = tt
  late-keeps latest (x ∷ xs) h = put (nat_lt x.time latest) (late-keeps (max latest x.time) xs h.1)
    where
      put : (b : Bool) → Each (without_late (max latest x.time) xs) → Each ((if b then [] else x ∷ []) ++ without_late (max latest x.time) xs)
      put true more = more
      put false more = (h.0, more)

  pub bsort-keeps : (by slack : ℕ) (xs : List Tuple) → Each xs → Each (bsort_list_of by slack xs)
  bsort-keeps by slack xs h =
      late-keeps 0 (sorted_within slack 0 (length (retimed by xs)) (enumerate_from 0 (retimed by xs)))
      (chosen-keeps slack 0 (length (retimed by xs)) (enumerate_from 0 (retimed by xs)) (numbered-keeps 0 (retimed by xs) (retimed-keeps by xs h)))

-- ---- Aggregate

group-fits : (cs : Columns) (by : List ℕ) (x : Tuple) → AllByRecursion (λ i. i < length cs) by → fields_fit cs x.fields ≡ true → fields_fit (columns_at cs by) (group_of by x) ≡ true
group-fits cs [] x low h = refl
group-fits cs (i ∷ by) x low h = put (slice_get cs i) refl (group-fits cs by x low.1 h)
  where
    kind-is : (cs : Columns) (i : ℕ) (c : List ℕ × Kind) → slice_get cs i ≡ Some c → kind_at cs i ≡ Some c.1
    kind-is [] i c e = absurd (cc e)
    kind-is (d ∷ cs) zero c e = let same : d ≡ c = cc e in ap (λ (z : List ℕ × Kind). Some z.1) same
    kind-is (d ∷ cs) (suc i) c e = kind-is cs i c e

    past : (cs : Columns) (i : ℕ) → i < length cs → slice_get cs i ≡ None → ⊥
    past [] i lt e = omega (arith, lt)
    past (c ∷ cs) zero lt e = cc e
    past (c ∷ cs) (suc i) lt e = past cs i (omega (arith, lt)) e

    put : (o : Option (List ℕ × Kind)) → slice_get cs i ≡ o → fields_fit (columns_at cs by) (group_of by x) ≡ true → fields_fit (cons_option o (columns_at cs by)) (field x.fields i ∷ group_of by x) ≡ true
    put None e more = absurd (past cs i low.0 e)
    put (Some c) e more =
        and_from (is_of_kind c.1 (field x.fields i)) (fields_fit (columns_at cs by) (group_of by x))
        (sym (ap (λ k. has_kind k (field x.fields i)) (kind-is cs i c e)) ∙ field_has_kind cs x.fields i h) more

abbrev OfKind : Kind → Value → Type 0
OfKind k v = is_of_kind k v ≡ true

known-kinds : (cs : Columns) (i : ℕ) (k : Kind) → kind_at cs i ≡ Some k → (xs : List Tuple) → FitsColumns cs xs → AllByRecursion (OfKind k) (known_values i xs)
known-kinds cs i k e xs h =
    All-kept (OfKind k) (λ v. not (is_null v)) (map (λ (x : Tuple). field x.fields i) xs)
    (All-mapped (OfKind k) (λ (x : Tuple). field x.fields i) xs
    (all_weaker (λ (x : Tuple). fields_fit cs x.fields ≡ true) (λ (x : Tuple). OfKind k (field x.fields i)) (λ x f. sym (ap (λ z. has_kind z (field x.fields i)) e) ∙ field_has_kind cs x.fields i f) xs h))

null-kind : (k : Kind) → OfKind k value.Null
null-kind kind.Int = refl
null-kind kind.Bool = refl
null-kind kind.Text = refl

least-kind : (before : Value → Value → Bool) (k : Kind) (vs : List Value) → AllByRecursion (OfKind k) vs → OfKind k (or_null (least_by before vs))
least-kind before k [] h = null-kind k
least-kind before k (v ∷ vs) h = put (least_by before vs) (least-kind before k vs h.1)
  where
    both : (c : Bool) (w : Value) → OfKind k w → OfKind k (if c then w else v)
    both true w p = p
    both false w p = h.0

    put : (o : Option Value) → OfKind k (or_null o) → OfKind k (lesser before v o)
    put None more = h.0
    put (Some w) more = both (before w v) w more

first-kind : (k : Kind) (vs : List Value) → AllByRecursion (OfKind k) vs → OfKind k (or_null (slice_get vs 0))
first-kind k [] h = null-kind k
first-kind k (v ∷ vs) h = h.0

last-kind : (k : Kind) (o : Option Value) (vs : List Value) → OfKind k (or_null o) → AllByRecursion (OfKind k) vs → OfKind k (or_null (last_or o vs))
last-kind k o [] d h = d
last-kind k o (v ∷ vs) d h = last-kind k (Some v) vs h.0 h.1

int-kind : (z : ℤ) → OfKind kind.Int (int_or_null z)
int-kind z = put (is_i64 z)
  where
    put : (b : Bool) → OfKind kind.Int (if b then value.Int z else value.Null)
    put true = refl
    put false = refl

sum-kind : (zs : List ℤ) → OfKind kind.Int (sum_value zs)
sum-kind [] = refl
sum-kind (z ∷ zs) = int-kind (total_of (z ∷ zs))

average-kind : (zs : List ℤ) → OfKind kind.Int (average_value zs)
average-kind [] = refl
average-kind (z ∷ zs) = refl

only-int : (o : Option Kind) (k : Kind) → if_int o ≡ Some k → k ≡ kind.Int
only-int None k e = absurd (cc e)
only-int (Some kind.Int) k e = let same : kind.Int ≡ k = cc e in sym same
only-int (Some kind.Bool) k e = let same : kind.Bool ≡ k = cc e in absurd (cc e)
only-int (Some kind.Text) k e = absurd (cc e)

answer-kind : (cs : Columns) (f : Func) (k : Kind) → kind_of_func cs f ≡ Some k → (xs : List Tuple) → FitsColumns cs xs → OfKind k (function_answer f xs)
answer-kind cs func.Count k e xs h = let same : kind.Int ≡ k = cc e in subst (λ z. OfKind z (int_or_null (pos (length xs)))) same (int-kind (pos (length xs)))
answer-kind cs (func.Sum i) k e xs h = subst (λ z. OfKind z (sum_value (numbers_of i xs))) (sym (only-int (kind_at cs i) k e)) (sum-kind (numbers_of i xs))
answer-kind cs (func.Avg i) k e xs h = subst (λ z. OfKind z (average_value (numbers_of i xs))) (sym (only-int (kind_at cs i) k e)) (average-kind (numbers_of i xs))
answer-kind cs (func.Min i) k e xs h = least-kind _ k (known_values i xs) (known-kinds cs i k e xs h)
answer-kind cs (func.Max i) k e xs h = least-kind _ k (known_values i xs) (known-kinds cs i k e xs h)
answer-kind cs (func.First i) k e xs h = first-kind k (known_values i xs) (known-kinds cs i k e xs h)
answer-kind cs (func.Last i) k e xs h = last-kind k None (known_values i xs) (null-kind k) (known-kinds cs i k e xs h)

answers-fit : (cs given : Columns) (fs : List Func) → map (kind_of_func cs) fs ≡ map Some (kinds_of given) → (xs : List Tuple) → FitsColumns cs xs → fields_fit given (answers_of fs xs) ≡ true
answers-fit cs [] [] e xs h = refl
answers-fit cs (c ∷ given) [] e xs h = absurd (cc e)
answers-fit cs [] (f ∷ fs) e xs h = absurd (cc e)
answers-fit cs (c ∷ given) (f ∷ fs) e xs h =
    let first : kind_of_func cs f ≡ Some c.1 = cc e in
    let rest : map (kind_of_func cs) fs ≡ map Some (kinds_of given) = cc e in
    and_from (is_of_kind c.1 (function_answer f xs)) (fields_fit given (answers_of fs xs)) (answer-kind cs f c.1 first xs h) (answers-fit cs given fs rest xs h)

pub fits-append : (cs ds : Columns) (vs ws : List Value) → fields_fit cs vs ≡ true → fields_fit ds ws ≡ true → fields_fit (cs ++ ds) (vs ++ ws) ≡ true
fits-append [] ds [] ws h k = k
fits-append [] ds (v ∷ vs) ws h k = absurd (cc h)
fits-append (c ∷ cs) ds [] ws h k = absurd (cc h)
fits-append (c ∷ cs) ds (v ∷ vs) ws h k =
    and_from (is_of_kind c.1 v) (fields_fit (cs ++ ds) (vs ++ ws)) (and_first (is_of_kind c.1 v) (fields_fit cs vs) h) (fits-append cs ds vs ws (and_second (is_of_kind c.1 v) (fields_fit cs vs) h) k)

ascending-keeps : (P : List Value → Type 0) (xs : List (List Value)) → AllByRecursion P xs → AllByRecursion P (ascending fields_cmp xs)
ascending-keeps P [] h = tt
ascending-keeps P (x ∷ xs) h = add (ascending fields_cmp xs) (ascending-keeps P xs h.1)
  where
    add : (ys : List (List Value)) → AllByRecursion P ys → AllByRecursion P (add_to fields_cmp x ys)
    add [] k = (h.0, tt)
    add (y ∷ ys) k = put (fields_cmp x y) (add ys k.1)
      where
        put : (o : Ordering) → AllByRecursion P (add_to fields_cmp x ys) → AllByRecursion P (match_ordering o (x ∷ y ∷ ys) (y ∷ ys) (y ∷ add_to fields_cmp x ys))
        put ordering.Less more = (h.0, k)
        put ordering.Equal more = k
        put ordering.Greater more = (k.0, more)

module _ (cs given : Columns) (fs : List Func) (by : List ℕ) (kinds : map (kind_of_func cs) fs ≡ map Some (kinds_of given)) (low : AllByRecursion (λ i. i < length cs) by) where
  results-fit : (start : ℕ) (inside : List Tuple) → FitsColumns cs inside → FitsColumns (columns_at cs by ++ given) (window_results (answers_of fs) by start inside)
  results-fit start inside h =
      All-mapped (λ (x : Tuple). fields_fit (columns_at cs by ++ given) x.fields ≡ true) (λ (g : List Value). record { time = start; fields = g ++ answers_of fs (in_group by g inside) }) (groups_of by inside)
      (all_weaker (λ (g : List Value). fields_fit (columns_at cs by) g ≡ true) (λ (g : List Value). fields_fit (columns_at cs by ++ given) (g ++ answers_of fs (in_group by g inside)) ≡ true)
      (λ g k. fits-append (columns_at cs by) given g (answers_of fs (in_group by g inside)) k (answers-fit cs given fs kinds (in_group by g inside) (All-kept (λ (x : Tuple). fields_fit cs x.fields ≡ true) _ inside h)))
      (groups_of by inside)
      (ascending-keeps (λ g. fields_fit (columns_at cs by) g ≡ true) (map (group_of by) inside)
      (All-mapped (λ g. fields_fit (columns_at cs by) g ≡ true) (group_of by) inside (all_weaker (λ (x : Tuple). fields_fit cs x.fields ≡ true) (λ (x : Tuple). fields_fit (columns_at cs by) (group_of by x) ≡ true) (λ x k. group-fits cs by x low k) inside h))))

  pub aggregate-fits : (w : WindowSpec) (xs : List Tuple) → FitsColumns cs xs → FitsColumns (columns_at cs by ++ given) (aggregate_list_of fs by w xs)
  aggregate-fits w xs h =
      All-flat_map (λ (x : Tuple). fields_fit (columns_at cs by ++ given) x.fields ≡ true) (λ s. window_results (answers_of fs) by s (in_window w s xs))
      (λ s. results-fit s (in_window w s xs) (All-kept (λ (x : Tuple). fields_fit cs x.fields ≡ true) _ xs h)) (starts_of w xs)

-- ---- Join

pub prefixed-fits : (letters : List ℕ) (cs : Columns) (vs : List Value) → fields_fit cs vs ≡ true → fields_fit (prefixed letters cs) vs ≡ true
prefixed-fits letters [] [] h = refl
prefixed-fits letters [] (v ∷ vs) h = absurd (cc h)
prefixed-fits letters (c ∷ cs) [] h = absurd (cc h)
prefixed-fits letters (c ∷ cs) (v ∷ vs) h =
    and_from (is_of_kind c.1 v) (fields_fit (prefixed letters cs) vs) (and_first (is_of_kind c.1 v) (fields_fit cs vs) h) (prefixed-fits letters cs vs (and_second (is_of_kind c.1 v) (fields_fit cs vs) h))

module _ (left right : Columns) (l r : List ℕ) (size : ℕ) (on : Expr) where
  -- an entry of the left or of the right side
  abbrev Sided : ℕ × Tuple → Type 0
  Sided e = ((e.0 ≡ 0) × (fields_fit left (e.1).fields ≡ true)) ⊎ ((e.0 ≡ 1) × (fields_fit right (e.1).fields ≡ true))

  abbrev both-columns : Columns
  both-columns = prefixed l left ++ prefixed r right

  pair-fits : (x y : Tuple) → fields_fit left x.fields ≡ true → fields_fit right y.fields ≡ true → fields_fit both-columns (x.fields ++ y.fields) ≡ true
  pair-fits x y h k = fits-append (prefixed l left) (prefixed r right) x.fields y.fields (prefixed-fits l left x.fields h) (prefixed-fits r right y.fields k)

  not-met : (size : ℕ) (now before : ℕ × Tuple) → now.0 ≡ before.0 → meets size now before ≡ true → ⊥
  not-met size now before same h =
      let e : eqb now.0 before.0 ≡ true = equal now.0 before.0 same in
      let first : not (eqb now.0 before.0) ≡ true = and_first (not (eqb now.0 before.0)) _ h in
      let bad : false ≡ true = ap not (sym e) ∙ first in
      cc bad
    where
      equal : (a b : ℕ) → a ≡ b → eqb a b ≡ true
      equal a b h = grind (arith, nat_tests)

  paired-fits : (now before : ℕ × Tuple) → Sided now → Sided before → meets size now before ≡ true → fields_fit both-columns (paired now before).fields ≡ true
  paired-fits now before (inl a) (inl b) m = absurd (not-met size now before (a.0 ∙ sym b.0) m)
  paired-fits now before (inr a) (inr b) m = absurd (not-met size now before (a.0 ∙ sym b.0) m)
  paired-fits now before (inl a) (inr b) m = ap (λ (z : ℕ). fields_fit both-columns (if eqb z 0 then pair_of now.1 before.1 else pair_of before.1 now.1).fields) a.0 ∙ pair-fits now.1 before.1 a.1 b.1
  paired-fits now before (inr a) (inl b) m = ap (λ (z : ℕ). fields_fit both-columns (if eqb z 0 then pair_of now.1 before.1 else pair_of before.1 now.1).fields) a.0 ∙ pair-fits before.1 now.1 b.1 a.1

  met-fit : (now : ℕ × Tuple) (before : List (ℕ × Tuple)) → Sided now → AllByRecursion Sided before → FitsColumns both-columns (map (paired now) (filter (meets size now) before))
  met-fit now [] a h = tt
  met-fit now (e ∷ before) a h = put (meets size now e) refl (met-fit now before a h.1)
    where
      put : (b : Bool) → meets size now e ≡ b → FitsColumns both-columns (map (paired now) (filter (meets size now) before))
          → FitsColumns both-columns (map (paired now) (cond b (e ∷ filter (meets size now) before) (filter (meets size now) before)))
      put true m more = (paired-fits now e a h.0 m, more)
      put false m more = more

  pub join-fits : (before es : List (ℕ × Tuple)) → AllByRecursion Sided before → AllByRecursion Sided es → FitsColumns both-columns (pairs_from size on before es)
  join-fits before [] b h = tt
  join-fits before (now ∷ es) b h =
      All-append (λ (x : Tuple). fields_fit both-columns x.fields ≡ true) (pairs_of size on before now) (pairs_from size on (before ++ now ∷ []) es)
      (All-kept (λ (x : Tuple). fields_fit both-columns x.fields ≡ true) (holds_of on) (map (paired now) (filter (meets size now) before)) (met-fit now before h.0 b))
      (join-fits (before ++ now ∷ []) es (All-append Sided before (now ∷ []) b (h.0, tt)) h.1)

  pub sided : (xs ys : List Tuple) → FitsColumns left xs → FitsColumns right ys → AllByRecursion Sided (ports_from 0 (xs ∷ ys ∷ []))
  sided xs ys h k =
      All-append Sided (map (λ x. (0, x)) xs) (ports_from 1 (ys ∷ []))
      (All-mapped Sided (λ x. (0, x)) xs (all_weaker (λ (x : Tuple). fields_fit left x.fields ≡ true) (λ x. Sided (0, x)) (λ x f. inl (refl, f)) xs h))
      (All-append Sided (map (λ x. (1, x)) ys) []
      (All-mapped Sided (λ x. (1, x)) ys (all_weaker (λ (x : Tuple). fields_fit right x.fields ≡ true) (λ x. Sided (1, x)) (λ x f. inr (refl, f)) ys k)) tt)

-- ---- Resample

pub resample-fits : (left right given : Columns) (letters : List ℕ) (fs : List Func) → map (kind_of_func right) fs ≡ map Some (kinds_of given) → (size : ℕ) (ys : List Tuple) → FitsColumns right ys
    → (xs : List Tuple) → FitsColumns left xs → FitsColumns (prefixed letters left ++ given) (resample_list_of fs size xs ys)
resample-fits left right given letters fs kinds size ys k xs h =
    All-mapped (λ (x : Tuple). fields_fit (prefixed letters left ++ given) x.fields ≡ true) (resampled (answers_of fs) size ys) xs
    (all_weaker (λ (x : Tuple). fields_fit left x.fields ≡ true) (λ (x : Tuple). fields_fit (prefixed letters left ++ given) (resampled (answers_of fs) size ys x).fields ≡ true)
    (λ x f. fits-append (prefixed letters left) given x.fields (answers_of fs (near size x.time ys)) (prefixed-fits letters left x.fields f)
    (answers-fit right given fs kinds (near size x.time ys) (All-kept (λ (y : Tuple). fields_fit right y.fields ≡ true) _ ys k))) xs h)
