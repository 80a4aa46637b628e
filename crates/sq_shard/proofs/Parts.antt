-- Box by box: where a part has its part of what a box takes, it gets its part of what the box gives.
use Rattle.std.proofs.Common.{◌≡◌, ℕ, zero, suc, ◌+◌, ◌<◌, ◌≤◌, eqb, ltb, Bool, true, false, cond, ◌&&◌, ◌||◌, List, [], ◌∷◌, ◌++◌, map, length, slice_get, Some, refl, ap, sym, ◌∙◌, subst, arith}
use Rattle.std.proofs.lemmas.Bool.Decides.{nat_tests}
use Rattle.std.specs.Prelude.{⊤}
use Rattle.std.specs.List.{filter, list_any, AllByRecursion}
use Rattle.sq_value.specs.declared.Value.{Value}
use Rattle.sq_value.specs.declared.Tuple.{Tuple}
use Rattle.sq_value.specs.Values.{field}
use Rattle.sq_expr.specs.Keys.{bare_of, equated}
use Rattle.sq_expr.specs.Trees.{Checked, Expr, Field}
use Rattle.sq_expr.specs.Expressions.{holds_of, pair_of, value_of}
use Rattle.sq_aggfn.specs.declared.Func.{Func}
use Rattle.sq_aggfn.specs.declared.WindowSpec.{WindowSpec}
use Rattle.sq_aggfn.specs.Functions.{answers_of}
use Rattle.sq_lists.specs.Merge.{PortTuple, merge_tuples, union}
use Rattle.sq_lists.specs.Boxes.{filter_list_of, map_list_of, mapped, port_taken}
use Rattle.sq_words.specs.Lists.{sort_by, contains_number, nth}
use Rattle.sq_lists.specs.Sorting.{bsort_list_of, retimed}
use Rattle.sq_lists.specs.Windows.{aggregate_list_of}
use Rattle.sq_lists.specs.Pairs.{join_list_of}
use Rattle.sq_lists.specs.Resamples.{resampled, resample_list_of}
use Rattle.sq_net.specs.SoundNetworks.{HasWindow}
use Rattle.sq_net.specs.declared.Body.{Body}
use Rattle.sq_net.specs.declared.Body.TheVariants.{Filter, Map, Union, BSort, Aggregate, Join, Resample}
use Rattle.sq_model.specs.FullStreams.{box_list}
use Rattle.sq_model.specs.Unions as model
use Rattle.sq_model.proofs.Alls.{All-append, All-mapped}
use Rattle.sq_shard.specs.declared.Cut.{Cut}
use Rattle.sq_shard.specs.declared.Cut.TheVariants.{Whole, By}
use Rattle.sq_shard.specs.Cuts.{KeyClass, is_in_class, IsShardOf}
use Rattle.sq_shard.specs.Keys.{places, is_among, joins_on, cut_through, own, cut_at, both_cut, union_cut, left_keys, right_keys, join_cut, resample_cut, box_cut}
use Rattle.sq_place.proofs.Deciding.{filter-mapped}
use Rattle.sq_shard.proofs.Lists.{filter-swap, filter-same}
use Rattle.sq_shard.specs.Laws.{SameBody}
use Rattle.sq_shard.proofs.Windows.{aggregate-taken}
use Rattle.sq_shard.proofs.Sorted.{all-sorted, bsort-taken}
use Rattle.sq_shard.proofs.Pairs.{kept_from, filter-merge, join-taken, joins-equal}
use Rattle.sq_words.proofs.Bools.{and_true}
use Rattle.std.proofs.lemmas.Map.Views.{exact_unsigned_eq}
use Rattle.sq_expr.proofs.RowLemmas.{field_left}
use Rattle.sq_words.proofs.Alls.{all_weaker}

-- ---- lists of columns

-- an item that passes, and what holds of all
any-of : {X : Type 0} (P : X → Type 0) (f : X → Bool) (xs : List X) → AllByRecursion P xs → list_any f xs ≡ true → (x : X) × P x × (f x ≡ true)
any-of P f [] all h = absurd (cc h)
any-of {X} P f (x ∷ xs) all h = by (f x) refl h (any-of P f xs all.1)
  where
    by : (b : Bool) → f x ≡ b → (b || list_any f xs) ≡ true → (list_any f xs ≡ true → (y : X) × P y × (f y ≡ true)) → (y : X) × P y × (f y ≡ true)
    by true e h more = (x, all.0, e)
    by false e h more = more h

pub contained : (P : ℕ → Type 0) (xs : List ℕ) (n : ℕ) → AllByRecursion P xs → contains_number xs n ≡ true → P n
contained P xs n all h = let found = any-of P (λ x. eqb x n) xs all h in subst P (exact_unsigned_eq found.0 n found.2) found.1

all-kept : {X : Type 0} (P Q : X → Type 0) (q : X → Bool) → ((x : X) → P x → q x ≡ true → Q x) → (xs : List X) → AllByRecursion P xs → AllByRecursion Q (filter q xs)
all-kept P Q q h [] all = tt
all-kept P Q q h (x ∷ xs) all = by (q x) refl (all-kept P Q q h xs all.1)
  where
    by : (b : Bool) → q x ≡ b → AllByRecursion Q (filter q xs) → AllByRecursion Q (cond b (x ∷ filter q xs) (filter q xs))
    by true e more = (h x all.0 e, more)
    by false e more = more

all-places : {X : Type 0} (P : ℕ → Type 0) (passes : X → Bool) (i : ℕ) (xs : List X)
    → ((k : ℕ) (x : X) → slice_get xs k ≡ Some x → passes x ≡ true → P (i + k)) → AllByRecursion P (places passes i xs)
all-places P passes i [] h = tt
all-places P passes i (x ∷ xs) h = by (passes x) refl (all-places P passes (i + 1) xs (λ k y at pass. subst P (let e : i + suc k ≡ i + 1 + k = omega arith in e) (h (suc k) y at pass)))
  where
    by : (b : Bool) → passes x ≡ b → AllByRecursion P (places passes (i + 1) xs) → AllByRecursion P (cond b (i ∷ places passes (i + 1) xs) (places passes (i + 1) xs))
    by true e more = (subst P (let z : i + 0 ≡ i = omega arith in z) (h 0 x refl e), more)
    by false e more = more

-- ---- fields of what boxes make

mapped-field : (es : List Expr) (k i : ℕ) (x : Tuple) → slice_get es k ≡ Some (Field i) → field (map (λ e. value_of e x) es) k ≡ field x.fields i
mapped-field [] k i x there = absurd (cc there)
mapped-field (e ∷ es) zero i x there = let same : e ≡ Field i = cc in ap (λ (f : Expr). value_of f x) same
mapped-field (e ∷ es) (suc k) i x there = mapped-field es k i x there

bare-field : (columns : List ℕ) (e : Expr) → is_among columns (bare_of e) ≡ true → (i : ℕ) × (e ≡ Field i) × (contains_number columns i ≡ true)
bare-field columns (Field i) h = (i, refl, h)
bare-field columns e h = absurd (cc h)

pub places-map : {X Y : Type 0} (passes : Y → Bool) (f : X → Y) (i : ℕ) (xs : List X) → places passes i (map f xs) ≡ places (λ x. passes (f x)) i xs
places-map passes f i [] = refl
places-map passes f i (x ∷ xs) = ap (λ ks. cond (passes (f x)) (i ∷ ks) ks) (places-map passes f (i + 1) xs)

right-field : (vs ws : List Value) (r : ℕ) → field (vs ++ ws) (length vs + r) ≡ field ws r
right-field [] ws r = ap (field ws) (let z : 0 + r ≡ r = omega arith in z)
right-field (v ∷ vs) ws r = ap (field (v ∷ vs ++ ws)) (let z : suc (length vs) + r ≡ suc (length vs + r) = omega arith in z) ∙ right-field vs ws r

below : (l w : ℕ) → ltb l w ≡ true → l < w
below l w h = grind (arith, nat_tests)

-- a BSort leaves out nothing; of the other boxes nothing is asked
abbrev pub GivesAll : Body → List Tuple → Type 0
GivesAll (BSort by slack) xs = length (bsort_list_of by slack xs) ≡ length xs
GivesAll b xs = ⊤

module _ (in_class : KeyClass) where
  -- whether a tuple is of the class by a column
  abbrev of : ℕ → Tuple → Bool
  of c x = is_in_class in_class c x

  abbrev By' : List Tuple → List Tuple → ℕ → Type 0
  By' xs ys c = ys ≡ filter (of c) xs

  pub moved : (a b : Cut) (xs vs ys ws : List Tuple) → a ≡ b → xs ≡ vs → ys ≡ ws → IsShardOf in_class b vs ws → IsShardOf in_class a xs ys
  moved a b xs vs ys ws e f g h = subst (λ c. IsShardOf in_class c xs ys) (sym e) (subst (λ zs. IsShardOf in_class b zs ys) (sym f) (subst (IsShardOf in_class b vs) (sym g) h))

  through-part : (f : List Tuple → List Tuple) (g : List ℕ → List ℕ) (c : Cut) (xs ys : List Tuple)
      → ((columns : List ℕ) → AllByRecursion (By' xs ys) columns → AllByRecursion (By' (f xs) (f ys)) (g columns))
      → IsShardOf in_class c xs ys → IsShardOf in_class (cut_through g c) (f xs) (f ys)
  through-part f g Whole xs ys h is = ap f is
  through-part f g (By columns) xs ys h is = h columns is

  own-part : (width : ℕ) (c : Cut) (xs ys : List Tuple) → IsShardOf in_class c xs ys → IsShardOf in_class (own width c) xs ys
  own-part width Whole xs ys is = is
  own-part width (By columns) xs ys is = all-kept (By' xs ys) (By' xs ys) (λ c. ltb c width) (λ c e h. e) columns is

  filter-part : (ps : List Expr) (port : ℕ) (c : Cut) (xs ys : List Tuple) → IsShardOf in_class c xs ys → IsShardOf in_class c (filter_list_of ps port xs) (filter_list_of ps port ys)
  filter-part ps port Whole xs ys is = ap (filter_list_of ps port) is
  filter-part ps port (By columns) xs ys is =
      all_weaker (By' xs ys) (By' (filter_list_of ps port xs) (filter_list_of ps port ys))
      (λ c e. ap (filter_list_of ps port) e ∙ filter-swap (λ x. eqb (port_taken ps x) port) (of c) xs) columns is

  map-part : (es : List Expr) (columns : List ℕ) (xs ys : List Tuple) → AllByRecursion (By' xs ys) columns
      → AllByRecursion (By' (map_list_of es xs) (map_list_of es ys)) (places (λ e. is_among columns (bare_of e)) 0 es)
  map-part es columns xs ys all = all-places (By' (map_list_of es xs) (map_list_of es ys)) (λ e. is_among columns (bare_of e)) 0 es (λ k e there bare. (
      let named = bare-field columns e bare in
      let at : slice_get es k ≡ Some (Field named.0) = there ∙ ap Some named.1 in
      subst (By' (map_list_of es xs) (map_list_of es ys)) (let z : k ≡ 0 + k = omega arith in z) (
      ap (map_list_of es) (contained (By' xs ys) columns named.0 all named.2)
      ∙ ap (map_list_of es) (filter-same (of named.0) (λ x. of k (mapped es x)) xs (each es k named.0 at xs))
      ∙ sym (filter-mapped (of k) (mapped es) xs))))
    where
      each : (es : List Expr) (k i : ℕ) → slice_get es k ≡ Some (Field i) → (xs : List Tuple) → AllByRecursion (λ x. of i x ≡ of k (mapped es x)) xs
      each es k i at [] = tt
      each es k i at (x ∷ xs) = (ap in_class (sym (mapped-field es k i x at)), each es k i at xs)

  aggregate-part : (fs : List Func) (group : List ℕ) (w : WindowSpec) → 1 ≤ w.advance → (columns : List ℕ) (xs ys : List Tuple) → AllByRecursion (By' xs ys) columns
      → AllByRecursion (By' (aggregate_list_of fs group w xs) (aggregate_list_of fs group w ys)) (places (contains_number columns) 0 group)
  aggregate-part fs group w moves columns xs ys all =
      all-places (By' (aggregate_list_of fs group w xs) (aggregate_list_of fs group w ys)) (contains_number columns) 0 group (λ k i there key.
      subst (By' (aggregate_list_of fs group w xs) (aggregate_list_of fs group w ys)) (let z : k ≡ 0 + k = omega arith in z) (
      ap (aggregate_list_of fs group w) (contained (By' xs ys) columns i all key)
      ∙ sym (aggregate-taken in_class (answers_of fs) group k i there w moves xs)))

  -- ---- Join

  module _ (width size : ℕ) (on : Expr) (xl xr : List Tuple) (wide : AllByRecursion (λ (x : Tuple). length x.fields ≡ width) xl) where
    left-of : (l : ℕ) (x y : Tuple) → l < width → length x.fields ≡ width → of l (pair_of x y) ≡ of l x
    left-of l x y low len = ap in_class (field_left x.fields y.fields l (omega (arith, low, len)))

    right-of : (r : ℕ) (x y : Tuple) → length x.fields ≡ width → of (width + r) (pair_of x y) ≡ of r y
    right-of r x y len = ap in_class (ap (λ k. field (x.fields ++ y.fields) (k + r)) (sym len) ∙ right-field x.fields y.fields r)

    and-true : (a : Bool) → a ≡ (a && true)
    and-true true = refl
    and-true false = refl

    and-same : (a b : Bool) → a ≡ b → a ≡ (a && b)
    and-same true b e = e
    and-same false b e = refl

    all-whole : (xs : List Tuple) → filter (λ (x : Tuple). true) xs ≡ xs
    all-whole [] = refl
    all-whole (x ∷ xs) = ap (λ zs. x ∷ zs) (all-whole xs)

    -- the right side is whole
    left-key : (l : ℕ) → l < width → filter (of l) (join_list_of size on xl xr) ≡ join_list_of size on (filter (of l) xl) xr
    left-key l low =
        join-taken (of l) (λ x. true) (of l) width size on (λ x y len t. left-of l x y low len ∙ and-true (of l x)) xl xr wide
        ∙ ap (join_list_of size on (filter (of l) xl)) (all-whole xr)

    -- the left side is whole
    right-key : (r : ℕ) → filter (of (width + r)) (join_list_of size on xl xr) ≡ join_list_of size on xl (filter (of r) xr)
    right-key r =
        join-taken (λ x. true) (of r) (of (width + r)) width size on (λ x y len t. right-of r x y len) xl xr wide
        ∙ ap (λ ls. join_list_of size on ls (filter (of r) xr)) (all-whole xl)

    -- equal keys are of the same class
    alike : (l r : ℕ) → l < width → joins_on l (width + r) (equated on) ≡ true → (x y : Tuple) → length x.fields ≡ width → holds_of on (pair_of x y) ≡ true → of l x ≡ of r y
    alike l r low joins x y len t = sym (left-of l x y low len) ∙ ap in_class (joins-equal l (width + r) on (pair_of x y) joins t) ∙ right-of r x y len

    both-left : (l r : ℕ) → l < width → joins_on l (width + r) (equated on) ≡ true → filter (of l) (join_list_of size on xl xr) ≡ join_list_of size on (filter (of l) xl) (filter (of r) xr)
    both-left l r low joins =
        join-taken (of l) (of r) (of l) width size on (λ x y len t. left-of l x y low len ∙ and-same (of l x) (of r y) (alike l r low joins x y len t)) xl xr wide

    both-right : (l r : ℕ) → l < width → joins_on l (width + r) (equated on) ≡ true → filter (of (width + r)) (join_list_of size on xl xr) ≡ join_list_of size on (filter (of l) xl) (filter (of r) xr)
    both-right l r low joins =
        join-taken (of l) (of r) (of (width + r)) width size on
        (λ x y len t. right-of r x y len ∙ sym (alike l r low joins x y len t) ∙ and-same (of l x) (of r y) (alike l r low joins x y len t)) xl xr wide

    module _ (yl yr : List Tuple) where
      abbrev Given : ℕ → Type 0
      Given c = By' (join_list_of size on xl xr) (join_list_of size on yl yr) c

      on-left : (ls rs : List ℕ) → AllByRecursion (By' xl yl) ls → AllByRecursion (By' xr yr) rs → AllByRecursion Given (left_keys width (equated on) ls rs)
      on-left ls rs la ra = all-kept (By' xl yl) Given (λ l. ltb l width && list_any (λ r. joins_on l (width + r) (equated on)) rs) (λ l e h. (
          let parts = and_true (ltb l width) (list_any (λ r. joins_on l (width + r) (equated on)) rs) h in
          let found = any-of (By' xr yr) (λ r. joins_on l (width + r) (equated on)) rs ra parts.1 in
          ap (λ zs. join_list_of size on zs yr) e ∙ ap (join_list_of size on (filter (of l) xl)) found.1
          ∙ sym (both-left l found.0 (below l width parts.0) found.2))) ls la

      on-right : (ls rs : List ℕ) → AllByRecursion (By' xl yl) ls → AllByRecursion (By' xr yr) rs → AllByRecursion Given (map (λ r. width + r) (right_keys width (equated on) ls rs))
      on-right ls rs la ra = All-mapped Given (λ r. width + r) (right_keys width (equated on) ls rs)
          (all-kept (By' xr yr) (λ r. Given (width + r)) (λ r. list_any (λ l. ltb l width && joins_on l (width + r) (equated on)) ls) (λ r e h. (
          let found = any-of (By' xl yl) (λ l. ltb l width && joins_on l (width + r) (equated on)) ls la h in
          let parts = and_true (ltb found.0 width) (joins_on found.0 (width + r) (equated on)) found.2 in
          ap (λ zs. join_list_of size on zs yr) found.1 ∙ ap (join_list_of size on (filter (of found.0) xl)) e
          ∙ sym (both-right found.0 r (below found.0 width parts.0) parts.1))) rs ra)

      join-part : (a b : Cut) → IsShardOf in_class a xl yl → IsShardOf in_class b xr yr → IsShardOf in_class (join_cut width (equated on) a b) (join_list_of size on xl xr) (join_list_of size on yl yr)
      join-part Whole Whole l r = ap (λ zs. join_list_of size on zs yr) l ∙ ap (join_list_of size on xl) r
      join-part (By ls) Whole l r = all-kept (By' xl yl) Given (λ l. ltb l width) (λ k e h.
          ap (λ zs. join_list_of size on zs yr) e ∙ ap (join_list_of size on (filter (of k) xl)) r ∙ sym (left-key k (below k width h))) ls l
      join-part Whole (By rs) l r = All-mapped Given (λ r. width + r) rs (all_weaker (By' xr yr) (λ r. Given (width + r)) (λ k e.
          ap (λ zs. join_list_of size on zs yr) l ∙ ap (join_list_of size on xl) e ∙ sym (right-key k)) rs r)
      join-part (By ls) (By rs) l r = All-append Given (left_keys width (equated on) ls rs) (map (λ r. width + r) (right_keys width (equated on) ls rs)) (on-left ls rs l r) (on-right ls rs l r)

  -- ---- Resample

  module _ (width : ℕ) (funcs : List Func) (size : ℕ) (xl xr yl yr : List Tuple) (wide : AllByRecursion (λ (x : Tuple). length x.fields ≡ width) xl) where
    -- the answers stand behind the fields of the left tuple
    all-left : (l : ℕ) → l < width → (xs : List Tuple) → AllByRecursion (λ (x : Tuple). length x.fields ≡ width) xs → AllByRecursion (λ x. of l (resampled (answers_of funcs) size xr x) ≡ of l x) xs
    all-left l low [] all = tt
    all-left l low (x ∷ xs) all =
        let len = all.0 in
        (ap in_class (field_left x.fields _ l (omega (arith, low, len))), all-left l low xs all.1)

    sample-key : (l : ℕ) → l < width → filter (of l) (resample_list_of funcs size xl xr) ≡ resample_list_of funcs size (filter (of l) xl) xr
    sample-key l low =
        filter-mapped (of l) (resampled (answers_of funcs) size xr) xl
        ∙ ap (map (resampled (answers_of funcs) size xr)) (filter-same (λ x. of l (resampled (answers_of funcs) size xr x)) (of l) xl (all-left l low xl wide))

    resample-part : (a b : Cut) → IsShardOf in_class a xl yl → IsShardOf in_class b xr yr → IsShardOf in_class (resample_cut width a b) (resample_list_of funcs size xl xr) (resample_list_of funcs size yl yr)
    resample-part a (By rs) l r = tt
    resample-part Whole Whole l r = ap (λ zs. resample_list_of funcs size zs yr) l ∙ ap (resample_list_of funcs size xl) r
    resample-part (By ls) Whole l r = all-kept (By' xl yl) (By' (resample_list_of funcs size xl xr) (resample_list_of funcs size yl yr)) (λ l. ltb l width) (λ k e h.
        ap (λ zs. resample_list_of funcs size zs yr) e ∙ ap (resample_list_of funcs size (filter (of k) xl)) r ∙ sym (sample-key k (below k width h))) ls l

  -- ---- several inputs

  module _ (cuts : ℕ → Cut) (full part : ℕ → List Tuple) where
    abbrev pub Law : ℕ → Type 0
    Law s = IsShardOf in_class (cuts s) (full s) (part s)

    first-part : (inputs : List ℕ) → AllByRecursion Law inputs → IsShardOf in_class (cut_at (map cuts inputs) 0) (nth (map full inputs) 0) (nth (map part inputs) 0)
    first-part [] all = tt
    first-part (s ∷ inputs) all = all.0

    second-part : (inputs : List ℕ) → AllByRecursion Law inputs → IsShardOf in_class (cut_at (map cuts inputs) 1) (nth (map full inputs) 1) (nth (map part inputs) 1)
    second-part [] all = tt
    second-part (s ∷ inputs) all = first-part inputs all.1

    -- each input is whole, or cut by each of the columns
    abbrev Each : Cut → List ℕ → Type 0
    Each Whole inputs = map part inputs ≡ map full inputs
    Each (By columns) inputs = AllByRecursion (λ c. map part inputs ≡ map (λ s. filter (of c) (full s)) inputs) columns

    one-more : (a b : Cut) (s : ℕ) (rest : List ℕ) → IsShardOf in_class a (full s) (part s) → Each b rest → Each (both_cut a b) (s ∷ rest)
    one-more Whole Whole s rest e f = ap (λ x. x ∷ map part rest) e ∙ ap (λ xs. full s ∷ xs) f
    one-more Whole (By others) s rest e f = tt
    one-more (By columns) Whole s rest e f = tt
    one-more (By columns) (By others) s rest e f =
        all-kept (By' (full s) (part s)) (λ c. map part (s ∷ rest) ≡ map (λ s. filter (of c) (full s)) (s ∷ rest)) (contains_number others)
        (λ c here there. ap (λ x. x ∷ map part rest) here ∙ ap (λ xs. filter (of c) (full s) ∷ xs)
        (contained (λ c. map part rest ≡ map (λ s. filter (of c) (full s)) rest) others c f there)) columns e

    only : (a : Cut) (s : ℕ) → IsShardOf in_class a (full s) (part s) → Each a (s ∷ [])
    only Whole s e = ap (λ x. x ∷ []) e
    only (By columns) s e = all_weaker (By' (full s) (part s)) (λ c. map part (s ∷ []) ≡ map (λ s. filter (of c) (full s)) (s ∷ [])) (λ c here. ap (λ x. x ∷ []) here) columns e

    each : (inputs : List ℕ) → AllByRecursion Law inputs → Each (union_cut (map cuts inputs)) inputs
    each [] all = tt
    each (s ∷ []) all = only (cuts s) s all.0
    each (s ∷ t ∷ inputs) all = one-more (cuts s) (union_cut (map cuts (t ∷ inputs))) s (t ∷ inputs) all.0 (each (t ∷ inputs) all.1)

    kept-of : (c port : ℕ) (inputs : List ℕ) → kept_from (λ port x. of c x) port (map full inputs) ≡ map (λ s. filter (of c) (full s)) inputs
    kept-of c port [] = refl
    kept-of c port (s ∷ inputs) = ap (λ xs. filter (of c) (full s) ∷ xs) (kept-of c (port + 1) inputs)

    filter-union : (c : ℕ) (inputs : List ℕ) → filter (of c) (union (map full inputs)) ≡ union (map (λ s. filter (of c) (full s)) inputs)
    filter-union c inputs =
        filter-mapped (of c) (λ (e : PortTuple). e.1) (merge_tuples (map full inputs))
        ∙ ap (map (λ (e : PortTuple). e.1)) (filter-merge (λ port x. of c x) (map full inputs) ∙ ap merge_tuples (kept-of c 0 inputs))

    union-part : (a : Cut) (inputs : List ℕ) → Each a inputs → IsShardOf in_class a (union (map full inputs)) (union (map part inputs))
    union-part Whole inputs e = ap union e
    union-part (By columns) inputs e =
        all_weaker (λ c. map part inputs ≡ map (λ s. filter (of c) (full s)) inputs) (By' (union (map full inputs)) (union (map part inputs)))
        (λ c h. ap union h ∙ sym (filter-union c inputs)) columns e

    sort-part : (by slack other : ℕ) (c : Cut) (xs ys : List Tuple) → length (bsort_list_of by other xs) ≡ length xs → length (bsort_list_of by slack ys) ≡ length ys
        → IsShardOf in_class c xs ys → IsShardOf in_class (cut_through (λ columns. columns) c) (bsort_list_of by other xs) (bsort_list_of by slack ys)
    sort-part by slack other Whole xs ys whole mine is =
        all-sorted by slack ys mine ∙ ap (λ zs. sort_by model.tuple_sooner (retimed by zs)) is ∙ sym (all-sorted by other xs whole)
    sort-part by slack other (By columns) xs ys whole mine is =
        all_weaker (By' xs ys) (By' (bsort_list_of by other xs) (bsort_list_of by slack ys)) (λ c e.
        ap (bsort_list_of by slack) e
        ∙ sym (bsort-taken in_class c by other slack xs whole (subst (λ zs. length (bsort_list_of by slack zs) ≡ length zs) e mine))) columns is

    -- one box, the same in the whole and in the part
    same-part : (on_time : Bool) (b : Body) (port : ℕ) (widths : ℕ × ℕ) (inputs : List ℕ) → HasWindow b → AllByRecursion (λ (x : Tuple). length x.fields ≡ widths.0) (nth (map full inputs) 0) → AllByRecursion Law inputs
        → (on_time ≡ true → GivesAll b (nth (map full inputs) 0) × GivesAll b (nth (map part inputs) 0))
        → IsShardOf in_class (box_cut on_time b widths (map cuts inputs)) (box_list b port (map full inputs)) (box_list b port (map part inputs))
    same-part on_time (Filter preds) port widths inputs window wide all calm =
        filter-part (map (λ e. e.tree) preds) port (cut_at (map cuts inputs) 0) (nth (map full inputs) 0) (nth (map part inputs) 0) (first-part inputs all)
    same-part on_time (Map exprs) port widths inputs window wide all calm =
        let es = map (λ e. e.tree) exprs in
        let xs = nth (map full inputs) 0 in
        let ys = nth (map part inputs) 0 in
        through-part (map_list_of es) (λ columns. places (λ (e : Checked). is_among columns (bare_of e.tree)) 0 exprs) (cut_at (map cuts inputs) 0) xs ys
        (λ columns h. subst (AllByRecursion (By' (map_list_of es xs) (map_list_of es ys))) (places-map (λ e. is_among columns (bare_of e)) (λ (e : Checked). e.tree) 0 exprs)
        (map-part es columns xs ys h)) (first-part inputs all)
    same-part on_time Union port widths inputs window wide all calm = union-part (union_cut (map cuts inputs)) inputs (each inputs all)
    same-part true (BSort by slack) port widths inputs window wide all calm =
        let whole = calm refl in
        sort-part by slack slack (cut_at (map cuts inputs) 0) (nth (map full inputs) 0) (nth (map part inputs) 0) whole.0 whole.1 (first-part inputs all)
    same-part false (BSort by slack) port widths inputs window wide all calm =
        through-part (bsort_list_of by slack) (λ columns. []) (cut_at (map cuts inputs) 0) (nth (map full inputs) 0) (nth (map part inputs) 0) (λ columns h. tt) (first-part inputs all)
    same-part on_time (Aggregate funcs group w) port widths inputs window wide all calm =
        let xs = nth (map full inputs) 0 in
        let ys = nth (map part inputs) 0 in
        through-part (aggregate_list_of funcs group w) (λ columns. places (contains_number columns) 0 group) (cut_at (map cuts inputs) 0) xs ys
        (λ columns h. aggregate-part funcs group w window.moves columns xs ys h) (first-part inputs all)
    same-part on_time (Join size on) port widths inputs window wide all calm =
        join-part widths.0 size on.tree (nth (map full inputs) 0) (nth (map full inputs) 1) wide (nth (map part inputs) 0) (nth (map part inputs) 1)
        (cut_at (map cuts inputs) 0) (own widths.1 (cut_at (map cuts inputs) 1)) (first-part inputs all)
        (own-part widths.1 (cut_at (map cuts inputs) 1) (nth (map full inputs) 1) (nth (map part inputs) 1) (second-part inputs all))
    same-part on_time (Resample size funcs) port widths inputs window wide all calm =
        resample-part widths.0 funcs size (nth (map full inputs) 0) (nth (map full inputs) 1) (nth (map part inputs) 0) (nth (map part inputs) 1) wide
        (cut_at (map cuts inputs) 0) (cut_at (map cuts inputs) 1) (first-part inputs all) (second-part inputs all)

    -- the whole has box c where the part has box b
    pub box-part : (on_time : Bool) (b c : Body) (port : ℕ) (widths : ℕ × ℕ) (inputs : List ℕ) → SameBody b c on_time → HasWindow b
        → AllByRecursion (λ (x : Tuple). length x.fields ≡ widths.0) (nth (map full inputs) 0) → AllByRecursion Law inputs
        → (on_time ≡ true → GivesAll c (nth (map full inputs) 0) × GivesAll b (nth (map part inputs) 0))
        → IsShardOf in_class (box_cut on_time b widths (map cuts inputs)) (box_list c port (map full inputs)) (box_list b port (map part inputs))
    box-part on_time b c port widths inputs same window wide all calm = by_kind b c on_time same window calm
      where
        alike : (on_time : Bool) (b c : Body) → b ≡ c → HasWindow b → (on_time ≡ true → GivesAll c (nth (map full inputs) 0) × GivesAll b (nth (map part inputs) 0))
            → IsShardOf in_class (box_cut on_time b widths (map cuts inputs)) (box_list c port (map full inputs)) (box_list b port (map part inputs))
        alike on_time b c e window calm =
            subst (λ d. IsShardOf in_class (box_cut on_time b widths (map cuts inputs)) (box_list d port (map full inputs)) (box_list b port (map part inputs))) e
            (same-part on_time b port widths inputs window wide all (λ on. let whole = calm on in (subst (λ d. GivesAll d (nth (map full inputs) 0)) (sym e) whole.0, whole.1)))

        by_kind : (b c : Body) (on_time : Bool) → SameBody b c on_time → HasWindow b → (on_time ≡ true → GivesAll c (nth (map full inputs) 0) × GivesAll b (nth (map part inputs) 0))
            → IsShardOf in_class (box_cut on_time b widths (map cuts inputs)) (box_list c port (map full inputs)) (box_list b port (map part inputs))
        by_kind (BSort by slack) (BSort key other) true same window calm =
            let whole = calm refl in
            subst (λ k. IsShardOf in_class (cut_through (λ columns. columns) (cut_at (map cuts inputs) 0)) (bsort_list_of k other (nth (map full inputs) 0)) (bsort_list_of by slack (nth (map part inputs) 0))) same
            (sort-part by slack other (cut_at (map cuts inputs) 0) (nth (map full inputs) 0) (nth (map part inputs) 0)
            (subst (λ k. length (bsort_list_of k other (nth (map full inputs) 0)) ≡ length (nth (map full inputs) 0)) (sym same) whole.0) whole.1 (first-part inputs all))
        by_kind b c on_time same window calm = alike on_time b c same window calm
