-- The entries of a map in the order of their groups: what stays of a look-up, and what becomes of them where the map changes.
use Rattle.std.proofs.Common.{◌≡◌, ◌∙◌, refl, sym, ap, ap₂, subst, Bool, true, false, true≢false, cond, List, [], ◌∷◌, length, map, Some, None, Ordering, Less, Equal, Greater, Bor}
use Rattle.std.specs.Prelude.{if◌then◌else◌}
use Rattle.std.specs.Ordering.{match_ordering, is_eq, is_lt, ordering_reverse, eq_by_cmp}
use Rattle.std.specs.Map.{keys_of, lookup, set_value}
use Rattle.std.specs.Map.Calls.{RetainsPairs}
use Rattle.std.specs.Map.Iter.{deref_pair}
use Rattle.std.specs.BTreeMap.{insert_entry}
use Rattle.std.specs.Cmp.{IsStrictWeakOrder, tied_itself}
use Rattle.std.specs.List.{AllByRecursion, IsDistinct}
use Rattle.std.specs.List.Sorted.{IsSortedBy, IsStableBy, IsStrictlySortedBy}
use Rattle.std.proofs.lemmas.List.Sorted.{ranks_by}
use Rattle.indexmap.specs.IndexMap.{insert_entry as hashed_entry}
use Rattle.sq_words.specs.Lists.{insert_by, sort_by}
use Rattle.sq_words.proofs.Bools.{is_eq_true}
use Rattle.sq_words.proofs.Sorting.{length_sort, sorted_is, sort_map}
use Rattle.sq_value.specs.declared.Value.{Value}
use Rattle.sq_value.specs.Values.{fields_cmp}
use Rattle.sq_value.proofs.ValueOrder.{fields_order, fields_same}
use Rattle.sq_aggfn.proofs.KeyedLemmas.{Ascends}
use Rattle.sq_groups.specs.Ordered.{is_at, in_order, group_earlier, StandsInOrder}

abbrev Entries : Type 0 → Type 0
Entries V = List (List Value × V)

-- an entry put among others
abbrev put : {V : Type 0} → Entries V → List Value → V → Entries V
put es k v = insert_entry fields_cmp es k v

back : (x y : List Value) (o : Ordering) → fields_cmp x y ≡ o → fields_cmp y x ≡ ordering_reverse o
back x y o e = fields_order.antisymm y x ∙ ap ordering_reverse e

same : (g q : List Value) → is_at g q ≡ true → g ≡ q
same g q t = fields_same g q (is_eq_true (fields_cmp g q) t)

false-of : (b : Bool) → (b ≡ true → ⊥) → b ≡ false
false-of true h = absurd (h refl)
false-of false h = refl

-- no look-up finds two different groups
never-both : (g k q : List Value) → fields_cmp k q ≡ Greater → is_at g q ≡ true → is_at g k ≡ true → ⊥
never-both g k q h a b =
    let tied : fields_cmp k q ≡ Equal = ap₂ fields_cmp (sym (same g k b)) (sym (same g q a)) ∙ tied_itself fields_order g in
    true≢false (sym (ap is_eq tied) ∙ ap is_eq h)

twice : {A : Type 0} (b : Bool) (x y z : A) → cond b x z ≡ cond b x (cond b y z)
twice true x y z = refl
twice false x y z = refl

turn : {A : Type 0} (a b : Bool) (x y z : A) → (a ≡ true → b ≡ true → ⊥) → cond a x (cond b y z) ≡ cond b y (cond a x z)
turn true true x y z never = absurd (never refl refl)
turn true false x y z never = refl
turn false true x y z never = refl
turn false false x y z never = refl

-- an entry that comes before the first, in its place or behind it
module _ {V : Type 0} (k : List Value) (v : V) (x : List Value × V) (xs : Entries V) where
  abbrev goes : Ordering → Entries V
  goes o = match_ordering o ((k, v) ∷ x ∷ xs) ((x.0, v) ∷ xs) (x ∷ put xs k v)

  put-before : fields_cmp k x.0 ≡ Less → put (x ∷ xs) k v ≡ (k, v) ∷ x ∷ xs
  put-before e = ap goes e

  put-at : fields_cmp k x.0 ≡ Equal → put (x ∷ xs) k v ≡ (x.0, v) ∷ xs
  put-at e = ap goes e

  put-behind : fields_cmp k x.0 ≡ Greater → put (x ∷ xs) k v ≡ x ∷ put xs k v
  put-behind e = ap goes e

-- the groups ascend
module _ {V : Type 0} where
  -- a group before those of some entries
  abbrev Above : List Value → Entries V → Type 0
  Above g es = AllByRecursion (λ e. fields_cmp g e.0 ≡ Less) es

  above-later : (g h : List Value) → fields_cmp g h ≡ Less → (es : Entries V) → Above h es → Above g es
  above-later g h less [] all = tt
  above-later g h less (e ∷ es) all = (fields_order.trans g h e.0 less all.0, above-later g h less es all.1)

  above-put : (g k : List Value) (v : V) → fields_cmp g k ≡ Less → (es : Entries V) → Above g es → Above g (put es k v)
  above-put g k v less [] all = (less, tt)
  above-put g k v less (e ∷ es) all = by (fields_cmp k e.0) (above-put g k v less es all.1)
    where
      by : (o : Ordering) → Above g (put es k v) → Above g (match_ordering o ((k, v) ∷ e ∷ es) ((e.0, v) ∷ es) (e ∷ put es k v))
      by Less ih = (less, all)
      by Equal ih = (all.0, all.1)
      by Greater ih = (all.0, ih)

  put-ascends : (k : List Value) (v : V) (es : Entries V) → Ascends fields_cmp fields_order es → Ascends fields_cmp fields_order (put es k v)
  put-ascends k v [] up = (tt, tt)
  put-ascends k v (e ∷ es) up = by (fields_cmp k e.0) refl (put-ascends k v es up.1)
    where
      by : (o : Ordering) → fields_cmp k e.0 ≡ o → Ascends fields_cmp fields_order (put es k v) → Ascends fields_cmp fields_order (match_ordering o ((k, v) ∷ e ∷ es) ((e.0, v) ∷ es) (e ∷ put es k v))
      by Less h ih = ((h, above-later k e.0 h es up.0), up)
      by Equal h ih = (up.0, up.1)
      by Greater h ih = (above-put e.0 k v (back k e.0 Greater h) es up.0, ih)

  pub in_order_ascends : (es : Entries V) → Ascends fields_cmp fields_order (in_order es)
  in_order_ascends [] = tt
  in_order_ascends (e ∷ es) = put-ascends e.0 e.1 (in_order es) (in_order_ascends es)

  keys-above : (g : List Value) (es : Entries V) → Above g es → AllByRecursion (λ q. fields_cmp g q ≡ Less) (keys_of es)
  keys-above g [] all = tt
  keys-above g (e ∷ es) all = (all.0, keys-above g es all.1)

  keys-sorted : (es : Entries V) → Ascends fields_cmp fields_order es → IsStrictlySortedBy fields_cmp (keys_of es)
  unfolding IsStrictlySortedBy
  keys-sorted [] up = tt
  keys-sorted (e ∷ es) up = (keys-above e.0 es up.0, keys-sorted es up.1)

  pub in_order_sorted : (es : Entries V) → IsStrictlySortedBy fields_cmp (keys_of (in_order es))
  in_order_sorted es = keys-sorted (in_order es) (in_order_ascends es)

  put-front : (k : List Value) (w : V) (es : Entries V) → Above k es → put es k w ≡ (k, w) ∷ es
  put-front k w [] all = refl
  put-front k w (e ∷ es) all = put-before k w e es all.0

  -- what ascends stands in order
  pub ascends_in_order : (es : Entries V) → Ascends fields_cmp fields_order es → in_order es ≡ es
  ascends_in_order [] up = refl
  ascends_in_order (e ∷ es) up = ap (λ l. put l e.0 e.1) (ascends_in_order es up.1) ∙ put-front e.0 e.1 es up.0

  ascends-from : (es : Entries V) → in_order es ≡ es → Ascends fields_cmp fields_order es
  ascends-from es same = subst (Ascends fields_cmp fields_order) same (in_order_ascends es)

  pub in_order_again : (es : Entries V) → in_order (in_order es) ≡ in_order es
  in_order_again es = ascends_in_order (in_order es) (in_order_ascends es)

-- a look-up finds the same
module _ {V : Type 0} (g : List Value) where
  lookup-put : (k : List Value) (v : V) (es : Entries V) → lookup (is_at g) (put es k v) ≡ cond (is_at g k) (Some v) (lookup (is_at g) es)
  lookup-put k v [] = refl
  lookup-put k v (e ∷ es) = by (fields_cmp k e.0) refl (lookup-put k v es)
    where
      by : (o : Ordering) → fields_cmp k e.0 ≡ o → lookup (is_at g) (put es k v) ≡ cond (is_at g k) (Some v) (lookup (is_at g) es)
          → lookup (is_at g) (match_ordering o ((k, v) ∷ e ∷ es) ((e.0, v) ∷ es) (e ∷ put es k v)) ≡ cond (is_at g k) (Some v) (cond (is_at g e.0) (Some e.1) (lookup (is_at g) es))
      by Less h ih = refl
      by Equal h ih =
          let own = fields_same k e.0 h in
          ap (λ q. cond (is_at g q) (Some v) (lookup (is_at g) es)) (sym own)
          ∙ twice (is_at g k) (Some v) (Some e.1) (lookup (is_at g) es)
          ∙ ap (λ q. cond (is_at g k) (Some v) (cond (is_at g q) (Some e.1) (lookup (is_at g) es))) own
      by Greater h ih =
          ap (λ r. cond (is_at g e.0) (Some e.1) r) ih ∙ turn (is_at g e.0) (is_at g k) (Some e.1) (Some v) (lookup (is_at g) es) (never-both g k e.0 h)

  pub lookup_in_order : (es : Entries V) → lookup (is_at g) (in_order es) ≡ lookup (is_at g) es
  lookup_in_order [] = refl
  lookup_in_order (e ∷ es) = lookup-put e.0 e.1 (in_order es) ∙ ap (λ r. cond (is_at g e.0) (Some e.1) r) (lookup_in_order es)

-- another value at a group
module _ {V : Type 0} (g : List Value) (w : V) where
  abbrev set : Entries V → Entries V
  set es = set_value (is_at g) es w

  set-here : (x : List Value × V) (xs : Entries V) → is_at g x.0 ≡ true → set (x ∷ xs) ≡ (x.0, w) ∷ xs
  set-here x xs t = ap (λ b. cond b ((x.0, w) ∷ xs) (x ∷ set xs)) t

  set-past : (x : List Value × V) (xs : Entries V) → is_at g x.0 ≡ false → set (x ∷ xs) ≡ x ∷ set xs
  set-past x xs f = ap (λ b. cond b ((x.0, w) ∷ xs) (x ∷ set xs)) f

  module _ (k : List Value) (v : V) where
    set-own : is_at g k ≡ true → (es : Entries V) → set (put es k v) ≡ put es k w
    set-own t [] = set-here (k, v) [] t
    set-own t (e ∷ es) = by (fields_cmp k e.0) refl (set-own t es)
      where
        by : (o : Ordering) → fields_cmp k e.0 ≡ o → set (put es k v) ≡ put es k w → set (put (e ∷ es) k v) ≡ put (e ∷ es) k w
        by Less h ih = ap set (put-before k v e es h) ∙ set-here (k, v) (e ∷ es) t ∙ sym (put-before k w e es h)
        by Equal h ih =
            ap set (put-at k v e es h) ∙ set-here (e.0, v) es (ap (is_at g) (sym (fields_same k e.0 h)) ∙ t) ∙ sym (put-at k w e es h)
        by Greater h ih =
            let other = false-of (is_at g e.0) (λ a. never-both g k e.0 h a t) in
            ap set (put-behind k v e es h) ∙ set-past e (put es k v) other ∙ ap (λ l. e ∷ l) ih ∙ sym (put-behind k w e es h)

    set-other : is_at g k ≡ false → (es : Entries V) → set (put es k v) ≡ put (set es) k v
    set-other f [] = set-past (k, v) [] f
    set-other f (e ∷ es) = by (fields_cmp k e.0) (is_at g e.0) refl refl (set-other f es)
      where
        by : (o : Ordering) (b : Bool) → fields_cmp k e.0 ≡ o → is_at g e.0 ≡ b → set (put es k v) ≡ put (set es) k v → set (put (e ∷ es) k v) ≡ put (set (e ∷ es)) k v
        by Less true h t ih =
            let here = set-here e es t in
            ap set (put-before k v e es h) ∙ set-past (k, v) (e ∷ es) f ∙ ap (λ l. (k, v) ∷ l) here
            ∙ sym (ap (λ l. put l k v) here ∙ put-before k v (e.0, w) es h)
        by Less false h t ih =
            let past = set-past e es t in
            ap set (put-before k v e es h) ∙ set-past (k, v) (e ∷ es) f ∙ ap (λ l. (k, v) ∷ l) past
            ∙ sym (ap (λ l. put l k v) past ∙ put-before k v e (set es) h)
        by Equal b h t ih =
            let other : is_at g e.0 ≡ false = ap (is_at g) (sym (fields_same k e.0 h)) ∙ f in
            ap set (put-at k v e es h) ∙ set-past (e.0, v) es other
            ∙ sym (ap (λ l. put l k v) (set-past e es other) ∙ put-at k v e (set es) h)
        by Greater true h t ih =
            ap set (put-behind k v e es h) ∙ set-here e (put es k v) t
            ∙ sym (ap (λ l. put l k v) (set-here e es t) ∙ put-behind k v (e.0, w) es h)
        by Greater false h t ih =
            ap set (put-behind k v e es h) ∙ set-past e (put es k v) t ∙ ap (λ l. e ∷ l) ih
            ∙ sym (ap (λ l. put l k v) (set-past e es t) ∙ put-behind k v e (set es) h)

  pub set_in_order : (es : Entries V) → in_order (set_value (is_at g) es w) ≡ set_value (is_at g) (in_order es) w
  set_in_order [] = refl
  set_in_order (e ∷ es) = by (is_at g e.0) refl (set_in_order es)
    where
      by : (b : Bool) → is_at g e.0 ≡ b → in_order (set es) ≡ set (in_order es) → in_order (set (e ∷ es)) ≡ set (put (in_order es) e.0 e.1)
      by true t ih = ap in_order (set-here e es t) ∙ sym (set-own e.0 e.1 t (in_order es))
      by false f ih = ap in_order (set-past e es f) ∙ ap (λ l. put l e.0 e.1) ih ∙ sym (set-other e.0 e.1 f (in_order es))

  pub stands_set : (sorted : Bool) (es : Entries V) → StandsInOrder sorted es → StandsInOrder sorted (set_value (is_at g) es w)
  stands_set sorted es stands so = set_in_order es ∙ ap (λ l. set_value (is_at g) l w) (stands so)

-- two entries put one after the other
module _ {V : Type 0} where
  swap-less : (a : List Value) (v : V) (b : List Value) (w : V) → fields_cmp a b ≡ Less → (es : Entries V) → put (put es a v) b w ≡ put (put es b w) a v
  swap-less a v b w less [] = put-behind b w (a, v) [] (back a b Less less) ∙ sym (put-before a v (b, w) [] less)
  swap-less a v b w less (x ∷ xs) = by (fields_cmp a x.0) (fields_cmp b x.0) refl refl (swap-less a v b w less xs)
    where
      greater : fields_cmp b a ≡ Greater
      greater = back a b Less less

      by : (o p : Ordering) → fields_cmp a x.0 ≡ o → fields_cmp b x.0 ≡ p → put (put xs a v) b w ≡ put (put xs b w) a v → put (put (x ∷ xs) a v) b w ≡ put (put (x ∷ xs) b w) a v
      by Less Less ha hb ih =
          ap (λ l. put l b w) (put-before a v x xs ha) ∙ put-behind b w (a, v) (x ∷ xs) greater ∙ ap (λ l. (a, v) ∷ l) (put-before b w x xs hb)
          ∙ sym (ap (λ l. put l a v) (put-before b w x xs hb) ∙ put-before a v (b, w) (x ∷ xs) less)
      by Less Equal ha hb ih =
          ap (λ l. put l b w) (put-before a v x xs ha) ∙ put-behind b w (a, v) (x ∷ xs) greater ∙ ap (λ l. (a, v) ∷ l) (put-at b w x xs hb)
          ∙ sym (ap (λ l. put l a v) (put-at b w x xs hb) ∙ put-before a v (x.0, w) xs ha)
      by Less Greater ha hb ih =
          ap (λ l. put l b w) (put-before a v x xs ha) ∙ put-behind b w (a, v) (x ∷ xs) greater ∙ ap (λ l. (a, v) ∷ l) (put-behind b w x xs hb)
          ∙ sym (ap (λ l. put l a v) (put-behind b w x xs hb) ∙ put-before a v x (put xs b w) ha)
      by Equal p ha hb ih =
          let later : fields_cmp b x.0 ≡ Greater = ap (λ q. fields_cmp b q) (sym (fields_same a x.0 ha)) ∙ greater in
          ap (λ l. put l b w) (put-at a v x xs ha) ∙ put-behind b w (x.0, v) xs later
          ∙ sym (ap (λ l. put l a v) (put-behind b w x xs later) ∙ put-at a v x (put xs b w) ha)
      by Greater p ha hb ih =
          let later : fields_cmp b x.0 ≡ Greater = back x.0 b Less (fields_order.trans x.0 a b (back a x.0 Greater ha) less) in
          ap (λ l. put l b w) (put-behind a v x xs ha) ∙ put-behind b w x (put xs a v) later ∙ ap (λ l. x ∷ l) ih
          ∙ sym (ap (λ l. put l a v) (put-behind b w x xs later) ∙ put-behind a v x (put xs b w) ha)

  swap-puts : (a : List Value) (v : V) (b : List Value) (w : V) → is_at a b ≡ false → (es : Entries V) → put (put es a v) b w ≡ put (put es b w) a v
  swap-puts a v b w f es = by (fields_cmp a b) refl
    where
      by : (o : Ordering) → fields_cmp a b ≡ o → put (put es a v) b w ≡ put (put es b w) a v
      by Less h = swap-less a v b w h es
      by Equal h = absurd (true≢false (sym (ap is_eq h) ∙ f))
      by Greater h = sym (swap-less b w a v (back a b Greater h) es)

  -- an entry of a new group
  pub put_in_order : (g : List Value) (v : V) (es : Entries V) → lookup (is_at g) es ≡ None → in_order (hashed_entry (eq_by_cmp fields_cmp) es g v) ≡ insert_entry fields_cmp (in_order es) g v
  put_in_order g v [] none = refl
  put_in_order g v (e ∷ es) none = by (is_at g e.0) refl none (λ n. put_in_order g v es n)
    where
      by : (b : Bool) → is_at g e.0 ≡ b → cond b (Some e.1) (lookup (is_at g) es) ≡ None → (lookup (is_at g) es ≡ None → in_order (hashed_entry (eq_by_cmp fields_cmp) es g v) ≡ put (in_order es) g v)
          → in_order (if b then (e.0, v) ∷ es else e ∷ hashed_entry (eq_by_cmp fields_cmp) es g v) ≡ put (put (in_order es) e.0 e.1) g v
      by true t n ih = cc
      by false f n ih = ap (λ l. put l e.0 e.1) (ih n) ∙ swap-puts g v e.0 e.1 f (in_order es)

-- a group that differs from all
absent : {V : Type 0} (k : List Value) (es : Entries V) → AllByRecursion (λ q. eq_by_cmp fields_cmp k q ≡ false) (keys_of es) → lookup (is_at k) es ≡ None
absent k [] all = refl
absent k (e ∷ es) all = ap (λ b. cond b (Some e.1) (lookup (is_at k) es)) all.0 ∙ absent k es all.1

-- what a map keeps of its entries, each with another value
module _ {V : Type 0} (R : List Value → V → Bool → V → Type 0) where
  abbrev pub Keeps : Entries V → Entries V → Type 0
  Keeps [] kept = kept ≡ []
  Keeps (e ∷ es) kept = (b : Bool) × (w : V) × (rest : Entries V) × R e.0 e.1 b w × Keeps es rest × (kept ≡ cond b ((e.0, w) ∷ rest) rest)

  -- by a closure whose state says the same at each call
  pub keeps_from : {F : Type 0} (T : F → List Value → V → Bool → V → F → Type 0) (I : F → Type 0) → ((f : F) (k : List Value) (v : V) (b : Bool) (w : V) (f' : F) → I f → T f k v b w f' → R k v b w × I f')
      → (f : F) (es kept : Entries V) → I f → RetainsPairs T f es kept → Keeps es kept
  keeps_from T I says f [] kept i r = r
  keeps_from T I says f (e ∷ es) kept i r =
      let said = says f e.0 e.1 r.0 r.1 r.2 i r.4 in
      (r.0, r.1, r.3, said.0, keeps_from T I says r.2 es r.3 said.1 r.5, r.6)

  kept-above : (g : List Value) (es kept : Entries V) → Keeps es kept → Above g es → Above g kept
  kept-above g [] kept r all = subst (Above g) (sym r) tt
  kept-above g (e ∷ es) kept r all = subst (Above g) (sym r.5) (by r.0 (kept-above g es r.2 r.4 all.1))
    where
      by : (b : Bool) → Above g r.2 → Above g (cond b ((e.0, r.1) ∷ r.2) r.2)
      by true ih = (all.0, ih)
      by false ih = ih

  kept-ascends : (es kept : Entries V) → Ascends fields_cmp fields_order es → Keeps es kept → Ascends fields_cmp fields_order kept
  kept-ascends [] kept up r = subst (Ascends fields_cmp fields_order) (sym r) tt
  kept-ascends (e ∷ es) kept up r = subst (Ascends fields_cmp fields_order) (sym r.5) (by r.0 (kept-ascends es r.2 up.1 r.4))
    where
      by : (b : Bool) → Ascends fields_cmp fields_order r.2 → Ascends fields_cmp fields_order (cond b ((e.0, r.1) ∷ r.2) r.2)
      by true ih = (kept-above e.0 es r.2 r.4 up.0, ih)
      by false ih = ih

  kept-put : (k : List Value) (v : V) (b : Bool) (w : V) → R k v b w → (es kept : Entries V) → Ascends fields_cmp fields_order es → lookup (is_at k) es ≡ None → Keeps es kept
      → Keeps (put es k v) (cond b (put kept k w) kept)
  kept-put k v b w t [] kept up none r = (b, w, [], t, refl, ap (λ l. cond b (put l k w) l) r)
  kept-put k v b w t (x ∷ xs) kept up none r = by (fields_cmp k x.0) refl none (λ n. kept-put k v b w t xs r.2 up.1 n r.4)
    where
      split : (c d : Bool) → fields_cmp k x.0 ≡ Greater → cond d (put (cond c ((x.0, r.1) ∷ r.2) r.2) k w) (cond c ((x.0, r.1) ∷ r.2) r.2) ≡ cond c ((x.0, r.1) ∷ cond d (put r.2 k w) r.2) (cond d (put r.2 k w) r.2)
      split true true h = put-behind k w (x.0, r.1) r.2 h
      split true false h = refl
      split false true h = refl
      split false false h = refl

      by : (o : Ordering) → fields_cmp k x.0 ≡ o → cond (is_eq o) (Some x.1) (lookup (is_at k) xs) ≡ None → (lookup (is_at k) xs ≡ None → Keeps (put xs k v) (cond b (put r.2 k w) r.2))
          → Keeps (match_ordering o ((k, v) ∷ x ∷ xs) ((x.0, v) ∷ xs) (x ∷ put xs k v)) (cond b (put kept k w) kept)
      by Less h n ih = (b, w, kept, t, r, ap (λ l. cond b l kept) (put-front k w kept (kept-above k (x ∷ xs) kept r (h, above-later k x.0 h xs up.0))))
      by Equal h n ih = cc
      by Greater h n ih = (r.0, r.1, cond b (put r.2 k w) r.2, r.3, ih n, ap (λ l. cond b (put l k w) l) r.5 ∙ split r.0 b h)

  pub kept_in_order : (es kept : Entries V) → IsDistinct (eq_by_cmp fields_cmp) (keys_of es) → Keeps es kept → Keeps (in_order es) (in_order kept)
  unfolding IsDistinct
  kept_in_order [] kept apart r = ap in_order r
  kept_in_order (e ∷ es) kept apart r =
      subst (Keeps (put (in_order es) e.0 e.1)) (sym (ap in_order r.5 ∙ split r.0))
      (kept-put e.0 e.1 r.0 r.1 r.3 (in_order es) (in_order r.2) (in_order_ascends es) (lookup_in_order e.0 es ∙ absent e.0 es apart.0) (kept_in_order es r.2 apart.1 r.4))
    where
      split : (b : Bool) → in_order (cond b ((e.0, r.1) ∷ r.2) r.2) ≡ cond b (put (in_order r.2) e.0 r.1) (in_order r.2)
      split true = refl
      split false = refl

-- what stays of entries in order stands in order
module _ {V F : Type 0} (T : F → List Value → V → Bool → V → F → Type 0) where
  pub kept_stands : (f : F) (es kept : Entries V) → in_order es ≡ es → RetainsPairs T f es kept → in_order kept ≡ kept
  kept_stands f es kept same r =
      let R : List Value → V → Bool → V → Type 0 = λ k v b w. Unit {0} in
      let keeps = keeps_from R T (λ f. Unit {0}) (λ f k v b w f' i t. (tt, tt)) f es kept tt r in
      ascends_in_order kept (kept-ascends R es kept (ascends-from es same) keeps)

-- what a stable sort gives
module _ {V : Type 0} where
  put-sorted : (k : List Value) (v : V) (es : Entries V) → lookup (is_at k) es ≡ None → put es k v ≡ insert_by group_earlier (k, v) es
  put-sorted k v [] none = refl
  put-sorted k v (x ∷ xs) none = by (fields_cmp k x.0) refl none (λ n. put-sorted k v xs n)
    where
      by : (o : Ordering) → fields_cmp k x.0 ≡ o → cond (is_eq o) (Some x.1) (lookup (is_at k) xs) ≡ None → (lookup (is_at k) xs ≡ None → put xs k v ≡ insert_by group_earlier (k, v) xs)
          → match_ordering o ((k, v) ∷ x ∷ xs) ((x.0, v) ∷ xs) (x ∷ put xs k v) ≡ (if is_lt (fields_cmp x.0 k) then x ∷ insert_by group_earlier (k, v) xs else (k, v) ∷ x ∷ xs)
      by Less h n ih = sym (ap (λ o. if is_lt o then x ∷ insert_by group_earlier (k, v) xs else (k, v) ∷ x ∷ xs) (back k x.0 Less h))
      by Equal h n ih = cc
      by Greater h n ih = ap (λ l. x ∷ l) (ih n) ∙ sym (ap (λ o. if is_lt o then x ∷ insert_by group_earlier (k, v) xs else (k, v) ∷ x ∷ xs) (back k x.0 Greater h))

  pub sorted_in_order : (es : Entries V) → IsDistinct (eq_by_cmp fields_cmp) (keys_of es) → sort_by group_earlier es ≡ in_order es
  unfolding IsDistinct
  sorted_in_order [] apart = refl
  sorted_in_order (e ∷ es) apart =
      ap (insert_by group_earlier e) (sorted_in_order es apart.1)
      ∙ sym (put-sorted e.0 e.1 (in_order es) (lookup_in_order e.0 es ∙ absent e.0 es apart.0))

  pub length_in_order : (es : Entries V) → IsDistinct (eq_by_cmp fields_cmp) (keys_of es) → length (in_order es) ≡ length es
  length_in_order es apart = ap length (sym (sorted_in_order es apart)) ∙ length_sort group_earlier es

  pub groups_order : IsStrictWeakOrder (group_earlier {V = V})
  groups_order = ranks_by fields_order (λ (x : List Value × V). x.0)

  pub held_sorted : (xs ys : Entries V) → IsDistinct (eq_by_cmp fields_cmp) (keys_of xs) → IsSortedBy group_earlier ys → IsStableBy group_earlier xs ys → ys ≡ in_order xs
  held_sorted xs ys apart up stable = sorted_is group_earlier groups_order xs ys up stable ∙ sorted_in_order xs apart

-- a stable sort of entries by reference
module _ {V : Type 0} where
  abbrev pub shown_earlier : Bor (List Value) × Bor V → Bor (List Value) × Bor V → Bool
  shown_earlier a b = is_lt (fields_cmp a.0.now b.0.now)

  pub shown_orders : IsStrictWeakOrder shown_earlier
  shown_orders = ranks_by fields_order (λ (x : Bor (List Value) × Bor V). x.0.now)

  pub shown_sorted : (xs ys : List (Bor (List Value) × Bor V)) → IsSortedBy shown_earlier ys → IsStableBy shown_earlier xs ys → map deref_pair ys ≡ sort_by group_earlier (map deref_pair xs)
  shown_sorted xs ys up stable =
      ap (map deref_pair) (sorted_is shown_earlier shown_orders xs ys up stable) ∙ sym (sort_map deref_pair shown_earlier group_earlier (λ a b. refl) xs)
