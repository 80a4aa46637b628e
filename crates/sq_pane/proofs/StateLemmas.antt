-- The states of all groups.
use Rattle.std.proofs.Common.{◌≡◌, ℕ, ◌+◌, ◌<◌, ◌≤◌, Bool, true, false, cond, List, [], ◌∷◌, ◌++◌, Some, None, Option, refl, ap, ap₂, sym, ◌∙◌, subst, append_assoc, append-nil, Ordering, Less, Equal, Greater, nat_cmp, arith}
use Rattle.std.specs.Prelude.{if◌then◌else◌, nat_le, unwrap_or}
use Rattle.std.specs.Ordering.{match_ordering, is_eq, ordering_then, ordering_reverse}
use Rattle.std.specs.Map.{lookup, set_value}
use Rattle.std.specs.BTreeMap.{insert_entry}
use Rattle.std.specs.List.{AllByRecursion, filter}
use Rattle.sq_value.specs.declared.Value.{Value}
use Rattle.sq_value.specs.Values.{fields_cmp}
use Rattle.sq_value.proofs.ValueOrder.{fields_order, fields_same}
use Rattle.sq_aggfn.specs.declared.WindowSpec.{WindowSpec}
use Rattle.sq_aggfn.specs.KeyedStates.{added}
use Rattle.sq_aggfn.proofs.KeyedLemmas.{Ascends}
use Rattle.sq_groups.proofs.OrderLemmas.{Keeps}
use Rattle.sq_pane.specs.declared.line.Line.{Line}
use Rattle.sq_pane.specs.Panes.{Key, key_cmp, from_pane, under_group, within, window_from, joined_within, group_entry, NumbersRise, IsMadeIf}
use Rattle.sq_rows.specs.Rows.{total, AllAreMade}
use Rattle.sq_pane.specs.States.{states_of}
use Rattle.sq_pane.proofs.WindowLemmas.{itself}
use Rattle.sq_pane.proofs.PaneLemmas.{key_order}
use Rattle.sq_pane.proofs.LineLemmas.{lesser}
use Rattle.sq_aggfn.specs.Folds.{number_if}
use Rattle.sq_pane.proofs.StateWords.{groups_within}

abbrev Lines : Type 0 → Type 0
Lines M = List (List Value × Line M)

-- a group's look-up
abbrev is_at : List Value → List Value → Bool
is_at g q = is_eq (fields_cmp g q)

-- a group before all others
module _ {M : Type 0} (g : List Value) where
  above-group : (h : List Value) → fields_cmp g h ≡ Less → (rest : List (Key × M)) → AllByRecursion (λ e. fields_cmp g e.0.1 ≡ Less) rest → (qs : List (ℕ × M)) → AllByRecursion (λ e. fields_cmp g e.0.1 ≡ Less) (under_group h qs ++ rest)
  above-group h k rest all [] = all
  above-group h k rest all (q ∷ qs) = (k, above-group h k rest all qs)

  above-states : (ls : Lines M) → AllByRecursion (λ l. fields_cmp g l.0 ≡ Less) ls → AllByRecursion (λ e. fields_cmp g e.0.1 ≡ Less) (states_of ls)
  above-states [] all = tt
  above-states (l ∷ ls) all = above-group l.0 all.0 (states_of ls) (above-states ls all.1) l.1.states.items

-- a state is added to its group
module _ {M : Type 0} (none : M) (join : M → M → M) (n : ℕ) (g : List Value) (u : M) where
  abbrev put_key : List (Key × M) → List (Key × M)
  put_key es = added key_cmp none join (n, g) u es

  abbrev choose : Ordering → Key × M → List (Key × M) → List (Key × M)
  choose o e es = match_ordering o (((n, g), join none u) ∷ e ∷ es) (((n, g), join e.1 u) ∷ es) (e ∷ put_key es)

  put-front : (es : List (Key × M)) → AllByRecursion (λ e. fields_cmp g e.0.1 ≡ Less) es → put_key es ≡ ((n, g), join none u) ∷ es
  put-front [] all = refl
  put-front (e ∷ es) all = ap (λ o. choose (ordering_then o (nat_cmp n e.0.0)) e es) all.0

  put-inside : (rest : List (Key × M)) → AllByRecursion (λ e. fields_cmp g e.0.1 ≡ Less) rest → (qs : List (ℕ × M)) → put_key (under_group g qs ++ rest) ≡ under_group g (added nat_cmp none join n u qs) ++ rest
  put-inside rest all [] = put-front rest all
  put-inside rest all (q ∷ qs) =
      ap (λ o. choose (ordering_then o (nat_cmp n q.0)) ((q.0, g), q.1) (under_group g qs ++ rest)) (itself fields_cmp fields_order g) ∙ by (nat_cmp n q.0) (put-inside rest all qs)
    where
      by : (o : Ordering) → put_key (under_group g qs ++ rest) ≡ under_group g (added nat_cmp none join n u qs) ++ rest
          → choose o ((q.0, g), q.1) (under_group g qs ++ rest) ≡ under_group g (match_ordering o ((n, join none u) ∷ q ∷ qs) ((n, join q.1 u) ∷ qs) (q ∷ added nat_cmp none join n u qs)) ++ rest
      by Less ih = refl
      by Equal ih = refl
      by Greater ih = ap (λ l. ((q.0, g), q.1) ∷ l) ih

  put-past : (h : List Value) → fields_cmp g h ≡ Greater → (rest : List (Key × M)) (qs : List (ℕ × M)) → put_key (under_group h qs ++ rest) ≡ under_group h qs ++ put_key rest
  put-past h k rest [] = refl
  put-past h k rest (q ∷ qs) = ap (λ o. choose (ordering_then o (nat_cmp n q.0)) ((q.0, h), q.1) (under_group h qs ++ rest)) k ∙ ap (λ l. ((q.0, h), q.1) ∷ l) (put-past h k rest qs)

  after-less : (h : List Value) → fields_cmp g h ≡ Less → (ls : Lines M) → AllByRecursion (λ l. fields_cmp h l.0 ≡ Less) ls → AllByRecursion (λ l. fields_cmp g l.0 ≡ Less) ls
  after-less h k [] all = tt
  after-less h k (l ∷ ls) all = (fields_order.trans g h l.0 k all.0, after-less h k ls all.1)

  after-same : (h : List Value) → g ≡ h → (ls : Lines M) → AllByRecursion (λ l. fields_cmp h l.0 ≡ Less) ls → AllByRecursion (λ l. fields_cmp g l.0 ≡ Less) ls
  after-same h k ls all = subst (λ x. AllByRecursion (λ (l : List Value × Line M). fields_cmp x l.0 ≡ Less) ls) (sym k) all

  absent : (ls : Lines M) → AllByRecursion (λ l. fields_cmp g l.0 ≡ Less) ls → lookup (is_at g) ls ≡ None
  absent [] all = refl
  absent (l ∷ ls) all = ap (λ o. cond (is_eq o) (Some l.1) (lookup (is_at g) ls)) all.0 ∙ absent ls all.1

  -- in a line that is there
  pub states_set : (ls : Lines M) (line new : Line M) → Ascends fields_cmp fields_order ls → lookup (is_at g) ls ≡ Some line → new.states.items ≡ added nat_cmp none join n u line.states.items
      → states_of (set_value (is_at g) ls new) ≡ put_key (states_of ls)
  states_set [] line new up e is = cc
  states_set (l ∷ ls) line new up e is = by (fields_cmp g l.0) refl e (λ e. states_set ls line new up.1 e is)
    where
      inside : Some l.1 ≡ Some line → l.1 ≡ line
      inside e = cc

      none-some : {A : Type 0} → None ≡ Some line → A
      none-some e = cc

      here : (h : List Value) → g ≡ h → AllByRecursion (λ e. fields_cmp g e.0.1 ≡ Less) (states_of ls) → (qs : List (ℕ × M)) → under_group h (added nat_cmp none join n u qs) ++ states_of ls ≡ put_key (under_group h qs ++ states_of ls)
      here h same all qs = subst (λ h. under_group h (added nat_cmp none join n u qs) ++ states_of ls ≡ put_key (under_group h qs ++ states_of ls)) same (sym (put-inside (states_of ls) all qs))

      by : (o : Ordering) → fields_cmp g l.0 ≡ o → cond (is_eq o) (Some l.1) (lookup (is_at g) ls) ≡ Some line → (lookup (is_at g) ls ≡ Some line → states_of (set_value (is_at g) ls new) ≡ put_key (states_of ls))
          → states_of (cond (is_eq o) ((l.0, new) ∷ ls) (l ∷ set_value (is_at g) ls new)) ≡ put_key (under_group l.0 l.1.states.items ++ states_of ls)
      by Less k e ih = none-some (sym (absent ls (after-less l.0 k ls up.0)) ∙ e)
      by Equal k e ih =
          let same = fields_same g l.0 k in
          ap (λ q. under_group l.0 q ++ states_of ls) (is ∙ ap (λ (x : Line M). added nat_cmp none join n u x.states.items) (sym (inside e)))
          ∙ here l.0 same (above-states g ls (after-same l.0 same ls up.0)) l.1.states.items
      by Greater k e ih = ap (λ r. under_group l.0 l.1.states.items ++ r) (ih e) ∙ sym (put-past l.0 k (states_of ls) l.1.states.items)

  -- in a new one
  pub states_insert : (ls : Lines M) (new : Line M) → Ascends fields_cmp fields_order ls → lookup (is_at g) ls ≡ None → new.states.items ≡ added nat_cmp none join n u []
      → states_of (insert_entry fields_cmp ls g new) ≡ put_key (states_of ls)
  states_insert [] new up e is = ap (λ q. under_group g q ++ []) is
  states_insert (l ∷ ls) new up e is = by (fields_cmp g l.0) refl e (λ e. states_insert ls new up.1 e is)
    where
      by : (o : Ordering) → fields_cmp g l.0 ≡ o → cond (is_eq o) (Some l.1) (lookup (is_at g) ls) ≡ None → (lookup (is_at g) ls ≡ None → states_of (insert_entry fields_cmp ls g new) ≡ put_key (states_of ls))
          → states_of (match_ordering o ((g, new) ∷ l ∷ ls) ((l.0, new) ∷ ls) (l ∷ insert_entry fields_cmp ls g new)) ≡ put_key (under_group l.0 l.1.states.items ++ states_of ls)
      by Less k e ih =
          ap (λ q. under_group g q ++ states_of (l ∷ ls)) is ∙ sym (put-front (states_of (l ∷ ls)) (above-states g (l ∷ ls) (k, after-less l.0 k ls up.0)))
      by Equal k e ih = cc
      by Greater k e ih = ap (λ r. under_group l.0 l.1.states.items ++ r) (ih e) ∙ sym (put-past l.0 k (states_of ls) l.1.states.items)

-- what holds of all states, and of a line's
module _ {M : Type 0} (P : ℕ → M → Type 0) where
  pub all_parts : (g : List Value) (rest : List (Key × M)) (qs : List (ℕ × M)) → AllByRecursion (λ e. P e.0.0 e.1) (under_group g qs ++ rest) → AllByRecursion (λ q. P q.0 q.1) qs × AllByRecursion (λ e. P e.0.0 e.1) rest
  all_parts g rest [] all = (tt, all)
  all_parts g rest (q ∷ qs) all = (let more = all_parts g rest qs all.1 in ((all.0, more.0), more.1))

-- the fold gave them
module _ {M : Type 0} (made : M → Type 0) where
  group-made : (g : List Value) (rest : List (Key × M)) (qs : List (ℕ × M)) → AllAreMade made qs → AllAreMade made rest → AllAreMade made (under_group g qs ++ rest)
  group-made g rest [] all more = more
  group-made g rest (q ∷ qs) all more = (all.0, group-made g rest qs all.1 more)

  pub made_parts : (g : List Value) (rest : List (Key × M)) (qs : List (ℕ × M)) → AllAreMade made (under_group g qs ++ rest) → AllAreMade made qs × AllAreMade made rest
  made_parts g rest qs all = all_parts (λ n (m : M). made m) g rest qs all

  module _ (test : List Value → Bool) where
    pub made_found : (ls : Lines M) (line : Line M) → lookup test ls ≡ Some line → AllAreMade made (states_of ls) → AllAreMade made line.states.items
    made_found [] line e all = cc
    made_found (l ∷ ls) line e all = (let parts = made_parts l.0 (states_of ls) l.1.states.items all in by (test l.0) e parts (λ e. made_found ls line e parts.1))
      where
        inside : Some l.1 ≡ Some line → l.1 ≡ line
        inside e = cc

        by : (b : Bool) → cond b (Some l.1) (lookup test ls) ≡ Some line → AllAreMade made l.1.states.items × AllAreMade made (states_of ls) → (lookup test ls ≡ Some line → AllAreMade made line.states.items) → AllAreMade made line.states.items
        by true e parts ih = subst (λ (x : Line M). AllAreMade made x.states.items) (inside e) parts.0
        by false e parts ih = ih e

    pub made_states_set : (ls : Lines M) (new : Line M) → AllAreMade made (states_of ls) → AllAreMade made new.states.items → AllAreMade made (states_of (set_value test ls new))
    made_states_set [] new all p = tt
    made_states_set (l ∷ ls) new all p = (let parts = made_parts l.0 (states_of ls) l.1.states.items all in by (test l.0) parts (made_states_set ls new parts.1 p))
      where
        by : (b : Bool) → AllAreMade made l.1.states.items × AllAreMade made (states_of ls) → AllAreMade made (states_of (set_value test ls new)) → AllAreMade made (states_of (cond b ((l.0, new) ∷ ls) (l ∷ set_value test ls new)))
        by true parts ih = group-made l.0 (states_of ls) new.states.items p parts.1
        by false parts ih = group-made l.0 (states_of (set_value test ls new)) l.1.states.items parts.0 ih

  pub made_states_insert : (g : List Value) (ls : Lines M) (new : Line M) → AllAreMade made (states_of ls) → AllAreMade made new.states.items → AllAreMade made (states_of (insert_entry fields_cmp ls g new))
  made_states_insert g [] new all p = group-made g [] new.states.items p tt
  made_states_insert g (l ∷ ls) new all p = (let parts = made_parts l.0 (states_of ls) l.1.states.items all in by (fields_cmp g l.0) parts (made_states_insert g ls new parts.1 p))
    where
      by : (o : Ordering) → AllAreMade made l.1.states.items × AllAreMade made (states_of ls) → AllAreMade made (states_of (insert_entry fields_cmp ls g new))
          → AllAreMade made (states_of (match_ordering o ((g, new) ∷ l ∷ ls) ((l.0, new) ∷ ls) (l ∷ insert_entry fields_cmp ls g new)))
      by Less parts ih = group-made g (states_of (l ∷ ls)) new.states.items p all
      by Equal parts ih = group-made l.0 (states_of ls) new.states.items p parts.1
      by Greater parts ih = group-made l.0 (states_of (insert_entry fields_cmp ls g new)) l.1.states.items parts.0 ih

-- how many tuples they hold
module _ {M : Type 0} (number : M → ℕ) where
  pub total_parts : (g : List Value) (rest : List (Key × M)) (qs : List (ℕ × M)) → total number (under_group g qs ++ rest) ≡ total number qs + total number rest
  total_parts g rest [] = omega arith
  total_parts g rest (q ∷ qs) = (let s = total_parts g rest qs in omega (arith, s))

  module _ (test : List Value → Bool) where
    pub total_found : (ls : Lines M) (line : Line M) → lookup test ls ≡ Some line → total number line.states.items ≤ total number (states_of ls)
    total_found [] line e = cc
    total_found (l ∷ ls) line e = (let s = total_parts l.0 (states_of ls) l.1.states.items in by (test l.0) e s (λ e. total_found ls line e))
      where
        inside : Some l.1 ≡ Some line → l.1 ≡ line
        inside e = cc

        by : (b : Bool) → cond b (Some l.1) (lookup test ls) ≡ Some line → total number (states_of (l ∷ ls)) ≡ total number l.1.states.items + total number (states_of ls) → (lookup test ls ≡ Some line → total number line.states.items ≤ total number (states_of ls))
            → total number line.states.items ≤ total number (states_of (l ∷ ls))
        by true e s ih = (let same = ap (λ (x : Line M). total number x.states.items) (inside e) in omega (arith, same, s))
        by false e s ih = (let le = ih e in omega (arith, le, s))

    pub total_states_set : (ls : Lines M) (line new : Line M) (k : ℕ) → lookup test ls ≡ Some line → total number new.states.items ≡ total number line.states.items + k → total number (states_of (set_value test ls new)) ≡ total number (states_of ls) + k
    total_states_set [] line new k e more = cc
    total_states_set (l ∷ ls) line new k e more = by (test l.0) e (total_parts l.0 (states_of ls) l.1.states.items) (λ e. total_states_set ls line new k e more)
      where
        inside : Some l.1 ≡ Some line → l.1 ≡ line
        inside e = cc

        by : (b : Bool) → cond b (Some l.1) (lookup test ls) ≡ Some line → total number (states_of (l ∷ ls)) ≡ total number l.1.states.items + total number (states_of ls)
            → (lookup test ls ≡ Some line → total number (states_of (set_value test ls new)) ≡ total number (states_of ls) + k)
            → total number (states_of (cond b ((l.0, new) ∷ ls) (l ∷ set_value test ls new))) ≡ total number (states_of (l ∷ ls)) + k
        by true e s ih = (let same = ap (λ (x : Line M). total number x.states.items) (inside e) in let t = total_parts l.0 (states_of ls) new.states.items in omega (arith, same, s, t, more))
        by false e s ih = (let le = ih e in let t = total_parts l.0 (states_of (set_value test ls new)) l.1.states.items in omega (arith, le, s, t))

  pub total_states_insert : (g : List Value) (ls : Lines M) (new : Line M) → lookup (is_at g) ls ≡ None → total number (states_of (insert_entry fields_cmp ls g new)) ≡ total number (states_of ls) + total number new.states.items
  total_states_insert g [] new e = (let s = total_parts g [] new.states.items in omega (arith, s))
  total_states_insert g (l ∷ ls) new e = by (fields_cmp g l.0) e (total_parts l.0 (states_of ls) l.1.states.items) (λ e. total_states_insert g ls new e)
    where
      by : (o : Ordering) → cond (is_eq o) (Some l.1) (lookup (is_at g) ls) ≡ None → total number (states_of (l ∷ ls)) ≡ total number l.1.states.items + total number (states_of ls)
          → (lookup (is_at g) ls ≡ None → total number (states_of (insert_entry fields_cmp ls g new)) ≡ total number (states_of ls) + total number new.states.items)
          → total number (states_of (match_ordering o ((g, new) ∷ l ∷ ls) ((l.0, new) ∷ ls) (l ∷ insert_entry fields_cmp ls g new))) ≡ total number (states_of (l ∷ ls)) + total number new.states.items
      by Less e s ih = (let t = total_parts g (states_of (l ∷ ls)) new.states.items in omega (arith, t))
      by Equal e s ih = cc
      by Greater e s ih = (let le = ih e in let t = total_parts l.0 (states_of (insert_entry fields_cmp ls g new)) l.1.states.items in omega (arith, le, s, t))

-- what is forgotten
module _ {M : Type 0} (m : ℕ) where
  group-kept : (g : List Value) (rest : List (Key × M)) (qs : List (ℕ × M)) → from_pane m (under_group g qs ++ rest) ≡ under_group g (filter (λ q. nat_le m q.0) qs) ++ from_pane m rest
  group-kept g rest [] = refl
  group-kept g rest (q ∷ qs) = by (nat_le m q.0) (group-kept g rest qs)
    where
      by : (b : Bool) → from_pane m (under_group g qs ++ rest) ≡ under_group g (filter (λ q. nat_le m q.0) qs) ++ from_pane m rest
          → cond b (((q.0, g), q.1) ∷ from_pane m (under_group g qs ++ rest)) (from_pane m (under_group g qs ++ rest)) ≡ under_group g (cond b (q ∷ filter (λ q. nat_le m q.0) qs) (filter (λ q. nat_le m q.0) qs)) ++ from_pane m rest
      by true ih = ap (λ l. ((q.0, g), q.1) ∷ l) ih
      by false ih = ih

  -- of a line the states from a pane on, and of a line that goes none
  abbrev pub IsKept : List Value → Line M → Bool → Line M → Type 0
  IsKept g line b kept = (kept.states.items ≡ filter (λ q. nat_le m q.0) line.states.items) × (b ≡ false → kept.states.items ≡ [])

  pub states_kept : (ls kept : Lines M) → Keeps IsKept ls kept → states_of kept ≡ from_pane m (states_of ls)
  states_kept [] kept r = ap states_of r
  states_kept (l ∷ ls) kept r =
      ap states_of r.5 ∙ by r.0 r.3.1 ∙ ap₂ (λ q es. under_group l.0 q ++ es) r.3.0 (states_kept ls r.2 r.4) ∙ sym (group-kept l.0 (states_of ls) l.1.states.items)
    where
      by : (b : Bool) → (b ≡ false → r.1.states.items ≡ []) → states_of (cond b ((l.0, r.1) ∷ r.2) r.2) ≡ under_group l.0 r.1.states.items ++ states_of r.2
      by true none = refl
      by false none = ap (λ q. under_group l.0 q ++ states_of r.2) (sym (none refl))

-- the groups of a window, one after another
module _ {M : Type 0} (none : M) (join : M → M → M) (w : WindowSpec) (width start : ℕ) where
  abbrev Below : List (List Value × M) → List Value → Type 0
  Below gs h = AllByRecursion (λ x. fields_cmp x.0 h ≡ Less) gs

  put-behind : (g : List Value) (m : M) (o : Option M) (gs : List (List Value × M)) → Below gs g → added fields_cmp none join g m (gs ++ group_entry g o) ≡ gs ++ group_entry g (Some (join (unwrap_or o none) m))
  put-behind g m None [] all = refl
  put-behind g m (Some a) [] all = ap (λ o. match_ordering o ((g, join none m) ∷ (g, a) ∷ []) ((g, join a m) ∷ []) ((g, a) ∷ (g, join none m) ∷ [])) (itself fields_cmp fields_order g)
  put-behind g m o (x ∷ xs) all =
      let after : fields_cmp g x.0 ≡ Greater = fields_order.antisymm g x.0 ∙ ap ordering_reverse all.0 in
      ap (λ k. match_ordering k ((g, join none m) ∷ x ∷ (xs ++ group_entry g o)) ((g, join x.1 m) ∷ (xs ++ group_entry g o)) (x ∷ added fields_cmp none join g m (xs ++ group_entry g o))) after
      ∙ ap (λ l. x ∷ l) (put-behind g m o xs all.1)

  window-line : (g : List Value) (gs : List (List Value × M)) → Below gs g → (rest : List (Key × M)) (qs : List (ℕ × M)) (o : Option M)
      → window_from none join w width start (gs ++ group_entry g o) (under_group g qs ++ rest) ≡ window_from none join w width start (gs ++ group_entry g (joined_within none join w width start o qs)) rest
  window-line g gs all rest [] o = refl
  window-line g gs all rest (q ∷ qs) o = by (within w width start q.0) (λ o. window-line g gs all rest qs o)
    where
      by : (b : Bool) → ((o : Option M) → window_from none join w width start (gs ++ group_entry g o) (under_group g qs ++ rest) ≡ window_from none join w width start (gs ++ group_entry g (joined_within none join w width start o qs)) rest)
          → window_from none join w width start (if b then added fields_cmp none join g q.1 (gs ++ group_entry g o) else gs ++ group_entry g o) (under_group g qs ++ rest)
          ≡ window_from none join w width start (gs ++ group_entry g (joined_within none join w width start (if b then Some (join (unwrap_or o none) q.1) else o) qs)) rest
      by true ih = ap (λ l. window_from none join w width start l (under_group g qs ++ rest)) (put-behind g q.1 o gs all) ∙ ih (Some (join (unwrap_or o none) q.1))
      by false ih = ih o

  below-entry : (g h : List Value) (o : Option M) (gs : List (List Value × M)) → fields_cmp g h ≡ Less → Below gs h → Below (gs ++ group_entry g o) h
  below-entry g h None [] k all = tt
  below-entry g h (Some m) [] k all = (k, tt)
  below-entry g h o (x ∷ xs) k all = (all.0, below-entry g h o xs k all.1)

  below-next : (g : List Value) (o : Option M) (gs : List (List Value × M)) (ls : Lines M) → AllByRecursion (λ l. fields_cmp g l.0 ≡ Less) ls → AllByRecursion (λ l. Below gs l.0) ls → AllByRecursion (λ l. Below (gs ++ group_entry g o) l.0) ls
  below-next g o gs [] up all = tt
  below-next g o gs (l ∷ ls) up all = (below-entry g l.0 o gs up.0 all.0, below-next g o gs ls up.1 all.1)

  window-lines : (ls : Lines M) → Ascends fields_cmp fields_order ls → (gs : List (List Value × M)) → AllByRecursion (λ l. Below gs l.0) ls → window_from none join w width start gs (states_of ls) ≡ gs ++ groups_within none join w width start ls
  window-lines [] up gs all = sym (append-nil gs)
  window-lines (l ∷ ls) up gs all =
      let o = joined_within none join w width start None l.1.states.items in
      ap (λ x. window_from none join w width start x (states_of (l ∷ ls))) (sym (append-nil gs))
      ∙ window-line l.0 gs all.0 (states_of ls) l.1.states.items None
      ∙ window-lines ls up.1 (gs ++ group_entry l.0 o) (below-next l.0 o gs ls up.0 all.1)
      ∙ append_assoc gs (group_entry l.0 o) (groups_within none join w width start ls)

  pub window_is_groups : (ls : Lines M) → Ascends fields_cmp fields_order ls → window_from none join w width start [] (states_of ls) ≡ groups_within none join w width start ls
  window_is_groups ls up = window-lines ls up [] (nothing ls)
    where
      nothing : (ls : Lines M) → AllByRecursion (λ l. Below [] l.0) ls
      nothing [] = tt
      nothing (l ∷ ls) = (tt, nothing ls)

-- a group that comes behind the others
module _ {M : Type 0} (made : M → Type 0) (number : M → ℕ) (g : List Value) where
  pub pushed_made : (o : Option M) (gs : List (List Value × M)) → AllAreMade made gs → IsMadeIf made o → AllAreMade made (gs ++ group_entry g o)
  pushed_made None [] all p = tt
  pushed_made (Some m) [] all p = (p, tt)
  pushed_made o (x ∷ xs) all p = (all.0, pushed_made o xs all.1 p)

  pub pushed_total : (o : Option M) (gs : List (List Value × M)) → total number (gs ++ group_entry g o) ≡ total number gs + number_if number o
  pushed_total None [] = refl
  pushed_total (Some m) [] = omega arith
  pushed_total o (x ∷ xs) = (let s = pushed_total o xs in omega (arith, s))

-- the keys of all states ascend
module _ {M : Type 0} where
  later-panes : (g : List Value) (n : ℕ) (rest : List (Key × M)) → AllByRecursion (λ e. fields_cmp g e.0.1 ≡ Less) rest → (qs : List (ℕ × M)) → AllByRecursion (λ h. n < h.0) qs → AllByRecursion (λ e. key_cmp (n, g) e.0 ≡ Less) (under_group g qs ++ rest)
  later-panes g n [] all [] up = tt
  later-panes g n (e ∷ es) all [] up = (ap (λ o. ordering_then o (nat_cmp n e.0.0)) all.0, later-panes g n es all.1 [] tt)
  later-panes g n rest all (q ∷ qs) up = (ap₂ (λ o p. ordering_then o p) (itself fields_cmp fields_order g) (lesser n q.0 up.0), later-panes g n rest all qs up.1)

  group-ascends : (g : List Value) (rest : List (Key × M)) → AllByRecursion (λ e. fields_cmp g e.0.1 ≡ Less) rest → Ascends key_cmp key_order rest → (qs : List (ℕ × M)) → NumbersRise qs → Ascends key_cmp key_order (under_group g qs ++ rest)
  group-ascends g rest all more [] up = more
  group-ascends g rest all more (q ∷ qs) up = (later-panes g q.0 rest all qs up.0, group-ascends g rest all more qs up.1)

  pub states_ascend : (ls : Lines M) → Ascends fields_cmp fields_order ls → Ascends key_cmp key_order (states_of ls)
  states_ascend [] up = tt
  states_ascend (l ∷ ls) up = group-ascends l.0 (states_of ls) (above-states l.0 ls up.0) (states_ascend ls up.1) l.1.states.items l.1.rises

-- a line that is written anew with the same states
module _ {M : Type 0} (test : List Value → Bool) where
  same-by : (l : List Value × Line M) (ls : Lines M) (line new : Line M) → new.states.items ≡ line.states.items → (b : Bool)
      → cond b (Some l.1) (lookup test ls) ≡ Some line → (lookup test ls ≡ Some line → states_of (set_value test ls new) ≡ states_of ls)
      → states_of (cond b ((l.0, new) ∷ ls) (l ∷ set_value test ls new)) ≡ states_of (l ∷ ls)
  same-by l ls line new e true is ih =
      let own : l.1 ≡ line = inside is in
      ap (λ es. under_group l.0 es ++ states_of ls) (e ∙ sym (ap (λ (z : Line M). z.states.items) own))
    where
      inside : Some l.1 ≡ Some line → l.1 ≡ line
      inside k = cc
  same-by l ls line new e false is ih = ap (λ es. under_group l.0 l.1.states.items ++ es) (ih is)

  pub states_same : (ls : Lines M) (line new : Line M) → lookup test ls ≡ Some line → new.states.items ≡ line.states.items → states_of (set_value test ls new) ≡ states_of ls
  states_same [] line new is e = refl
  states_same (l ∷ ls) line new is e = same-by l ls line new e (test l.0) is (λ k. states_same ls line new k e)

-- what holds of each line
module _ {M : Type 0} (P : Line M → Type 0) where
  abbrev pub AllLines : Lines M → Type 0
  AllLines ls = AllByRecursion (λ l. P l.1) ls

  pub line_found : (test : List Value → Bool) (ls : Lines M) (line : Line M) → lookup test ls ≡ Some line → AllLines ls → P line
  line_found test [] line e all = cc
  line_found test (l ∷ ls) line e all = by (test l.0) e (λ k. line_found test ls line k all.1)
    where
      inside : Some l.1 ≡ Some line → l.1 ≡ line
      inside e = cc

      by : (b : Bool) → cond b (Some l.1) (lookup test ls) ≡ Some line → (lookup test ls ≡ Some line → P line) → P line
      by true e ih = subst P (inside e) all.0
      by false e ih = ih e

  pub lines_set : (test : List Value → Bool) (ls : Lines M) (new : Line M) → AllLines ls → P new → AllLines (set_value test ls new)
  lines_set test [] new all p = tt
  lines_set test (l ∷ ls) new all p = by (test l.0) (lines_set test ls new all.1 p)
    where
      by : (b : Bool) → AllLines (set_value test ls new) → AllLines (cond b ((l.0, new) ∷ ls) (l ∷ set_value test ls new))
      by true ih = (p, all.1)
      by false ih = (all.0, ih)

  pub lines_insert : (g : List Value) (ls : Lines M) (new : Line M) → AllLines ls → P new → AllLines (insert_entry fields_cmp ls g new)
  lines_insert g [] new all p = (p, tt)
  lines_insert g (l ∷ ls) new all p = by (fields_cmp g l.0) (lines_insert g ls new all.1 p)
    where
      by : (o : Ordering) → AllLines (insert_entry fields_cmp ls g new) → AllLines (match_ordering o ((g, new) ∷ l ∷ ls) ((l.0, new) ∷ ls) (l ∷ insert_entry fields_cmp ls g new))
      by Less ih = (p, all)
      by Equal ih = (p, all.1)
      by Greater ih = (all.0, ih)

  pub lines_kept : (ls kept : Lines M) → Keeps (λ g v b w. P v → P w) ls kept → AllLines ls → AllLines kept
  lines_kept [] kept r all = subst AllLines (sym r) tt
  lines_kept (l ∷ ls) kept r all = subst AllLines (sym r.5) (by r.0 (r.3 all.0) (lines_kept ls r.2 r.4 all.1))
    where
      by : (b : Bool) → P r.1 → AllLines r.2 → AllLines (cond b ((l.0, r.1) ∷ r.2) r.2)
      by true p ih = (p, ih)
      by false p ih = ih
