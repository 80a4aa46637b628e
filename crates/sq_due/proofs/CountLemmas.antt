-- Lines are counted as they come.
use Rattle.std.proofs.Common.{◌≡◌, ◌≢◌, ◌⊎◌, inl, inr, ℕ, zero, suc, ◌+◌, ◌<◌, Bool, true, false, eqb, cond, List, [], ◌∷◌, ◌++◌, length, map, set, get_or, replicate, take, refl, ap, sym, ◌∙◌, subst, arith, append_assoc, append-nil, length-append}
use Rattle.std.specs.List.{AllByRecursion}
use Rattle.std.proofs.lemmas.Bool.{cases_eq}
use Rattle.std.proofs.lemmas.List.{get_or-replicate, get_or-set_other, length-replicate, length-set, take_more}
use Rattle.std.proofs.lemmas.List.FromFn.{fill_by_all, get_or-map-range_with_len}
use Rattle.std.proofs.lemmas.Grind.{get_or-set_at}
use Rattle.sq_value.specs.declared.Tuple.{Tuple}
use Rattle.sq_words.specs.Lists.{numbers_to}
use Rattle.sq_left.proofs.MergeLemmas.{eqb-not}
use Rattle.sq_oper.specs.declared.outs.Decision.{Decision}
use Rattle.sq_oper.specs.declared.outs.Event.{Event}
use Rattle.sq_oper.specs.declared.outs.Event.TheVariants.{Line, Dropped, Plan}
use Rattle.sq_flow.specs.Events.{IsEventIn, drops_of, lines_of}
use Rattle.sq_flow.proofs.DropLemmas.{drops-drop, drops-plan, lines-drop}
use Rattle.sq_flow.proofs.EventLemmas.{drops-line, lines-append, lines-push}
use Rattle.sq_due.specs.declared.counting.Counts.{Counts}
use Rattle.sq_due.specs.Counting.{AreCountsOf, Counted}
use Rattle.sq_words.proofs.Numbers.{eqb_true}

-- these are f of 0, 1, ..
abbrev AreOf : (ℕ → ℕ) → List ℕ → Type 0
AreOf f xs = xs ≡ map f (numbers_to (length xs))

module _ (f : ℕ → ℕ) (xs : List ℕ) where
  at_place : AreOf f xs → (k : ℕ) → k < length xs → get_or xs k 0 ≡ f k
  at_place are k low = ap (λ ys. get_or ys k 0) are ∙ get_or-map-range_with_len f 0 (length xs) k k 0 low (omega arith)

  pub no_counts : (many : ℕ) → xs ≡ replicate many 0 → ((k : ℕ) → f k ≡ 0) → AreOf f xs
  no_counts many none zero_all = fill_by_all f xs (length xs) 0 refl (λ k low. none_at k low ∙ sym (zero_all k))
    where
      none_at : (k : ℕ) → k < length xs → get_or xs k 0 ≡ 0
      none_at k low =
          let count : length xs ≡ many = ap (λ (ys : List ℕ). length ys) none ∙ length-replicate many 0 in
          ap (λ ys. get_or ys k 0) none ∙ get_or-replicate many k 0 0 (omega (arith, low, count))

  module _ (g : ℕ → ℕ) (are : AreOf f xs) where
    -- nothing more
    pub same_counts : ((k : ℕ) → g k ≡ f k) → AreOf g xs
    same_counts same = fill_by_all g xs (length xs) 0 refl (λ k low. at_place are k low ∙ sym (same k))

    -- one more at a place
    pub one_count : (at : ℕ) → at < length xs → g at ≡ f at + 1 → ((k : ℕ) → k ≢ at → g k ≡ f k) → AreOf g (set xs at (get_or xs at 0 + 1))
    one_count at low here other =
        let new = set xs at (get_or xs at 0 + 1) in
        let many = length-set xs at (get_or xs at 0 + 1) in
        fill_by_all g new (length new) 0 refl (λ k below. by k (omega (arith, below, many)) (cases_eq k at))
      where
        by : (k : ℕ) → k < length xs → (k ≡ at) ⊎ (k ≢ at) → get_or (set xs at (get_or xs at 0 + 1)) k 0 ≡ g k
        by k below (inl same) =
            get_or-set_at xs at k (get_or xs at 0 + 1) 0 same low ∙ ap (λ n. n + 1) (at_place are at low) ∙ sym here ∙ ap g (sym same)
        by k below (inr differs) = get_or-set_other xs at k (get_or xs at 0 + 1) 0 differs ∙ at_place are k below ∙ sym (other k differs)

module _ (history : List Event) where
  abbrev lines_in : ℕ → ℕ
  lines_in o = length (lines_of o history)

  abbrev drops_in : ℕ → ℕ
  drops_in w = length (drops_of w history)

module _ (history : List Event) (output : ℕ) (tuple : Tuple) where
  abbrev with_line : List Event
  with_line = history ++ Line output tuple ∷ []

  line_here : lines_in with_line output ≡ lines_in history output + 1
  line_here =
      ap (λ (xs : List Tuple). length xs) (lines-push output output history tuple)
      ∙ length-append (lines_of output history) (cond (eqb output output) (tuple ∷ []) [])
      ∙ ap (λ b. lines_in history output + length (cond b (tuple ∷ []) [])) (eqb_true output output refl)

  line_other : (o : ℕ) → o ≢ output → lines_in with_line o ≡ lines_in history o
  line_other o differs =
      ap (λ (xs : List Tuple). length xs) (lines-push o output history tuple
      ∙ ap (λ b. lines_of o history ++ cond b (tuple ∷ []) []) (eqb-not output o (λ e. differs (sym e)))
      ∙ append-nil (lines_of o history))

module _ (history : List Event) (d : Decision) where
  abbrev with_drop : List Event
  with_drop = history ++ Dropped d ∷ []

  drop_is : (w : ℕ) (b : Bool) → eqb d.drop w ≡ b → drops_in with_drop w ≡ drops_in history w + length (cond b (d ∷ []) [])
  drop_is w b e =
      ap (λ (xs : List Decision). length xs) (drops-drop w history d ∙ ap (λ xs. drops_of w history ++ xs) (append-nil (cond (eqb d.drop w) (d ∷ []) [])))
      ∙ length-append (drops_of w history) (cond (eqb d.drop w) (d ∷ []) [])
      ∙ ap (λ t. drops_in history w + length (cond t (d ∷ []) [])) e

  drop_here : drops_in with_drop d.drop ≡ drops_in history d.drop + 1
  drop_here = drop_is d.drop true (eqb_true d.drop d.drop refl)

  drop_other : (w : ℕ) → w ≢ d.drop → drops_in with_drop w ≡ drops_in history w
  drop_other w differs = let is = drop_is w false (eqb-not d.drop w (λ e. differs (sym e))) in omega (arith, is)

-- one event more
module _ (before now : Counts) where
  pub line_counted : (output : ℕ) (tuple : Tuple) → output < length before.lines.items → now.drops.items ≡ before.drops.items
      → now.lines.items ≡ set before.lines.items output (get_or before.lines.items output 0 + 1) → Counted (Line output tuple ∷ []) before now
  line_counted output tuple low same one = record {
    lines = ap (λ (xs : List ℕ). length xs) one ∙ length-set before.lines.items output (get_or before.lines.items output 0 + 1);
    drops = ap (λ (xs : List ℕ). length xs) same;
    more = λ history are. record {
      lines = subst (AreOf (lines_in (with_line history output tuple))) (sym one)
          (one_count (lines_in history) before.lines.items (lines_in (with_line history output tuple)) are.lines output low
          (line_here history output tuple) (line_other history output tuple));
      drops = subst (AreOf (drops_in (with_line history output tuple))) (sym same)
          (same_counts (drops_in history) before.drops.items (drops_in (with_line history output tuple)) are.drops
          (λ w. ap (λ (xs : List Decision). length xs) (drops-line w history output tuple)));
    };
  }

  pub drop_counted : (d : Decision) → d.drop < length before.drops.items → now.lines.items ≡ before.lines.items
      → now.drops.items ≡ set before.drops.items d.drop (get_or before.drops.items d.drop 0 + 1) → Counted (Dropped d ∷ []) before now
  drop_counted d low same one = record {
    lines = ap (λ (xs : List ℕ). length xs) same;
    drops = ap (λ (xs : List ℕ). length xs) one ∙ length-set before.drops.items d.drop (get_or before.drops.items d.drop 0 + 1);
    more = λ history are. record {
      lines = subst (AreOf (lines_in (with_drop history d))) (sym same)
          (same_counts (lines_in history) before.lines.items (lines_in (with_drop history d)) are.lines
          (λ o. ap (λ (xs : List Tuple). length xs) (lines-drop o history d)));
      drops = subst (AreOf (drops_in (with_drop history d))) (sym one)
          (one_count (drops_in history) before.drops.items (drops_in (with_drop history d)) are.drops d.drop low (drop_here history d) (drop_other history d));
    };
  }

  pub plan_counted : (epoch load capacity saved : ℕ) (fits : Bool) → now ≡ before → Counted (Plan epoch load capacity saved fits ∷ []) before now
  plan_counted epoch load capacity saved fits same =
      subst (λ (c : Counts). Counted (Plan epoch load capacity saved fits ∷ []) before c) (sym same) (record {
        lines = refl;
        drops = refl;
        more = λ history are. record {
          lines = same_counts (lines_in history) before.lines.items (lines_in (history ++ Plan epoch load capacity saved fits ∷ [])) are.lines
              (λ o. ap (λ (xs : List Tuple). length xs) (lines-append o history (Plan epoch load capacity saved fits ∷ []) ∙ append-nil (lines_of o history)));
          drops = same_counts (drops_in history) before.drops.items (drops_in (history ++ Plan epoch load capacity saved fits ∷ [])) are.drops
              (λ w. ap (λ (xs : List Decision). length xs) (drops-plan w history epoch load capacity saved fits));
        };
      })

pub none_counted : (counts : Counts) → Counted [] counts counts
none_counted counts = record {
  lines = refl;
  drops = refl;
  more = λ history are. subst (λ xs. AreCountsOf xs counts) (sym (append-nil history)) are;
}

pub both_counted : (xs ys : List Event) (before mid now : Counts) → Counted xs before mid → Counted ys mid now → Counted (xs ++ ys) before now
both_counted xs ys before mid now first second = record {
  lines = second.lines ∙ first.lines;
  drops = second.drops ∙ first.drops;
  more = λ history are. subst (λ zs. AreCountsOf zs now) (append_assoc history xs ys) (second.more (history ++ xs) (first.more history are));
}

all_at : {X : Type 0} (P : X → Type 0) (xs : List X) (i : ℕ) (d : X) → i < length xs → AllByRecursion P xs → P (get_or xs i d)
all_at P [] i d low all = absurd (omega (arith, low))
all_at P (x ∷ xs) zero d low all = all.0
all_at P (x ∷ xs) (suc i) d low all = all_at P xs i d (omega (arith, low)) all.1

-- an event of a list has its count
pub there_at : (events : List Event) (i : ℕ) (x : Event) (before mid : Counts) (front : List Event) → i < length events → x ≡ get_or events i x → Counted front before mid
    → AllByRecursion (IsEventIn (length before.lines.items) (length before.drops.items)) events → IsEventIn (length mid.lines.items) (length mid.drops.items) x
there_at events i x before mid front inside at counted all =
    let here = subst (IsEventIn (length before.lines.items) (length before.drops.items)) (sym at) (all_at (IsEventIn (length before.lines.items) (length before.drops.items)) events i x inside all) in
    rw (counted.lines, counted.drops) here

-- one event more of a list
pub next_counted : (events : List Event) (i : ℕ) (x : Event) (before mid now : Counts) → i < length events → x ≡ get_or events i x
    → Counted (take i events) before mid → Counted (x ∷ []) mid now → Counted (take (i + 1) events) before now
next_counted events i x before mid now inside at first second =
    subst (λ xs. Counted xs before now) (sym (take_more events i x inside ∙ ap (λ y. take i events ++ y ∷ []) (sym at)))
    (both_counted (take i events) (x ∷ []) before mid now first second)
