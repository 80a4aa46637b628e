-- Where the tuples of a full list come from: each kind of box keeps what holds of the times, and an Aggregate goes back by its size less one.
use Rattle.std.proofs.Common.{◌≡◌, ℕ, ◌+◌, ◌-◌, ◌≤◌, ◌<◌, leb, ltb, Bool, true, false, cond, ◌&&◌, List, [], ◌∷◌, ◌++◌, map, refl, ap, inl, inr, arith}
use Rattle.std.proofs.lemmas.Bool.Decides.{nat_tests}
use Rattle.std.specs.List.{flat_map, AllByRecursion}
use Rattle.sq_value.specs.declared.Value.{Value}
use Rattle.sq_value.specs.declared.Tuple.{Tuple}
use Rattle.sq_words.specs.Lists.{max_by, numbers_to}
use Rattle.sq_expr.specs.Trees.{Expr}
use Rattle.sq_aggfn.specs.declared.WindowSpec.{WindowSpec}
use Rattle.sq_aggfn.specs.Windows.{start_of, started}
use Rattle.sq_lists.specs.Boxes.{mapped, map_list_of}
use Rattle.sq_lists.specs.Merge.{union}
use Rattle.sq_lists.specs.Windows.{in_window, in_group, groups_of, window_results, aggregate_of}
use Rattle.sq_place.specs.Ranks.{Somewhere}
use Rattle.sq_model.proofs.Alls.{time_of, union-sorted, by_key, All-append, All-mapped, All-every, All-sorted, All-joined}
use Rattle.sq_below.proofs.ArcWords.{AllTimes, IsNear}
use Rattle.sq_words.proofs.Alls.{all_weaker}

pub Somewhere-weaker : {X : Type 0} (P Q : X → Type 0) → ((x : X) → P x → Q x) → (xs : List X) → Somewhere P xs → Somewhere Q xs
Somewhere-weaker P Q h [] i = absurd i
Somewhere-weaker P Q h (x ∷ xs) (inl p) = inl (h x p)
Somewhere-weaker P Q h (x ∷ xs) (inr i) = inr (Somewhere-weaker P Q h xs i)

pub times-map : (P : ℕ → Type 0) (es : List Expr) (xs : List Tuple) → AllTimes P xs → AllTimes P (map_list_of es xs)
times-map P es xs h = All-mapped (λ x. P x.time) (mapped es) xs h

pub times-union : (P : ℕ → Type 0) (ins : List (List Tuple)) → AllByRecursion (AllTimes P) ins → AllTimes P (union ins)
times-union P ins h = rw (union-sorted ins) (All-sorted (λ x. P x.time) (by_key time_of) (flat_map (λ xs. xs) ins) (All-joined (λ x. P x.time) ins h))

-- what holds of each start of a window with a tuple in it holds of each result's time
results-times : (P : ℕ → Type 0) (answers : List Tuple → List Value) (group : List ℕ) (s : ℕ) (inside : List Tuple) → (Somewhere (λ (x : Tuple). Unit {0}) inside → P s) → AllTimes P (window_results answers group s inside)
results-times P answers group s [] h = tt
results-times P answers group s (x ∷ xs) h =
    All-mapped (λ y. P y.time) (λ (g : List Value). record { time = s; fields = g ++ answers (in_group group g (x ∷ xs)) }) (groups_of group (x ∷ xs))
    (All-every (λ (g : List Value). P s) (λ g. h (inl tt)) (groups_of group (x ∷ xs)))

-- a tuple of a window is a tuple of the list
from-window : (w : WindowSpec) (s : ℕ) (xs : List Tuple) → Somewhere (λ (x : Tuple). Unit {0}) (in_window w s xs) → Somewhere (λ x. (s ≤ x.time) × (x.time < s + w.size)) xs
from-window w s [] i = absurd i
from-window w s (x ∷ xs) i = by (from-window w s xs) (leb s x.time && ltb x.time (s + w.size)) refl i
  where
    lem : (t z : ℕ) → (leb s t && ltb t (s + z)) ≡ true → (s ≤ t) × (t < s + z)
    lem t z h = (low t z h, high t z h)
      where
        low : (t z : ℕ) → (leb s t && ltb t (s + z)) ≡ true → s ≤ t
        low t z h = grind (arith, nat_tests)

        high : (t z : ℕ) → (leb s t && ltb t (s + z)) ≡ true → t < s + z
        high t z h = grind (arith, nat_tests)

    by : (Somewhere (λ (x : Tuple). Unit {0}) (in_window w s xs) → Somewhere (λ x. (s ≤ x.time) × (x.time < s + w.size)) xs) → (b : Bool) → (leb s x.time && ltb x.time (s + w.size)) ≡ b
        → Somewhere (λ (x : Tuple). Unit {0}) (cond b (x ∷ in_window w s xs) (in_window w s xs)) → Somewhere (λ x. (s ≤ x.time) × (x.time < s + w.size)) (x ∷ xs)
    by more true e i = inl (lem x.time w.size e)
    by more false e i = inr (more i)

pub times-aggregate : (P : ℕ → Type 0) (answers : List Tuple → List Value) (group : List ℕ) (w : WindowSpec) (xs : List Tuple)
    → ((k : ℕ) → Somewhere (λ x. (start_of w k ≤ x.time) × (x.time < start_of w k + w.size)) xs → P (start_of w k)) → AllTimes P (aggregate_of answers group w xs)
times-aggregate P answers group w xs h = starts (numbers_to (started w (max_by (λ x. x.time) xs)))
  where
    starts : (ks : List ℕ) → AllTimes P (flat_map (λ s. window_results answers group s (in_window w s xs)) (map (start_of w) ks))
    starts [] = tt
    starts (k ∷ ks) =
        All-append (λ x. P x.time) (window_results answers group (start_of w k) (in_window w (start_of w k) xs)) (flat_map (λ s. window_results answers group s (in_window w s xs)) (map (start_of w) ks))
        (results-times P answers group (start_of w k) (in_window w (start_of w k) xs) (λ i. h k (from-window w (start_of w k) xs i)))
        (starts ks)

-- a tuple of a list of whose times P holds
pub at-some : (P : ℕ → Type 0) (Q : Tuple → Type 0) (xs : List Tuple) → AllTimes P xs → Somewhere Q xs → (x : Tuple) × P x.time × Q x
at-some P Q [] all i = absurd i
at-some P Q (x ∷ xs) all (inl q) = (x, all.0, q)
at-some P Q (x ∷ xs) all (inr i) = at-some P Q xs all.1 i

-- the stream itself is at no distance
pub near-itself : (above : List Tuple) → AllTimes (IsNear above 0) above
near-itself above = every above (λ x i. i)
  where
    every : (xs : List Tuple) → ((x : Tuple) → Somewhere (λ y. y ≡ x) xs → Somewhere (λ y. y ≡ x) above) → AllTimes (IsNear above 0) xs
    every [] h = tt
    every (x ∷ xs) h = (
      Somewhere-weaker (λ y. y ≡ x) (λ y. (x.time ≤ y.time) × (y.time ≤ x.time + 0)) (λ y e. let t : y.time ≡ x.time = ap (λ z. z.time) e in (omega arith, omega arith)) above (h x (inl refl)),
      every xs (λ y i. h y (inr i)),
    )

pub near-farther : (above : List Tuple) (d e : ℕ) → d ≤ e → (xs : List Tuple) → AllTimes (IsNear above d) xs → AllTimes (IsNear above e) xs
near-farther above d e le xs h =
    all_weaker (λ x. IsNear above d x.time) (λ x. IsNear above e x.time)
    (λ x i. Somewhere-weaker (λ y. (x.time ≤ y.time) × (y.time ≤ x.time + d)) (λ y. (x.time ≤ y.time) × (y.time ≤ x.time + e)) (λ y p. let a = p.0 in let b = p.1 in (a, omega (arith, le, b))) above i) xs h

-- the second fact, for an Aggregate
pub near-aggregate : (above : List Tuple) (d : ℕ) (answers : List Tuple → List Value) (group : List ℕ) (w : WindowSpec) (xs : List Tuple)
    → AllTimes (IsNear above d) xs → AllTimes (IsNear above (d + (w.size - 1))) (aggregate_of answers group w xs)
near-aggregate above d answers group w xs h = times-aggregate (IsNear above (d + (w.size - 1))) answers group w xs (λ k i. back (start_of w k) i)
  where
    back : (s : ℕ) → Somewhere (λ x. (s ≤ x.time) × (x.time < s + w.size)) xs → IsNear above (d + (w.size - 1)) s
    back s i =
        let found = at-some (IsNear above d) (λ x. (s ≤ x.time) × (x.time < s + w.size)) xs h i in
        let t = found.0.time in let low : s ≤ t = found.2.0 in let high : t < s + w.size = found.2.1 in
        Somewhere-weaker (λ y. (t ≤ y.time) × (y.time ≤ t + d)) (λ y. (s ≤ y.time) × (y.time ≤ s + (d + (w.size - 1)))) (λ y p. let a = p.0 in let b = p.1 in (omega (arith, a, low), omega (arith, b, high, low))) above found.1
