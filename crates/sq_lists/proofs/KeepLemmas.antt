-- What a box gives for streams is a stream: its times are ticks, and don't fall.
use Rattle.std.proofs.Common.{◌≡◌, ℕ, zero, suc, ◌+◌, ◌-◌, ◌/◌, ◌^◌, ◌<◌, ◌≤◌, max, Bool, true, false, cond, List, [], ◌∷◌, ◌++◌, length, map, Option, Some, None, refl, ap, ◌∙◌, arith, tests}
use Rattle.std.specs.Prelude.{if◌then◌else◌, ◌==◌, nat_lt, nat_le}
use Rattle.std.specs.List.{AllByRecursion, filter, cons_option, enumerate_from, flat_map, range_with_len}
use Rattle.std.specs.Option.{IfSome}
use Rattle.std.proofs.lemmas.Option.{IfSome_then}
use Rattle.std.proofs.Math.Nat.{div-zero}
use Rattle.std.proofs.lemmas.List.MinMax.{IsStrictWeakOrder-by_number}
use Rattle.sq_value.specs.declared.Value.{Value}
use Rattle.sq_value.specs.declared.Tuple.{Tuple}
use Rattle.sq_value.specs.Values.{IsStream}
use Rattle.sq_words.specs.Lists.{Rising, ports_from, ports_of, least_by, max_by}
use Rattle.sq_words.proofs.Sorting.{sort_rising, all_sort}
use Rattle.sq_expr.specs.Trees.{Expr}
use Rattle.sq_expr.specs.Expressions.{holds_of, pair_of}
use Rattle.sq_aggfn.specs.Functions.{answers_of}
use Rattle.sq_aggfn.specs.declared.WindowSpec.{WindowSpec}
use Rattle.sq_lists.specs.Boxes.{port_taken, map_list_of}
use Rattle.sq_lists.specs.Merge.{PortTuple, tuple_earlier, merge_tuples, union}
use Rattle.sq_lists.specs.Pairs.{meets, paired, pairs_of, pairs_from, join_list_of}
use Rattle.sq_lists.specs.Sorting.{Numbered, numbered_sooner, retimed, without_number, tuple_if, sorted_within, without_late, bsort_list_of}
use Rattle.sq_lists.specs.Sorters.{timed}
use Rattle.sq_aggfn.specs.Windows.{start_of, started}
use Rattle.sq_aggfn.proofs.StartLemmas.{starts_before}
use Rattle.sq_lists.specs.Windows.{groups_of, in_group, in_window, window_results, aggregate_of}
use Rattle.sq_lists.specs.WindowParts.{TimesNotFalling}
use Rattle.sq_lists.specs.Keeps.{KeepStreams}
use Rattle.sq_lists.proofs.LeastLemmas.{holds-least}
use Rattle.sq_lists.proofs.NearLemmas.{resample_keeps}
use Rattle.sq_lists.proofs.SorterFacts.{timed-is}
use Rattle.sq_lists.proofs.WindowLemmas.{stream_rises, stream_ticks}
use Rattle.sq_words.proofs.Alls.{all_weaker, all_push, all_filter}

abbrev IsTick : Tuple → Type 0
IsTick x = x.time < 2 ^ 40

-- a stream with no time below `least`
abbrev StreamFrom : ℕ → List Tuple → Type 0
StreamFrom least [] = Unit {0}
StreamFrom least (x ∷ xs) = (least ≤ x.time) × IsTick x × StreamFrom x.time xs

stream-is : (least : ℕ) (xs : List Tuple) → StreamFrom least xs → IsStream xs
stream-is least [] h = tt
stream-is least (x ∷ []) h = h.1
stream-is least (x ∷ y ∷ rest) h = (h.2.0, stream-is x.time (y ∷ rest) h.2)

stream-from : (least : ℕ) (xs : List Tuple) → TimesNotFalling least xs → AllByRecursion IsTick xs → StreamFrom least xs
stream-from least [] up all = tt
stream-from least (x ∷ xs) up all = (up.0, all.0, stream-from x.time xs up.1 all.1)

from-lower : (a b : ℕ) (xs : List Tuple) → a ≤ b → StreamFrom b xs → StreamFrom a xs
from-lower a b [] le h = tt
from-lower a b (x ∷ xs) le h = (omega (arith, le, h.0), h.1, h.2)

-- Filter
filter-from : (p : Tuple → Bool) (least : ℕ) (xs : List Tuple) → StreamFrom least xs → StreamFrom least (filter p xs)
filter-from p least [] h = tt
filter-from p least (x ∷ xs) h =
    elim (p x) as (λ b. StreamFrom least (cond b (x ∷ filter p xs) (filter p xs))) [
      | true ↦ (h.0, h.1, filter-from p x.time xs h.2)
      | false ↦ filter-from p least xs (from-lower least x.time xs h.0 h.2)
    ]

filter_keeps : (p : Tuple → Bool) (xs : List Tuple) → IsStream xs → IsStream (filter p xs)
filter_keeps p xs h = stream-is 0 (filter p xs) (filter-from p 0 xs (stream-from 0 xs (stream_rises xs h) (stream_ticks xs h)))

-- Map
map_keeps : (es : List Expr) (xs : List Tuple) → IsStream xs → IsStream (map_list_of es xs)
map_keeps es [] h = tt
map_keeps es (x ∷ []) h = h
map_keeps es (x ∷ y ∷ rest) h = (h.0, map_keeps es (y ∷ rest) h.1)

-- Union
ports-ticks : (port : ℕ) (ins : List (List Tuple)) → AllByRecursion IsStream ins → AllByRecursion (λ e. IsTick e.1) (ports_from port ins)
ports-ticks port [] all = tt
ports-ticks port (xs ∷ rest) all = onto xs (stream_ticks xs all.0) (ports-ticks (port + 1) rest all.1)
  where
    onto : (xs : List Tuple) → AllByRecursion IsTick xs → AllByRecursion (λ e. IsTick e.1) (ports_from (port + 1) rest)
        → AllByRecursion (λ e. IsTick e.1) (map (λ x. (port, x)) xs ++ ports_from (port + 1) rest)
    onto [] ticks more = more
    onto (x ∷ xs) ticks more = (ticks.0, onto xs ticks.1 more)

entries-from : (least : ℕ) (es : List PortTuple) → AllByRecursion (λ e. least ≤ (e.1).time) es → AllByRecursion (λ e. IsTick e.1) es → Rising tuple_earlier es
    → StreamFrom least (map (λ e. e.1) es)
entries-from least [] low ticks up = tt
entries-from least (e ∷ es) low ticks up =
    let later = all_weaker (λ f. tuple_earlier f e ≡ false) (λ f. (e.1).time ≤ (f.1).time) (λ f h. not-before (f.1).time (e.1).time h) es up.0 in
    (low.0, ticks.0, entries-from (e.1).time es later ticks.1 up.1)
  where
    not-before : (a b : ℕ) → nat_lt a b ≡ false → b ≤ a
    not-before a b h = grind (arith, tests)

merge-from : (ins : List (List Tuple)) → AllByRecursion IsStream ins → StreamFrom 0 (union ins)
merge-from ins all =
    let sorted = merge_tuples ins in
    let any = all_weaker (λ e. IsTick e.1) (λ e. 0 ≤ (e.1).time) (λ e h. omega arith) in
    let ticks = all_sort (λ e. IsTick e.1) tuple_earlier (ports_of ins) (ports-ticks 0 ins all) in
    entries-from 0 sorted (any sorted ticks) ticks (sort_rising tuple_earlier (IsStrictWeakOrder-by_number (λ e. (e.1).time)) (ports_of ins))

union_keeps : (ins : List (List Tuple)) → AllByRecursion IsStream ins → IsStream (union ins)
union_keeps ins all = stream-is 0 (union ins) (merge-from ins all)

-- BSort
retimed-ticks : (by : ℕ) (xs : List Tuple) → AllByRecursion IsTick xs → AllByRecursion IsTick (retimed by xs)
retimed-ticks by [] all = tt
retimed-ticks by (x ∷ xs) all = let tick = all.0 in
    onto (timed by x) (IfSome_then (timed by x) (timed-is by x) (λ y h. omega (arith, h.0, tick))) (retimed-ticks by xs all.1)
  where
    onto : (o : Option Tuple) → IfSome o IsTick → AllByRecursion IsTick (retimed by xs) → AllByRecursion IsTick (cons_option o (retimed by xs))
    onto None h more = more
    onto (Some y) h more = (h, more)

enumerate-ticks : (n : ℕ) (xs : List Tuple) → AllByRecursion IsTick xs → AllByRecursion (λ a. IsTick a.1) (enumerate_from n xs)
enumerate-ticks n [] all = tt
enumerate-ticks n (x ∷ xs) all = (all.0, enumerate-ticks (n + 1) xs all.1)

All-without : (P : Numbered → Type 0) (o : Option Numbered) (rest : List Numbered) → AllByRecursion P rest → AllByRecursion P (without_number o rest)
All-without P None rest all = all
All-without P (Some a) rest all = all_filter P _ rest all

chosen-ticks : (slack j count : ℕ) (rest : List Numbered) → AllByRecursion (λ a. IsTick a.1) rest → AllByRecursion IsTick (sorted_within slack j count rest)
chosen-ticks slack j zero rest all = tt
chosen-ticks slack j (suc count) rest all =
    let near = filter (λ a. nat_le a.0 (j + slack)) rest in
    let next = least_by numbered_sooner near in
    let least = holds-least numbered_sooner (λ a. IsTick a.1) near (all_filter (λ a. IsTick a.1) (λ a. nat_le a.0 (j + slack)) rest all) in
    onto next (sorted_within slack (j + 1) count (without_number next rest)) least (chosen-ticks slack (j + 1) count (without_number next rest) (All-without (λ a. IsTick a.1) next rest all))
  where
    onto : (o : Option Numbered) (more : List Tuple) → IfSome o (λ a. IsTick a.1) → AllByRecursion IsTick more → AllByRecursion IsTick (tuple_if o ++ more)
    onto None more h all = all
    onto (Some a) more h all = (h, all)

late-from : (latest : ℕ) (xs : List Tuple) → AllByRecursion IsTick xs → StreamFrom latest (without_late latest xs)
late-from latest [] all = tt
late-from latest (x ∷ xs) all = by_test (nat_lt x.time latest) refl (late-from (max latest x.time) xs all.1)
  where
    by_test : (b : Bool) → nat_lt x.time latest ≡ b → StreamFrom (max latest x.time) (without_late (max latest x.time) xs)
        → StreamFrom latest ((if b then [] else x ∷ []) ++ without_late (max latest x.time) xs)
    by_test true e more = from-lower latest (max latest x.time) (without_late (max latest x.time) xs) (omega arith) more
    by_test false e more =
        (grind (arith, tests), all.0, from-lower x.time (max latest x.time) (without_late (max latest x.time) xs) (omega arith) more)

bsort_keeps : (by slack : ℕ) (xs : List Tuple) → IsStream xs → IsStream (bsort_list_of by slack xs)
bsort_keeps by slack xs h =
    let found = retimed by xs in
    let count = length found in
    let items = enumerate_from 0 found in
    let ticks = enumerate-ticks 0 found (retimed-ticks by xs (stream_ticks xs h)) in
    stream-is 0 (bsort_list_of by slack xs) (late-from 0 (sorted_within slack 0 count items) (chosen-ticks slack 0 count items ticks))

-- Aggregate
max-tick : (xs : List Tuple) → AllByRecursion IsTick xs → max_by (λ x. x.time) xs < 2 ^ 40
max-tick [] all = omega arith
max-tick (x ∷ xs) all = let first = all.0 in let later = max-tick xs all.1 in omega (arith, first, later)

module _ (answers : List Tuple → List Value) (by : List ℕ) (w : WindowSpec) (xs : List Tuple) where
  -- the results of a window, and then those of later ones
  window-from : (start : ℕ) (more : List Tuple) → start < 2 ^ 40 → StreamFrom start more → StreamFrom start (window_results answers by start (in_window w start xs) ++ more)
  window-from start more tick h = onto (groups_of by (in_window w start xs))
    where
      onto : (gs : List (List Value)) → StreamFrom start (map (λ g. record { time = start; fields = g ++ answers (in_group by g (in_window w start xs)) }) gs ++ more)
      onto [] = h
      onto (g ∷ gs) = (omega arith, tick, onto gs)

  windows-from : (a n : ℕ) → ((k : ℕ) → k < a + n → start_of w k < 2 ^ 40)
      → StreamFrom (start_of w a) (flat_map (λ s. window_results answers by s (in_window w s xs)) (map (start_of w) (range_with_len a n)))
  windows-from a zero ticks = tt
  windows-from a (suc n) ticks =
      let later = windows-from (a + 1) n (λ k h. ticks k (omega (arith, h))) in
      window-from (start_of w a) _ (ticks a (omega arith)) (from-lower (start_of w a) (start_of w (a + 1)) _ (grind arith) later)

  aggregate_keeps : IsStream xs → IsStream (aggregate_of answers by w xs)
  aggregate_keeps h =
      let last = max_by (λ x. x.time) xs in
      stream-is (start_of w 0) (aggregate_of answers by w xs) (windows-from 0 (started w last) (λ k few. start-tick k last few (max-tick xs (stream_ticks xs h))))
    where
      start-tick : (k last : ℕ) → k < 0 + started w last → last < 2 ^ 40 → start_of w k < 2 ^ 40
      start-tick k last few tick = moving w.advance refl
        where
          moving : (a : ℕ) → w.advance ≡ a → start_of w k < 2 ^ 40
          moving zero e = absurd (none (ap (λ n. (last + n - w.phase) / n) e ∙ div-zero (last + 0 - w.phase)))
            where
              none : started w last ≡ 0 → ⊥
              none z = omega (arith, few, z)
          moving (suc a) e = let early : start_of w k ≤ last = starts_before w (omega (arith, e)) last k (omega (arith, few)) in omega (arith, early, tick)

-- Join
abbrev NoneAfter : ℕ → List PortTuple → Type 0
NoneAfter time before = AllByRecursion (λ b. (b.1).time ≤ time) before

none-after : (time : ℕ) (before : List PortTuple) (now : PortTuple) → time ≤ (now.1).time → NoneAfter time before → NoneAfter (now.1).time (before ++ now ∷ [])
none-after time before now le all =
    all_push (λ b. (b.1).time ≤ (now.1).time) before now (all_weaker (λ b. (b.1).time ≤ time) (λ b. (b.1).time ≤ (now.1).time) (λ b h. omega (arith, h, le)) before all) (omega arith)

-- a pair with an earlier one has the time of the later one
paired-time : (now b : PortTuple) → (b.1).time ≤ (now.1).time → (paired now b).time ≡ (now.1).time
paired-time now b le =
    elim (now.0 == 0) as (λ c. (if c then pair_of now.1 b.1 else pair_of b.1 now.1).time ≡ (now.1).time) [
      | true ↦ omega (arith, le)
      | false ↦ omega (arith, le)
    ]

module _ (size : ℕ) (on : Expr) where
  paired-times : (time : ℕ) (now : PortTuple) (bs : List PortTuple) → time ≤ (now.1).time → NoneAfter time bs → AllByRecursion (λ p. p.time ≡ (now.1).time) (map (paired now) bs)
  paired-times time now [] le all = tt
  paired-times time now (b ∷ bs) le all = (let early = all.0 in paired-time now b (omega (arith, early, le)), paired-times time now bs le all.1)

  pairs-times : (time : ℕ) (now : PortTuple) (before : List PortTuple) → time ≤ (now.1).time → NoneAfter time before → AllByRecursion (λ p. p.time ≡ (now.1).time) (pairs_of size on before now)
  pairs-times time now before le all =
      let met = filter (meets size now) before in
      all_filter (λ p. p.time ≡ (now.1).time) (holds_of on) (map (paired now) met)
      (paired-times time now met le (all_filter (λ b. (b.1).time ≤ time) (meets size now) before all))

  -- tuples of one time, and then later ones
  same-time : (time : ℕ) (ps more : List Tuple) → time < 2 ^ 40 → AllByRecursion (λ p. p.time ≡ time) ps → StreamFrom time more → StreamFrom time (ps ++ more)
  same-time time [] more tick same h = h
  same-time time (p ∷ ps) more tick same h =
      let is = same.0 in
      (omega (arith, is), omega (arith, is, tick), from-lower p.time time (ps ++ more) (omega (arith, is)) (same-time time ps more tick same.1 h))

  pairs_from-from : (time : ℕ) (before es : List PortTuple) → NoneAfter time before → StreamFrom time (map (λ e. e.1) es) → StreamFrom time (pairs_from size on before es)
  pairs_from-from time before [] early h = tt
  pairs_from-from time before (now ∷ later) early h =
      let le = h.0 in
      let rest = pairs_from size on (before ++ now ∷ []) later in
      from-lower time (now.1).time (pairs_of size on before now ++ rest) le
      (same-time (now.1).time (pairs_of size on before now) rest h.1 (pairs-times time now before le early)
      (pairs_from-from (now.1).time (before ++ now ∷ []) later (none-after time before now le early) h.2))

  join_keeps : (left right : List Tuple) → IsStream left → IsStream right → IsStream (join_list_of size on left right)
  join_keeps left right l r =
      let both = left ∷ right ∷ [] in
      stream-is 0 (join_list_of size on left right) (pairs_from-from 0 [] (merge_tuples both) tt (merge-from both (l, (r, tt))))

pub keep_streams : KeepStreams
keep_streams = record {
  filter = λ ps port xs h. filter_keeps (λ x. port_taken ps x == port) xs h;
  map = map_keeps;
  union = union_keeps;
  bsort = bsort_keeps;
  aggregate = λ fs by w xs h. aggregate_keeps (answers_of fs) by w xs h;
  join = join_keeps;
  resample = resample_keeps;
}
