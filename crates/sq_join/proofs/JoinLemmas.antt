-- The law of a Join: what it gives for a tuple, what it holds then, and that no more is needed.
use Rattle.std.proofs.Common.{◌≡◌, ℕ, ◌+◌, ◌-◌, ◌<◌, ◌≤◌, ◌^◌, max, true, false, cond, ◌⊎◌, inl, inr, IsTrue, List, [], ◌∷◌, ◌++◌, length, Option, Some, None, refl, ap, ap₂, sym, ◌∙◌, append-nil, append_assoc, length-append, zero-le, arith, tests}
use Rattle.std.specs.Prelude.{if◌then◌else◌, nat_le, ◌==◌}
use Rattle.std.specs.List.{AllByRecursion}
use Rattle.std.proofs.lemmas.Bool.{and_parts}
use Rattle.sq_value.specs.declared.Value.{Value}
use Rattle.sq_value.specs.declared.Tuple.{Tuple}
use Rattle.sq_words.specs.Lists.{IsPrefixOf}
use Rattle.sq_value.specs.Values.{Columns}
use Rattle.sq_expr.specs.Trees.{Expr}
use Rattle.sq_expr.specs.Expressions.{holds_of, pair_of}
use Rattle.sq_item.specs.declared.Mark.{Mark}
use Rattle.sq_item.specs.declared.Item.{Item}
use Rattle.sq_item.specs.SoundItems.{IsSoundItem}
use Rattle.sq_item.specs.Things.{Thing, mark_part, body_part}
use Rattle.sq_lists.specs.Pairs.{pairs_from, join_list_of}
use Rattle.sq_lists.specs.Sides.{held_on_sides, recent, pair_at, pairs_with, against, left_with, right_with, AllNear}
use Rattle.sq_lists.proofs.WindowLemmas.{lower}
use Rattle.sq_oper.specs.declared.tally.Position.{Position}
use Rattle.sq_oper.specs.declared.tally.Position.TheVariants.{Start}
use Rattle.sq_oper.specs.Entries.{Entry, at_port, entries}
use Rattle.sq_oper.specs.Outflow.{ThingsUpTo}
use Rattle.sq_oper.specs.Order.{time_of, unmarked, IsFuture}
use Rattle.sq_oper.specs.Streams.{IsSoundTuple, things, at_zero}
use Rattle.sq_oper.proofs.GivenLemmas.{IsPrefixOf-append}
use Rattle.sq_oper.proofs.StreamLemmas.{things-append, at_zero-append, at_zero-nil, UpTo-things, UpTo-at_zero}
use Rattle.sq_oper.proofs.FedLemmas.{tuple_at, read-fed, time-before-item, no_body}
use Rattle.sq_join.specs.Elements.{elements_of, side_of}
use Rattle.sq_join.specs.Sides.{join_rest, most_at, join_fits, IsSide}
use Rattle.sq_lists.proofs.SideLemmas.{All-recent, rises-recent, rises-push, near-recent, gives-now, gives-later}
use Rattle.sq_join.proofs.TurnLemmas.{merged, turn-since, future-turn, future-sides, fit-side}
use Rattle.sq_words.proofs.Prefixes.{prefix_along}
use Rattle.sq_words.proofs.Alls.{all_weaker, all_push}

pub join_nil : (size : ℕ) (on : Expr) (left right : List Tuple) (q : ℕ) → join_rest size on left right [] q ≡ []
join_nil size on left right q = at_zero-nil q

-- a new box
pub join_new : (size : ℕ) (on : Expr) (columns : Columns) (future : List Entry) (q : ℕ) → IsFuture unmarked (join_fits columns) Start future
    → join_rest size on [] [] future q ≡ at_zero q (things (join_list_of size on (side_of 0 (elements_of future)) (side_of 1 (elements_of future))))
join_new size on columns future q may =
    ap (λ es. at_zero q (things (pairs_from size on [] es)))
    (sym (merged 0 0 (elements_of future) (future-turn (join_fits columns) Start future may) (future-sides columns Start future may)))

elements-fed : (port : ℕ) (item : Item) (fields : List Value) (future : List Entry) → item.body ≡ Some fields
    → elements_of (entries port item ++ future) ≡ (port, tuple_at item.time fields) ∷ elements_of future
elements-fed port item fields future is = read-fed elements_of (λ port time m es. refl) port item future fields is

-- ---- a side

side-recent : (size most now t : ℕ) (xs : List Tuple) → IsSide most now xs → now ≤ t → IsSide most t (recent size t xs)
side-recent size most now t xs h le = record {
  rises = rises-recent size t xs h.rises;
  early = All-recent (λ x. x.time ≤ t) size t xs (all_weaker (λ x. x.time ≤ now) (λ x. x.time ≤ t) (λ x k. omega (arith, le, k)) xs h.early);
  some = All-recent (λ x. 1 ≤ length x.fields) size t xs h.some;
  few = All-recent (λ x. length x.fields ≤ most) size t xs h.few;
}

side-push : (most : ℕ) (xs : List Tuple) (x : Tuple) → IsSide most x.time xs → 1 ≤ length x.fields → length x.fields ≤ most → IsSide most x.time (xs ++ x ∷ [])
side-push most xs x h some few = record {
  rises = rises-push 0 xs x h.rises h.early zero-le;
  early = all_push (λ y. y.time ≤ x.time) xs x h.early (omega arith);
  some = all_push (λ y. 1 ≤ length y.fields) xs x h.some some;
  few = all_push (λ y. length y.fields ≤ most) xs x h.few few;
}

-- a pair may go out
sound-pair : (l r : Tuple) (t w : ℕ) → l.time ≤ t → r.time ≤ t → t < 2 ^ 40 → 1 ≤ length l.fields → length l.fields ≤ w → 1 ≤ length r.fields → length r.fields ≤ 16 - w
    → IsSoundTuple (record { time = max l.time r.time; fields = l.fields ++ r.fields })
sound-pair l r t w el er tick sl fl sr fr =
    let n : length (l.fields ++ r.fields) ≡ length l.fields + length r.fields = length-append l.fields r.fields in
    (grind (arith, el, er, tick), (omega (arith, n, sl), omega (arith, n, fl, sr, fr)))

abbrev NotAfter : ℕ → Tuple → Type 0
NotAfter t p = p.time ≤ t

pair-early : (side : ℕ) (x y : Tuple) → y.time ≤ x.time → NotAfter x.time (pair_at side x y)
pair-early side x y le = elim (side == 0) as (λ b. NotAfter x.time (if b then pair_of x y else pair_of y x)) [ true ↦ grind (arith, le) | false ↦ grind (arith, le) ]

-- the pairs of a tuple have its time, if it comes last
times-with : (on : Expr) (side : ℕ) (x : Tuple) (ys : List Tuple) → AllByRecursion (λ y. y.time ≤ x.time) ys → AllByRecursion (NotAfter x.time) (pairs_with on side x ys)
times-with on side x [] early = tt
times-with on side x (y ∷ ys) early =
    elim (holds_of on (pair_at side x y)) as (λ b. AllByRecursion (NotAfter x.time) (cond b (pair_at side x y ∷ pairs_with on side x ys) (pairs_with on side x ys))) [
      | true ↦ (pair-early side x y early.0, times-with on side x ys early.1)
      | false ↦ times-with on side x ys early.1
    ]

-- ---- a tuple is fed

module _ (size : ℕ) (on : Expr) (columns : Columns) (left right : List Tuple) (place : Position) (port : ℕ) (item : Item) (fields : List Value) (is : item.body ≡ Some fields)
    (sound : IsSoundItem item) (may : IsFuture unmarked (join_fits columns) place (entries port item))
    (held-left : IsSide (most_at columns 0) (time_of place) left) (held-right : IsSide (most_at columns 1) (time_of place) right) where
  abbrev fed : Tuple
  fed = tuple_at item.time fields

  abbrev kept-left : List Tuple
  kept-left = recent size item.time left

  abbrev kept-right : List Tuple
  kept-right = recent size item.time right

  abbrev given-now : List Tuple
  given-now = pairs_with on port fed (against port kept-left kept-right)

  whole : IsFuture unmarked (join_fits columns) place (entries port item ++ [])
  whole = rw (append-nil (entries port item)) may

  pub fed_later : time_of place ≤ item.time
  fed_later = time-before-item unmarked (join_fits columns) place port item fields is may

  fed_fits : IsTrue (join_fits columns port fields)
  fed_fits = by item.mark item.body is may
    where
      by : (m : Option Mark) (b : Option (List Value)) → b ≡ Some fields → IsFuture unmarked (join_fits columns) place (at_port port (mark_part item.time m ++ body_part item.time b))
          → IsTrue (join_fits columns port fields)
      by m None e h = cc
      by None (Some f) e h = let same : f ≡ fields = cc in rw same at h.fitting.0
      by (Some k) (Some f) e h = let same : f ≡ fields = cc in rw same at h.fitting.1.0

  fed_side : (port ≡ 0) ⊎ (port ≡ 1)
  fed_side = fit-side columns port fields fed_fits

  fed_few : length fields ≤ most_at columns port
  fed_few =
      let both = and_parts (nat_le port 1) (nat_le (length fields) (most_at columns port)) fed_fits in
      grind (arith, tests, both.1)

  fed_some : (1 ≤ length fields) × (length fields ≤ 16)
  fed_some = rw is at sound.body

  left-side : IsSide (most_at columns 0) item.time kept-left
  left-side = side-recent size (most_at columns 0) (time_of place) item.time left held-left fed_later

  right-side : IsSide (most_at columns 1) item.time kept-right
  right-side = side-recent size (most_at columns 1) (time_of place) item.time right held-right fed_later

  left-near : AllNear size item.time kept-left
  left-near = near-recent size item.time left held-left.rises

  right-near : AllNear size item.time kept-right
  right-near = near-recent size item.time right held-right.rises

  -- the facts of what is held then
  pub fed_left : IsSide (most_at columns 0) item.time (left_with port fed kept-left)
  fed_left = by-side port fed_side fed_few
    where
      by-side : (port : ℕ) → (port ≡ 0) ⊎ (port ≡ 1) → length fields ≤ most_at columns port → IsSide (most_at columns 0) item.time (left_with port fed kept-left)
      by-side port (inl at) few = rw at (side-push (most_at columns 0) kept-left fed left-side fed_some.0 (rw at at few))
      by-side port (inr at) few = rw at left-side

  pub fed_right : IsSide (most_at columns 1) item.time (right_with port fed kept-right)
  fed_right = by-side port fed_side fed_few
    where
      by-side : (port : ℕ) → (port ≡ 0) ⊎ (port ≡ 1) → length fields ≤ most_at columns port → IsSide (most_at columns 1) item.time (right_with port fed kept-right)
      by-side port (inl at) few = rw at right-side
      by-side port (inr at) few = rw at (side-push (most_at columns 1) kept-right fed right-side fed_some.0 (rw at at few))

  pub near_left : AllNear size item.time (left_with port fed kept-left)
  near_left =
      elim (port == 0) as (λ b. AllNear size item.time (if b then kept-left ++ fed ∷ [] else kept-left)) [
        | true ↦ all_push (λ x. item.time ≤ x.time + size) kept-left fed left-near (omega arith)
        | false ↦ left-near
      ]

  pub near_right : AllNear size item.time (right_with port fed kept-right)
  near_right =
      elim (port == 0) as (λ b. AllNear size item.time (if b then kept-right else kept-right ++ fed ∷ [])) [
        | true ↦ right-near
        | false ↦ all_push (λ x. item.time ≤ x.time + size) kept-right fed right-near (omega arith)
      ]

  -- each pair may go out
  pub fed_sound : AllByRecursion (λ y. IsSoundTuple (pair_at port fed y)) (against port kept-left kept-right)
  fed_sound = by-side port fed_side fed_few
    where
      behind : (ys : List Tuple) → IsSide (most_at columns 1) item.time ys → length fields ≤ most_at columns 0 → AllByRecursion (λ y. IsSoundTuple (pair_at 0 fed y)) ys
      behind [] h few = tt
      behind (y ∷ ys) h few = (
        sound-pair fed y item.time (most_at columns 0) (omega arith) h.early.0 sound.tick fed_some.0 few h.some.0 h.few.0,
        behind ys (record { rises = lower 0 y.time ys zero-le h.rises.1; early = h.early.1; some = h.some.1; few = h.few.1 }) few,
      )

      before : (ys : List Tuple) → IsSide (most_at columns 0) item.time ys → length fields ≤ most_at columns 1 → AllByRecursion (λ y. IsSoundTuple (pair_at 1 fed y)) ys
      before [] h few = tt
      before (y ∷ ys) h few = (
        sound-pair y fed item.time (most_at columns 0) h.early.0 (omega arith) sound.tick h.some.0 h.few.0 fed_some.0 few,
        before ys (record { rises = lower 0 y.time ys zero-le h.rises.1; early = h.early.1; some = h.some.1; few = h.few.1 }) few,
      )

      by-side : (port : ℕ) → (port ≡ 0) ⊎ (port ≡ 1) → length fields ≤ most_at columns port → AllByRecursion (λ y. IsSoundTuple (pair_at port fed y)) (against port kept-left kept-right)
      by-side port (inl at) few = rw at (behind kept-right right-side (rw at at few))
      by-side port (inr at) few = rw at (before kept-left left-side (rw at at few))

  module _ (future : List Entry) (all : IsFuture unmarked (join_fits columns) place (entries port item ++ future)) where
    rest-fed : (q : ℕ) → join_rest size on left right (entries port item ++ future) q
        ≡ at_zero q (things given-now) ++ join_rest size on (left_with port fed kept-left) (right_with port fed kept-right) future q
    rest-fed q =
        let whole-turn = future-turn (join_fits columns) place (entries port item ++ future) all in
        let whole-sides = future-sides columns place (entries port item ++ future) all in
        let turn = rw (elements-fed port item fields future is) at whole-turn in
        let sides = rw (elements-fed port item fields future is) at whole-sides in
        let now = gives-now size on fed left right port fed_side left-side.early left-near right-side.early right-near in
        let later = gives-later size on fed left right port fed_side (elements_of future) (turn-since item.time port (elements_of future) turn.1) sides.1 in
        let rest = pairs_from size on (held_on_sides (left_with port fed kept-left) (right_with port fed kept-right)) (elements_of future) in
        ap (λ es. at_zero q (things (pairs_from size on (held_on_sides left right) es))) (elements-fed port item fields future is)
        ∙ ap₂ (λ a b. at_zero q (things (a ++ b))) now later
        ∙ ap (at_zero q) (things-append given-now rest)
        ∙ at_zero-append q (things given-now) (things rest)

    pub fed_law : (q : ℕ) (before after : List Thing) → after ≡ before ++ at_zero q (things given-now)
        → before ++ join_rest size on left right (entries port item ++ future) q ≡ after ++ join_rest size on (left_with port fed kept-left) (right_with port fed kept-right) future q
    fed_law q before after gave =
        let rest = join_rest size on (left_with port fed kept-left) (right_with port fed kept-right) future q in
        ap (λ l. before ++ l) (rest-fed q) ∙ sym (append_assoc before (at_zero q (things given-now)) rest) ∙ ap (λ l. l ++ rest) (sym gave)

    pub fed_prefix : (q : ℕ) (before after : List Thing) → IsPrefixOf after (before ++ at_zero q (things given-now))
        → IsPrefixOf after (before ++ join_rest size on left right (entries port item ++ future) q)
    fed_prefix q before after h =
        let rest = join_rest size on (left_with port fed kept-left) (right_with port fed kept-right) future q in
        let same = ap (λ l. before ++ l) (rest-fed q) ∙ sym (append_assoc before (at_zero q (things given-now)) rest) in
        rw same (prefix_along after (before ++ at_zero q (things given-now)) ((before ++ at_zero q (things given-now)) ++ rest) h (IsPrefixOf-append (before ++ at_zero q (things given-now)) rest))

  against-early : AllByRecursion (λ y. y.time ≤ item.time) (against port kept-left kept-right)
  against-early = elim (port == 0) as (λ b. AllByRecursion (λ y. y.time ≤ item.time) (if b then kept-right else kept-left)) [ true ↦ right-side.early | false ↦ left-side.early ]

  pub fed_times : (q : ℕ) → ThingsUpTo item.time (join_rest size on left right (entries port item) q)
  fed_times q =
      let none = join_nil size on (left_with port fed kept-left) (right_with port fed kept-right) q in
      let given = ap (λ es. join_rest size on left right es q) (sym (append-nil (entries port item))) ∙ rest-fed [] whole q
      ∙ ap (λ l. at_zero q (things given-now) ++ l) none ∙ append-nil (at_zero q (things given-now)) in
      rw given (UpTo-at_zero item.time q (things given-now) (UpTo-things item.time given-now (times-with on port fed (against port kept-left kept-right) against-early)))

pub ruleset join_lemmas = (join_nil, join_new, no_body, IsPrefixOf-append)
