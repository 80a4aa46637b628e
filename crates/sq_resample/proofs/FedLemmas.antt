-- The law of a Resample.
use Rattle.std.proofs.Common.{◌≡◌, ℕ, suc, ◌+◌, ◌-◌, ◌≤◌, Bool, true, false, cond, ◌⊎◌, inl, inr, IsTrue, List, [], ◌∷◌, ◌++◌, length, Option, Some, None, refl, ap, ap₂, sym, subst, ◌∙◌, append-nil, append_assoc, length-append, zero-le, arith, tests}
use Rattle.std.specs.Prelude.{if◌then◌else◌, nat_lt, nat_le, ◌==◌}
use Rattle.std.specs.List.{AllByRecursion, filter}
use Rattle.sq_value.specs.declared.Value.{Value}
use Rattle.sq_value.specs.declared.Tuple.{Tuple}
use Rattle.sq_words.specs.Lists.{IsPrefixOf}
use Rattle.sq_item.specs.declared.Mark.{Mark}
use Rattle.sq_item.specs.declared.Item.{Item}
use Rattle.sq_item.specs.SoundItems.{IsSoundItem}
use Rattle.sq_item.specs.Things.{Content, Sign, Body, Thing, mark_part, body_part}
use Rattle.sq_lists.specs.Sides.{AllNear, recent, left_with, right_with}
use Rattle.sq_lists.specs.WindowParts.{TimesNotFalling}
use Rattle.sq_lists.proofs.SideLemmas.{All-recent, rises-recent, rises-push, near-recent}
use Rattle.sq_lists.proofs.WindowLemmas.{lower, all-later}
use Rattle.sq_lists.specs.Resamples.{resample_of}
use Rattle.sq_oper.specs.declared.tally.Position.{Position}
use Rattle.sq_oper.specs.Entries.{Entry, at_port, entries}
use Rattle.sq_oper.specs.Outflow.{ThingsUpTo}
use Rattle.sq_oper.specs.Order.{time_of, position_after, InOrder, unmarked, IsFuture}
use Rattle.sq_oper.specs.Streams.{tuple_in, tuples_at, tuples_of, things, at_zero}
use Rattle.sq_oper.proofs.GivenLemmas.{IsPrefixOf-append, IsPrefixOf-longer, ThingsUpTo-append}
use Rattle.sq_oper.proofs.StreamLemmas.{things-append, at_zero-append, at_zero-nil, All-at_zero, UpTo-at_zero, may-come-time}
use Rattle.sq_oper.proofs.FedLemmas.{tuple_at, tuple_entry, mark_entry, no_body, read-fed, time-before-item}
use Rattle.sq_rounds.specs.Rounds.{CanGive, HasFieldRoom, first_time_from, passed}
use Rattle.sq_resample.specs.Resampling.{IsHeld, OnlyNear, resample_fits, resample_rest}
use Rattle.sq_rounds.proofs.RoundLemmas.{All-passed}
use Rattle.sq_resample.proofs.PartLemmas.{resample-parts}
use Rattle.sq_words.proofs.Alls.{all_weaker, all_push}

-- ---- what comes at a port

-- it comes in order of time
future-rises : (place : Position) (port : ℕ) (es : List Entry) → InOrder place es → TimesNotFalling (time_of place) (tuples_at port es)
future-rises place port [] order = tt
future-rises place port (e ∷ es) order = by e.thing.content (future-rises (position_after place e) port es order.1) (may-come-time place e order.0)
  where
    onto : (content : Content) (more : List Tuple) → TimesNotFalling e.thing.time more → time_of place ≤ e.thing.time → TimesNotFalling (time_of place) (tuple_in e.thing.time content ++ more)
    onto (Sign m) more up le = lower (time_of place) e.thing.time more le up
    onto (Body f) more up le = (le, up)

    by : (content : Content) → TimesNotFalling e.thing.time (tuples_at port es) → time_of place ≤ e.thing.time → TimesNotFalling (time_of place) (tuples_at port (e ∷ es))
    by content up le =
        elim (e.port == port) as (λ b. TimesNotFalling (time_of place) (tuples_of (cond b (e ∷ filter (λ e. e.port == port) es) (filter (λ e. e.port == port) es)))) [
          | true ↦ onto e.thing.content (tuples_at port es) up le
          | false ↦ lower (time_of place) e.thing.time (tuples_at port es) le up
        ]

-- and after an item no earlier than it
after-fed : (fits : ℕ → List Value → Bool) (place : Position) (port : ℕ) (item : Item) (fields : List Value) (future : List Entry) → item.body ≡ Some fields
    → IsFuture unmarked fits place (entries port item ++ future) → (q : ℕ) → TimesNotFalling item.time (tuples_at q future)
after-fed fits place port item fields future is may q = by item.mark item.body is may
  where
    by : (m : Option Mark) (b : Option (List Value)) → b ≡ Some fields
        → IsFuture unmarked fits place (at_port port (mark_part item.time m ++ body_part item.time b) ++ future) → TimesNotFalling item.time (tuples_at q future)
    by m None e h = cc
    by None (Some f) e h = future-rises (position_after place (tuple_entry port item.time f)) q future h.in_order.1
    by (Some k) (Some f) e h = future-rises (position_after (position_after place (mark_entry port item.time k)) (tuple_entry port item.time f)) q future h.in_order.1.1

skips-mark : (q port time : ℕ) (m : Mark) (es : List Entry) → tuples_at q (mark_entry port time m ∷ es) ≡ tuples_at q es
skips-mark q port time m es =
    elim (port == q) as (λ b. tuples_of (cond b (mark_entry port time m ∷ filter (λ e. e.port == q) es) (filter (λ e. e.port == q) es)) ≡ tuples_of (filter (λ e. e.port == q) es)) [
      | true ↦ refl
      | false ↦ refl
    ]

at-fed : (q port : ℕ) (item : Item) (fields : List Value) (future : List Entry) → item.body ≡ Some fields
    → tuples_at q (entries port item ++ future) ≡ tuples_at q (tuple_entry port item.time fields ∷ future)
at-fed q port item fields future is = read-fed (tuples_at q) (skips-mark q) port item future fields is

-- ---- ports

fit-left : (width port : ℕ) (fields : List Value) (b c : Bool) → (port == 0) ≡ b → (port == 1) ≡ c → IsTrue (if b then nat_le (length fields + width) 16 else c)
    → ((port ≡ 0) × (length fields + width ≤ 16)) ⊎ (port ≡ 1)
fit-left width port fields true c e e' h = inl (grind (arith, tests), grind (arith, tests))
fit-left width port fields false true e e' h = inr (grind (arith, tests))
fit-left width port fields false false e e' h = cc

pub fit-side : (width port : ℕ) (fields : List Value) → IsTrue (resample_fits width port fields) → ((port ≡ 0) × (length fields + width ≤ 16)) ⊎ (port ≡ 1)
fit-side width port fields h = fit-left width port fields (port == 0) (port == 1) refl refl h

-- ---- times

-- a Resample gives the times of left tuples
times-given : (answers : List Tuple → List Value) (size : ℕ) (P : ℕ → Type 0) (left right : List Tuple) → AllByRecursion (λ x. P x.time) left
    → AllByRecursion (λ (thing : Thing). P thing.time) (things (resample_of answers size left right))
times-given answers size P [] right all = tt
times-given answers size P (x ∷ left) right all = (all.0, times-given answers size P left right all.1)

first-early : (now : ℕ) (xs : List Tuple) → AllByRecursion (λ x. x.time ≤ now) xs → first_time_from now xs ≤ now
first-early now [] early = omega arith
first-early now (x ∷ xs) early = early.0

first-pushed : (now : ℕ) (xs : List Tuple) (x : Tuple) → x.time ≡ now → first_time_from now (xs ++ x ∷ []) ≡ first_time_from now xs
first-pushed now [] x is = is
first-pushed now (y ∷ xs) x is = refl

-- ---- a box that is fed a tuple

module _ (answers : List Tuple → List Value) (width size : ℕ) (waiting held : List Tuple) (place : Position) (port : ℕ) (item : Item) (fields : List Value)
    (is : item.body ≡ Some fields) (sound : IsSoundItem item) (may : IsFuture unmarked (resample_fits width) place (entries port item))
    (facts : IsHeld width size (time_of place) waiting held) where
  abbrev fed : Tuple
  fed = tuple_at item.time fields

  abbrev on : List Tuple
  on = recent size item.time waiting

  abbrev kept : List Tuple
  kept = recent size (first_time_from item.time on) held

  abbrev given-now : List Tuple
  given-now = resample_of answers size (passed size item.time waiting) held

  fed-later : time_of place ≤ item.time
  fed-later = time-before-item unmarked (resample_fits width) place port item fields is may

  fed-fits : IsTrue (resample_fits width port fields)
  fed-fits = by item.mark item.body is may
    where
      by : (m : Option Mark) (b : Option (List Value)) → b ≡ Some fields → IsFuture unmarked (resample_fits width) place (at_port port (mark_part item.time m ++ body_part item.time b))
          → IsTrue (resample_fits width port fields)
      by m None e h = cc
      by None (Some f) e h = let same : f ≡ fields = cc in rw same at h.fitting.0
      by (Some k) (Some f) e h = let same : f ≡ fields = cc in rw same at h.fitting.1.0

  fed-side : ((port ≡ 0) × (length fields + width ≤ 16)) ⊎ (port ≡ 1)
  fed-side = fit-side width port fields fed-fits

  fed-some : (1 ≤ length fields) × (length fields ≤ 16)
  fed-some = rw is at sound.body

  -- the premises of giving
  pub fed_can : CanGive width size waiting held
  fed_can = record {
    waits = facts.waits;
    room = facts.room;
    rises = facts.rises;
    reaches = all_weaker (λ x. time_of place ≤ x.time + size) (λ x. AllByRecursion (λ y. y.time ≤ x.time + size) held)
        (λ x near. all_weaker (λ y. y.time ≤ time_of place) (λ y. y.time ≤ x.time + size) (λ y past. omega (arith, near, past)) held facts.past) waiting facts.live;
  }

  pub fed_early : AllByRecursion (λ x. x.time ≤ item.time) waiting
  fed_early = let le = fed-later in all_weaker (λ x. x.time ≤ time_of place) (λ x. x.time ≤ item.time) (λ x h. omega (arith, h, le)) waiting facts.early

  held-past : AllByRecursion (λ y. y.time ≤ item.time) held
  held-past = let le = fed-later in all_weaker (λ y. y.time ≤ time_of place) (λ y. y.time ≤ item.time) (λ y h. omega (arith, h, le)) held facts.past

  facts-on : IsHeld width size item.time on kept
  facts-on = record {
    waits = rises-recent size item.time waiting facts.waits;
    early = All-recent (λ x. x.time ≤ item.time) size item.time waiting fed_early;
    live = near-recent size item.time waiting facts.waits;
    room = All-recent (HasFieldRoom width) size item.time waiting facts.room;
    rises = rises-recent size (first_time_from item.time on) held facts.rises;
    past = All-recent (λ y. y.time ≤ item.time) size (first_time_from item.time on) held held-past;
    needed = near-recent size (first_time_from item.time on) held facts.rises;
  }

  -- the facts of what is held then
  pub fed_facts : IsHeld width size item.time (left_with port fed on) (right_with port fed kept)
  fed_facts = by port fed-side
    where
      by : (port : ℕ) → ((port ≡ 0) × (length fields + width ≤ 16)) ⊎ (port ≡ 1) → IsHeld width size item.time (left_with port fed on) (right_with port fed kept)
      by port (inl at) = rw at.0 (record {
        waits = rises-push 0 on fed facts-on.waits facts-on.early zero-le;
        early = all_push (λ x. x.time ≤ item.time) on fed facts-on.early (omega arith);
        live = all_push (λ x. item.time ≤ x.time + size) on fed facts-on.live (omega arith);
        room = all_push (HasFieldRoom width) on fed facts-on.room (record { tick = sound.tick; some = fed-some.0; few = at.1 });
        rises = facts-on.rises;
        past = facts-on.past;
        needed = subst (λ t. AllNear size t kept) (sym (first-pushed item.time on fed refl)) facts-on.needed;
      })
      by port (inr at) = rw at (record {
        waits = facts-on.waits;
        early = facts-on.early;
        live = facts-on.live;
        room = facts-on.room;
        rises = rises-push 0 kept fed facts-on.rises facts-on.past zero-le;
        past = all_push (λ y. y.time ≤ item.time) kept fed facts-on.past (omega arith);
        needed = (let le = first-early item.time on facts-on.early in all_push (λ y. first_time_from item.time on ≤ y.time + size) kept fed facts-on.needed (omega (arith, le)));
      })

  module _ (future : List Entry) (all : IsFuture unmarked (resample_fits width) place (entries port item ++ future)) where
    abbrev lefts : List Tuple
    lefts = tuples_at 0 future

    abbrev rights : List Tuple
    rights = tuples_at 1 future

    list-fed : resample_of answers size (waiting ++ tuples_at 0 (entries port item ++ future)) (held ++ tuples_at 1 (entries port item ++ future))
        ≡ given-now ++ resample_of answers size (left_with port fed on ++ lefts) (right_with port fed kept ++ rights)
    list-fed =
        ap₂ (λ l r. resample_of answers size (waiting ++ l) (held ++ r)) (at-fed 0 port item fields future is) (at-fed 1 port item fields future is) ∙ by port fed-side
      where
        coming : (q : ℕ) → TimesNotFalling item.time (tuples_at q future)
        coming q = after-fed (resample_fits width) place port item fields future is all q

        by : (port : ℕ) → ((port ≡ 0) × (length fields + width ≤ 16)) ⊎ (port ≡ 1)
            → resample_of answers size (waiting ++ tuples_at 0 (tuple_entry port item.time fields ∷ future)) (held ++ tuples_at 1 (tuple_entry port item.time fields ∷ future))
            ≡ given-now ++ resample_of answers size (left_with port fed on ++ lefts) (right_with port fed kept ++ rights)
        by port (inl at) =
            rw at.0
            (resample-parts answers size item.time waiting held (fed ∷ lefts) rights facts.waits fed_early (omega arith, coming 0) (all-later item.time rights (coming 1))
            ∙ ap (λ l. given-now ++ resample_of answers size l (kept ++ rights)) (sym (append_assoc on (fed ∷ []) lefts)))
        by port (inr at) =
            rw at
            (resample-parts answers size item.time waiting held lefts (fed ∷ rights) facts.waits fed_early (coming 0) (omega arith, all-later item.time rights (coming 1))
            ∙ ap (λ r. given-now ++ resample_of answers size (on ++ lefts) r) (sym (append_assoc kept (fed ∷ []) rights)))

    rest-fed : (q : ℕ) → resample_rest answers size waiting held (entries port item ++ future) q
        ≡ at_zero q (things given-now) ++ resample_rest answers size (left_with port fed on) (right_with port fed kept) future q
    rest-fed q =
        let later = resample_of answers size (left_with port fed on ++ lefts) (right_with port fed kept ++ rights) in
        ap (λ l. at_zero q (things l)) list-fed ∙ ap (at_zero q) (things-append given-now later) ∙ at_zero-append q (things given-now) (things later)

    pub fed_law : (q : ℕ) (before position_after : List Thing) → position_after ≡ before ++ at_zero q (things given-now)
        → before ++ resample_rest answers size waiting held (entries port item ++ future) q
        ≡ position_after ++ resample_rest answers size (left_with port fed on) (right_with port fed kept) future q
    fed_law q before position_after gave =
        let rest = resample_rest answers size (left_with port fed on) (right_with port fed kept) future q in
        ap (λ l. before ++ l) (rest-fed q) ∙ sym (append_assoc before (at_zero q (things given-now)) rest) ∙ ap (λ l. l ++ rest) (sym gave)

    pub fed_prefix : (q : ℕ) (before position_after : List Thing) → IsPrefixOf position_after (before ++ at_zero q (things given-now))
        → IsPrefixOf position_after (before ++ resample_rest answers size waiting held (entries port item ++ future) q)
    fed_prefix q before position_after h =
        rw (rest-fed q) (IsPrefixOf-longer position_after before (at_zero q (things given-now)) (resample_rest answers size (left_with port fed on) (right_with port fed kept) future q) h)

  whole : IsFuture unmarked (resample_fits width) place (entries port item ++ [])
  whole = rw (append-nil (entries port item)) may

  abbrev rest-then : ℕ → List Thing
  rest-then q = resample_rest answers size (left_with port fed on) (right_with port fed kept) [] q

  rest-is : (P : ℕ → Type 0) (q : ℕ) → AllByRecursion (λ (x : Tuple). P x.time) (left_with port fed on) → AllByRecursion (λ (thing : Thing). P thing.time) (rest-then q)
  rest-is P q all =
      All-at_zero (λ (thing : Thing). P thing.time) q (things (resample_of answers size (left_with port fed on ++ []) (right_with port fed kept ++ [])))
      (times-given answers size P (left_with port fed on ++ []) (right_with port fed kept ++ []) (rw (append-nil (left_with port fed on)) all))

  pub fed_times : (q : ℕ) → ThingsUpTo item.time (resample_rest answers size waiting held (entries port item) q)
  fed_times q =
      let both = ap (λ es. resample_rest answers size waiting held es q) (sym (append-nil (entries port item))) ∙ rest-fed [] whole q in
      rw both
      (ThingsUpTo-append item.time (at_zero q (things given-now)) (rest-then q)
      (UpTo-at_zero item.time q (things given-now)
      (times-given answers size (λ t. t ≤ item.time) (passed size item.time waiting) held (All-passed (λ x. x.time ≤ item.time) size item.time waiting fed_early)))
      (rest-is (λ t. t ≤ item.time) q fed_facts.early))

  -- what is held back then is no more than the size before the item
  pub fed_held : (q : ℕ) → OnlyNear size item.time (rest-then q)
  fed_held q = rest-is (λ t. item.time ≤ t + size) q fed_facts.live

pub no-waiting : (answers : List Tuple → List Value) (size : ℕ) (waiting held : List Tuple) (q : ℕ) → waiting ≡ [] → resample_rest answers size waiting held [] q ≡ []
no-waiting answers size waiting held q none = ap (λ l. at_zero q (things (resample_of answers size (l ++ []) (held ++ [])))) none ∙ at_zero-nil q

-- how many are held
pub length-recent : (size t : ℕ) (xs : List Tuple) → length (recent size t xs) ≤ length xs
length-recent size t [] = omega arith
length-recent size t (x ∷ xs) =
    let h = length-recent size t xs in
    elim (nat_lt size (t - x.time)) as (λ b. length (if b then recent size t xs else x ∷ xs) ≤ suc (length xs)) [ true ↦ omega (arith, h) | false ↦ omega arith ]

pub length-right : (side : ℕ) (x : Tuple) (xs : List Tuple) → length (right_with side x xs) ≤ length xs + 1
length-right side x xs =
    let n = length-append xs (x ∷ []) in
    elim (side == 0) as (λ b. length (if b then xs else xs ++ x ∷ []) ≤ length xs + 1) [ true ↦ omega arith | false ↦ omega (arith, n) ]

-- with nothing to come
pub rest-none : (answers : List Tuple → List Value) (size : ℕ) (waiting held : List Tuple) (q : ℕ)
    → resample_rest answers size waiting held [] q ≡ at_zero q (things (resample_of answers size waiting held))
rest-none answers size waiting held q = ap₂ (λ l r. at_zero q (things (resample_of answers size l r))) (append-nil waiting) (append-nil held)

pub ruleset resample_lemmas = (no-waiting, no_body, IsPrefixOf-append)
