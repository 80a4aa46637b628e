-- What an operator reads of an item that it is fed.
use Rattle.std.proofs.Common.{◌≡◌, ℕ, ◌≤◌, Bool, true, true≢false, List, [], ◌∷◌, ◌++◌, Option, None, Some, ◌||◌, is_some, refl, sym, append-nil}
use Rattle.sq_value.specs.declared.Value.{Value}
use Rattle.sq_value.specs.declared.Tuple.{Tuple}
use Rattle.sq_item.specs.declared.Mark.{Mark}
use Rattle.sq_item.specs.declared.Item.{Item}
use Rattle.sq_item.specs.SoundItems.{IsSoundItem}
use Rattle.sq_item.specs.Things.{Sign, Body, mark_part, body_part}
use Rattle.sq_oper.specs.declared.tally.Position.{Position}
use Rattle.sq_oper.specs.Entries.{Entry, at_port, entries}
use Rattle.sq_oper.specs.Order.{may_come, time_of, position_after, after_all, unmarked, IsFuture}
use Rattle.sq_oper.specs.Streams.{tuples_of}
use Rattle.sq_oper.proofs.StreamLemmas.{time-before, time-after}

abbrev pub tuple_at : ℕ → List Value → Tuple
tuple_at time fields = record { time = time; fields = fields }

abbrev pub tuple_entry : ℕ → ℕ → List Value → Entry
tuple_entry port time fields = record { port = port; thing = record { time = time; content = Body fields } }

abbrev pub mark_entry : ℕ → ℕ → Mark → Entry
mark_entry port time m = record { port = port; thing = record { time = time; content = Sign m } }

-- what passes over marks reads an item with a tuple as that tuple, and any other as nothing
module _ {A : Type 0} (read : List Entry → A) (passes : (port time : ℕ) (m : Mark) (es : List Entry) → read (mark_entry port time m ∷ es) ≡ read es) (port : ℕ) (item : Item) (future : List Entry) where
  pub read-fed : (fields : List Value) → item.body ≡ Some fields → read (entries port item ++ future) ≡ read (tuple_entry port item.time fields ∷ future)
  read-fed fields is = by item.mark item.body is
    where
      by : (m : Option Mark) (b : Option (List Value)) → b ≡ Some fields
          → read (at_port port (mark_part item.time m ++ body_part item.time b) ++ future) ≡ read (tuple_entry port item.time fields ∷ future)
      by m None e = cc
      by None (Some f) e = let same : f ≡ fields = cc in rw same refl
      by (Some k) (Some f) e = let same : f ≡ fields = cc in rw same (passes port item.time k (tuple_entry port item.time fields ∷ future))

  pub read-unfed : item.body ≡ None → read (entries port item ++ future) ≡ read future
  read-unfed is = by item.mark item.body is
    where
      by : (m : Option Mark) (b : Option (List Value)) → b ≡ None → read (at_port port (mark_part item.time m ++ body_part item.time b) ++ future) ≡ read future
      by m (Some f) e = cc
      by None None e = refl
      by (Some k) None e = passes port item.time k future

-- the tuples of an item, and then those of what follows
pub tuples-fed : (port : ℕ) (item : Item) (fields : List Value) (future : List Entry) → item.body ≡ Some fields
    → tuples_of (entries port item ++ future) ≡ tuple_at item.time fields ∷ tuples_of future
tuples-fed port item fields future is = read-fed tuples_of (λ port time m es. refl) port item future fields is

pub tuples-unfed : (port : ℕ) (item : Item) (future : List Entry) → item.body ≡ None → tuples_of (entries port item ++ future) ≡ tuples_of future
tuples-unfed port item future is = read-unfed tuples_of (λ port time m es. refl) port item future is

-- an item with a tuple that may come has no earlier time than the last item
pub time-before-item : (marks : ℕ → Bool) (fits : ℕ → List Value → Bool) (place : Position) (port : ℕ) (item : Item) (fields : List Value) → item.body ≡ Some fields
    → IsFuture marks fits place (entries port item) → time_of place ≤ item.time
time-before-item marks fits place port item fields is may = by item.mark item.body is may
  where
    by : (m : Option Mark) (b : Option (List Value)) → b ≡ Some fields → IsFuture marks fits place (at_port port (mark_part item.time m ++ body_part item.time b)) → time_of place ≤ item.time
    by m None e h = cc
    by m (Some f) e h = time-before place port item.time m f h.in_order

-- an operator that was fed an item with a tuple stands at its time
pub time-after-item : (place : Position) (port : ℕ) (item : Item) (fields : List Value) → item.body ≡ Some fields → time_of (after_all place (entries port item)) ≡ item.time
time-after-item place port item fields is = by item.mark item.body is
  where
    by : (m : Option Mark) (b : Option (List Value)) → b ≡ Some fields → time_of (after_all place (at_port port (mark_part item.time m ++ body_part item.time b))) ≡ item.time
    by m None e = cc
    by m (Some f) e = time-after place port item.time m f

-- no item with a mark may come where no port takes marks
pub unmarked-item : (fits : ℕ → List Value → Bool) (place : Position) (port : ℕ) (item : Item) (future : List Entry)
    → IsFuture unmarked fits place (entries port item ++ future) → item.mark ≡ None
unmarked-item fits place port item future may = by item.mark refl may
  where
    by : (m : Option Mark) → item.mark ≡ m → IsFuture unmarked fits place (at_port port (mark_part item.time m ++ body_part item.time item.body) ++ future) → item.mark ≡ None
    by None e h = e
    by (Some m) e h = absurd (true≢false (sym h.fitting.0))

-- nor an item without a tuple
pub no_body : (fits : ℕ → List Value → Bool) (place : Position) (port : ℕ) (item : Item) → item.body ≡ None → IsSoundItem item → IsFuture unmarked fits place (entries port item) → ⊥
no_body fits place port item is sound may =
    let no_mark = unmarked-item fits place port item [] (rw (append-nil (entries port item)) may) in
    neither item.mark item.body no_mark is sound.some
  where
    neither : (m : Option Mark) (b : Option (List Value)) → m ≡ None → b ≡ None → (is_some m || is_some b) ≡ true → ⊥
    neither None None e f h = cc
    neither None (Some v) e f h = cc
    neither (Some k) b e f h = cc

-- an item of one value, and no mark
abbrev pub item_of : ℕ → Value → Item
item_of time v = record { time = time; mark = None; body = Some (v ∷ []) }

-- it may be fed where its place and its port say so
pub may-be-fed : (marks : ℕ → Bool) (fits : ℕ → List Value → Bool) (place : Position) (port time : ℕ) (v : Value) (i : Item) → i ≡ item_of time v
    → may_come place (tuple_entry port time (v ∷ [])) ≡ true → fits port (v ∷ []) ≡ true
    → IsFuture marks fits place (entries port i)
may-be-fed marks fits place port time v i is may fit = rw is (record { in_order = (may, tt); fitting = (fit, tt) })

-- the place after it was fed
pub place-after-tuple : (was p is : Position) (port time : ℕ) (v : Value) (i : Item) → i ≡ item_of time v → is ≡ after_all was (entries port i) → was ≡ p
    → is ≡ position_after p (tuple_entry port time (v ∷ []))
place-after-tuple was p is port time v i e moves same = rw (moves, same, e) refl
