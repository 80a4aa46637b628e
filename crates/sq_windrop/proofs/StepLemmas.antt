-- What a tuple makes of the batches that it is the first to touch, one batch after another.
use Rattle.std.proofs.Common.{◌≡◌, ℕ, ◌+◌, ◌-◌, ◌*◌, ◌/◌, ◌<◌, ◌≤◌, max, min, ◌^◌, Bool, true, false, List, [], ◌∷◌, ◌++◌, length, map, Option, Some, None, refl, ap, ap₂, sym, subst, ◌∙◌, append_assoc, append-nil, div-lt_iff_lt-mul, arith}
use Rattle.std.specs.Prelude.{nat_lt, if◌then◌else◌}
use Rattle.std.proofs.lemmas.List.{map-append}
use Rattle.std.proofs.lemmas.List.Elements.{filter-append}
use Rattle.std.proofs.lemmas.List.FromFn.{length-range_with_len}
use Rattle.std.specs.List.{AllByRecursion, filter, range_with_len}
use Rattle.sq_value.specs.declared.Value.{Value}
use Rattle.sq_words.specs.Lists.{IsPrefixOf}
use Rattle.sq_item.specs.declared.Mark.{Mark}
use Rattle.sq_item.specs.declared.Item.{Item}
use Rattle.sq_item.specs.Things.{Body, Thing, mark_part, body_part}
use Rattle.sq_road.specs.Levels.{LevelTable, AgreesWith, level_of}
use Rattle.sq_oper.specs.declared.outs.Decision.{Decision}
use Rattle.sq_oper.specs.Entries.{Entry, at_port, entries}
use Rattle.sq_oper.specs.Outflow.{ThingsUpTo}
use Rattle.sq_oper.specs.Machine.{next_all, gives_all}
use Rattle.sq_oper.specs.Streams.{at_zero}
use Rattle.sq_oper.proofs.GivenLemmas.{IsPrefixOf-longer, ThingsUpTo-append}
use Rattle.sq_oper.proofs.StreamLemmas.{at_zero-append, at_zero-nil, UpTo-at_zero}
use Rattle.sq_tagged.specs.TaggedStreams.{Timed, mark_thing, bound_in}
use Rattle.sq_oper.proofs.PartLemmas.{at_port-append, item_law, body_prefix}
use Rattle.sq_windrop.specs.declared.drop.Dropping.{Dropping}
use Rattle.sq_windrop.specs.declared.drop.Batches.{Batches}
use Rattle.sq_windrop.specs.Drops.{IsBegunAlone, IsDropping, level_at, needed_of, is_batch_dropped, drop_mark, marks_for, decided, decision, greatest_bound, bound_of, first_new, newly, after_tuple, for_tuple, drop_next, drop_gives, drop_rest, drop_holds, decided_content, drop_decides, next_body, gives_body, decided_body}
use Rattle.sq_windrop.proofs.DropLemmas.{newly-early}
use Rattle.sq_words.proofs.Ranges.{range_split}

-- the epoch of an earlier tick is closed too
start-closed : (start time epoch closed : ℕ) → 1 ≤ epoch → start ≤ time → time / epoch < closed → start / epoch < closed
start-closed start time epoch closed some le h =
    let lt : time < closed * epoch = (div-lt_iff_lt-mul some).0 h in
    (div-lt_iff_lt-mul some).1 (let e : start < closed * epoch = omega (arith, le, lt) in e)

-- the level of a batch that begins at a tick of a closed epoch, or before it, is known
pub level-is : (d : Dropping) (levels : LevelTable) (table : ℕ → ℕ → ℕ) (batch time : ℕ) → 1 ≤ d.epoch → d.epoch ≡ levels.epoch → batch * d.length ≤ time → time / levels.epoch < levels.closed → AgreesWith levels table
    → level_at d table batch ≡ level_of levels (batch * d.length / d.epoch) d.number
level-is d levels table batch time some same begun closed agrees =
    agrees (batch * d.length / d.epoch) d.number (start-closed (batch * d.length) time d.epoch levels.closed some begun (subst (λ (n : ℕ). time / n < levels.closed) (sym same) closed))

module _ (d : Dropping) (table : ℕ → ℕ → ℕ) where
  abbrev marks : List ℕ → List Thing
  marks bs = map mark_thing (marks_for d table bs)

  marks-append : (xs ys : List ℕ) → marks (xs ++ ys) ≡ marks xs ++ marks ys
  marks-append xs ys = ap (map mark_thing) (map-append (drop_mark d table) xs ys) ∙ map-append mark_thing (marks_for d table xs) (marks_for d table ys)

  pub given-push : (q : ℕ) (before : List Thing) (bs : List ℕ) (b : ℕ) → (before ++ at_zero q (marks bs)) ++ at_zero q (mark_thing (drop_mark d table b) ∷ []) ≡ before ++ at_zero q (marks (bs ++ b ∷ []))
  given-push q before bs b =
      append_assoc before (at_zero q (marks bs)) (at_zero q (marks (b ∷ [])))
      ∙ ap (λ l. before ++ l) (sym (at_zero-append q (marks bs) (marks (b ∷ []))) ∙ ap (at_zero q) (sym (marks-append bs (b ∷ []))))

  decided-append : (xs ys : List ℕ) → decided d table (xs ++ ys) ≡ decided d table xs ++ decided d table ys
  decided-append xs ys =
      ap (map (decision d table)) (filter-append (is_batch_dropped d table) xs ys) ∙ map-append (decision d table) (filter (is_batch_dropped d table) xs) (filter (is_batch_dropped d table) ys)

  pub decided-push : (before : List Decision) (bs : List ℕ) (b : ℕ) → (before ++ decided d table bs) ++ decided d table (b ∷ []) ≡ before ++ decided d table (bs ++ b ∷ [])
  decided-push before bs b = append_assoc before (decided d table bs) (decided d table (b ∷ [])) ∙ ap (λ l. before ++ l) (sym (decided-append bs (b ∷ [])))

  greatest-append : (ms ns : List Timed) → greatest_bound (ms ++ ns) ≡ max (greatest_bound ms) (greatest_bound ns)
  greatest-append [] ns = omega arith
  greatest-append (m ∷ ms) ns = let r = greatest-append ms ns in omega (arith, r)

  pub bound-push : (bound : ℕ) (bs : List ℕ) (b : ℕ) → max (max bound (greatest_bound (marks_for d table bs))) (bound_of (drop_mark d table b)) ≡ max bound (greatest_bound (marks_for d table (bs ++ b ∷ [])))
  bound-push bound bs b =
      let e = ap greatest_bound (map-append (drop_mark d table) bs (b ∷ [])) ∙ greatest-append (marks_for d table bs) (marks_for d table (b ∷ [])) in
      omega (arith, e)

  -- what is a prefix of the marks of some batches is one of those of more
  pub prefix-more : (q : ℕ) (before after : List Thing) (xs ys zs : List ℕ) → zs ≡ xs ++ ys → IsPrefixOf after (before ++ at_zero q (marks xs)) → IsPrefixOf after (before ++ at_zero q (marks zs))
  prefix-more q before after xs ys zs e h =
      subst (λ l. IsPrefixOf after (before ++ l)) (sym (ap (λ l. at_zero q (marks l)) e ∙ ap (at_zero q) (marks-append xs ys) ∙ at_zero-append q (marks xs) (marks ys)))
      (IsPrefixOf-longer after before (at_zero q (marks xs)) (at_zero q (marks ys)) h)

  pub decided-more : (before after : List Decision) (xs ys zs : List ℕ) → zs ≡ xs ++ ys → after ≡ before ++ decided d table xs → IsPrefixOf after (before ++ decided d table zs)
  decided-more before after xs ys zs e h =
      (decided d table ys, ap (λ l. before ++ decided d table l) e ∙ ap (λ l. before ++ l) (decided-append xs ys) ∙ sym (append_assoc before (decided d table xs) (decided d table ys)) ∙ ap (λ l. l ++ decided d table ys) (sym h))

  -- what is given for a tuple is the marks, and the tuple where it is below the bound
  for-is : (s : Batches) (time : ℕ) (fields : List Value) → for_tuple d table s time fields ≡ marks (newly d s.next time) ++ body_part time (needed_of time (after_tuple d table s time).bound fields)
  for-is s time fields = ap (λ l. marks (newly d s.next time) ++ l) (by (nat_lt time (after_tuple d table s time).bound))
    where
      by : (c : Bool) → (if c then record { time = time; content = Body fields } ∷ [] else []) ≡ body_part time (if c then Some fields else None)
      by true = refl
      by false = refl

  -- a tuple behind the marks of its batches
  pub tuple_prefix : (s : Batches) (time : ℕ) (fields : List Value) (q : ℕ) (before after : List Thing) → IsPrefixOf after (before ++ at_zero q (marks (newly d s.next time)))
      → IsPrefixOf after (before ++ at_zero q (for_tuple d table s time fields))
  tuple_prefix s time fields q before after h =
      let body = if nat_lt time (after_tuple d table s time).bound then record { time = time; content = Body fields } ∷ [] else [] in
      subst (λ l. IsPrefixOf after (before ++ l)) (sym (at_zero-append q (marks (newly d s.next time)) body)) (IsPrefixOf-longer after before (at_zero q (marks (newly d s.next time))) (at_zero q body) h)

  pub tuple_given : (s : Batches) (time : ℕ) (fields : List Value) (bound q : ℕ) (before middle after : List Thing) → bound ≡ (after_tuple d table s time).bound
      → middle ≡ before ++ at_zero q (marks (newly d s.next time)) → after ≡ middle ++ at_zero q (body_part time (needed_of time bound fields)) → after ≡ before ++ at_zero q (for_tuple d table s time fields)
  tuple_given s time fields bound q before middle after is first second =
      let front = marks (newly d s.next time) in
      let body = body_part time (needed_of time bound fields) in
      second
      ∙ ap (λ l. l ++ at_zero q body) first
      ∙ append_assoc before (at_zero q front) (at_zero q body)
      ∙ ap (λ l. before ++ l)
      (sym (at_zero-append q front body)
      ∙ ap (λ n. at_zero q (front ++ body_part time (needed_of time n fields))) is
      ∙ ap (at_zero q) (sym (for-is s time fields)))

  -- a tuple that begins a batch, and is the first to touch it and no other
  module _ (s : Batches) (time batch : ℕ) (begun : IsBegunAlone d s.next time batch) where
    pub one-new : newly d s.next time ≡ batch ∷ []
    one-new =
        ap₂ (λ (a n : ℕ). range_with_len a n) begun.first
        (let one : time / d.length + 1 - first_new d s.next time ≡ 1 = (let f = begun.first in let l = begun.last in omega (arith, f, l)) in one)

    pub begun-level : (levels : LevelTable) → 1 ≤ d.epoch → d.epoch ≡ levels.epoch → time / levels.epoch < levels.closed → AgreesWith levels table → level_at d table batch ≡ level_of levels (time / d.epoch) d.number
    begun-level levels some same closed agrees =
        let start = begun.starts in
        level-is d levels table batch time some same (omega (arith, start)) closed agrees ∙ ap (λ (t : ℕ). level_of levels (t / d.epoch) d.number) start

    pub after-one : (bound : ℕ) → bound ≡ max s.bound (bound_of (drop_mark d table batch)) → record { next = batch + 1; bound = bound } ≡ after_tuple d table s time
    after-one bound is =
        let first = begun.first in
        let last = begun.last in
        ap₂ (λ (n m : ℕ). let b : Batches = record { next = n; bound = m } in b) (let next : batch + 1 ≡ max s.next (time / d.length + 1) = omega (arith, first, last) in next)
        (is ∙ (let alone : max s.bound (bound_of (drop_mark d table batch)) ≡ max s.bound (greatest_bound (marks_for d table (batch ∷ []))) = omega arith in alone)
        ∙ ap (λ l. max s.bound (greatest_bound (marks_for d table l))) (sym one-new))

    pub one-given : (fields : List Value) (mark : Mark) (body : Option (List Value)) (bound : ℕ) → mark ≡ (drop_mark d table batch).1 → bound ≡ max s.bound (bound_in mark) → body ≡ needed_of time bound fields
        → mark_thing (time, mark) ∷ body_part time body ≡ for_tuple d table s time fields
    one-given fields mark body bound marked is kept =
        let same = after-one bound (is ∙ ap (λ m. max s.bound (bound_in m)) marked) in
        ap₂ (λ l r. mark_thing l ∷ body_part time r) (ap₂ (λ (t : ℕ) (m : Mark). (t, m)) (sym begun.starts) marked) (kept ∙ ap (λ b. needed_of time b.bound fields) same)
        ∙ ap (λ bs. marks bs ++ body_part time (needed_of time (after_tuple d table s time).bound fields)) (sym one-new)
        ∙ sym (for-is s time fields)

-- one batch more of a range
pub range-push : (from b : ℕ) → from ≤ b → range_with_len from (b + 1 - from) ≡ range_with_len from (b - from) ++ b ∷ []
range-push from b le =
    ap (range_with_len from) (let e : b + 1 - from ≡ (b - from) + 1 = omega (arith, le) in e)
    ∙ range_split from (b - from) 1
    ∙ ap (λ k. range_with_len from (b - from) ++ range_with_len k 1) (let e : from + (b - from) ≡ b = omega (arith, le) in e)

pub range-more : (from b end : ℕ) → from ≤ b → b ≤ end → range_with_len from (end - from) ≡ range_with_len from (b - from) ++ range_with_len b (end - b)
range-more from b end le le2 =
    ap (range_with_len from) (let e : end - from ≡ (b - from) + (end - b) = omega (arith, le, le2) in e)
    ∙ range_split from (b - from) (end - b)
    ∙ ap (λ k. range_with_len from (b - from) ++ range_with_len k (end - b)) (let e : from + (b - from) ≡ b = omega (arith, le) in e)

-- a tick touches few batches at once
few-touched : (time keep len next : ℕ) → 1 ≤ len → keep < 4096 * len → time / len + 1 - max next ((time - keep) / len) ≤ 4097
few-touched time keep len next some less =
    let first : ℕ = (time - keep) / len in
    let lt : time - keep < (first + 1) * len = (div-lt_iff_lt-mul some).0 (let e : first < first + 1 = omega arith in e) in
    let top : time < (first + 4097) * len = bound time keep len first lt less in
    let quotient : time / len < first + 4097 = (div-lt_iff_lt-mul some).1 top in
    omega (arith, quotient)
  where
    bound : (time keep len first : ℕ) → time - keep < (first + 1) * len → keep < 4096 * len → time < (first + 4097) * len
    bound time keep len first lt less =
        let e : (first + 4097) * len ≡ (first + 1) * len + 4096 * len = grind arith in
        omega (arith, e, lt, less)

-- how many batches a tick is the first to touch
pub length-newly : (d : Dropping) (next time : ℕ) → length (newly d next time) ≡ time / d.length + 1 - first_new d next time
length-newly d next time = length-range_with_len (first_new d next time) (time / d.length + 1 - first_new d next time)

pub few-newly : (d : Dropping) (next time : ℕ) → IsDropping d → length (newly d next time) ≤ 4097
few-newly d next time limits =
    let all = length-newly d next time in
    let few = few-touched time d.keep d.length next limits.least limits.kept in omega (arith, all, few)

-- an item's parts: its mark changes nothing
module _ (d : Dropping) (table : ℕ → ℕ → ℕ) (port : ℕ) (item : Item) where
  abbrev marks_part : List Entry
  marks_part = at_port port (mark_part item.time item.mark)

  abbrev body_entries : List Entry
  body_entries = at_port port (body_part item.time item.body)

  decides-append : (s : Batches) (xs ys : List Entry) → drop_decides d table s (xs ++ ys) ≡ drop_decides d table s xs ++ drop_decides d table (next_all (drop_next d table) s xs) ys
  decides-append s [] ys = refl
  decides-append s (e ∷ es) ys =
      ap (λ l. decided_content d table s e.thing.time e.thing.content ++ l) (decides-append (drop_next d table s e) es ys)
      ∙ sym (append_assoc (decided_content d table s e.thing.time e.thing.content) (drop_decides d table (drop_next d table s e) es) (drop_decides d table (next_all (drop_next d table) (drop_next d table s e) es) ys))

  mark-same : (s : Batches) (m : Option Mark) → next_all (drop_next d table) s (at_port port (mark_part item.time m)) ≡ s
  mark-same s None = refl
  mark-same s (Some m) = refl

  mark-gives : (s : Batches) (q : ℕ) (m : Option Mark) → gives_all (drop_next d table) (drop_gives d table) s (at_port port (mark_part item.time m)) q ≡ []
  mark-gives s q None = refl
  mark-gives s q (Some m) = ap (λ l. l ++ []) (at_zero-nil q)

  mark-decides : (s : Batches) (m : Option Mark) → drop_decides d table s (at_port port (mark_part item.time m)) ≡ []
  mark-decides s None = refl
  mark-decides s (Some m) = refl

  body-next : (s : Batches) (b : Option (List Value)) → next_all (drop_next d table) s (at_port port (body_part item.time b)) ≡ next_body d table s item.time b
  body-next s None = refl
  body-next s (Some fields) = refl

  body-gives : (s : Batches) (q : ℕ) (b : Option (List Value)) → gives_all (drop_next d table) (drop_gives d table) s (at_port port (body_part item.time b)) q ≡ at_zero q (gives_body d table s item.time b)
  body-gives s q None = sym (at_zero-nil q)
  body-gives s q (Some fields) = append-nil (at_zero q (gives_body d table s item.time (Some fields)))

  body-decides : (s : Batches) (b : Option (List Value)) → drop_decides d table s (at_port port (body_part item.time b)) ≡ decided_body d table s item.time b
  body-decides s None = refl
  body-decides s (Some fields) = append-nil (decided_body d table s item.time (Some fields))

  pub drop_law : (future : List Entry) (q : ℕ) (s s2 : Batches) (before after : List Thing) → s2 ≡ next_body d table s item.time item.body → after ≡ before ++ at_zero q (gives_body d table s item.time item.body)
      → before ++ drop_rest d table s (entries port item ++ future) q ≡ after ++ drop_rest d table s2 future q
  drop_law future q s s2 before after is gave =
      item_law (drop_next d table) (drop_gives d table) drop_holds port item future q s s s2 before before after
      (sym (mark-same s item.mark))
      (sym (ap (λ l. before ++ l) (mark-gives s q item.mark) ∙ append-nil before))
      (is ∙ sym (body-next s item.body))
      (gave ∙ ap (λ l. before ++ l) (sym (body-gives s q item.body)))

  pub drop_prefix : (future : List Entry) (q : ℕ) (s : Batches) (before after : List Thing) → IsPrefixOf after (before ++ at_zero q (gives_body d table s item.time item.body))
      → IsPrefixOf after (before ++ drop_rest d table s (entries port item ++ future) q)
  drop_prefix future q s before after h =
      body_prefix (drop_next d table) (drop_gives d table) drop_holds port item future q s s before before after
      (sym (mark-same s item.mark))
      (sym (ap (λ l. before ++ l) (mark-gives s q item.mark) ∙ append-nil before))
      (subst (λ l. IsPrefixOf after (before ++ l)) (sym (body-gives s q item.body)) h)

  decides-parts : (future : List Entry) (s : Batches) → drop_decides d table s (entries port item ++ future) ≡ decided_body d table s item.time item.body ++ drop_decides d table (next_body d table s item.time item.body) future
  decides-parts future s =
      ap (λ l. drop_decides d table s (l ++ future)) (at_port-append port (mark_part item.time item.mark) (body_part item.time item.body))
      ∙ ap (drop_decides d table s) (append_assoc marks_part body_entries future)
      ∙ decides-append s marks_part (body_entries ++ future)
      ∙ ap₂ (λ l t. l ++ drop_decides d table t (body_entries ++ future)) (mark-decides s item.mark) (mark-same s item.mark)
      ∙ decides-append s body_entries future
      ∙ ap₂ (λ l t. l ++ drop_decides d table t future) (body-decides s item.body) (body-next s item.body)

  pub decided_law : (future : List Entry) (s s2 : Batches) (before after : List Decision) → s2 ≡ next_body d table s item.time item.body → after ≡ before ++ decided_body d table s item.time item.body
      → before ++ drop_decides d table s (entries port item ++ future) ≡ after ++ drop_decides d table s2 future
  decided_law future s s2 before after is gave =
      let some = decided_body d table s item.time item.body in
      ap (λ l. before ++ l) (decides-parts future s)
      ∙ sym (append_assoc before some (drop_decides d table (next_body d table s item.time item.body) future))
      ∙ ap₂ (λ l t. l ++ drop_decides d table t future) (sym gave) (sym is)

  pub decided_prefix : (future : List Entry) (s : Batches) (before after : List Decision) → IsPrefixOf after (before ++ decided_body d table s item.time item.body)
      → IsPrefixOf after (before ++ drop_decides d table s (entries port item ++ future))
  decided_prefix future s before after h =
      subst (λ l. IsPrefixOf after (before ++ l)) (sym (decides-parts future s))
      (IsPrefixOf-longer after before (decided_body d table s item.time item.body) (drop_decides d table (next_body d table s item.time item.body) future) h)

  pub drop_times : 1 ≤ d.length → (q : ℕ) (s : Batches) → ThingsUpTo item.time (drop_rest d table s (entries port item) q)
  drop_times some q s = by item.mark item.body
    where
      marks-up : (ms : List Timed) → AllByRecursion (λ (m : Timed). m.0 ≤ item.time) ms → ThingsUpTo item.time (map mark_thing ms)
      marks-up [] h = tt
      marks-up (m ∷ ms) h = (h.0, marks-up ms h.1)

      tuple-up : (b : Bool) (fields : List Value) → ThingsUpTo item.time (if b then record { time = item.time; content = Body fields } ∷ [] else [])
      tuple-up true fields = (omega arith, tt)
      tuple-up false fields = tt

      for-up : (fields : List Value) → ThingsUpTo item.time (at_zero q (for_tuple d table s item.time fields) ++ [])
      for-up fields =
          subst (ThingsUpTo item.time) (sym (append-nil (at_zero q (for_tuple d table s item.time fields))))
          (UpTo-at_zero item.time q (for_tuple d table s item.time fields)
          (ThingsUpTo-append item.time (map mark_thing (marks_for d table (newly d s.next item.time))) (if nat_lt item.time (after_tuple d table s item.time).bound then record { time = item.time; content = Body fields } ∷ [] else [])
          (marks-up (marks_for d table (newly d s.next item.time)) (newly-early d some table item.time s.next)) (tuple-up (nat_lt item.time (after_tuple d table s item.time).bound) fields)))

      by : (m : Option Mark) (b : Option (List Value)) → ThingsUpTo item.time (drop_rest d table s (at_port port (mark_part item.time m ++ body_part item.time b)) q)
      by None None = tt
      by (Some m) None = subst (λ l. ThingsUpTo item.time (l ++ [])) (sym (at_zero-nil q)) tt
      by None (Some fields) = for-up fields
      by (Some m) (Some fields) = subst (λ l. ThingsUpTo item.time (l ++ (at_zero q (for_tuple d table s item.time fields) ++ []))) (sym (at_zero-nil q)) (for-up fields)

-- a tuple before the end of the last batch that was touched touches no other
module _ (d : Dropping) (s : Batches) (time end : ℕ) (some : 1 ≤ d.length) (is : end ≡ min (s.next * d.length) (2 ^ 64 - 1)) (early : time < end) where
  within-touched : time / d.length < s.next
  within-touched = (div-lt_iff_lt-mul some).1 (let less : time < s.next * d.length = omega (arith, is, early) in less)

  pub none-new : newly d s.next time ≡ []
  none-new =
      let within = within-touched in
      ap (range_with_len (first_new d s.next time)) (let none : time / d.length + 1 - first_new d s.next time ≡ 0 = omega (arith, within) in none)

  pub after-none : (table : ℕ → ℕ → ℕ) → s ≡ after_tuple d table s time
  after-none table =
      let within = within-touched in
      ap₂ (λ (n m : ℕ). let b : Batches = record { next = n; bound = m } in b) (let same : s.next ≡ max s.next (time / d.length + 1) = omega (arith, within) in same)
      ((let more : s.bound ≡ max s.bound (greatest_bound (marks_for d table [])) = omega arith in more) ∙ ap (λ l. max s.bound (greatest_bound (marks_for d table l))) (sym none-new))

  pub none-given : (table : ℕ → ℕ → ℕ) (q : ℕ) (before : List Thing) → before ≡ before ++ at_zero q (map mark_thing (marks_for d table (newly d s.next time)))
  none-given table q before =
      sym (append-nil before) ∙ ap (λ l. before ++ l) (sym (at_zero-nil q)) ∙ ap (λ l. before ++ at_zero q (map mark_thing (marks_for d table l))) (sym none-new)
