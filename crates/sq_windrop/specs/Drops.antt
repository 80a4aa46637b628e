-- A window drop: the batches that each tuple touches first, their marks, and the tuples below the bound so far.
use Rattle.std.specs.Prelude.{◌≡◌, ℕ, ◌+◌, ◌-◌, ◌*◌, ◌/◌, ◌^◌, ◌≤◌, ◌<◌, ◌==◌, nat_lt, max, Bool, if◌then◌else◌, List, [], ◌∷◌, ◌++◌, map, Option, Some, None}
use Rattle.std.specs.List.{filter, range_with_len}
use Rattle.sq_value.specs.declared.Value.{Value}
use Rattle.sq_words.specs.Lists.{max_by}
use Rattle.sq_item.specs.Things.{Content, Sign, Body, Thing}
use Rattle.sq_road.specs.Draws.{draw_of}
use Rattle.sq_oper.specs.declared.outs.Decision.{Decision}
use Rattle.sq_oper.specs.Entries.{Entry}
use Rattle.sq_oper.specs.Machine.{run_of}
use Rattle.sq_oper.specs.Streams.{at_zero}
use Rattle.sq_tagged.specs.TaggedStreams.{Timed, mark_thing, bound_in}
use Rattle.sq_tagged.specs.Boxes.{mark_of, until_at}
use Rattle.sq_windrop.specs.declared.drop.Dropping.{Dropping}
use Rattle.sq_windrop.specs.declared.drop.Batches.{Batches}

-- lengths within their limits
pub record IsDropping (d : Dropping) : Type 0 where
  pub least : 1 ≤ d.length
  pub most : d.length ≤ 2 ^ 34
  pub kept : d.keep < 4096 * d.length
  pub epoch : 1 ≤ d.epoch

abbrev pub dropping : ℕ → ℕ → ℕ → ℕ → ℕ → Dropping
dropping number length keep epoch seed = record { number = number; length = length; keep = keep; epoch = epoch; seed = seed }

-- the level of a batch is that of the epoch in which it begins
abbrev pub level_at : Dropping → (ℕ → ℕ → ℕ) → ℕ → ℕ
level_at d table b = table (b * d.length / d.epoch) d.number

abbrev pub is_batch_dropped : Dropping → (ℕ → ℕ → ℕ) → ℕ → Bool
is_batch_dropped d table b = nat_lt (draw_of d.seed d.number b) (level_at d table b)

abbrev pub drop_mark : Dropping → (ℕ → ℕ → ℕ) → ℕ → Timed
drop_mark d table b = mark_of (is_batch_dropped d table) (until_at d.length d.keep) d.length b

abbrev pub marks_for : Dropping → (ℕ → ℕ → ℕ) → List ℕ → List Timed
marks_for d table bs = map (drop_mark d table) bs

-- the decisions on batches that are dropped
abbrev pub decision : Dropping → (ℕ → ℕ → ℕ) → ℕ → Decision
decision d table b = record { drop = d.number; batch = b; level = level_at d table b }

abbrev pub decided : Dropping → (ℕ → ℕ → ℕ) → List ℕ → List Decision
decided d table bs = map (decision d table) (filter (is_batch_dropped d table) bs)

abbrev pub bound_of : Timed → ℕ
bound_of m = bound_in m.1

abbrev pub greatest_bound : List Timed → ℕ
greatest_bound ms = max_by bound_of ms

-- the first batch that a tick touches or a later one can touch
abbrev pub first_touched : Dropping → ℕ → ℕ
first_touched d time = (time - d.keep) / d.length

abbrev pub first_new : Dropping → ℕ → ℕ → ℕ
first_new d next time = max next (first_touched d time)

-- the batches that a tick touches, of those that weren't touched before
abbrev pub newly : Dropping → ℕ → ℕ → List ℕ
newly d next time = range_with_len (first_new d next time) (time / d.length + 1 - first_new d next time)

abbrev pub after_tuple : Dropping → (ℕ → ℕ → ℕ) → Batches → ℕ → Batches
after_tuple d table s time = record { next = max s.next (time / d.length + 1); bound = max s.bound (greatest_bound (marks_for d table (newly d s.next time))) }

-- a tuple of a time begins a batch, and is the first to touch it and no other
pub record IsBegunAlone (d : Dropping) (next time batch : ℕ) : Type 0 where
  pub first : first_new d next time ≡ batch
  pub last : time / d.length ≡ batch
  pub starts : batch * d.length ≡ time

-- a tuple below a bound
abbrev pub needed_of : ℕ → ℕ → List Value → Option (List Value)
needed_of time bound fields = if nat_lt time bound then Some fields else None

-- what is given for a tuple
abbrev pub for_tuple : Dropping → (ℕ → ℕ → ℕ) → Batches → ℕ → List Value → List Thing
for_tuple d table s time fields =
    map mark_thing (marks_for d table (newly d s.next time))
    ++ (if nat_lt time (after_tuple d table s time).bound then record { time = time; content = Body fields } ∷ [] else [])

abbrev pub drop_next_content : Dropping → (ℕ → ℕ → ℕ) → Batches → ℕ → Content → Batches
drop_next_content d table s time (Sign m) = s
drop_next_content d table s time (Body fields) = after_tuple d table s time

abbrev pub drop_gives_content : Dropping → (ℕ → ℕ → ℕ) → Batches → ℕ → Content → List Thing
drop_gives_content d table s time (Sign m) = []
drop_gives_content d table s time (Body fields) = for_tuple d table s time fields

-- of an item's tuple
abbrev pub next_body : Dropping → (ℕ → ℕ → ℕ) → Batches → ℕ → Option (List Value) → Batches
next_body d table s time None = s
next_body d table s time (Some fields) = after_tuple d table s time

abbrev pub gives_body : Dropping → (ℕ → ℕ → ℕ) → Batches → ℕ → Option (List Value) → List Thing
gives_body d table s time None = []
gives_body d table s time (Some fields) = for_tuple d table s time fields

abbrev pub decided_body : Dropping → (ℕ → ℕ → ℕ) → Batches → ℕ → Option (List Value) → List Decision
decided_body d table s time None = []
decided_body d table s time (Some fields) = decided d table (newly d s.next time)

abbrev pub drop_next : Dropping → (ℕ → ℕ → ℕ) → Batches → Entry → Batches
drop_next d table s e = drop_next_content d table s e.thing.time e.thing.content

abbrev pub drop_gives : Dropping → (ℕ → ℕ → ℕ) → Batches → Entry → ℕ → List Thing
drop_gives d table s e q = at_zero q (drop_gives_content d table s e.thing.time e.thing.content)

abbrev pub drop_holds : Batches → ℕ → List Thing
drop_holds s q = []

abbrev pub drop_rest : Dropping → (ℕ → ℕ → ℕ) → Batches → List Entry → ℕ → List Thing
drop_rest d table s future q = run_of (drop_next d table) (drop_gives d table) drop_holds s future q

abbrev pub decided_content : Dropping → (ℕ → ℕ → ℕ) → Batches → ℕ → Content → List Decision
decided_content d table s time (Sign m) = []
decided_content d table s time (Body fields) = decided d table (newly d s.next time)

abbrev pub drop_decides : Dropping → (ℕ → ℕ → ℕ) → Batches → List Entry → List Decision
drop_decides d table s [] = []
drop_decides d table s (e ∷ es) = decided_content d table s e.thing.time e.thing.content ++ drop_decides d table (drop_next d table s e) es

-- no tuple is late
abbrev pub none_lost : List Entry → ℕ
none_lost future = 0

-- the levels are of the drop's own epochs
abbrev pub drop_reads : Dropping → ℕ → Bool
drop_reads d epoch = epoch == d.epoch
