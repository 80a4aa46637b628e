-- The law of operators: what feeding an item, and the end, promise by what the states before and after mean.
--     Meaning                        what the members say of one state
--     Feeds, FeedOk, FeedErr         an item that was fed, and one at which memory ran out
--     Finishes, FinishOk, FinishErr  the end
use Rattle.std.specs.Prelude.{◌≡◌, ℕ, ◌+◌, Bool, false, IsTrue, is_some, if◌then◌else◌, List, [], ◌++◌, Result, OnOk, OnErr}
use Rattle.sq_value.specs.declared.Value.{Value}
use Rattle.sq_words.specs.Lists.{IsPrefixOf}
use Rattle.sq_item.specs.declared.Item.{Item}
use Rattle.sq_item.specs.Things.{Thing}
use Rattle.sq_road.specs.Levels.{LevelTable, AgreesWith}
use Rattle.sq_oper.specs.declared.outs.Decision.{Decision}
use Rattle.sq_oper.specs.declared.tally.Position.{Position}
use Rattle.sq_oper.specs.declared.outlet.Outlet.{Ghosts}
use Rattle.sq_oper.specs.Entries.{Entry, entries}
use Rattle.sq_oper.specs.Outflow.{given, ThingsUpTo}
use Rattle.sq_oper.specs.Order.{IsFuture, after_all}
use Rattle.sq_oper.specs.Giving.{KeepsGiven}

-- what the members of an operator say of one state
pub record Meaning : Type 1 where
  pub valid : Type 0
  pub running : Bool
  pub taken : ℕ
  pub place : Position
  pub takes_marks : ℕ → Bool
  pub fits : ℕ → List Value → Bool
  pub reads : ℕ → Bool
  pub rest : (ℕ → ℕ → ℕ) → List Entry → ℕ → List Thing
  pub decides : (ℕ → ℕ → ℕ) → List Entry → List Decision
  pub may_hold : ℕ → List Thing → Type 0
  pub lost : List Entry → ℕ

-- by the members, each a function of the state
abbrev pub meaning : {O : Type 0} → (valid : O → Type 0) → (running : O → Bool) → (taken : O → ℕ) → (place : O → Position) → (takes_marks : O → ℕ → Bool)
    → (fits : O → ℕ → List Value → Bool) → (reads : O → ℕ → Bool) → (rest : O → (ℕ → ℕ → ℕ) → List Entry → ℕ → List Thing)
    → (decides : O → (ℕ → ℕ → ℕ) → List Entry → List Decision) → (may_hold : O → ℕ → List Thing → Type 0) → (lost : O → List Entry → ℕ) → O → Meaning
meaning valid running taken place takes_marks fits reads rest decides may_hold lost op =
    record {
      valid = valid op;
      running = running op;
      taken = taken op;
      place = place op;
      takes_marks = takes_marks op;
      fits = fits op;
      reads = reads op;
      rest = rest op;
      decides = decides op;
      may_hold = may_hold op;
      lost = lost op;
    }

-- these marks and tuples may come
abbrev pub MayMeet : Meaning → List Entry → Type 0
MayMeet state future = IsFuture state.takes_marks state.fits state.place future

-- an item that was fed at a port, where these levels were known: what was given, and then the rest, stays the same. What is given now, and what
-- is held, has no later time than the item; no more is held back than may be, and no decision is
pub record FeedOk {T : Type 0} (t : Ghosts T) (levels : LevelTable) (port : ℕ) (item : Item) (before after : Meaning) (out out' : T) (steps steps' : ℕ) : Type 0 where
  pub law : (table : ℕ → ℕ → ℕ) (future : List Entry) → AgreesWith levels table → MayMeet before (entries port item ++ future)
      → (q : ℕ) → given q (t.items out) ++ before.rest table (entries port item ++ future) q ≡ given q (t.items out') ++ after.rest table future q
  pub decided : (table : ℕ → ℕ → ℕ) (future : List Entry) → AgreesWith levels table → MayMeet before (entries port item ++ future)
      → t.drops out ++ before.decides table (entries port item ++ future) ≡ t.drops out' ++ after.decides table future
  pub loses : (future : List Entry) → before.lost (entries port item ++ future) ≡ after.lost future
  pub times : (table : ℕ → ℕ → ℕ) → AgreesWith levels table → (q : ℕ) → ThingsUpTo item.time (before.rest table (entries port item) q)
  pub held : (table : ℕ → ℕ → ℕ) (q : ℕ) → after.may_hold item.time (after.rest table [] q)
  pub same_hold : (time : ℕ) (things : List Thing) → after.may_hold time things → before.may_hold time things
  pub settled : (table : ℕ → ℕ → ℕ) → after.decides table [] ≡ []
  pub stays_ready : t.ready out'
  pub stays_valid : after.valid × IsTrue after.running
  pub moves : after.place ≡ after_all before.place (entries port item)
  pub same : (after.takes_marks ≡ before.takes_marks) × (after.fits ≡ before.fits)
  pub same_epoch : after.reads ≡ before.reads
  pub counted : after.taken ≡ before.taken + (if is_some item.body then 1 else 0)
  pub cost : steps' ≡ steps + (if is_some item.body then 1 else 0)

-- memory ran out: what was given before is a prefix, and no step is counted
pub record FeedErr {T : Type 0} (t : Ghosts T) (levels : LevelTable) (port : ℕ) (item : Item) (before : Meaning) (out out' : T) (steps steps' : ℕ) : Type 0 where
  pub prefix : (table : ℕ → ℕ → ℕ) (future : List Entry) → AgreesWith levels table → MayMeet before (entries port item ++ future)
      → (q : ℕ) → IsPrefixOf (given q (t.items out')) (given q (t.items out) ++ before.rest table (entries port item ++ future) q)
  pub decided_prefix : (table : ℕ → ℕ → ℕ) (future : List Entry) → AgreesWith levels table → MayMeet before (entries port item ++ future)
      → IsPrefixOf (t.drops out') (t.drops out ++ before.decides table (entries port item ++ future))
  pub no_cost : steps' ≡ steps

-- a feed, as it ended
pub record Feeds {T A E : Type 0} (t : Ghosts T) (levels : LevelTable) (port : ℕ) (item : Item) (before after : Meaning) (out out' : T) (steps steps' : ℕ) (result : Result A E) : Type 0 where
  pub ok : OnOk result (FeedOk t levels port item before after out out' steps steps')
  pub err : OnErr result (FeedErr t levels port item before out out' steps steps')
  pub keeps : KeepsGiven t out out'

-- the end: all that was held is given, and nothing is left
pub record FinishOk {T : Type 0} (t : Ghosts T) (before after : Meaning) (out out' : T) : Type 0 where
  pub law : (table : ℕ → ℕ → ℕ) (q : ℕ) → given q (t.items out) ++ before.rest table [] q ≡ given q (t.items out')
  pub decided : (table : ℕ → ℕ → ℕ) → t.drops out ++ before.decides table [] ≡ t.drops out'
  pub loses : before.lost [] ≡ after.lost []
  pub empty : (table : ℕ → ℕ → ℕ) (q : ℕ) → after.rest table [] q ≡ []
  pub settled : (table : ℕ → ℕ → ℕ) → after.decides table [] ≡ []
  pub stays_ready : t.ready out'
  pub stays_valid : after.valid × (after.running ≡ false)
  pub same : (after.place ≡ before.place) × (after.takes_marks ≡ before.takes_marks) × (after.fits ≡ before.fits) × (after.taken ≡ before.taken)

pub record FinishErr {T : Type 0} (t : Ghosts T) (before : Meaning) (out out' : T) : Type 0 where
  pub prefix : (table : ℕ → ℕ → ℕ) (q : ℕ) → IsPrefixOf (given q (t.items out')) (given q (t.items out) ++ before.rest table [] q)
  pub decided_prefix : (table : ℕ → ℕ → ℕ) → IsPrefixOf (t.drops out') (t.drops out ++ before.decides table [])

pub record Finishes {T A E : Type 0} (t : Ghosts T) (before after : Meaning) (out out' : T) (result : Result A E) : Type 0 where
  pub ok : OnOk result (FinishOk t before after out out')
  pub err : OnErr result (FinishErr t before out out')
  pub keeps : KeepsGiven t out out'
