-- What stands on the arcs behind what an actor gave, and which arcs have ended.
use Rattle.std.specs.Prelude.{◌≡◌, ℕ, zero, suc, ◌==◌, ◌≤◌, ◌<◌, ◌||◌, ⊤, Bool, true, false, List, [], ◌∷◌, ◌++◌, length, Option, Some, None, is_some, slice_get}
use Rattle.sq_item.specs.declared.Item.{Item}
use Rattle.sq_item.specs.Things.{Thing, spread, spread_all}
use Rattle.sq_item.specs.SoundItems.{IsSoundItem}
use Rattle.sq_outside.specs.Disks.{DiskLog, Pages}
use Rattle.sq_left.specs.Heads.{AllFine}
use Rattle.sq_queue.specs.declared.Queues.{Queues}
use Rattle.sq_pool.specs.Trust.{Tells, known}
use Rattle.sq_queue.specs.Faces.{face, size, frames, items_on, Together}
use Rattle.sq_flow.specs.declared.errors.RunErr.{RunErr}
use Rattle.sq_flow.specs.declared.wires.Wires.{Wires}
use Rattle.sq_words.specs.Lists.{contains_number}
use Rattle.sq_flow.specs.Wiring.{arcs_from, from_of, times_in}
use Rattle.sq_flow.specs.Causes.{FailsOver, fault_or}

-- a list so many times, one behind the other
abbrev pub many : ℕ → List Thing → List Thing
many zero xs = []
many (suc n) xs = xs ++ many n xs

-- the marks and tuples that an arc gets of the items which the actor at a seat gives, each as often as the arc comes from its port
abbrev pub sent_to : Wires → ℕ → List (ℕ × Item) → ℕ → List Thing
sent_to wires seat [] arc = []
sent_to wires seat (out ∷ outs) arc = many (times_in arc (arcs_from wires seat out.0)) (spread out.1) ++ sent_to wires seat outs arc

-- the arc comes from the actor at a seat
abbrev pub is_sent_by : Wires → ℕ → ℕ → Bool
is_sent_by wires seat arc = from_of (slice_get wires.arcs.items arc) == seat

-- each arc has the items that it had, the same one first, over whatever disk, and there are as many frames; arcs may have ended
pub record KeepsItems (before after : Queues) : Type 0 where
  pub lanes : size after ≡ size before
  pub framed : frames after ≡ frames before
  pub first : (arc : ℕ) → (face after arc).first ≡ (face before arc).first
  pub items : (pages : Option Pages) (arc : ℕ) → items_on after pages arc ≡ items_on before pages arc
  pub together : (pages : Option Pages) → Together before pages → Together after pages

-- the arcs that come from the actor at a seat have ended, and no others but those that had
pub record EndsOnly (wires : Wires) (seat : ℕ) (before after : Queues) : Type 0 where
  pub keeps : KeepsItems before after
  pub ended : (arc : ℕ) → arc < length wires.arcs.items → (face after arc).ended ≡ ((face before arc).ended || is_sent_by wires seat arc)
  pub apart : (arc : ℕ) → is_sent_by wires seat arc ≡ false → face after arc ≡ face before arc

-- where the pages are known each arc has these marks and tuples more, behind what stood there, none later than a time that `upto` allows if none
-- was before. No arc ended, one that had a first item has one still, the arcs that aren't `near` stand as they did, and there are as many frames
pub record Pushes (before after : Queues) (was is : Option Pages) (more : ℕ → List Thing) (upto : ℕ → Type 0) (near : ℕ → Bool) : Type 0 where
  pub lanes : size after ≡ size before
  pub framed : frames after ≡ frames before
  pub tells : Tells is → Tells was
  pub together : Together after is
  pub ended : (arc : ℕ) → (face after arc).ended ≡ (face before arc).ended
  pub grows : (arc : ℕ) → is_some (face before arc).first ≡ true → is_some (face after arc).first ≡ true
  pub apart : (arc : ℕ) → near arc ≡ false → face after arc ≡ face before arc
  pub items : Tells is → (arc : ℕ) → spread_all (items_on after is arc) ≡ spread_all (items_on before was arc) ++ more arc
  pub fine : Tells is → (time : ℕ) → upto time → ((arc : ℕ) → AllFine time (items_on before was arc)) → (arc : ℕ) → AllFine time (items_on after is arc)

-- the marks and tuples of an item stand last on each of these arcs, as often as it is listed
abbrev pub Sent : List ℕ → Item → Queues → Queues → Option Pages → Option Pages → Type 0
Sent arcs item before after was is =
    Pushes before after was is (λ arc. many (times_in arc arcs) (spread item)) (λ time. item.time ≤ time) (λ arc. contains_number arcs arc)

-- each arc has what it had
abbrev pub NoneSent : Queues → Queues → Option Pages → Option Pages → Type 0
NoneSent before after was is = Pushes before after was is (λ arc. []) (λ time. ⊤) (λ arc. false)

-- an item was sent so, and no fault was met
pub record SentWhole (arcs : List ℕ) (item : Item) (before after : Queues) (was is : Option Pages) (failed : Option RunErr) : Type 0 where
  pub sent : Sent arcs item before after was is
  pub whole : failed ≡ None

-- the item couldn't be sent. Where no fault was kept memory ran out, and each arc has what it had
pub record SendErr (before after : Queues) (was is : DiskLog) (faults faults' : ℕ) (failed : Option RunErr) : Type 0 where
  pub unsent : failed ≡ None → NoneSent before after (known was) (known is)
  pub fails : FailsOver after was is faults faults' (fault_or failed)

-- a sound item may go to these arcs: each is there, and none has ended
pub record MaySend (arcs : List ℕ) (queues : Queues) (was : Option Pages) (item : Item) : Type 0 where
  pub there : (place arc : ℕ) → slice_get arcs place ≡ Some arc → (arc < size queues) × ((face queues arc).ended ≡ false)
  pub sound : IsSoundItem item
  pub together : Together queues was

-- the actor at a seat may give at a port: no arc that comes from there has ended, none comes from an output, and no fault was met
pub record MayPass (wires : Wires) (seat : ℕ) (queues : Queues) (was : Option Pages) (failed : Option RunErr) (port : ℕ) : Type 0 where
  pub within : seat < length wires.readers.items
  pub shown : wires.shown ≤ seat → arcs_from wires seat port ≡ []
  pub there : (place arc : ℕ) → slice_get (arcs_from wires seat port) place ≡ Some arc → (arc < size queues) × ((face queues arc).ended ≡ false)
  pub together : Together queues was
  pub whole : failed ≡ None

-- and at each port, and the arcs that are listed there come from it
pub record MayGive (wires : Wires) (seat : ℕ) (queues : Queues) (was : Option Pages) (failed : Option RunErr) : Type 0 where
  pub passes : (port : ℕ) → MayPass wires seat queues was failed port
  pub joined : (port arc : ℕ) → contains_number (arcs_from wires seat port) arc ≡ true → is_sent_by wires seat arc ≡ true
