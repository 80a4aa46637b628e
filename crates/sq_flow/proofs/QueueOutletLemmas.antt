-- What the outlet of an actor keeps.
use Rattle.std.proofs.Common.{◌≡◌, ℕ, ◌≤◌, Bool, List, [], ◌∷◌, ◌++◌, Option, Some, None, refl, sym, ◌∙◌, subst₂, Bor, append-nil}
use Rattle.std.specs.Prelude.{IfSome, Vec}
use Rattle.std.specs.declared.alloc.Global.{Global}
use Rattle.sq_item.specs.declared.Item.{Item}
use Rattle.sq_item.specs.Things.{Thing}
use Rattle.sq_oper.specs.declared.operator.Operator.{Ghosts}
use Rattle.sq_oper.specs.declared.outs.Decision.{Decision}
use Rattle.sq_outside.specs.Disks.{DiskLog}
use Rattle.sq_oper.specs.declared.outs.Event.{Event}
use Rattle.sq_oper.specs.declared.outs.Event.TheVariants.{Dropped}
use Rattle.sq_pool.specs.Trust.{known}
use Rattle.sq_queue.specs.declared.Queues.{Queues}
use Rattle.sq_road.specs.Levels.{LevelTable}
use Rattle.sq_flow.specs.declared.errors.RunErr.{RunErr}
use Rattle.sq_flow.specs.declared.errors.RunErr.TheVariants as error
use Rattle.sq_flow.specs.declared.fed_items.FedItems.{FedItems}
use Rattle.sq_flow.specs.declared.noted.Noted.{Noted}
use Rattle.sq_flow.specs.declared.seats.Seat.{Seat}
use Rattle.sq_flow.specs.declared.wires.Wires.{Wires}
use Rattle.sq_flow.specs.declared.queue_outlet.QueueOutlet.{QueueOutlet}
use Rattle.sq_flow.specs.Causes.{LogGrows, fault_or}
use Rattle.sq_flow.specs.Wiring.{arcs_from, AllOutsFine}
use Rattle.sq_flow.specs.Sends.{sent_to, is_sent_by, Pushes, SentWhole, SendErr}
use Rattle.sq_flow.specs.Shows.{IsShown}
use Rattle.sq_flow.specs.Seats.{unfed, FedSeat, FinishedSeat}
use Rattle.sq_flow.specs.Feeds.{FeedsInto, EndsInto}
use Rattle.sq_flow.specs.QueueOutlets.{IsOpen, HoldsSame, Came}
use Rattle.sq_flow.proofs.CauseLemmas.{grows-none, grows-both, fails-since}
use Rattle.sq_flow.proofs.SendLemmas.{pushes-none, pushes-both, sent-append, apart-arcs}
use Rattle.sq_flow.proofs.ShownLemmas.{shown-first, shown-item, shown-drop}

pub none-told : {A : Type 0} (o : Option A) (P : A → Type 0) → o ≡ None → IfSome o P
none-told None P e = tt
none-told (Some x) P e = absurd (cc e)

-- what holds of the fault that was met, and of want of memory, holds of why a call failed
pub of-fault : (failed : Option RunErr) (P : RunErr → Type 0) → IfSome failed P → P error.Memory → P (fault_or failed)
of-fault None P told memory = memory
of-fault (Some e) P told memory = told

-- what holds of why a call failed holds of the fault that was met
fault-told : (failed : Option RunErr) (P : RunErr → Type 0) → P (fault_or failed) → IfSome failed P
fault-told None P told = tt
fault-told (Some e) P told = told

fine-first : (time : ℕ) (items : List (ℕ × Item)) (out : ℕ × Item) → AllOutsFine time (items ++ out ∷ []) → AllOutsFine time items × (out.1.time ≤ time)
fine-first time [] out h = (tt, h.0)
fine-first time (x ∷ xs) out h = let rest = fine-first time xs out h.2 in ((h.0, h.1, rest.0), rest.1)

module _ {D : Type 0} (log : D → DiskLog) (faults : D → ℕ) where
  -- nothing went on yet
  pub came-first : (s : QueueOutlet D) → IsOpen log s → s.given ≡ unfed → s.noted.drops ≡ [] → Came log faults s s
  came-first s opened given drops =
      record {
        holds = record { queues = refl; disk = refl; events = refl; failed = refl; wires = refl; seat = refl };
        shown = rw (given, drops) (shown-first s.wires.now s.seat s.events.now.items);
        sent = λ whole. rw given (pushes-none s.queues.now (known (log s.disk.now)) _ _ _ (opened.passes 0).together (λ arc. refl));
        fails = none-told s.failed.now _ (opened.passes 0).whole;
        grows = grows-none (log s.disk.now) (faults s.disk.now);
      }

  -- it takes more
  pub open-still : (s : QueueOutlet D) → IsOpen log s → (q : Queues) (d : D) (events : Vec Event Global) (failed : Option RunErr) (given' : FedItems) (more : ℕ → List Thing) (upto : ℕ → Type 0)
      (near : ℕ → Bool) → failed ≡ None → Pushes s.queues.now q (known (log s.disk.now)) (known (log d)) more upto near
      → IsOpen log (record s { queues = record s.queues { now = q }; disk = record s.disk { now = d }; events = record s.events { now = events }; failed = record s.failed { now = failed }; given = given' })
  open-still s opened q d events failed given' more upto near whole sent =
      record {
        passes = λ port.
            let may = opened.passes port in
            record {
              within = may.within;
              shown = may.shown;
              there = λ place arc is. let r = may.there place arc is in (rw sent.lanes r.0, sent.ended arc ∙ r.1);
              together = sent.together;
              whole = whole;
            };
        joined = opened.joined;
      }

  -- what went on, where the outlet was opened
  pub went-on : (start s : QueueOutlet D) → Came log faults start s → s.failed.now ≡ None
      → Pushes start.queues.now s.queues.now (known (log start.disk.now)) (known (log s.disk.now)) (sent_to start.wires.now start.seat s.given.items) (λ time. AllOutsFine time s.given.items)
      (is_sent_by start.wires.now start.seat)
  went-on start s came whole =
      subst₂ (λ (wires : Bor Wires) (actor : ℕ).
      Pushes start.queues.now s.queues.now (known (log start.disk.now)) (known (log s.disk.now)) (sent_to wires.now actor s.given.items) (λ time. AllOutsFine time s.given.items) (is_sent_by wires.now actor))
      came.holds.wires came.holds.seat (came.sent whole)

  pub was-shown : (start s : QueueOutlet D) → Came log faults start s → (events : List Event) → events ≡ s.events.now.items
      → IsShown start.wires.now start.seat s.given.items s.noted.drops start.events.now.items events
  was-shown start s came events same =
      rw same
      (subst₂ (λ (wires : Bor Wires) (actor : ℕ). IsShown wires.now actor s.given.items s.noted.drops start.events.now.items s.events.now.items) came.holds.wires came.holds.seat came.shown)

  -- what an outlet became that was opened
  pub came-open : (start s : QueueOutlet D) → IsOpen log s → s.given ≡ unfed → s.noted.drops ≡ []
      → ((before : QueueOutlet D) → Came log faults before s → Came log faults before start) → Came log faults s start
  came-open start s opened given drops came = came s (came-first s opened given drops)

  -- a feed and an end, where the outlet was opened
  module _ {O : Type 0} (m : Ghosts O) (seat seat' : Seat O) (start s : QueueOutlet D) (came : Came log faults start s)
      (q : Queues) (d : D) (events : List Event) (same_queues : q ≡ s.queues.now) (same_disk : d ≡ s.disk.now) (same_events : events ≡ s.events.now.items) (whole : s.failed.now ≡ None) where
    pub feeds-into : (levels : LevelTable) (port : ℕ) (item : Item) → FedSeat m levels port item s.given.items s.noted.drops seat seat'
        → FeedsInto m levels port item start.wires.now start.seat seat seat' start.queues.now q (known (log start.disk.now)) (known (log d)) start.events.now.items events
    feeds-into levels port item fed =
        rw (same_queues, same_disk)
        (record { items = s.given.items; drops = s.noted.drops; fed = fed; onward = record { sent = went-on start s came whole; shown = was-shown start s came events same_events } })

    pub ends-into : FinishedSeat m s.given.items s.noted.drops seat seat'
        → EndsInto m start.wires.now start.seat seat seat' start.queues.now q (known (log start.disk.now)) (known (log d)) start.events.now.items events
    ends-into finished =
        rw (same_queues, same_disk)
        (record { items = s.given.items; drops = s.noted.drops; finished = finished; onward = record { sent = went-on start s came whole; shown = was-shown start s came events same_events } })

  module _ (start s : QueueOutlet D) (came : Came log faults start s) (opened : IsOpen log s) (q : Queues) (d : D) (events : Vec Event Global)
      (grew : LogGrows (log s.disk.now) (log d) (faults s.disk.now) (faults d)) where
    -- the same outlet behind a call
    abbrev pub behind : Option RunErr → FedItems → QueueOutlet D
    behind failed given' =
        record s { queues = record s.queues { now = q }; disk = record s.disk { now = d }; events = record s.events { now = events }; failed = record s.failed { now = failed }; given = given' }

    pub holds-same : (failed : Option RunErr) (given' : FedItems) → HoldsSame start (behind failed given')
    holds-same failed given' =
        record { queues = came.holds.queues; disk = came.holds.disk; events = came.holds.events; failed = came.holds.failed; wires = came.holds.wires; seat = came.holds.seat }

    grown : LogGrows (log start.disk.now) (log d) (faults start.disk.now) (faults d)
    grown = grows-both _ _ _ _ _ _ came.grows grew

    -- one item more went on
    pub came-item : (failed : Option RunErr) (given' : FedItems) (port : ℕ) (item : Item) → given'.items ≡ s.given.items ++ (port, item) ∷ []
        → SentWhole (arcs_from s.wires.now s.seat port) item s.queues.now q (known (log s.disk.now)) (known (log d)) failed
        → IsShown s.wires.now s.seat ((port, item) ∷ []) [] s.events.now.items events.items
        → Came log faults start (behind failed given')
    came-item failed given' port item items did shown =
        record {
          holds = holds-same failed given';
          shown = rw items (shown-item s.wires.now s.seat s.given.items s.noted.drops (port, item) start.events.now.items s.events.now.items events.items came.shown shown);
          sent = λ whole.
              rw items
              (pushes-both _ _ _ _ _ _ _ _ _ _ _ _ _ _ _ (came.sent (opened.passes 0).whole) did.sent
              (λ time fine. fine-first time s.given.items (port, item) fine)
              (λ arc. sent-append s.wires.now s.seat s.given.items (port, item) arc)
              (λ arc away. (away, apart-arcs s.wires.now s.seat port arc (opened.joined port arc) away)));
          fails = none-told failed _ did.whole;
          grows = grown;
        }

    -- the call failed: the fault that was met is kept, and where none is kept nothing went on; nothing more was shown
    pub came-fault : (failed : Option RunErr) → events.items ≡ s.events.now.items → SendErr s.queues.now q (log s.disk.now) (log d) (faults s.disk.now) (faults d) failed
        → Came log faults start (behind failed s.given)
    came-fault failed same err =
        record {
          holds = holds-same failed s.given;
          shown = rw same came.shown;
          sent = λ whole.
              pushes-both _ _ _ _ _ _ _ _ _ _ _ _ _ _ _ (came.sent (opened.passes 0).whole) (err.unsent whole) (λ time fine. (fine, tt))
              (λ arc. sym (append-nil (sent_to s.wires.now s.seat s.given.items arc))) (λ arc away. (away, refl));
          fails = fault-told failed _ (fails-since _ _ _ _ _ _ _ _ came.grows err.fails);
          grows = grown;
        }

  -- a decision was shown
  pub came-drop : (start s : QueueOutlet D) → Came log faults start s → (events : Vec Event Global) (noted : Noted) (d : Decision)
      → noted.drops ≡ s.noted.drops ++ d ∷ [] → events.items ≡ s.events.now.items ++ Dropped d ∷ []
      → Came log faults start (record s { events = record s.events { now = events }; noted = noted })
  came-drop start s came events noted d drops same =
      record {
        holds = record { queues = came.holds.queues; disk = came.holds.disk; events = came.holds.events; failed = came.holds.failed; wires = came.holds.wires; seat = came.holds.seat };
        shown = rw drops (shown-drop s.wires.now s.seat s.given.items s.noted.drops d start.events.now.items s.events.now.items events.items came.shown same);
        sent = came.sent;
        fails = came.fails;
        grows = came.grows;
      }

  -- the decision couldn't be shown
  pub came-same : (start s : QueueOutlet D) → Came log faults start s → (events : Vec Event Global) → events.items ≡ s.events.now.items
      → Came log faults start (record s { events = record s.events { now = events } })
  came-same start s came events same =
      record {
        holds = record { queues = came.holds.queues; disk = came.holds.disk; events = came.holds.events; failed = came.holds.failed; wires = came.holds.wires; seat = came.holds.seat };
        shown = rw same came.shown;
        sent = came.sent;
        fails = came.fails;
        grows = came.grows;
      }
