-- Why steps fail.
use Rattle.std.proofs.Common.{◌≡◌, ◌≢◌, ℕ, ◌≤◌, ◌⊎◌, inl, inr, Bool, true, Option, Some, le_refl, le_trans, refl, sym, subst}
use Rattle.std.specs.Prelude.{◌+◌, ◌^◌, length, slice_get}
use Rattle.sq_item.specs.Things.{spread}
use Rattle.sq_item.specs.declared.Item.{Item}
use Rattle.sq_outside.specs.Disks.{DiskLog, Pages}
use Rattle.sq_outside.specs.Faults.{Rose}
use Rattle.sq_queue.specs.declared.Queues.{Queues}
use Rattle.sq_bring.specs.declared.bring.QueueErr.{QueueErr}
use Rattle.sq_bring.specs.declared.bring.QueueErr.TheVariants as queue
use Rattle.sq_pool.specs.Trust.{IsLater}
use Rattle.sq_pool.proofs.TrustLemmas.{came-since, IsLater-refl, IsLater-trans}
use Rattle.sq_queue.specs.Faces.{IsRefusal}
use Rattle.sq_bring.specs.Bringing.{IsTold, NoMisfit}
use Rattle.sq_paged.proofs.CallLemmas.{rose-since}
use Rattle.sq_oper.specs.declared.operator.Operator.{Ghosts}
use Rattle.sq_flow.specs.declared.wires.Arc.{Arc}
use Rattle.sq_flow.specs.declared.seats.Seat.{Seat}
use Rattle.sq_flow.specs.declared.flow.Flow.{Flow}
use Rattle.sq_flow.specs.declared.errors.RunErr.{RunErr}
use Rattle.sq_flow.specs.declared.errors.RunErr.TheVariants as error
use Rattle.sq_flow.specs.Takes.{MayBeFed, NotChanged}
use Rattle.sq_flow.specs.Wiring.{arcs_read}
use Rattle.sq_flow.specs.Flows.{TooMuchOnly}
use Rattle.sq_flow.specs.Causes.{of_queue, IsQueueCause, FailsOver, LogGrows, IsCauseIn, IsFeedCause, IsPageRefused, HasTaken}
use Rattle.std.proofs.lemmas.Bool.{false_from_ne_true}

-- a page that was refused in a call was so in a longer one
refusal-since : (q r : Queues) (was mid is : DiskLog) (arc : ℕ) (e : QueueErr) → IsLater was mid → IsRefusal q r mid is arc e → IsRefusal q r was is arc e
refusal-since q r was mid is arc queue.Disk later h = tt
refusal-since q r was mid is arc (queue.Garbled page kept got) later (node, stands, (at, own, (bytes, back, digest), differ, put), same) = (
  node,
  stands,
  (at, own, (bytes, record { there = back.there; came = came-since was mid is _ bytes later back.came }, digest), differ, put),
  same,
)
refusal-since q r was mid is arc (queue.NotAPage page bytes) later (node, stands, (at, out, (back, digest, put), misfit), same) = (
  node,
  stands,
  (at, out, (record { there = back.there; came = came-since was mid is page bytes.items later back.came }, digest, put), misfit),
  same,
)
refusal-since q r was mid is arc queue.Memory later h = tt

pub page-since : (queues : Queues) (was mid is : DiskLog) (e : QueueErr) → IsLater was mid → IsPageRefused queues mid is e → IsPageRefused queues was is e
page-since queues was mid is e later h = record { before = h.before; arc = h.arc; refusal = refusal-since h.before queues was mid is h.arc e later h.refusal }

pub queue-cause-since : (queues : Queues) (was mid is : DiskLog) (before between now : ℕ) (e : RunErr) → IsLater was mid → before ≤ between → IsQueueCause queues mid is between now e → IsQueueCause queues was is before now e
queue-cause-since queues was mid is before between now error.Disk later le h = rose-since before between now le h
queue-cause-since queues was mid is before between now (error.Garbled page kept got) later le h =
    page-since queues was mid is (queue.Garbled page kept got) later h
queue-cause-since queues was mid is before between now (error.NotAPage page bytes) later le h =
    page-since queues was mid is (queue.NotAPage page bytes) later h
queue-cause-since queues was mid is before between now (error.Strange arc item) later le h = h
queue-cause-since queues was mid is before between now error.TooMuch later le h = h
queue-cause-since queues was mid is before between now error.Memory later le h = h

pub changed-since : (was now : Bool) (e : RunErr) → now ≡ was → NotChanged now e → NotChanged was e
changed-since was now e same h = subst (λ (b : Bool). NotChanged b e) same h

-- a call behind another
pub grows-none : (log : DiskLog) (faults : ℕ) → LogGrows log log faults faults
grows-none log faults = record { later = IsLater-refl log; faults = le_refl faults }

pub grows-both : (was mid is : DiskLog) (before between now : ℕ) → LogGrows was mid before between → LogGrows mid is between now → LogGrows was is before now
grows-both was mid is before between now a b = record { later = IsLater-trans was mid is a.later b.later; faults = le_trans a.faults b.faults }

pub fails-since : (queues : Queues) (was mid is : DiskLog) (before between now : ℕ) (e : RunErr) → LogGrows was mid before between → FailsOver queues mid is between now e → FailsOver queues was is before now e
fails-since queues was mid is before between now e grows h =
    record {
      cause = queue-cause-since queues was mid is before between now e grows.later grows.faults h.cause;
      honest = λ told. changed-since was.honest mid.honest e grows.later.honest (h.honest told);
    }

pub cause-since : {O : Type 0} (flow : Flow O) (was mid is : DiskLog) (before between now : ℕ) (e : RunErr) → IsLater was mid → before ≤ between → IsCauseIn flow mid is between now e → IsCauseIn flow was is before now e
cause-since flow was mid is before between now error.Disk later le h = rose-since before between now le h
cause-since flow was mid is before between now (error.Garbled page kept got) later le h =
    page-since flow.queues was mid is (queue.Garbled page kept got) later h
cause-since flow was mid is before between now (error.NotAPage page bytes) later le h =
    page-since flow.queues was mid is (queue.NotAPage page bytes) later h
cause-since flow was mid is before between now (error.Strange arc item) later le h = h
cause-since flow was mid is before between now error.TooMuch later le h = h
cause-since flow was mid is before between now error.Memory later le h = h

-- the error of one call of the queues
pub cause-of : (q r : Queues) (arc : ℕ) (was is : DiskLog) (before now : ℕ) (e : QueueErr) → (e ≡ queue.Disk → Rose before now) → IsRefusal q r was is arc e → IsQueueCause r was is before now (of_queue e)
cause-of q r arc was is before now queue.Disk rose h = rose refl
cause-of q r arc was is before now (queue.Garbled page kept got) rose h = record { before = q; arc = arc; refusal = h }
cause-of q r arc was is before now (queue.NotAPage page bytes) rose h = record { before = q; arc = arc; refusal = h }
cause-of q r arc was is before now queue.Memory rose h = tt

-- over a disk that is known the error of one call of the queues is none of a page, but for a garbled one where it isn't honest
pub told-of : (honest : Bool) (e : QueueErr) → (honest ≡ true → IsTold e) → NoMisfit e → NotChanged honest (of_queue e)
told-of honest queue.Disk told fits = tt
told-of honest (queue.Garbled page kept got) told fits = false_from_ne_true honest told
told-of honest (queue.NotAPage page bytes) told fits = absurd fits
told-of honest queue.Memory told fits = tt

-- the error of a step whose call over the queues failed
pub cause-in : {O : Type 0} (flow : Flow O) (was is : DiskLog) (before now : ℕ) (e : RunErr) → IsQueueCause flow.queues was is before now e → IsCauseIn flow was is before now e
cause-in flow was is before now error.Disk h = h
cause-in flow was is before now (error.Garbled page kept got) h = h
cause-in flow was is before now (error.NotAPage page bytes) h = h
cause-in flow was is before now (error.Strange arc item) h = absurd h
cause-in flow was is before now error.TooMuch h = tt
cause-in flow was is before now error.Memory h = tt

-- no feed failed that took an item
pub feeds-none : {O : Type 0} (flow flow' : Flow O) (log log' : DiskLog) (queues : Queues) (was is : DiskLog) (before now : ℕ) (e : RunErr) → IsQueueCause queues was is before now e → IsFeedCause flow flow' log log' e
feeds-none flow flow' log log' queues was is before now error.Disk h = tt
feeds-none flow flow' log log' queues was is before now (error.Garbled page kept got) h = tt
feeds-none flow flow' log log' queues was is before now (error.NotAPage page bytes) h = tt
feeds-none flow flow' log log' queues was is before now (error.Strange arc item) h = absurd h
feeds-none flow flow' log log' queues was is before now error.TooMuch h = absurd h
feeds-none flow flow' log log' queues was is before now error.Memory h = tt

-- the error of a step to which an item was refused
pub refused-in : {O : Type 0} (flow : Flow O) (actor port arc : ℕ) (s : Seat O) (at : Arc) (was is : DiskLog) (before now : ℕ) (e : RunErr) (T : Item → Type 0)
    → slice_get (arcs_read flow.wires actor) port ≡ Some arc → slice_get flow.seats.items actor ≡ Some s → slice_get flow.wires.arcs.items arc ≡ Some at
    → IsQueueCause flow.queues was is before now e ⊎ ((item : Item) × (e ≡ error.Strange arc item) × T item × ¬ (MayBeFed at port s.tally.place flow.clock item)) → IsCauseIn flow was is before now e
refused-in flow actor port arc s at was is before now e T reads seated wired (inl h) = cause-in flow was is before now e h
refused-in flow actor port arc s at was is before now e T reads seated wired (inr (item, same, taken, refused)) =
    subst (IsCauseIn flow was is before now) (sym same) (record { number = actor; port = port; seat = s; at = at; reads = reads; seated = seated; wired = wired; refused = refused })

pub refused-feed : {O : Type 0} (flow flow' : Flow O) (actor port arc : ℕ) (log log' : DiskLog) (was is : DiskLog) (before now : ℕ) (e : RunErr) (N : Item → Type 0)
    → slice_get (arcs_read flow.wires actor) port ≡ Some arc → flow' ≡ record flow { queues = flow'.queues }
    → IsQueueCause flow'.queues was is before now e ⊎ ((item : Item) × (e ≡ error.Strange arc item) × HasTaken log log' flow.queues flow'.queues arc item × N item) → IsFeedCause flow flow' log log' e
refused-feed flow flow' actor port arc log log' was is before now e N reads same (inl h) = feeds-none flow flow' log log' flow'.queues was is before now e h
refused-feed flow flow' actor port arc log log' was is before now e N reads same (inr (item, is-strange, taken, refused)) =
    subst (IsFeedCause flow flow' log log') (sym is-strange) (record { seat = actor; port = port; reads = reads; same = same; taken = taken })

pub full-feed : {O : Type 0} (flow flow' : Flow O) (actor port arc : ℕ) (item : Item) (log log' : DiskLog) (e : RunErr)
    → slice_get (arcs_read flow.wires actor) port ≡ Some arc → flow' ≡ record flow { queues = flow'.queues } → HasTaken log log' flow.queues flow'.queues arc item
    → e ≡ error.TooMuch → 2 ^ 62 ≤ flow.taken + length (spread item) → IsFeedCause flow flow' log log' e
full-feed flow flow' actor port arc item log log' e reads same taken is over =
    subst (IsFeedCause flow flow' log log') (sym is)
    (record { arc = arc; item = item; takes = record { seat = actor; port = port; reads = reads; same = same; taken = taken }; over = over })

pub too-much-in : {O : Type 0} (flow : Flow O) (was is : DiskLog) (before now : ℕ) (e : RunErr) → e ≡ error.TooMuch → IsCauseIn flow was is before now e
too-much-in flow was is before now e same = subst (IsCauseIn flow was is before now) (sym same) tt

-- no call over the queues counts
pub counts-none : (queues : Queues) (was is : DiskLog) (before now : ℕ) (e : RunErr) → IsQueueCause queues was is before now e → e ≢ error.TooMuch
counts-none queues was is before now e h = λ same. subst (IsQueueCause queues was is before now) same h

pub none-too-much : {O : Type 0} (m : Ghosts O) (was is : Option Pages) (flow flow' : Flow O) (e : RunErr) → e ≢ error.TooMuch → TooMuchOnly m was is flow flow' e
none-too-much m was is flow flow' e not = record { counted = λ same. absurd (not same); turns = λ same. absurd (not same) }
