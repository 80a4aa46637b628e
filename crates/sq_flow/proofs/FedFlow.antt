-- What a feed keeps.
use Rattle.std.proofs.Common.{◌≡◌, ◌≢◌, ℕ, ◌+◌, ◌<◌, ◌≤◌, ◌^◌, eqb, cond, Bool, true, false, not, List, [], ◌∷◌, ◌++◌, length, Option, Some, None, refl, ap, sym, ◌∙◌, append-nil, length-append, arith, subst, ◌-◌}
use Rattle.std.specs.Prelude.{is_some, slice_get, Vec}
use Rattle.std.specs.List.{AllByRecursion}
use Rattle.std.specs.declared.alloc.Global.{Global}
use Rattle.std.proofs.lemmas.Option.{same_Some}
use Rattle.sq_value.specs.declared.Value.{Value}
use Rattle.sq_item.specs.declared.Item.{Item}
use Rattle.sq_item.specs.declared.Mark.{Mark}
use Rattle.sq_item.specs.Things.{spread, spread_all, mark_part, body_part}
use Rattle.sq_road.specs.Levels.{LevelTable, AgreesWith, level_of}
use Rattle.sq_oper.specs.declared.operator.Operator.{Ghosts}
use Rattle.sq_oper.specs.declared.outs.Decision.{Decision}
use Rattle.sq_oper.specs.declared.outs.Event.{Event}
use Rattle.sq_oper.specs.Entries.{Entry, at_port, entries}
use Rattle.sq_oper.specs.Order.{IsFuture, after_all}
use Rattle.sq_oper.specs.Outflow.{given, ThingsUpTo}
use Rattle.sq_oper.specs.Streams.{tuples_of}
use Rattle.sq_oper.proofs.GivenLemmas.{given-push, ThingsUpTo-split, ThingsUpTo-later}
use Rattle.sq_left.specs.Remainder.{Net, Holding, coming, inputs, is_known_actor}
use Rattle.sq_left.specs.Heads.{AllFine}
use Rattle.sq_left.proofs.MergeLemmas.{AllOfTime, eqb-no, eqb-not}
use Rattle.sq_left.proofs.Conserve.{Kept}
use Rattle.sq_left.proofs.ActorSteps.{EachPort, PortFacts, taken_at, Moves, FedActor}
use Rattle.sq_left.proofs.WorldSteps.{facts-at, next-is-future, next-is-first, spread-of-time, world-fed, replay-end}
use Rattle.sq_queue.specs.declared.Queues.{Queues}
use Rattle.sq_pool.specs.Trust.{IsLater, known, Tells}
use Rattle.sq_paged.specs.Fronts.{first_time, IsFaceOf}
use Rattle.sq_queue.specs.Faces.{face, size, items_on, Together}
use Rattle.sq_flow.specs.Readiness.{stands, TouchesOnly}
use Rattle.sq_flow.proofs.TouchLemmas.{away-from, stands-pushed}
use Rattle.sq_flow.proofs.SumLemmas.{sum-least, sum-most, sum-more}
use Rattle.sq_flow.proofs.WireLemmas.{sent-is}
use Rattle.std.proofs.lemmas.Bool.{not-false}
use Rattle.sq_outside.specs.Disks.{DiskLog, Pages}
use Rattle.sq_flow.specs.Causes.{HasTaken, TakesItem, TouchesArc}
use Rattle.sq_flow.specs.Shows.{IsShown}
use Rattle.sq_flow.proofs.SeatFlow.{seat-fine, runs, not-replay, own-begun, begins, seated, is-after, apart, seats-len, same-actor, comes, goes-kept}
use Rattle.sq_flow.specs.declared.wires.Arc.{Arc}
use Rattle.sq_flow.specs.declared.seats.Seat.{Seat}
use Rattle.sq_flow.specs.declared.flow.Flow.{Flow}
use Rattle.sq_heads.specs.declared.Next.TheVariants.{Feed}
use Rattle.sq_flow.specs.Wiring.{net_of, arcs_read, arc_wired, marked_of, fits_on, from_of, to_of, arc_place, pushed_by, AllOutsFine, IsOwn}
use Rattle.sq_heads.specs.Heads.{NextUpTo}
use Rattle.sq_flow.specs.Seats as seat
use Rattle.sq_flow.specs.Seats.{rest_at, decides_at, lost_at, fed_items_at, position_at, done_at, holds_at, IsSeat, Owns, FedSeat}
use Rattle.sq_flow.specs.Feeds.{FeedsInto, FeedsPart}
use Rattle.sq_flow.specs.Takes.{takes_of, fits_of, MayBeFed}
use Rattle.sq_flow.specs.Events.{drops_of}
use Rattle.sq_flow.specs.Plans.{plans_left}
use Rattle.sq_flow.specs.Flows.{world_of, IsFlow, HoldsItems, Goes, Stepped, ShowsPrefix, CostsFed, StepCosts, TooMuchOnly, fed_on, sum_below, fed_at_last, taken_in_all, work_at_last, turns_at_last, BeginsLines}
use Rattle.sq_flow.specs.declared.errors.RunErr.{RunErr}
use Rattle.sq_flow.proofs.FutureLemmas.{future-weaker, future-port, ports-from-head, moves-fed, outs-fine, own-pushed, not-pushed, apart-from, fine-after}
use Rattle.sq_flow.proofs.SendLemmas.{at_or_other}
use Rattle.sq_flow.proofs.EventLemmas.{below-outputs}
use Rattle.sq_flow.proofs.DropLemmas.{all-split, of-own, future-both}
use Rattle.std.proofs.lemmas.Map.Views.{exact_unsigned_eq}
use Rattle.sq_oper.proofs.PortLemmas.{entries_length}
use Rattle.sq_words.proofs.Numbers.{eqb_true}

one-body : (item : Item) (port : ℕ) → length (tuples_of (entries port item)) ≡ cond (is_some item.body) 1 0
one-body item port = by item.mark item.body
  where
    by : (k : Option Mark) (b : Option (List Value)) → length (tuples_of (at_port port (mark_part item.time k ++ body_part item.time b))) ≡ cond (is_some b) 1 0
    by None None = refl
    by None (Some f) = refl
    by (Some k) None = refl
    by (Some k) (Some f) = refl

-- no less is fed in all than was fed
pub work-least : {O : Type 0} (m : Ghosts O) (table : ℕ → ℕ → ℕ) (items : ℕ → List Item) (e : Flow O) → taken_in_all m e ≤ work_at_last m table items e
work-least m table items e = sum-most (λ k. seat.taken_at m (slice_get e.seats.items k)) (fed_at_last m table items e) (length e.seats.items) (λ k low. omega arith)

-- where nothing was fed
pub costs-none : {O : Type 0} (m : Ghosts O) (e : Flow O) → IsFlow m e → (was is : Option Pages) (levels : LevelTable) (before after : ℕ) → after ≡ before
    → StepCosts m was is e levels before after
costs-none m e flow was is levels before after same = λ told table agrees holds. let least = work-least m table (items_on e.queues was) e in omega (arith, least, same)

module _ {O : Type 0} (m : Ghosts O) (e : Flow O) (flow : IsFlow m e) (actor tick p at : ℕ) (a : Arc) (item : Item)
    (actor_in : actor < length e.seats.items)
    (head : NextUpTo (arcs_read e.wires actor) (λ k. (face e.queues k).first) (λ k. (face e.queues k).ended) (length (arcs_read e.wires actor)) (Feed tick p at))
    (s : Seat O) (is_seat : slice_get e.seats.items actor ≡ Some s) (is_arc : slice_get e.wires.arcs.items at ≡ Some a) where
  abbrev net : Net
  net = net_of e.wires

  fine : IsSeat m (net.takes actor) (net.fits actor) e.levels.epoch e.taken s
  fine = seat-fine m e flow actor actor_in s is_seat

  takes-is : net.takes actor p ≡ a.marked
  takes-is = ap (λ o. marked_of (arc_wired e.wires o)) head.1 ∙ ap marked_of is_arc

  fits-is : (fields : List Value) → net.fits actor p fields ≡ fits_of a p fields
  fits-is fields = ap (λ o. fits_on (arc_wired e.wires o) fields) head.1 ∙ ap (λ o. fits_on o fields) is_arc

  -- what the tests say, in the words of the operator
  pub may-come : MayBeFed a p s.tally.place e.clock item → IsFuture (m.takes_marks s.op) (m.fits s.op) (m.place s.op) (entries p item)
  may-come may =
      rw fine.place
      (future-port (takes_of a) (m.takes_marks s.op) (fits_of a) (m.fits s.op) s.tally.place p (spread item)
      (λ h. fine.arcs.marks p (takes-is ∙ h)) (λ fields h. fine.arcs.tuples p fields (fits-is fields ∙ h)) may.future)

  seat-owns : Owns m (IsOwn e.wires actor) e.levels s
  seat-owns = subst (holds_at (Owns m (IsOwn e.wires actor) e.levels)) is_seat (flow.owned actor)

  -- what a feed gives and leaves, over every disk
  module _ (s' : Seat O) (outs : List (ℕ × Item)) (drops : List Decision) (fed : FedSeat m e.levels p item outs drops s s') (may : MayBeFed a p s.tally.place e.clock item) where
    pub given-and-held : (table : ℕ → ℕ → ℕ) → AgreesWith e.levels table → (q : ℕ) → ThingsUpTo e.clock (given q outs) × ThingsUpTo e.clock (m.rest s'.op table [] q)
    given-and-held table agrees q =
        let alone : entries p item ++ [] ≡ entries p item = append-nil (entries p item) in
        let future : IsFuture (m.takes_marks s.op) (m.fits s.op) (m.place s.op) (entries p item ++ []) = rw alone (may-come may) in
        let both : m.rest s.op table (entries p item) q ≡ given q outs ++ m.rest s'.op table [] q =
        ap (λ z. m.rest s.op table z q) (sym alone) ∙ fed.law table [] agrees future q in
        ThingsUpTo-split e.clock (given q outs) (m.rest s'.op table [] q)
        (subst (ThingsUpTo e.clock) both (ThingsUpTo-later item.time e.clock _ may.in_time (fed.times table agrees q)))

    pub outs-in-time : AllOutsFine e.clock outs
    outs-in-time = outs-fine e.clock outs fed.sound (λ q. (given-and-held (level_of e.levels) (λ epoch drop h. refl) q).0)

    -- what it decides now, and what is left, is its own
    own-future : (future : List Entry) → IsFuture (m.takes_marks s'.op) (m.fits s'.op) (m.place s'.op) future
        → IsFuture (m.takes_marks s.op) (m.fits s.op) (m.place s.op) (entries p item ++ future)
    own-future future f =
        future-both (m.takes_marks s.op) (m.fits s.op) (m.place s.op) (entries p item) future (may-come may)
        (rw (sym fed.after.marks, sym fed.after.fits, sym fed.after.moves) f)

    own-drops : done_at e.over (slice_get e.seats.items actor) ≡ false → AllByRecursion (IsOwn e.wires actor) drops
    own-drops = own-begun m e flow actor actor_in s is_seat (entries p item ++ []) drops alone (m.decides s'.op (level_of e.levels) [], fed.decided (level_of e.levels) [] (λ epoch drop h. refl) alone)
      where
        alone : IsFuture (m.takes_marks s.op) (m.fits s.op) (m.place s.op) (entries p item ++ [])
        alone = rw (append-nil (entries p item)) (may-come may)

    owns-after : m.running s.op ≡ true → Owns m (IsOwn e.wires actor) e.levels s'
    owns-after running = λ _ table agrees future f.
        (all-split (IsOwn e.wires actor) drops (m.decides s'.op table future)
        (subst (AllByRecursion (IsOwn e.wires actor)) (fed.decided table future agrees (own-future future f))
        (seat-owns running table agrees (entries p item ++ future) (own-future future f)))).1

    -- the facts over every disk stay
    module _ (queues' : Queues) (taken' : ℕ) (lanes : size queues' ≡ length e.wires.arcs.items)
        (ended : (k : ℕ) → (face queues' k).ended ≡ (face e.queues k).ended)
        (more : taken' ≡ e.taken + length (spread item)) (few : taken' < 2 ^ 62)
        (unfinished : done_at e.over (slice_get e.seats.items actor) ≡ false) where
      abbrev seats' : Vec (Seat O) Global
      seats' = seated e actor s'

      is_after : slice_get seats'.items actor ≡ Some s'
      is_after = is-after e actor s' actor_in

      done-same : (other : ℕ) → done_at e.over (slice_get seats'.items other) ≡ done_at e.over (slice_get e.seats.items other)
      done-same = at_or_other (λ k. done_at e.over (slice_get seats'.items k) ≡ done_at e.over (slice_get e.seats.items k)) actor
          (ap (done_at e.over) is_after ∙ ap not fed.open_still ∙ sym (ap (done_at e.over) is_seat))
          (λ k ne. ap (done_at e.over) (apart e actor s' k ne))

      weight : cond (is_some item.body) 1 0 ≤ length (spread item)
      weight = by item.mark item.body
        where
          by : (k : Option Mark) (b : Option (List Value)) → cond (is_some b) 1 0 ≤ length (mark_part item.time k ++ body_part item.time b)
          by None None = omega arith
          by None (Some f) = omega arith
          by (Some k) None = omega arith
          by (Some k) (Some f) = omega arith

      seat-after : IsSeat m (net.takes actor) (net.fits actor) e.levels.epoch taken' s'
      seat-after =
          record {
            arcs =
                record {
                  is_valid = fed.after.is_valid;
                  marks = λ port h. ap (λ f. f port) fed.after.marks ∙ fine.arcs.marks port h;
                  tuples = λ port fields h. ap (λ f. f port fields) fed.after.fits ∙ fine.arcs.tuples port fields h;
                };
            running = fed.after.running ∙ sym (fed.open_still ∙ not-false s.tally.running (sym (ap (done_at e.over) is_seat) ∙ unfinished));
            place = fed.after.moves ∙ ap (λ z. after_all z (entries p item)) fine.place ∙ sym fed.after.place;
            counted = fed.after.counted ∙ ap (λ n. n + cond (is_some item.body) 1 0) fine.counted ∙ sym fed.after.taken;
            few = (let t = fed.after.taken in let f = fine.few in let w = weight in omega (arith, t, f, w, more));
            reads = λ opened. ap (λ (f : ℕ → Bool). f e.levels.epoch) fed.reads ∙ fine.reads (sym fed.open_still ∙ opened);
          }

      pub flow-after : IsFlow m (record e { seats = seats'; queues = queues'; taken = taken' })
      flow-after =
          record {
            shaped = rw (seats-len e actor s') flow.shaped;
            lanes = lanes;
            ended = λ arc low. ended arc ∙ flow.ended arc low ∙ sym (done-same (from_of (slice_get e.wires.arcs.items arc)));
            seats = at_or_other (λ k. holds_at (IsSeat m (net.takes k) (net.fits k) e.levels.epoch taken') (slice_get seats'.items k)) actor
                (subst (holds_at (IsSeat m (net.takes actor) (net.fits actor) e.levels.epoch taken')) (sym is_after) seat-after)
                (λ k ne. subst (holds_at (IsSeat m (net.takes k) (net.fits k) e.levels.epoch taken')) (sym (apart e actor s' k ne))
                (seat-later (net.takes k) (net.fits k) (slice_get e.seats.items k) (flow.seats k)));
            few = few;
            held = λ table agrees. at_or_other (λ k. (port : ℕ) → ThingsUpTo e.clock (rest_at m table (slice_get seats'.items k) [] port)) actor
                (λ port. subst (λ o. ThingsUpTo e.clock (rest_at m table o [] port)) (sym is_after) (given-and-held table agrees port).1)
                (λ k ne port. subst (λ o. ThingsUpTo e.clock (rest_at m table o [] port)) (sym (apart e actor s' k ne)) (flow.held table agrees k port));
            replay = flow.replay;
            levels = flow.levels;
            owned = at_or_other (λ k. holds_at (Owns m (IsOwn e.wires k) e.levels) (slice_get seats'.items k)) actor
                (subst (holds_at (Owns m (IsOwn e.wires actor) e.levels)) (sym is_after) (owns-after (runs m e flow actor actor_in s is_seat unfinished)))
                (λ k ne. subst (holds_at (Owns m (IsOwn e.wires k) e.levels)) (sym (apart e actor s' k ne)) (flow.owned k));
          }
        where
          seat-later : (takes : ℕ → Bool) (fits : ℕ → List Value → Bool) (o : Option (Seat O)) → holds_at (IsSeat m takes fits e.levels.epoch e.taken) o → holds_at (IsSeat m takes fits e.levels.epoch taken') o
          seat-later takes fits None h = tt
          seat-later takes fits (Some k) h =
              record {
                arcs = h.arcs;
                running = h.running;
                place = h.place;
                counted = h.counted;
                few = (let low = h.few in omega (arith, low, more));
                reads = h.reads;
              }

  -- where these items stand on the arcs
  module _ (table : ℕ → ℕ → ℕ) (agrees : AgreesWith e.levels table) (items mid : ℕ → List Item) (holds : HoldsItems m table items e) (faces : (k : ℕ) → IsFaceOf (face e.queues k) (items k))
      (whole : items at ≡ item ∷ mid at) (others : (k : ℕ) → k ≢ at → mid k ≡ items k) where
    abbrev was : Holding
    was = world_of m table items e

    in-order : is_known_actor net e.wires.order.items actor ≡ true
    in-order = flow.shaped.ordered actor actor_in

    time-is : item.time ≡ tick
    time-is = same_Some item.time tick (sym (ap first_time whole) ∙ sym (faces at).first ∙ head.2)

    of-time : AllOfTime tick (spread item)
    of-time = subst (λ u. AllOfTime u (spread item)) time-is (spread-of-time item)

    ports : EachPort (PortFacts net was tick p at) 0 (net.arcs actor)
    ports =
        ports-from-head net was items (λ k. arc_place (slice_get e.wires.arcs.items k)) (λ k. (face e.queues k).first) (λ k. (face e.queues k).ended) e.clock actor tick p at
        (λ k. refl) holds.queued (λ k. (faces k).first)
        (λ port arc is. flow.ended arc (flow.shaped.arcs_in actor port arc is))
        (λ port arc is. (flow.shaped.joined actor port arc is).1) head

    -- the world between the taking and the giving
    abbrev between : Holding
    between = record was { queue = λ k. spread_all (mid k) }

    moves-between : Moves net was between (taken_at at (spread item)) (λ _ _. [])
    moves-between k within = moves-fed items mid (λ _. []) (λ j. spread_all (mid j)) at item whole others k (sym (append-nil (spread_all (mid k))))

    pub next-may-come : IsFuture (net.takes actor) (net.fits actor) (position_at m (slice_get e.seats.items actor)) (entries p item)
    next-may-come =
        next-is-future net was between actor tick p at (spread item) (coming net was e.wires.order.items actor) (inputs net was e.wires.order.items actor)
        (facts-at net was e.wires.order.items flow.shaped.wired holds.facts actor in-order (not-replay m e flow actor actor_in s is_seat))
        moves-between of-time head.0 ports

    -- the tests pass
    pub passes : MayBeFed a p s.tally.place e.clock item
    passes =
        let in_time : item.time ≤ e.clock = (subst (AllFine e.clock) whole (holds.queued at)).0 in
        let here : IsFuture (net.takes actor) (net.fits actor) (position_at m (slice_get e.seats.items actor)) (entries p item) = next-may-come in
        let place : position_at m (slice_get e.seats.items actor) ≡ s.tally.place = ap (position_at m) is_seat ∙ fine.place in
        record {
          in_time = in_time;
          future = future-port (net.takes actor) (takes_of a) (net.fits actor) (fits_of a) s.tally.place p (spread item)
              (λ h. sym takes-is ∙ h) (λ fields h. sym (fits-is fields) ∙ h) (subst (λ z. IsFuture (net.takes actor) (net.fits actor) z (entries p item)) place here);
        }

    -- a future of what comes, in the words of the operator
    op-future : (future : List Entry) → IsFuture (net.takes actor) (net.fits actor) (position_at m (slice_get e.seats.items actor)) (entries p item ++ future)
        → IsFuture (m.takes_marks s.op) (m.fits s.op) (m.place s.op) (entries p item ++ future)
    op-future future f =
        let place : position_at m (slice_get e.seats.items actor) ≡ m.place s.op = ap (position_at m) is_seat in
        future-weaker (net.takes actor) (m.takes_marks s.op) (net.fits actor) (m.fits s.op) (m.place s.op) (entries p item ++ future)
        fine.arcs.marks fine.arcs.tuples (subst (λ z. IsFuture (net.takes actor) (net.fits actor) z (entries p item ++ future)) place f)

    -- what is still to be fed to the actor begins with the item
    abbrev comes-first : (future : List Entry) × IsFuture (net.takes actor) (net.fits actor) (position_at m (slice_get e.seats.items actor)) (entries p item ++ future)
        × ((port : ℕ) → coming net was e.wires.order.items actor port ≡ rest_at m table (slice_get e.seats.items actor) (entries p item ++ future) port)
        × (inputs net was e.wires.order.items actor ≡ entries p item ++ future)
    comes-first =
        next-is-first net was between actor tick p at (spread item) (coming net was e.wires.order.items actor) (inputs net was e.wires.order.items actor)
        (facts-at net was e.wires.order.items flow.shaped.wired holds.facts actor in-order (not-replay m e flow actor actor_in s is_seat)) moves-between of-time head.0 ports

    -- so as much more is to be taken and to be fed
    pub turns-over : e.taken + length (spread item) ≤ turns_at_last m table items e
    turns-over =
        let first = comes-first in
        let ins = λ (k : ℕ). length (inputs net was e.wires.order.items k) in
        let least = sum-least ins (length e.seats.items) actor actor_in in
        let own = ap (λ (l : List Entry). length l) first.3 ∙ length-append (entries p item) first.0 in
        let one = entries_length p (spread item) in omega (arith, least, own, one)

    -- what a feed that failed has shown
    pub shows-part : (events events' : List Event) → FeedsPart m e.levels p item e.wires actor s events events' → MayBeFed a p s.tally.place e.clock item
        → done_at e.over (slice_get e.seats.items actor) ≡ false → BeginsLines m table items e events events'
    shows-part events events' part may unfinished =
        let first = comes-first in
        let came = entries p item ++ first.0 in
        let op = op-future first.0 first.1 in
        let alone : IsFuture (m.takes_marks s.op) (m.fits s.op) (m.place s.op) (entries p item ++ []) = rw (append-nil (entries p item)) (may-come may) in
        begins m e flow actor actor_in s is_seat table items came part.items part.drops events events' (first.2 0) first.3 (part.law table first.0 agrees op 0) (part.decided table first.0 agrees op)
        (own-begun m e flow actor actor_in s is_seat (entries p item ++ []) part.drops alone (part.decided (level_of e.levels) [] (λ epoch drop h. refl) alone) unfinished) part.shown

    -- after the feed
    module _ (queues' : Queues) (taken' : ℕ) (s' : Seat O) (outs : List (ℕ × Item)) (drops : List Decision) (items' : ℕ → List Item)
        (fed : FedSeat m e.levels p item outs drops s s') (unfinished : done_at e.over (slice_get e.seats.items actor) ≡ false)
        (given_on : (k : ℕ) → k < length e.wires.arcs.items → spread_all (items' k) ≡ spread_all (mid k) ++ pushed_by actor outs (net.from k) (net.port k))
        (fine_on : (time : ℕ) → AllOutsFine time outs → ((k : ℕ) → AllFine time (mid k)) → (k : ℕ) → AllFine time (items' k))
        (may : MayBeFed a p s.tally.place e.clock item) where
      abbrev e' : Flow O
      e' = record e { seats = seated e actor s'; queues = queues'; taken = taken' }

      abbrev is : Holding
      is = world_of m table items' e'

      abbrev decided : ℕ → List Decision
      decided k = cond (eqb k actor) drops []

      abbrev took : ℕ → List Entry
      took k = cond (eqb k actor) (entries p item) []

      at_after : slice_get e'.seats.items actor ≡ Some s'
      at_after = is-after e actor s' actor_in

      moves-all : Moves net was is (taken_at at (spread item)) (pushed_by actor outs)
      moves-all k within =
          moves-fed items mid (λ j. pushed_by actor outs (net.from j) (net.port j)) (λ j. spread_all (items' j)) at item whole others k (given_on k within)

      law-here : FedActor net was is (pushed_by actor outs) decided actor p (spread item)
      law-here =
          record {
            law = λ future f port.
                ap (λ o. rest_at m table o (entries p item ++ future) port) is_seat
                ∙ fed.law table future agrees (op-future future f) port
                ∙ ap (λ z. z ++ m.rest s'.op table future port) (sym (own-pushed actor outs port))
                ∙ ap (λ o. pushed_by actor outs actor port ++ rest_at m table o future port) (sym at_after);
            decisions = λ future f.
                ap (λ o. decides_at m table o (entries p item ++ future)) is_seat
                ∙ fed.decided table future agrees (op-future future f)
                ∙ ap (λ b. cond b drops [] ++ m.decides s'.op table future) (sym (eqb_true actor actor refl))
                ∙ ap (λ o. decided actor ++ decides_at m table o future) (sym at_after);
            lost = λ future.
                ap (λ o. lost_at m o (entries p item ++ future)) is_seat ∙ fed.loses future ∙ ap (λ o. lost_at m o future) (sym at_after);
            counted =
                ap (seat.taken_at m) at_after ∙ fed.after.counted ∙ ap (λ n. m.taken s.op + n) (sym (one-body item p)) ∙ ap (λ o. seat.taken_at m o + length (tuples_of (entries p item))) (sym is_seat);
            place = ap (position_at m) at_after ∙ fed.after.moves ∙ ap (λ o. after_all (position_at m o) (entries p item)) (sym is_seat);
            running = ap (done_at e.over) at_after ∙ ap not fed.open_still ∙ sym (ap (done_at e.over) is_seat) ∙ unfinished;
          }

      pub kept : Kept net was is (pushed_by actor outs) decided took e.wires.order.items
      kept =
          let facts = holds.facts in
          world-fed net was is (pushed_by actor outs) decided took actor tick p at (spread item) e.wires.order.items flow.shaped.wired facts
          moves-all of-time head.0 ports law-here (ap (λ b. cond b (entries p item) []) (eqb_true actor actor refl)) (same-actor e actor s' m table items items' e') (λ other ne port. not-pushed actor other outs ne port)
          (λ other ne. ap (λ b. cond b drops []) (eqb-not other actor ne)) (λ other ne. ap (λ b. cond b (entries p item) []) (eqb-not other actor ne))
          (apart-from net (λ k. to_of (slice_get e.wires.arcs.items k)) actor at p (spread item) (λ other port arc k. (flow.shaped.joined other port arc k).0) head.1)
          (not-replay m e flow actor actor_in s is_seat) (λ port. refl) (ap (done_at e.over) (apart e actor s' net.replay (λ k. not-replay m e flow actor actor_in s is_seat (sym k))))
          (replay-end net was e.wires.order.items facts)

      pub holds-after : HoldsItems m table items' e'
      holds-after =
          record {
            facts = kept.facts;
            queued = fine_on e.clock (outs-in-time s' outs drops fed may) (fine-after e.clock at items mid item whole others holds.queued);
          }

      -- the arc at a port is the one that was taken from where the port is the one that was fed
      same-arc : (port arc : ℕ) → slice_get (arcs_read e.wires actor) port ≡ Some arc → eqb p port ≡ eqb arc at
      same-arc port arc reads = by (eqb p port) refl
        where
          by : (b : Bool) → eqb p port ≡ b → b ≡ eqb arc at
          by true t =
              let here : p ≡ port = exact_unsigned_eq p port t in
              let same : arc ≡ at = same_Some arc at (sym reads ∙ ap (slice_get (arcs_read e.wires actor)) (sym here) ∙ head.1) in
              sym (eqb_true arc at same)
          by false t =
              let away : p ≢ port = eqb-no p port t in
              sym (eqb-not arc at (λ same.
              away (sym (flow.shaped.joined actor p at head.1).1 ∙ ap (λ k. arc_place (slice_get e.wires.arcs.items k)) (sym same) ∙ (flow.shaped.joined actor port arc reads).1)))

      -- what was taken from an arc was fed at its port
      feeds : (other port arc : ℕ) → slice_get (arcs_read e.wires other) port ≡ Some arc → fed_on e' other port ≡ fed_on e other port ++ taken_at at (spread item) arc
      feeds other =
          at_or_other (λ k. (port arc : ℕ) → slice_get (arcs_read e.wires k) port ≡ Some arc → fed_on e' k port ≡ fed_on e k port ++ taken_at at (spread item) arc) actor
          (λ port arc reads.
          ap (λ (o : Option (Seat O)). given port (fed_items_at o)) at_after ∙ ap (given port) fed.came ∙ given-push port p s.fed.items item
          ∙ ap (λ (o : Option (Seat O)). given port (fed_items_at o) ++ cond (eqb p port) (spread item) []) (sym is_seat)
          ∙ ap (λ b. fed_on e actor port ++ cond b (spread item) []) (same-arc port arc reads))
          (λ k ne port arc reads.
          let away : arc ≢ at = λ same. ne (sym (flow.shaped.joined k port arc reads).0 ∙ ap (λ j. to_of (slice_get e.wires.arcs.items j)) same ∙ (flow.shaped.joined actor p at head.1).0) in
          ap (λ (o : Option (Seat O)). given port (fed_items_at o)) (apart e actor s' k ne) ∙ sym (append-nil (fed_on e k port))
          ∙ ap (λ b. fed_on e k port ++ cond b (spread item) []) (sym (eqb-not arc at away))) other

      turns-fed : taken' ≡ e.taken + length (spread item) → turns_at_last m table items e ≡ turns_at_last m table items' e'
      turns-fed more =
          let ins = comes m e e' flow table items items' holds (pushed_by actor outs) decided took (seats-len e actor s') kept in
          let own : length (inputs net was e.wires.order.items actor) ≡ length (inputs net is e.wires.order.items actor) + length (spread item) = (
          let c = ap (λ (l : List Entry). length l) (ins actor actor_in ∙ ap (λ b. cond b (entries p item) [] ++ inputs net is e.wires.order.items actor) (eqb_true actor actor refl)) in
          let both = length-append (entries p item) (inputs net is e.wires.order.items actor) in
          let one = entries_length p (spread item) in omega (arith, c, both, one)
          ) in
          let sums = sum-more (λ other. length (inputs net is e.wires.order.items other)) (λ other. length (inputs net was e.wires.order.items other)) (length e.seats.items) actor (length (spread item)) actor_in
          (λ other low ne. ap (λ (l : List Entry). length l) (ins other low ∙ ap (λ b. cond b (entries p item) [] ++ inputs net is e.wires.order.items other) (eqb-not other actor ne))) own in
          let all : turns_at_last m table items e ≡ taken' + sum_below (λ other. length (inputs net is e.wires.order.items other)) (length e.seats.items) = omega (arith, sums, more) in
          all ∙ ap (λ n. taken' + sum_below (λ other. length (inputs net is e.wires.order.items other)) n) (sym (seats-len e actor s'))

      pub goes-after : (events events' : List Event) → taken' ≡ e.taken + length (spread item) → IsShown e.wires actor outs drops events events' → Goes m table items items' e e' events events'
      goes-after events events' more shown =
          goes-kept m e e' flow table items items' holds (pushed_by actor outs) decided took (seats-len e actor s') kept (taken_at at (spread item)) events events' moves-all feeds (turns-fed more)
          (λ output low. shown.lines output)
          (λ w low. shown.decided w ∙ ap (λ z. drops_of w events ++ z) (of-own e.wires actor w drops (own-drops s' outs drops fed may unfinished)))

  -- where the pages are known the tests pass, whatever stands behind the item
  pub passes-front : (table : ℕ → ℕ → ℕ) → AgreesWith e.levels table → (items : ℕ → List Item) → HoldsItems m table items e → ((k : ℕ) → IsFaceOf (face e.queues k) (items k)) → (more : List Item) → items at ≡ item ∷ more
      → MayBeFed a p s.tally.place e.clock item
  passes-front table agrees items holds faces more whole =
      passes table agrees items (λ k. cond (eqb k at) more (items k)) holds faces
      (whole ∙ ap (λ b. item ∷ cond b more (items at)) (sym (eqb_true at at refl)))
      (λ k ne. ap (λ b. cond b more (items k)) (eqb-not k at ne))

  -- where the item can't be counted
  pub too-much-front : (was mid : DiskLog) (q1 : Queues) (e' : Flow O) (err : RunErr) → Together e.queues (known was) → IsLater was mid → HasTaken was mid e.queues q1 at item
      → (Tells (known mid) → (other : ℕ) → other ≢ at → items_on q1 (known mid) other ≡ items_on e.queues (known was) other)
      → 2 ^ 62 ≤ e.taken + length (spread item) → length (spread item) ≤ 2 → e'.taken ≡ e.taken → e'.levels ≡ e.levels → TooMuchOnly m (known was) (known mid) e e' err
  too-much-front was mid q1 e' err together later front others over few taken levels =
      record {
        counted = λ is. omega (arith, over, few, taken);
        turns = λ is told table agrees holds.
            let most = turns-over table (rw levels at agrees) (items_on e.queues (known was)) (items_on q1 (known mid)) holds (together.faces (later.known told)) (front.items told) (others told) in
            omega (arith, over, most);
      }

  -- where the item was fed
  pub costs-fed : (queues' : Queues) (taken' : ℕ) (s' : Seat O) (before after : ℕ) → m.taken s'.op ≡ m.taken s.op + cond (is_some item.body) 1 0 → after ≡ before + cond (is_some item.body) 1 0
      → CostsFed m e (record e { seats = seated e actor s'; queues = queues'; taken = taken' }) before after
  costs-fed queues' taken' s' before after counted more =
      let sums = sum-more (λ k. seat.taken_at m (slice_get e.seats.items k)) (λ k. seat.taken_at m (slice_get (seated e actor s').items k)) (length e.seats.items) actor (cond (is_some item.body) 1 0) actor_in
      (λ k low ne. ap (seat.taken_at m) (apart e actor s' k ne)) (ap (seat.taken_at m) (is-after e actor s' actor_in) ∙ counted ∙ ap (λ o. seat.taken_at m o + cond (is_some item.body) 1 0) (sym is_seat)) in
      let whole : taken_in_all m (record e { seats = seated e actor s'; queues = queues'; taken = taken' }) ≡ taken_in_all m e + cond (is_some item.body) 1 0 = rw (seats-len e actor s') sums in
      omega (arith, whole, more)

  -- what the item that was taken, and the feed, say together
  module _ (was mid : DiskLog) (q1 : Queues) (together : Together e.queues (known was)) (later : IsLater was mid) (took : TakesItem was mid e.queues q1 a at p s.tally.place e.clock item)
      (unfinished : done_at e.over (slice_get e.seats.items actor) ≡ false) where
    pub fed-part : (is : Option Pages) (events events' : List Event) → (Tells is → Tells (known mid)) → FeedsPart m e.levels p item e.wires actor s events events' → ShowsPrefix m (known was) is e e.levels events events'
    fed-part _ events events' then part = λ told table agrees holds.
        shows-part table agrees (items_on e.queues (known was)) (items_on q1 (known mid)) holds (together.faces (later.known (then told))) (took.taken.items (then told)) (took.others (then told))
        events events' part took.may_be_fed unfinished

    module _ (is : Option Pages) (q' : Queues) (taken' : ℕ) (s' : Seat O) (events events' : List Event) (others : TouchesArc at e.queues q1)
        (into : FeedsInto m e.levels p item e.wires actor s s' q1 q' (known mid) is events events') where
      abbrev after : Flow O
      after = record e { seats = seated e actor s'; queues = q'; taken = taken' }

      pub fed-touches : TouchesOnly actor e after
      fed-touches =
          record {
            apart = λ arc low to from. into.onward.sent.apart arc (away-from e.wires actor arc from) ∙ others.faces arc (not-fed arc to);
            grows = λ arc low to h. stands-pushed q1 q' (known mid) is _ _ _ into.onward.sent arc (ap stands (others.faces arc (not-fed arc to)) ∙ h);
            others = λ other low ne. ap (done_at e.over) (apart e actor s' other ne);
            sources = λ ne. refl;
            ahead = refl;
          }
        where
          not-fed : (arc : ℕ) → to_of (slice_get e.wires.arcs.items arc) ≢ actor → arc ≢ at
          not-fed arc to same = to (ap (λ k. to_of (slice_get e.wires.arcs.items k)) same ∙ (flow.shaped.joined actor p at head.1).0)

      pub fed-stepped : taken' ≡ e.taken + length (spread item) → taken' < 2 ^ 62 → Stepped m (known was) is e after events events'
      fed-stepped more few =
          record {
            flow_after = flow-after s' into.items into.drops into.fed took.may_be_fed q' taken' (into.onward.sent.lanes ∙ others.size ∙ flow.lanes) (λ k. into.onward.sent.ended k ∙ took.ended k) more few unfinished;
            together = into.onward.sent.together;
            tells = λ told. later.known (into.onward.sent.tells told);
            wires = refl;
            ahead = refl;
            framed = into.onward.sent.framed ∙ took.framed;
            seats = seats-len e actor s';
            closes = λ table h. h;
            shows = into.onward.shown.below (length e.seats.items - e.wires.shown) (below-outputs actor (length e.seats.items) e.wires.shown actor_in) (own-drops s' into.items into.drops into.fed took.may_be_fed unfinished);
            planner = refl;
            planned = λ all h. record { agrees = h.agrees; counts = h.counts };
            plans = ap (λ z. z ++ plans_left e) (sym into.onward.shown.plans);
            holds = λ told table agrees holds.
                let then = into.onward.sent.tells told in
                holds-after table agrees (items_on e.queues (known was)) (items_on q1 (known mid)) holds (together.faces (later.known then)) (took.taken.items then) (took.others then) q' taken' s' into.items into.drops (items_on q' is)
                into.fed unfinished (on told) (into.onward.sent.fine told) took.may_be_fed;
            goes = λ told table agrees holds.
                let then = into.onward.sent.tells told in
                goes-after table agrees (items_on e.queues (known was)) (items_on q1 (known mid)) holds (together.faces (later.known then)) (took.taken.items then) (took.others then) q' taken' s' into.items into.drops (items_on q' is)
                into.fed unfinished (on told) (into.onward.sent.fine told) took.may_be_fed events events' more into.onward.shown;
          }
        where
          on : Tells is → (k : ℕ) → k < length e.wires.arcs.items → spread_all (items_on q' is k) ≡ spread_all (items_on q1 (known mid) k) ++ pushed_by actor into.items (net.from k) (net.port k)
          on told k low =
              into.onward.sent.items told k
              ∙ ap (λ z. spread_all (items_on q1 (known mid) k) ++ z) (sent-is e.wires (length e.seats.items) flow.shaped actor into.items k low)
