-- A new engine of a network: its seats, and what it releases, holds and gives, are as the law of the start asks; so is what is left, and its replay alone is ready.
use Rattle.std.proofs.Common.{◌≡◌, ℕ, zero, suc, ◌+◌, ◌-◌, ◌<◌, ◌≤◌, ◌^◌, eqb, cond, Bool, true, false, not, ◌||◌, List, [], ◌∷◌, ◌++◌, map, length, Option, Some, None, Vec, slice_get, refl, ap, sym, ◌∙◌, subst, arith, zero-le, inl, inr}
use Rattle.std.specs.List.{All, AllByRecursion, flat_map, range_with_len, sum_by}
use Rattle.std.specs.declared.alloc.Global.{Global}
use Rattle.std.proofs.lemmas.Bool.{cases_lt, or_right}
use Rattle.std.proofs.lemmas.List.Elements.{All-from_recursion}
use Rattle.std.proofs.lemmas.List.Sums.{sum_by-cons}
use Rattle.std.proofs.lemmas.Option.{slice_get_within, slice_get_past, slice_get-get_or}
use Rattle.sq_value.specs.declared.Tuple.{Tuple}
use Rattle.sq_value.specs.Values.{IsStream}
use Rattle.sq_words.specs.Lists.{contains_number, nth, numbers_to}
use Rattle.sq_words.proofs.Alls.{all_at, all_weaker}
use Rattle.sq_words.proofs.Lists.{has_item}
use Rattle.sq_words.proofs.Numbers.{eqb_true}
use Rattle.sq_item.specs.declared.Item.{Item}
use Rattle.sq_item.specs.Things.{spread_all}
use Rattle.sq_outside.specs.Disks.{Pages}
use Rattle.sq_road.specs.Levels.{LevelTable}
use Rattle.sq_plan.specs.Plans.{Setting}
use Rattle.sq_plan.specs.PlanRows.{shown_after}
use Rattle.sq_place.specs.declared.DropPoint.{DropPoint}
use Rattle.sq_oper.specs.declared.operator.Operator.{Ghosts}
use Rattle.sq_oper.specs.declared.outs.Decision.{Decision}
use Rattle.sq_oper.specs.declared.tally.Position.TheVariants.{Start}
use Rattle.sq_oper.specs.Outflow.{given}
use Rattle.sq_oper.specs.Streams.{IsSoundTuple, things, tuples_in}
use Rattle.sq_oper.proofs.StreamLemmas.{tuples_back}
use Rattle.sq_net.specs.declared.Network.{Network}
use Rattle.sq_net.specs.SoundNetworks.{IsSound}
use Rattle.sq_points.specs.Points.{points_of, setting_of}
use Rattle.sq_model.specs.FullCounts.{late_of}
use Rattle.sq_model.specs.GivenLevels.{IsAt}
use Rattle.sq_model.specs.Shedding.{Replay, answer_of, batch_level}
use Rattle.sq_left.specs.Remainder.{Net, Holding, coming, inputs, inputs_by, left, still_dropped, IsLaidOut}
use Rattle.sq_left.specs.Heads.{AllFine}
use Rattle.sq_left.proofs.MergeLemmas.{eqb-not}
use Rattle.sq_below.specs.Actors as below
use Rattle.sq_below.specs.Actors.{Box, WindowDrop, OutputGate, stream_of}
use Rattle.sq_below.specs.ArcContents.{box_fed}
use Rattle.sq_below.specs.Laws.{PointsMeasured}
use Rattle.sq_sched.specs.ReadyLists.{OnlyOnce}
use Rattle.sq_queue.specs.Faces.{face}
use Rattle.sq_actor.specs.declared.actor.Actor as operator
use Rattle.sq_replay.specs.RecordedTuples.{Recorded}
use Rattle.sq_flow.specs.declared.wires.Wires.{Wires}
use Rattle.sq_flow.specs.declared.flow.Flow.{Flow}
use Rattle.sq_flow.specs.declared.engine.Engine.{Engine}
use Rattle.sq_flow.specs.declared.fed_items.FedItems.{FedItems}
use Rattle.sq_flow.specs.declared.seats.Seat.{Seat}
use Rattle.sq_flow.specs.Seats.{rest_at, decides_at, lost_at, taken_at, fed_items_at, position_at, done_at, holds_at}
use Rattle.sq_flow.specs.Starts.{IsNewSeat, IsNewFlow}
use Rattle.sq_flow.specs.Flows.{more_from, tuples_to_come, RiseFrom, world_of, fed_on, left_on, fed_at_last, items_in, sum_below, taken_in_all}
use Rattle.sq_plan.specs.Arrivals.{arrivals}
use Rattle.sq_flow.specs.Plans.{IsPlanned, last_arrival, plans_left}
use Rattle.sq_flow.specs.Readiness.{stands, IsReady}
use Rattle.sq_flow.specs.Sources.{is_clear}
use Rattle.sq_flow.specs.Engines.{seat_number, IsEngine}
use Rattle.sq_flow.specs.Wiring.{net_of, arcs_read, IsOwn}
use Rattle.sq_flow.proofs.DoneLemmas.{sums-agree}
use Rattle.sq_core.proofs.KnownLemmas.{known-clear}
use Rattle.sq_start.specs.Numbers.{IsThere, first_output, ops_of, seat_of_actor, actor_at, reads_of}
use Rattle.sq_start.specs.Nets.{ComesFrom, AllCome, fed_to, decided_by, drop_decisions, count_fed}
use Rattle.sq_start.specs.Starts.{IsReadReplay}
use Rattle.sq_start.specs.NewOperators.{IsStarted, late_of_actor}
use Rattle.sq_start.specs.Arrivals.{FedMayCome, MarksAreTaken, TuplesAreTaken}
use Rattle.sq_start.specs.Laws.{IsNew, StartsAs, StartsAsReplayed}
use Rattle.sq_start.proofs.NumberLemmas.{box-at, drop-at, output-at, replay-at, there-at, reads-there, which}
use Rattle.sq_core.specs.Meanings.{actors}
use Rattle.sq_core.specs.Table.{AreWires}
use Rattle.sq_core.specs.NewSeats.{AreNewSeats, IsSeated}
use Rattle.sq_core.specs.Answers.{KeepsAnswers, Plans}
use Rattle.sq_core.specs.Runs.{AreReplayParts}
use Rattle.sq_core.proofs.NetLemmas.{takes-arcs, marks-come, tuples-come, joins-all, reads-some}

-- ---- what an engine is made of

pub read-parts : (r : Replay) (most : ℕ) → AreReplayParts r.network r.sources most → IsReadReplay r
read-parts r most parts = record { sound = parts.sound; streams = All-from_recursion IsStream r.sources parts.streams; fit = parts.fit }

-- the places of a network's drop points are there
pub places-of : ((r : Replay) → IsSound r.network → PointsMeasured r) → (n : Network) → IsSound n → (w : ℕ) (p : DropPoint) → slice_get (points_of n) w ≡ Some p → IsAt n p.at
places-of law n sound w p there = (law (record { network = n; sources = []; entries = []; seed = 0 }) sound).there p (w, there)

pub all-places : ((r : Replay) → IsSound r.network → PointsMeasured r) → (n : Network) → IsSound n → (points : List DropPoint) → points ≡ points_of n → All (λ p. IsAt n p.at) points
all-places law n sound points same k d low = places-of law n sound k _ (ap (λ l. slice_get l k) (sym same) ∙ slice_get-get_or points k d low)

-- what is to be released of a source is its stream: its times don't fall, and it has no more than a million tuples
released : (queues : List Recorded) (source : ℕ) → tuples_to_come (slice_get queues source) ≡ nth (map (λ q. q.items) queues) source
released [] source = refl
released (q ∷ queues) zero = refl
released (q ∷ queues) (suc source) = released queues source

abbrev First : ℕ → List Tuple → Type 0
First t [] = Unit {0}
First t (x ∷ xs) = t ≤ x.time

rise-from : (time : ℕ) (xs : List Tuple) → IsStream xs → AllByRecursion IsSoundTuple xs → First time xs → RiseFrom time xs
rise-from time [] s t f = _
rise-from time (x ∷ []) s t f = (f, t.0, _)
rise-from time (x ∷ y ∷ xs) s t f = (f, t.0, rise-from x.time (y ∷ xs) s.1 t.1 s.0)

pub rising : (queues : List Recorded) → AllByRecursion IsStream (map (λ q. q.items) queues) → AllByRecursion (AllByRecursion IsSoundTuple) (map (λ q. q.items) queues)
    → (source : ℕ) → RiseFrom 0 (tuples_to_come (slice_get queues source))
rising [] s t source = _
rising (q ∷ queues) s t zero = rise-from 0 q.items s.0 t.0 (first-zero q.items)
  where
    first-zero : (xs : List Tuple) → First 0 xs
    first-zero [] = _
    first-zero (x ∷ xs) = zero-le
rising (q ∷ queues) s t (suc source) = rising queues s.1 t.1 source

pub few-queued : (queues : List Recorded) → AllByRecursion (λ xs. length xs ≤ 1000000) (map (λ q. q.items) queues) → (source : ℕ) → length (tuples_to_come (slice_get queues source)) ≤ 2 ^ 62
few-queued [] few source = zero-le
few-queued (q ∷ queues) few zero = (let most = few.0 in omega (arith, most))
few-queued (q ∷ queues) few (suc source) = few-queued queues few.1 source

-- ---- sums over the actors

sum-none : (f : ℕ → ℕ) (n : ℕ) → ((i : ℕ) → f i ≡ 0) → sum_below f n ≡ 0
sum-none f zero h = refl
sum-none f (suc n) h = (let here = h n in let more = sum-none f n h in omega (arith, here, more))

sum-front : (f : ℕ → ℕ) (n : ℕ) → sum_below f (suc n) ≡ f 0 + sum_below (λ i. f (suc i)) n
sum-front f zero = omega arith
sum-front f (suc n) = (let more = sum-front f n in omega (arith, more))

sum-range : (f : ℕ → ℕ) (a k : ℕ) → sum_by f (range_with_len a k) ≡ sum_below (λ i. f (a + i)) k
sum-range f a zero = refl
sum-range f a (suc k) =
    let cons = sum_by-cons f a (range_with_len (a + 1) k) in
    let more = sum-range f (a + 1) k in
    let same = sums-agree (λ i. f (a + 1 + i)) (λ i. f (a + suc i)) k (λ i low. (let e : a + 1 + i ≡ a + suc i = omega arith in ap f e)) in
    let first : a + 0 ≡ a = omega arith in
    let here = ap f first in
    let front = sum-front (λ i. f (a + i)) k in
    omega (arith, cons, more, same, here, front)

sum-numbers : (f : ℕ → ℕ) (n : ℕ) → sum_by f (numbers_to n) ≡ sum_below f n
sum-numbers f n =
    let range = sum-range f 0 n in
    let same = sums-agree (λ i. f (0 + i)) f n (λ i low. (let e : 0 + i ≡ i = omega arith in ap f e)) in
    omega (arith, range, same)

-- ---- new seats

-- an operator is there
there-of : (n : Network) (actor : ℕ) → actor < ops_of n → IsThere n (actor_at n actor)
there-of n actor low =
    elim (which n actor low) [
      | inl box ↦ subst (IsThere n) (sym (box-at n actor box)) box
      | inr (inl drop) ↦ subst (λ k. IsThere n (actor_at n k)) (sym drop.1) (subst (IsThere n) (sym (drop-at n drop.0 drop.2)) drop.2)
      | inr (inr output) ↦ subst (λ k. IsThere n (actor_at n k)) (sym output.1) (subst (IsThere n) (sym (output-at n output.0 output.2)) output.2)
    ]

-- all that a drop decides is its own
own-of : (n : Network) (w : Wires) → AreWires n w → (actor : ℕ) → actor < ops_of n → (d : Decision) → actor_at n actor ≡ WindowDrop d.drop → IsOwn w actor d
own-of n w wired actor low d is =
    elim (which n actor low) [
      | inl box ↦ (let bad : Box actor ≡ WindowDrop d.drop = sym (box-at n actor box) ∙ is in cc bad)
      | inr (inl drop) ↦ (
          let same : WindowDrop drop.0 ≡ WindowDrop d.drop = sym (drop-at n drop.0 drop.2) ∙ ap (actor_at n) (sym drop.1) ∙ is in
          let k : drop.0 ≡ d.drop = cc same in
          let here = drop.1 in
          let below = drop.2 in
          let sheds = wired.sheds in
          let shown = wired.shown in
          (omega (arith, sheds, k, here), omega (arith, shown, here, below)))
      | inr (inr output) ↦ (let bad : OutputGate output.0 ≡ WindowDrop d.drop = sym (output-at n output.0 output.2) ∙ ap (actor_at n) (sym output.1) ∙ is in cc bad)
    ]

module _ (n : Network) (sound : IsSound n) (places : (d : ℕ) (p : DropPoint) → slice_get (points_of n) d ≡ Some p → IsAt n p.at) (w : Wires) (wired : AreWires n w)
    (number : ℕ) (seats : List (Seat operator.Actor)) (new : AreNewSeats n number seats) where
  module _ (marks : MarksAreTaken) (tuples : TuplesAreTaken) (epoch : ℕ) (lasts : n.epoch ≡ epoch) where
    new-seat : (actor : ℕ) (seat : Seat operator.Actor) → actor < ops_of n → IsSeated n number actor seat → IsNewSeat actors ((net_of w).takes actor) ((net_of w).fits actor) (IsOwn w actor) epoch seat
    new-seat actor seat low s =
        record {
          arcs =
              record {
                is_valid = s.started.is_valid;
                marks = λ port h. s.started.marks port (marks-come n sound places w wired.measured actor low (there-of n actor low) marks port h);
                tuples = λ port fields h. s.started.fits port fields (tuples-come n sound places w wired.measured actor low (there-of n actor low) tuples port fields h);
              };
          running = s.started.running;
          place = s.started.at_start;
          taken = s.started.none_fed;
          holds_none = s.started.none;
          at_start = ap (λ t. t.place) s.none;
          none_counted = ap (λ t. t.taken) s.none;
          open_now = ap (λ t. t.running) s.none;
          owns = λ table future may. all_weaker (λ d. actor_at n actor ≡ WindowDrop d.drop) (IsOwn w actor) (own-of n w wired actor low) (actors.decides seat.op table future) (s.started.owns table future may);
          reads = subst (λ k. actors.reads seat.op k ≡ true) lasts s.started.reads;
        }

    pub new-seats : (actor : ℕ) → holds_at (IsNewSeat actors ((net_of w).takes actor) ((net_of w).fits actor) (IsOwn w actor) epoch) (slice_get seats actor)
    new-seats actor = by (slice_get seats actor) refl
      where
        by : (o : Option (Seat operator.Actor)) → slice_get seats actor ≡ o → holds_at (IsNewSeat actors ((net_of w).takes actor) ((net_of w).fits actor) (IsOwn w actor) epoch) o
        by None is = _
        by (Some seat) is = (let low = slice_get_within seats actor seat is in let count = new.count in new-seat actor seat (omega (arith, low, count)) (new.seated actor seat is))

-- ---- what is left of a stream

-- what is left of a source is what is to be released of it
coming-sources : (net : Net) (w : Holding) (order : List ℕ) → IsLaidOut net order → (port : ℕ) → coming net w order net.replay port ≡ w.source port
coming-sources net w [] wired port = refl
coming-sources net w (last ∷ earlier) wired port =
    ap (λ b. cond b (w.rest last (inputs_by net w (coming net w earlier) last) port) (coming net w earlier net.replay port)) (eqb-not net.replay last (λ e. wired.0 (sym e)))
    ∙ coming-sources net w earlier wired.2 port

-- the arc at a port comes from what the actor reads there
comes-at : (n : Network) (net : Net) (givers : List (below.Actor × ℕ)) (arcs : List ℕ) → AllCome n net givers arcs → (port : ℕ) (giver : below.Actor × ℕ) → slice_get givers port ≡ Some giver
    → (arc : ℕ) × (slice_get arcs port ≡ Some arc) × ComesFrom n net giver arc
comes-at n net [] arcs come port giver is = cc is
comes-at n net (x ∷ givers) [] come port giver is = absurd come
comes-at n net (x ∷ givers) (arc ∷ arcs) come zero giver is = (let e : x ≡ giver = cc is in (arc, refl, subst (λ (y : below.Actor × ℕ). ComesFrom n net y arc) e come.0))
comes-at n net (x ∷ givers) (arc ∷ arcs) come (suc port) giver is = comes-at n net givers arcs come.1 port giver is

-- of a stream all is left
module _ (r : Replay) (net : Net) (w : Holding) (order : List ℕ) (read : IsReadReplay r) (new : IsNew r net w) (wired : IsLaidOut net order) (starts : StartsAs r net w order) where
  all-of : (giver : below.Actor × ℕ) → IsThere r.network giver.0 → coming net w order (seat_of_actor r.network giver.0) giver.1 ≡ stream_of r giver
  all-of (x, port) there =
      elim (cases_lt (seat_of_actor r.network x) (ops_of r.network)) [
        | inl low ↦ starts.streams (seat_of_actor r.network x) low port ∙ ap (λ y. stream_of r (y, port)) (there-at r.network x there).1
        | inr past ↦ (
            let most = (there-at r.network x there).0 in
            let is : seat_of_actor r.network x ≡ ops_of r.network = omega (arith, past, most) in
            let replay : x ≡ below.Sources = sym (there-at r.network x there).1 ∙ ap (actor_at r.network) is ∙ replay-at r.network in
            ap (λ k. coming net w order k port) (is ∙ sym new.joins.replay) ∙ coming-sources net w order wired port ∙ new.recorded port ∙ ap (λ y. stream_of r (y, port)) (sym replay))
      ]

  all-left : (actor port : ℕ) (giver : below.Actor × ℕ) → actor < ops_of r.network → slice_get (reads_of r.network (actor_at r.network actor)) port ≡ Some giver
      → (arc : ℕ) × (slice_get (net.arcs actor) port ≡ Some arc) × (left net w order arc ≡ stream_of r giver)
  all-left actor port giver low is =
      let x = actor_at r.network actor in
      let at = comes-at r.network net (reads_of r.network x) (net.arcs actor) (new.joins.arcs actor low) port giver is in
      let there = all_at (λ (y : below.Actor × ℕ). IsThere r.network y.0) (reads_of r.network x) port giver (reads-there r.network read.sound x) is in (
        at.0,
        at.1,
        ap (λ l. l ++ coming net w order (net.from at.0) (net.port at.0)) (new.empty at.0)
            ∙ ap (λ k. coming net w order k (net.port at.0)) at.2.0 ∙ ap (coming net w order (seat_of_actor r.network giver.0)) at.2.1 ∙ all-of giver there,
      )

-- ---- a new flow

module _ (r : Replay) (read : IsReadReplay r) (places : (d : ℕ) (p : DropPoint) → slice_get (points_of r.network) d ≡ Some p → IsAt r.network p.at) (flow : Flow operator.Actor)
    (wired : AreWires r.network flow.wires) (seated : AreNewSeats r.network r.seed flow.seats.items) where
  -- what is said of the seat of an actor, if it has one
  at-seat : {A : Type 0} (f : Option (Seat operator.Actor) → A) (a : A) → f None ≡ a → ((actor : ℕ) (seat : Seat operator.Actor) → IsSeated r.network r.seed actor seat → f (Some seat) ≡ a)
      → (actor : ℕ) → f (slice_get flow.seats.items actor) ≡ a
  at-seat f a none some actor = by (slice_get flow.seats.items actor) refl
    where
      by : (o : Option (Seat operator.Actor)) → slice_get flow.seats.items actor ≡ o → f o ≡ a
      by None is = none
      by (Some seat) is = some actor seat (seated.seated actor seat is)

  taken-none : (actor : ℕ) → taken_at actors (slice_get flow.seats.items actor) ≡ 0
  taken-none = at-seat (taken_at actors) 0 refl (λ actor seat s. s.started.none_fed)

  pub none-fed : taken_in_all actors flow ≡ 0
  none-fed = sum-none (λ actor. taken_at actors (slice_get flow.seats.items actor)) (length flow.seats.items) taken-none

  nothing-fed : (actor port : ℕ) → fed_on flow actor port ≡ []
  nothing-fed actor port = at-seat (λ o. given port (fed_items_at o)) [] refl (λ actor seat s. ap (λ (i : FedItems). given port i.items) s.fed_none) actor

  -- the seat of an operator
  seat-of : (actor : ℕ) → actor < ops_of r.network → (seat : Seat operator.Actor) × (slice_get flow.seats.items actor ≡ Some seat) × IsStarted r.network r.seed (actor_at r.network actor) seat.op
  seat-of actor low = (let count = seated.count in let s = has_item flow.seats.items actor (omega (arith, low, count)) in (s.0, s.1, (seated.seated actor s.0 s.1).started))

  module _ (comes : FedMayCome) (seats : Vec (Seat operator.Actor) Global) (queues : Vec Recorded Global) (streams : map (λ q. q.items) queues.items ≡ r.sources) (wires : Wires)
      (ahead : List (Option ℕ)) (planner : Setting) (levels : LevelTable) (most : ℕ) (new : IsNewFlow wires seats queues ahead planner levels most flow) (pages : Option Pages) where
    is-new : IsNew r (net_of flow.wires) (world_of actors (batch_level r) (items_in flow pages) flow)
    is-new =
        record {
          joins = joins-all r.network flow.wires wired.measured wired.shaped.replay_is;
          recorded = λ port. ap (λ q. things (tuples_to_come (slice_get q.items port))) new.sources_are ∙ ap things (released queues.items port) ∙ ap (λ ss. things (nth ss port)) streams;
          empty = λ arc. ap spread_all (new.empty pages arc);
          none_fed = taken-none;
          at_start = at-seat (position_at actors) Start refl (λ actor seat s. s.started.at_start);
          running = λ actor. ap (λ b. done_at b (slice_get flow.seats.items actor)) new.runs ∙ at-seat (done_at false) false refl (λ actor seat s. ap (λ t. not t.running) s.none) actor;
          fit = λ actor low.
              comes r (actor_at r.network actor) ((net_of flow.wires).takes actor) ((net_of flow.wires).fits actor) read (there-of r.network actor low)
              (takes-arcs r.network read.sound places flow.wires wired.measured actor low (there-of r.network actor low));
          gives = λ actor low port. (let s = seat-of actor low in ap (λ o. rest_at actors (batch_level r) o (fed_to r (actor_at r.network actor)) port) s.1 ∙ s.2.gives r read refl refl port);
          decides = λ actor low. (let s = seat-of actor low in ap (λ o. decides_at actors (batch_level r) o (fed_to r (actor_at r.network actor))) s.1 ∙ s.2.decides r read refl refl);
          loses = λ b low.
              let s = seat-of b (omega (arith, low)) in
              let at : lost_at actors (slice_get flow.seats.items b) (fed_to r (actor_at r.network b)) ≡ late_of_actor r (actor_at r.network b) = ap (λ o. lost_at actors o (fed_to r (actor_at r.network b))) s.1 ∙ s.2.loses r read refl refl in
              subst (λ x. lost_at actors (slice_get flow.seats.items b) (fed_to r x) ≡ late_of_actor r x) (box-at r.network b low) at;
          no_more = λ actor far port. (let count = seated.count in ap (λ o. rest_at actors (batch_level r) o [] port) (slice_get_past flow.seats.items actor (omega (arith, far, count))));
        }

    -- what is left of it is what the replay says
    pub new-answers : StartsAsReplayed → KeepsAnswers r (items_in flow pages) flow []
    new-answers law =
        let net = net_of flow.wires in
        let world = world_of actors (batch_level r) (items_in flow pages) flow in
        let order = flow.wires.order.items in
        let starts = law r net world order read is-new wired.shaped.wired wired.shaped.ordered in
        let fed = fed_at_last actors (batch_level r) (items_in flow pages) flow in
        let turns = λ (actor : ℕ). length (inputs net world order actor) in
        record {
          holds = record { facts = starts.facts; queued = λ arc. subst (AllFine flow.clock) (sym (new.empty pages arc)) _ };
          lines = λ output low. ap (λ k. tuples_in (coming net world order (k + output) 0)) wired.shown ∙ ap tuples_in (starts.lines output low) ∙ tuples_back (answer_of r output);
          drops = λ w p there.
              let low = slice_get_within (points_of r.network) w p there in
              ap (λ k. still_dropped net world order (k + w)) wired.sheds
              ∙ starts.decided (length r.network.boxes + w) (omega (arith, low)) ∙ ap (decided_by r) (drop-at r.network w low) ∙ ap (drop_decisions r w) there;
          fed = λ at low. starts.fed at (omega (arith, low)) ∙ ap (count_fed r) (box-at r.network at low);
          late = starts.late;
          work = ap (sum_below fed) seated.count ∙ sym (sum-numbers fed (ops_of r.network)) ∙ starts.work;
          turns =
              let sum = ap (sum_below turns) seated.count ∙ sym (sum-numbers turns (ops_of r.network)) in
              let most = starts.turns in
              let untaken = new.none_taken in
              omega (arith, sum, most, untaken);
          arcs = λ actor port giver low is.
              let whole = all-left r net world order read is-new wired.shaped.wired starts actor port giver low is in
              record { arc = whole.0; there = whole.1; whole = ap (λ l. l ++ left_on actors (batch_level r) (items_in flow pages) flow whole.0) (nothing-fed actor port) ∙ whole.2 };
        }

-- the plans of a new flow are those of the replay
pub plans-start : (r : Replay) (flow : Flow operator.Actor) (planner : Setting) (epoch : ℕ) → flow.planner ≡ planner → planner ≡ setting_of r.network r.entries → epoch ≡ r.network.epoch → IsPlanned (arrivals epoch r.sources) flow
    → plans_left flow ≡ flat_map (shown_after planner (arrivals epoch r.sources)) (numbers_to (last_arrival epoch r.sources)) → Plans r flow []
plans-start r flow planner epoch here setting lasts planned left =
    record {
      setting = here ∙ setting;
      planned = subst (λ k. IsPlanned (arrivals k r.sources) flow) lasts planned;
      shown = left ∙ ap (λ k. flat_map (shown_after planner (arrivals k r.sources)) (numbers_to (last_arrival k r.sources))) lasts
          ∙ ap (λ s. flat_map (shown_after s (arrivals r.network.epoch r.sources)) (numbers_to (last_arrival r.network.epoch r.sources))) setting;
    }

-- ---- which actors are ready

only-zero : (xs : List ℕ) → OnlyOnce xs → contains_number xs 0 ≡ true → ((y : ℕ) → contains_number xs y ≡ true → y ≡ 0) → xs ≡ 0 ∷ []
only-zero [] once there zero-only = cc there
only-zero (x ∷ []) once there zero-only = ap (λ y. y ∷ []) (zero-only x (ap (λ b. b || false) (eqb_true x x refl)))
only-zero (x ∷ y ∷ ys) once there zero-only =
    let first : x ≡ 0 = zero-only x (ap (λ b. b || contains_number (y ∷ ys) x) (eqb_true x x refl)) in
    let next : y ≡ 0 = zero-only y (or_right (eqb x y) _ (ap (λ b. b || contains_number ys y) (eqb_true y y refl))) in
    let twice : contains_number (y ∷ ys) x ≡ true = ap (λ b. b || contains_number ys x) (eqb_true y x (next ∙ sym first)) in
    cc (once.0, twice)

module _ {O : Type 0} (m : Ghosts O) (n : Network) (sound : IsSound n) (e : Engine O) (is : IsEngine m e)
    (wired : AreWires n e.flow.wires) (many : length e.flow.seats.items ≡ ops_of n) (runs : e.flow.over ≡ false)
    (bare : (arc : ℕ) → face e.flow.queues arc ≡ record { count = 0; first = None; ended = false })
    (known : (source : ℕ) → more_from (slice_get e.flow.ahead.items source) ≡ None) where
  replay-ready : IsReady e.flow (length e.flow.seats.items)
  replay-ready =
      record {
        running = ap (done_at e.flow.over) (slice_get_past e.flow.seats.items (length e.flow.seats.items) (omega arith)) ∙ runs;
        standing = λ port arc here.
            let none = wired.measured.no_more (length e.flow.seats.items) (omega (arith, many)) in
            let no : None ≡ Some arc = ap (λ l. slice_get l port) (sym none) ∙ here in
            cc no;
        going = ap (λ b. cond b (is_clear e.flow.sources.items e.flow.ahead.items) true) (eqb_true (length e.flow.seats.items) (length e.flow.seats.items) refl) ∙ known-clear e.flow.sources.items e.flow.ahead.items known;
      }

  not-ready : (actor : ℕ) → actor < ops_of n → IsReady e.flow actor → ⊥
  not-ready actor low ready =
      let some = reads-some n sound actor low in
      let arcs = wired.measured.many actor low in
      let arc = has_item (arcs_read e.flow.wires actor) 0 (omega (arith, some, arcs)) in
      let no : false ≡ true = ap stands (sym (bare arc.0)) ∙ ready.standing 0 arc.0 arc.1 in
      cc no

  only-replay : (actor : ℕ) → contains_number e.ready.list actor ≡ true → actor ≡ 0
  only-replay zero there = refl
  only-replay (suc k) there =
      let low = is.below (suc k) there in
      let room = is.room.actors in
      let here : seat_number (length e.flow.seats.items) (suc k) ≡ k =
      ap (λ b. cond b (length e.flow.seats.items) (suc k - 1)) (eqb-not (suc k) 0 (λ z. cc z)) ∙ (omega arith) in
      absurd (not-ready k (omega (arith, low, room, many)) (subst (IsReady e.flow) here ((is.exact (suc k) (omega (arith, low, room))).listed there)))

  -- at the start the replay alone is ready
  pub starts-ready : e.ready.list ≡ 0 ∷ []
  starts-ready = only-zero e.ready.list is.once ((is.exact 0 (omega arith)).ready replay-ready) only-replay
