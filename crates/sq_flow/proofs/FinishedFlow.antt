-- What the end of an operator keeps.
use Rattle.std.proofs.Common.{◌≡◌, ℕ, ◌+◌, ◌<◌, eqb, cond, true, false, not, ◌||◌, List, [], ◌∷◌, ◌++◌, length, Option, Some, None, refl, ap, sym, ◌∙◌, append-nil, arith, subst, ◌-◌}
use Rattle.std.specs.Prelude.{is_some, slice_get, Vec}
use Rattle.std.specs.List.{AllByRecursion}
use Rattle.std.specs.declared.alloc.Global.{Global}
use Rattle.std.proofs.lemmas.Option.{slice_get_within}
use Rattle.sq_words.specs.Lists.{IsPrefixOf}
use Rattle.sq_item.specs.declared.Item.{Item}
use Rattle.sq_item.specs.Things.{Thing, spread_all}
use Rattle.sq_road.specs.Levels.{AgreesWith, level_of}
use Rattle.sq_oper.specs.declared.operator.Operator.{Ghosts}
use Rattle.sq_oper.specs.declared.outs.Decision.{Decision}
use Rattle.sq_oper.specs.declared.outs.Event.{Event}
use Rattle.sq_oper.specs.Outflow.{given, ThingsUpTo}
use Rattle.sq_left.specs.Remainder.{Net, Holding, left_by, inputs_by, Each, coming, inputs}
use Rattle.sq_left.specs.Heads.{AllFine}
use Rattle.sq_left.proofs.MergeLemmas.{eqb-not}
use Rattle.sq_left.proofs.Conserve.{Reads, Kept}
use Rattle.sq_left.proofs.ActorSteps.{Each-both, merge-none}
use Rattle.sq_left.proofs.WorldSteps.{At, facts-at, world-finished, replay-end, Each-from}
use Rattle.sq_queue.specs.declared.Queues.{Queues}
use Rattle.sq_outside.specs.Disks.{Pages}
use Rattle.sq_pool.specs.Trust.{Tells}
use Rattle.sq_paged.specs.Fronts.{first_time, IsFaceOf}
use Rattle.sq_queue.specs.Faces.{face, size, items_on, Together}
use Rattle.sq_flow.specs.Sends.{EndsOnly}
use Rattle.sq_flow.specs.Readiness.{TouchesOnly}
use Rattle.sq_flow.proofs.TouchLemmas.{away-from, stands-pushed, stands-grows}
use Rattle.sq_flow.proofs.WireLemmas.{sent-is}
use Rattle.sq_flow.specs.declared.fed_items.FedItems.{FedItems}
use Rattle.sq_flow.specs.declared.seats.Seat.{Seat}
use Rattle.sq_flow.specs.declared.flow.Flow.{Flow}
use Rattle.sq_heads.specs.declared.Next.TheVariants.{Ended}
use Rattle.sq_flow.specs.Wiring.{net_of, arcs_read, from_of, pushed_by, AllOutsFine, IsOwn}
use Rattle.sq_heads.specs.Heads.{NextUpTo}
use Rattle.sq_flow.specs.Feeds.{EndsInto, EndsPart}
use Rattle.std.proofs.Math.Bool.{or-true, or-false}
use Rattle.sq_flow.specs.Shows.{IsShown}
use Rattle.sq_flow.proofs.SeatFlow.{seat-fine, not-replay, own-begun, begins, seated, is-after, apart, seats-len, same-actor, turns-same, goes-kept}
use Rattle.sq_flow.specs.Seats as seat
use Rattle.sq_flow.specs.Seats.{rest_at, decides_at, lost_at, fed_items_at, done_at, holds_at, IsSeat, Owns, FinishedSeat}
use Rattle.sq_flow.specs.Events.{drops_of}
use Rattle.sq_flow.specs.Plans.{plans_left}
use Rattle.sq_flow.specs.Flows.{world_of, IsFlow, HoldsItems, Goes, Stepped, BeginsLines, ShowsPrefix, fed_on, sum_below, taken_in_all}
use Rattle.sq_flow.proofs.FutureLemmas.{outs-fine, own-pushed, not-pushed}
use Rattle.sq_flow.proofs.SendLemmas.{at_or_other}
use Rattle.sq_flow.proofs.EventLemmas.{stays-is, below-outputs}
use Rattle.sq_flow.proofs.DropLemmas.{of-own}
use Rattle.sq_flow.proofs.DoneLemmas.{sums-agree}
use Rattle.sq_words.proofs.Numbers.{eqb_true}

module _ {O : Type 0} (m : Ghosts O) (e : Flow O) (flow : IsFlow m e) (actor : ℕ) (actor_in : actor < length e.seats.items)
    (head : NextUpTo (arcs_read e.wires actor) (λ k. (face e.queues k).first) (λ k. (face e.queues k).ended) (length (arcs_read e.wires actor)) Ended)
    (s : Seat O) (is_seat : slice_get e.seats.items actor ≡ Some s) where
  abbrev net : Net
  net = net_of e.wires

  fine : IsSeat m (net.takes actor) (net.fits actor) e.levels.epoch e.taken s
  fine = seat-fine m e flow actor actor_in s is_seat

  -- what it decides at its end is its own
  own-part : (drops : List Decision) → ((table : ℕ → ℕ → ℕ) → IsPrefixOf drops (m.decides s.op table [])) → done_at e.over (slice_get e.seats.items actor) ≡ false → AllByRecursion (IsOwn e.wires actor) drops
  own-part drops decided = own-begun m e flow actor actor_in s is_seat [] drops (record { in_order = tt; fitting = tt }) (decided (level_of e.levels))

  own-drops : (s' : Seat O) (outs : List (ℕ × Item)) (drops : List Decision) → FinishedSeat m outs drops s s' → done_at e.over (slice_get e.seats.items actor) ≡ false → AllByRecursion (IsOwn e.wires actor) drops
  own-drops s' outs drops fin = own-part drops (λ table. stays-is drops _ (fin.decided table))

  -- what an end gives, over every disk
  module _ (s' : Seat O) (outs : List (ℕ × Item)) (drops : List Decision) (fin : FinishedSeat m outs drops s s') where
    pub outs-in-time : AllOutsFine e.clock outs
    outs-in-time =
        outs-fine e.clock outs fin.sound (λ q.
        subst (ThingsUpTo e.clock) (ap (λ o. rest_at m (level_of e.levels) o [] q) is_seat ∙ fin.law (level_of e.levels) q) (flow.held (level_of e.levels) (λ epoch drop h. refl) actor q))

    module _ (queues' : Queues) (lanes : size queues' ≡ length e.wires.arcs.items)
        (ended : (k : ℕ) → k < length e.wires.arcs.items → (face queues' k).ended ≡ ((face e.queues k).ended || eqb (from_of (slice_get e.wires.arcs.items k)) actor)) where
      abbrev seats' : Vec (Seat O) Global
      seats' = seated e actor s'

      is_after : slice_get seats'.items actor ≡ Some s'
      is_after = is-after e actor s' actor_in

      done-here : done_at e.over (slice_get seats'.items actor) ≡ true
      done-here = ap (done_at e.over) is_after ∙ ap not fin.closed

      done-is : (other : ℕ) → (done_at e.over (slice_get e.seats.items other) || eqb other actor) ≡ done_at e.over (slice_get seats'.items other)
      done-is = at_or_other (λ k. (done_at e.over (slice_get e.seats.items k) || eqb k actor) ≡ done_at e.over (slice_get seats'.items k)) actor
          (ap (λ b. done_at e.over (slice_get e.seats.items actor) || b) (eqb_true actor actor refl) ∙ or-true (done_at e.over (slice_get e.seats.items actor)) ∙ sym done-here)
          (λ k ne. ap (λ b. done_at e.over (slice_get e.seats.items k) || b) (eqb-not k actor ne) ∙ or-false (done_at e.over (slice_get e.seats.items k)) ∙ sym (ap (done_at e.over) (apart e actor s' k ne)))

      seat-after : IsSeat m (net.takes actor) (net.fits actor) e.levels.epoch e.taken s'
      seat-after =
          record {
            arcs =
                record {
                  is_valid = fin.after.is_valid;
                  marks = λ port h. ap (λ f. f port) fin.after.marks ∙ fine.arcs.marks port h;
                  tuples = λ port fields h. ap (λ f. f port fields) fin.after.fits ∙ fine.arcs.tuples port fields h;
                };
            running = fin.after.running ∙ sym fin.closed;
            place = fin.after.moves ∙ fine.place ∙ sym fin.after.place;
            counted = fin.after.counted ∙ ap (λ n. n + 0) fine.counted ∙ sym fin.after.taken;
            few = (let t = fin.after.taken in let f = fine.few in omega (arith, t, f));
            reads = λ opened. absurd (cc (fin.closed, opened));
          }

      pub flow-after : IsFlow m (record e { seats = seats'; queues = queues' })
      flow-after =
          record {
            shaped = rw (seats-len e actor s') flow.shaped;
            lanes = lanes;
            ended = λ arc low.
                ended arc low
                ∙ ap (λ b. b || eqb (from_of (slice_get e.wires.arcs.items arc)) actor) (flow.ended arc low)
                ∙ done-is (from_of (slice_get e.wires.arcs.items arc));
            seats = at_or_other (λ k. holds_at (IsSeat m (net.takes k) (net.fits k) e.levels.epoch e.taken) (slice_get seats'.items k)) actor
                (subst (holds_at (IsSeat m (net.takes actor) (net.fits actor) e.levels.epoch e.taken)) (sym is_after) seat-after)
                (λ k ne. subst (holds_at (IsSeat m (net.takes k) (net.fits k) e.levels.epoch e.taken)) (sym (apart e actor s' k ne)) (flow.seats k));
            few = flow.few;
            held = λ table agrees. at_or_other (λ k. (port : ℕ) → ThingsUpTo e.clock (rest_at m table (slice_get seats'.items k) [] port)) actor
                (λ port. rw is_after (nothing e.clock (m.rest s'.op table [] port) (fin.empty table port)))
                (λ k ne port. subst (λ o. ThingsUpTo e.clock (rest_at m table o [] port)) (sym (apart e actor s' k ne)) (flow.held table agrees k port));
            replay = flow.replay;
            levels = flow.levels;
            owned = at_or_other (λ k. holds_at (Owns m (IsOwn e.wires k) e.levels) (slice_get seats'.items k)) actor
                (subst (holds_at (Owns m (IsOwn e.wires actor) e.levels)) (sym is_after) (λ running. absurd (cc (fin.after.running, running))))
                (λ k ne. subst (holds_at (Owns m (IsOwn e.wires k) e.levels)) (sym (apart e actor s' k ne)) (flow.owned k));
          }
        where
          nothing : (c : ℕ) (xs : List Thing) → xs ≡ [] → ThingsUpTo c xs
          nothing c xs h = rw h tt

  -- where these items stand on the arcs
  module _ (table : ℕ → ℕ → ℕ) (agrees : AgreesWith e.levels table) (items : ℕ → List Item) (holds : HoldsItems m table items e) (faces : (k : ℕ) → IsFaceOf (face e.queues k) (items k)) where
    abbrev was : Holding
    was = world_of m table items e

    empty-of : (its : List Item) → None ≡ first_time its → its ≡ []
    empty-of [] h = refl
    empty-of (i ∷ its) h = cc

    all-ended : Each (λ k. (was.queue k ≡ []) × (was.done (net.from k) ≡ true)) (net.arcs actor)
    all-ended = Each-from (λ k. (was.queue k ≡ []) × (was.done (net.from k) ≡ true)) (net.arcs actor)
        (λ port arc k.
        let h = head port arc (slice_get_within (net.arcs actor) port arc k) k in
        let none : items arc ≡ [] = empty-of (items arc) (sym h.0 ∙ (faces arc).first) in
        (ap spread_all none, sym (flow.ended arc (flow.shaped.arcs_in actor port arc k)) ∙ h.1))

    abbrev before : At net was (coming net was e.wires.order.items actor) (inputs net was e.wires.order.items actor) actor
    before = facts-at net was e.wires.order.items flow.shaped.wired holds.facts actor (flow.shaped.ordered actor actor_in) (not-replay m e flow actor actor_in s is_seat)

    -- to an actor whose arcs have ended nothing more comes, and what is left of it is what it holds
    no-inputs : inputs_by net was before.coming_in actor ≡ []
    no-inputs =
        merge-none (net.arcs actor) (left_by net was before.coming_in) 0
        (Each-both (λ k. (was.queue k ≡ []) × (was.done (net.from k) ≡ true)) (Reads net was (λ _ _. []) before.coming_in before.coming_in) (λ k. left_by net was before.coming_in k ≡ []) (net.arcs actor)
        (λ (k : ℕ) (h : (was.queue k ≡ []) × (was.done (net.from k) ≡ true)) (r : Reads net was (λ _ _. []) before.coming_in before.coming_in k).
        ap (λ z. z ++ before.coming_in (net.from k) (net.port k)) h.0 ∙ r.ended h.1)
        all-ended before.reads)

    ended-left : (port : ℕ) → coming net was e.wires.order.items actor port ≡ rest_at m table (slice_get e.seats.items actor) [] port
    ended-left port = before.is port ∙ ap (λ z. rest_at m table (slice_get e.seats.items actor) z port) no-inputs

    ended-none : inputs net was e.wires.order.items actor ≡ []
    ended-none = before.fed_is ∙ no-inputs

    -- what an end that failed has shown
    pub shows-part : (events events' : List Event) → EndsPart m e.wires actor s events events' → done_at e.over (slice_get e.seats.items actor) ≡ false → BeginsLines m table items e events events'
    shows-part events events' part unfinished =
        begins m e flow actor actor_in s is_seat table items [] part.items part.drops events events' (ended-left 0) ended-none (part.law table 0) (part.decided table) (own-part part.drops part.decided unfinished) part.shown

    module _ (queues' : Queues) (s' : Seat O) (outs : List (ℕ × Item)) (drops : List Decision) (items' : ℕ → List Item)
        (fin : FinishedSeat m outs drops s s') (unfinished : done_at e.over (slice_get e.seats.items actor) ≡ false)
        (given_on : (k : ℕ) → k < length e.wires.arcs.items → spread_all (items' k) ≡ spread_all (items k) ++ pushed_by actor outs (net.from k) (net.port k))
        (fine_on : (time : ℕ) → AllOutsFine time outs → ((k : ℕ) → AllFine time (items k)) → (k : ℕ) → AllFine time (items' k)) where
      abbrev e' : Flow O
      e' = record e { seats = seated e actor s'; queues = queues' }

      abbrev is : Holding
      is = world_of m table items' e'

      abbrev decided : ℕ → List Decision
      decided k = cond (eqb k actor) drops []

      at_after : slice_get e'.seats.items actor ≡ Some s'
      at_after = is-after e actor s' actor_in

      pub kept : Kept net was is (pushed_by actor outs) decided (λ _. []) e.wires.order.items
      kept =
          let facts = holds.facts in
          world-finished net was is (pushed_by actor outs) decided actor e.wires.order.items flow.shaped.wired facts
          (λ k within. sym (given_on k within)) all-ended
          (record {
            law = λ port. ap (λ o. rest_at m table o [] port) is_seat ∙ fin.law table port ∙ sym (own-pushed actor outs port);
            empty = λ port. ap (λ o. rest_at m table o [] port) at_after ∙ fin.empty table port;
            decisions = ap (λ o. decides_at m table o []) is_seat ∙ fin.decided table ∙ ap (λ b. cond b drops []) (sym (eqb_true actor actor refl));
            settled = ap (λ o. decides_at m table o []) at_after ∙ fin.settled table;
            lost = ap (λ o. lost_at m o []) is_seat ∙ fin.loses ∙ ap (λ o. lost_at m o []) (sym at_after);
            counted = (let taken = fin.after.counted in let same : m.taken s'.op ≡ m.taken s.op = omega (arith, taken) in ap (seat.taken_at m) at_after ∙ same ∙ ap (seat.taken_at m) (sym is_seat));
          })
          (same-actor e actor s' m table items items' e') (λ other ne port. not-pushed actor other outs ne port)
          (λ other ne. ap (λ b. cond b drops []) (eqb-not other actor ne))
          (not-replay m e flow actor actor_in s is_seat) (λ port. refl) (ap (done_at e.over) (apart e actor s' net.replay (λ k. not-replay m e flow actor actor_in s is_seat (sym k))))
          (replay-end net was e.wires.order.items facts)

      pub holds-after : HoldsItems m table items' e'
      holds-after =
          record {
            facts = kept.facts;
            queued = fine_on e.clock (outs-in-time s' outs drops fin) holds.queued;
          }

      -- nothing was fed
      fed-same : (other port : ℕ) → fed_on e' other port ≡ fed_on e other port
      fed-same other port =
          at_or_other (λ k. fed_on e' k port ≡ fed_on e k port) actor
          (ap (λ (o : Option (Seat O)). given port (fed_items_at o)) at_after ∙ ap (λ (i : FedItems). given port i.items) fin.none_came ∙ ap (λ (o : Option (Seat O)). given port (fed_items_at o)) (sym is_seat))
          (λ k ne. ap (λ (o : Option (Seat O)). given port (fed_items_at o)) (apart e actor s' k ne)) other

      pub goes-after : (events events' : List Event) → IsShown e.wires actor outs drops events events' → Goes m table items items' e e' events events'
      goes-after events events' shown =
          goes-kept m e e' flow table items items' holds (pushed_by actor outs) decided (λ _. []) (seats-len e actor s') kept (λ _. []) events events' (λ arc within. sym (given_on arc within))
          (λ other port arc reads. fed-same other port ∙ sym (append-nil (fed_on e other port)))
          (turns-same m e e' flow table items items' holds (pushed_by actor outs) decided (λ _. []) (seats-len e actor s') kept (λ other. refl) refl)
          (λ output low. shown.lines output)
          (λ w low. shown.decided w ∙ ap (λ z. drops_of w events ++ z) (of-own e.wires actor w drops (own-drops s' outs drops fin unfinished)))

  -- as much was fed as before
  pub finished-taken : (queues' : Queues) (s' : Seat O) → m.taken s'.op ≡ m.taken s.op → taken_in_all m (record e { seats = seated e actor s'; queues = queues' }) ≡ taken_in_all m e
  finished-taken queues' s' counted =
      ap (sum_below (λ k. seat.taken_at m (slice_get (seated e actor s').items k))) (seats-len e actor s')
      ∙ sums-agree (λ k. seat.taken_at m (slice_get (seated e actor s').items k)) (λ k. seat.taken_at m (slice_get e.seats.items k)) (length e.seats.items)
      (λ k low. at_or_other (λ other. seat.taken_at m (slice_get (seated e actor s').items other) ≡ seat.taken_at m (slice_get e.seats.items other)) actor
      (ap (seat.taken_at m) (is-after e actor s' actor_in) ∙ counted ∙ ap (seat.taken_at m) (sym is_seat)) (λ other ne. ap (seat.taken_at m) (apart e actor s' other ne)) k)

  -- what it has shown
  pub finished-part : (was is : Option Pages) (events events' : List Event) → Together e.queues was → (Tells is → Tells was) → EndsPart m e.wires actor s events events'
      → done_at e.over (slice_get e.seats.items actor) ≡ false → ShowsPrefix m was is e e.levels events events'
  finished-part was _ events events' together tells part unfinished = λ told table agrees holds.
      shows-part table agrees (items_on e.queues was) holds (together.faces (tells told)) events events' part unfinished

  -- what the end of the operator, and that of its arcs, say together
  module _ (was is : Option Pages) (mid q' : Queues) (s' : Seat O) (events events' : List Event) (into : EndsInto m e.wires actor s s' e.queues mid was is events events') (ends : EndsOnly e.wires actor mid q') where
    abbrev behind : Flow O
    behind = record e { seats = seated e actor s'; queues = q' }

    pub finished-touches : TouchesOnly actor e behind
    finished-touches =
        record {
          apart = λ arc low to from. ends.apart arc (away-from e.wires actor arc from) ∙ into.onward.sent.apart arc (away-from e.wires actor arc from);
          grows = λ arc low to h.
              stands-grows (face mid arc) (face q' arc) (λ some. ap (λ (o : Option ℕ). is_some o) (ends.keeps.first arc) ∙ some)
              (λ over. ends.ended arc low ∙ ap (λ b. b || eqb (from_of (slice_get e.wires.arcs.items arc)) actor) over)
              (stands-pushed e.queues mid was is _ _ _ into.onward.sent arc h);
          others = λ other low ne. ap (done_at e.over) (apart e actor s' other ne);
          sources = λ ne. refl;
          ahead = refl;
        }

    pub finished-stepped : Together e.queues was → done_at e.over (slice_get e.seats.items actor) ≡ false → Stepped m was is e behind events events'
    finished-stepped together unfinished =
        record {
          flow_after = flow-after s' into.items into.drops into.finished q' (ends.keeps.lanes ∙ into.onward.sent.lanes ∙ flow.lanes)
              (λ k low. ends.ended k low ∙ ap (λ b. b || eqb (from_of (slice_get e.wires.arcs.items k)) actor) (into.onward.sent.ended k));
          together = ends.keeps.together is into.onward.sent.together;
          tells = into.onward.sent.tells;
          wires = refl;
          ahead = refl;
          framed = ends.keeps.framed ∙ into.onward.sent.framed;
          seats = seats-len e actor s';
          closes = λ table h. h;
          shows = into.onward.shown.below (length e.seats.items - e.wires.shown) (below-outputs actor (length e.seats.items) e.wires.shown actor_in) (own-drops s' into.items into.drops into.finished unfinished);
          planner = refl;
          planned = λ all h. record { agrees = h.agrees; counts = h.counts };
          plans = ap (λ z. z ++ plans_left e) (sym into.onward.shown.plans);
          holds = λ told table agrees holds.
              holds-after table agrees (items_on e.queues was) holds (together.faces (into.onward.sent.tells told)) q' s' into.items into.drops (items_on q' is) into.finished unfinished (on told) (fine-on told);
          goes = λ told table agrees holds.
              goes-after table agrees (items_on e.queues was) holds (together.faces (into.onward.sent.tells told)) q' s' into.items into.drops (items_on q' is) into.finished unfinished (on told) (fine-on told) events events' into.onward.shown;
        }
      where
        on : Tells is → (k : ℕ) → k < length e.wires.arcs.items → spread_all (items_on q' is k) ≡ spread_all (items_on e.queues was k) ++ pushed_by actor into.items (net.from k) (net.port k)
        on told k low =
            ap spread_all (ends.keeps.items is k) ∙ into.onward.sent.items told k
            ∙ ap (λ z. spread_all (items_on e.queues was k) ++ z) (sent-is e.wires (length e.seats.items) flow.shaped actor into.items k low)

        fine-on : Tells is → (time : ℕ) → AllOutsFine time into.items → ((k : ℕ) → AllFine time (items_on e.queues was k)) → (k : ℕ) → AllFine time (items_on q' is k)
        fine-on told time u f k = subst (AllFine time) (sym (ends.keeps.items is k)) (into.onward.sent.fine told time u f k)
