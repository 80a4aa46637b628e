-- Where all are finished nothing is left; where some actor isn't, one is ready, or the replay waits for a source.
use Rattle.std.proofs.Common.{◌≡◌, ◌≢◌, ℕ, zero, suc, ◌+◌, ◌<◌, ◌≤◌, eqb, cond, Bool, true, false, ◌||◌, ◌⊎◌, inl, inr, IsTrue, List, [], ◌∷◌, ◌++◌, length, Some, None, refl, ap, sym, ◌∙◌, subst, arith}
use Rattle.std.proofs.lemmas.Bool.{or_right}
use Rattle.std.specs.Prelude.{slice_get, is_some}
use Rattle.std.proofs.lemmas.Option.{slice_get_past}
use Rattle.sq_item.specs.declared.Item.{Item}
use Rattle.sq_oper.specs.declared.operator.Operator.{Ghosts}
use Rattle.sq_oper.specs.Streams.{tuples_of, tuples_in}
use Rattle.sq_left.specs.Remainder.{Net, Holding, Settled, left_by, inputs_by, coming, inputs, is_known_actor, IsLaidOut}
use Rattle.sq_left.proofs.MergeLemmas.{eqb-no, eqb-not}
use Rattle.sq_left.proofs.Conserve.{ended-none, ended-settled}
use Rattle.sq_left.proofs.WorldSteps.{facts-at}
use Rattle.sq_queue.specs.Faces.{face}
use Rattle.sq_flow.specs.declared.flow.Flow.{Flow}
use Rattle.sq_flow.specs.Wiring.{net_of, arcs_read, numbers_in, IsShaped}
use Rattle.sq_flow.specs.Seats.{done_at, taken_at, lost_at}
use Rattle.sq_flow.specs.Endings.{NothingComes}
use Rattle.sq_flow.specs.Flows.{world_of, IsFlow, HoldsItems, items_in, lines_left, decisions_left, left_on, fed_at_last, lost_at_last, sum_below, work_at_last, taken_in_all}
use Rattle.sq_flow.specs.Readiness.{IsReady, stands, replay_goes}
use Rattle.sq_flow.specs.Sources.{is_clear}
use Rattle.sq_flow.specs.declared.engine.Engine.{Engine}
use Rattle.sq_flow.specs.Engines.{AllDone, IsEngine, seat_number}
use Rattle.sq_flow.proofs.ArcLemmas.{known-replay, each-at, giver-known, none-merged, front-none}
use Rattle.sq_flow.proofs.ReadyLemmas.{place-next, place-within}
use Rattle.sq_words.specs.Lists.{contains_number}
use Rattle.std.proofs.lemmas.Map.Views.{exact_unsigned_eq}
use Rattle.sq_words.proofs.Numbers.{eqb_true}

pub sums-agree : (f g : ℕ → ℕ) (n : ℕ) → ((k : ℕ) → k < n → f k ≡ g k) → sum_below f n ≡ sum_below g n
sums-agree f g zero h = refl
sums-agree f g (suc n) h =
    ap (λ k. k + f n) (sums-agree f g n (λ k low. h k (omega (arith, low)))) ∙ ap (λ k. sum_below g n + k) (h n (omega arith))

-- the replay reads from no arc
reads-none : {O : Type 0} (e : Flow O) → IsShaped e.wires (length e.seats.items) → (port arc : ℕ) → slice_get (arcs_read e.wires e.wires.replay) port ≡ Some arc → ⊥
reads-none e shaped port arc is =
    let r = shaped.replay_is in
    let l = shaped.inputs_len in
    let past : slice_get e.wires.inputs.items e.wires.replay ≡ None = slice_get_past e.wires.inputs.items e.wires.replay (omega (arith, r, l)) in
    cc (sym (ap (λ o. slice_get (numbers_in o) port) past) ∙ is)

-- and isn't finished before it is over
replay-done : {O : Type 0} (e : Flow O) (place : ℕ) → place ≡ length e.seats.items → done_at e.over (slice_get e.seats.items place) ≡ e.over
replay-done e place is = ap (done_at e.over) (slice_get_past e.seats.items place (omega (arith, is)))

module _ {O : Type 0} (m : Ghosts O) (e : Flow O) (flow : IsFlow m e) where
  abbrev net : Net
  net = net_of e.wires

  abbrev done : ℕ → Bool
  done actor = done_at e.over (slice_get e.seats.items actor)

  -- of the actors of an order all are finished, or one is ready, where the replay is finished or waits for no source
  some-ready : (done net.replay ≡ false → replay_goes e net.replay ≡ true) → (order : List ℕ) → IsLaidOut net order
      → ((actor : ℕ) → is_known_actor net order actor ≡ true → done actor ≡ true) ⊎ ((actor : ℕ) × ((is_known_actor net order actor ≡ true) × IsReady e actor))
  some-ready goes [] wired = by (done net.replay) refl
    where
      by : (b : Bool) → done net.replay ≡ b → ((actor : ℕ) → is_known_actor net [] actor ≡ true → done actor ≡ true) ⊎ ((actor : ℕ) × ((is_known_actor net [] actor ≡ true) × IsReady e actor))
      by true d = inl (λ actor k. ap done (exact_unsigned_eq actor net.replay k) ∙ d)
      by false d = inr (net.replay, (eqb_true net.replay net.replay refl, record { running = d; standing = λ port arc is. absurd (reads-none e flow.shaped port arc is); going = goes d }))
  some-ready goes (last ∷ earlier) wired = before (some-ready goes earlier wired.2)
    where
      standing-of : ((actor : ℕ) → is_known_actor net earlier actor ≡ true → done actor ≡ true) → (port arc : ℕ) → slice_get (arcs_read e.wires last) port ≡ Some arc → stands (face e.queues arc) ≡ true
      standing-of all port arc is =
          let k = each-at (λ a. (a < net.size) × IsTrue (is_known_actor net earlier (net.from a))) (net.arcs last) port arc wired.1 is in
          or_right (is_some (face e.queues arc).first) (face e.queues arc).ended (flow.ended arc k.0 ∙ all (net.from arc) k.1)

      here : ((actor : ℕ) → is_known_actor net earlier actor ≡ true → done actor ≡ true) → (b : Bool) → done last ≡ b
          → ((actor : ℕ) → is_known_actor net (last ∷ earlier) actor ≡ true → done actor ≡ true) ⊎ ((actor : ℕ) × ((is_known_actor net (last ∷ earlier) actor ≡ true) × IsReady e actor))
      here all true d = inl (λ actor k. by actor (eqb actor last) refl k)
        where
          by : (actor : ℕ) (b : Bool) → eqb actor last ≡ b → (b || is_known_actor net earlier actor) ≡ true → done actor ≡ true
          by actor true t k = ap done (exact_unsigned_eq actor last t) ∙ d
          by actor false t k = all actor k
      here all false d =
          inr (last, (ap (λ b. b || is_known_actor net earlier last) (eqb_true last last refl), record { running = d; standing = standing-of all; going = ap (λ b. cond b (is_clear e.sources.items e.ahead.items) true) (eqb-not last (length e.seats.items) (λ h. wired.0 (h ∙ sym flow.shaped.replay_is))) }))

      before : ((actor : ℕ) → is_known_actor net earlier actor ≡ true → done actor ≡ true) ⊎ ((actor : ℕ) × ((is_known_actor net earlier actor ≡ true) × IsReady e actor))
          → ((actor : ℕ) → is_known_actor net (last ∷ earlier) actor ≡ true → done actor ≡ true) ⊎ ((actor : ℕ) × ((is_known_actor net (last ∷ earlier) actor ≡ true) × IsReady e actor))
      before (inl all) = here all (done last) refl
      before (inr r) = inr (r.0, (or_right (eqb r.0 last) (is_known_actor net earlier r.0) r.1.0, r.1.1))

  -- as long as some actor isn't finished, one is ready, or the replay waits
  pub one-ready : (done net.replay ≡ false → replay_goes e net.replay ≡ true) → (other : ℕ) → other ≤ length e.seats.items → done other ≡ false
      → (actor : ℕ) × ((actor ≤ length e.seats.items) × IsReady e actor)
  one-ready goes other low open_now = by (some-ready goes e.wires.order.items flow.shaped.wired)
    where
      listed : is_known_actor net e.wires.order.items other ≡ true
      listed = at (eqb other net.replay) refl
        where
          at : (b : Bool) → eqb other net.replay ≡ b → is_known_actor net e.wires.order.items other ≡ true
          at true t = subst (λ k. is_known_actor net e.wires.order.items k ≡ true) (sym (exact_unsigned_eq other net.replay t)) (known-replay net e.wires.order.items)
          at false t =
              let r = flow.shaped.replay_is in
              let ne : other ≢ net.replay = eqb-no other net.replay t in
              flow.shaped.ordered other (omega (arith, r, ne, low))

      by : ((actor : ℕ) → is_known_actor net e.wires.order.items actor ≡ true → done actor ≡ true) ⊎ ((actor : ℕ) × ((is_known_actor net e.wires.order.items actor ≡ true) × IsReady e actor))
          → (actor : ℕ) × ((actor ≤ length e.seats.items) × IsReady e actor)
      by (inl all) = absurd (cc (sym open_now ∙ all other listed))
      by (inr r) = let low = flow.shaped.listed r.0 r.1.0 in (r.0, (omega (arith, low), r.1.1))

  -- at the end nothing is left
  module _ (all : AllDone e) (table : ℕ → ℕ → ℕ) (items : ℕ → List Item) (holds : HoldsItems m table items e) where
    none-left : (output : ℕ) → e.wires.shown + output < length e.seats.items → lines_left m table items e output ≡ []
    none-left output low =
        ap tuples_in (ended-none net (world_of m table items e) e.wires.order.items holds.facts (e.wires.shown + output) 0 (flow.shaped.ordered (e.wires.shown + output) low)
        (all (e.wires.shown + output) (omega (arith, low))))

    abbrev w : Holding
    w = world_of m table items e

    away : (actor : ℕ) → actor < length e.seats.items → actor ≢ net.replay
    away actor low = let r = flow.shaped.replay_is in omega (arith, r, low)

    settled : (actor : ℕ) → actor < length e.seats.items → Settled w actor (inputs net w e.wires.order.items actor)
    settled actor low = ended-settled net w e.wires.order.items holds.facts actor (flow.shaped.ordered actor low) (away actor low) (all actor (omega (arith, low)))

    all-fed : (actor : ℕ) → actor < length e.seats.items → fed_at_last m table items e actor ≡ taken_at m (slice_get e.seats.items actor)
    all-fed actor low =
        ap (λ fed. taken_at m (slice_get e.seats.items actor) + length (tuples_of fed)) (settled actor low).none ∙ zero-more (taken_at m (slice_get e.seats.items actor))
      where
        zero-more : (k : ℕ) → k + 0 ≡ k
        zero-more k = omega arith

    all-lost : (actor : ℕ) → actor < length e.seats.items → lost_at_last m table items e actor ≡ lost_at m (slice_get e.seats.items actor) []
    all-lost actor low = ap (lost_at m (slice_get e.seats.items actor)) (settled actor low).none

    all-decided : (actor : ℕ) → actor < length e.seats.items → decisions_left m table items e actor ≡ []
    all-decided actor low = (settled actor low).decided

    -- a finished actor has taken all that stood on its arcs, and what gives one gives nothing more
    all-taken : (actor port arc : ℕ) → actor < length e.seats.items → slice_get (arcs_read e.wires actor) port ≡ Some arc → left_on m table items e arc ≡ []
    all-taken actor port arc low reads =
        let inside = flow.shaped.arcs_in actor port arc reads in
        let from = flow.shaped.from_in arc inside in
        let at = facts-at net w e.wires.order.items flow.shaped.wired holds.facts actor (flow.shaped.ordered actor low) (away actor low) in
        let none : inputs_by net w at.coming_in actor ≡ [] = sym at.fed_is ∙ (settled actor low).none in
        let queue = front-none (w.queue arc) (at.coming_in (net.from arc) (net.port arc)) (none-merged (left_by net w at.coming_in) (net.arcs actor) 0 port arc none reads) in
        ap (λ l. l ++ coming net w e.wires.order.items (net.from arc) (net.port arc)) queue
        ∙ ended-none net w e.wires.order.items holds.facts (net.from arc) (net.port arc) (giver-known e.wires (length e.seats.items) flow.shaped arc inside) (all (net.from arc) (omega (arith, from)))

    all-work : work_at_last m table items e ≡ taken_in_all m e
    all-work = sums-agree (fed_at_last m table items e) (λ actor. taken_at m (slice_get e.seats.items actor)) (length e.seats.items) all-fed

  -- whatever stands on the pages
  pub nothing-comes : AllDone e → NothingComes m e
  nothing-comes all =
      record {
        lines = λ pages table. none-left all table (items_in e pages);
        drops = λ pages table. all-decided all table (items_in e pages);
        fed = λ pages table. all-fed all table (items_in e pages);
        lost = λ pages table. all-lost all table (items_in e pages);
        work = λ pages table. all-work all table (items_in e pages);
        arcs = λ pages table. all-taken all table (items_in e pages);
      }

-- each place in the flow is that of an actor
actor-at : (ops k : ℕ) → k ≤ ops → (actor : ℕ) × ((actor ≤ ops) × (seat_number ops actor ≡ k))
actor-at ops k low = by (eqb k ops) refl
  where
    by : (b : Bool) → eqb k ops ≡ b → (actor : ℕ) × ((actor ≤ ops) × (seat_number ops actor ≡ k))
    by true t = let same : k ≡ ops = exact_unsigned_eq k ops t in (0, (omega arith, sym same))
    by false t = let ne : k ≢ ops = eqb-no k ops t in (suc k, (omega (arith, low, ne), place-next ops k))

-- where no actor is listed and the replay is over all are finished
pub none-listed : {O : Type 0} (m : Ghosts O) (engine : Engine O) → IsEngine m engine → engine.ready.list ≡ [] → engine.flow.over ≡ true → AllDone engine.flow
none-listed m engine is none over actor low = by (done_at engine.flow.over (slice_get engine.flow.seats.items actor)) refl
  where
    by : (b : Bool) → done_at engine.flow.over (slice_get engine.flow.seats.items actor) ≡ b → done_at engine.flow.over (slice_get engine.flow.seats.items actor) ≡ true
    by true d = d
    by false d =
        let r = one-ready m engine.flow is.flow (λ open_now. absurd (cc (sym open_now ∙ replay-done engine.flow engine.flow.wires.replay is.flow.shaped.replay_is ∙ over))) actor low d in
        let a = actor-at (length engine.flow.seats.items) r.0 r.1.0 in
        let listed : contains_number engine.ready.list a.0 ≡ true = (is.exact a.0 a.1.0).ready (subst (IsReady engine.flow) (sym a.1.1) r.1.1) in
        absurd (cc (sym (ap (λ xs. contains_number xs a.0) none) ∙ listed))

-- where no actor is listed and the replay isn't over it waits for a source
pub none-clear : {O : Type 0} (m : Ghosts O) (engine : Engine O) → IsEngine m engine → engine.ready.list ≡ [] → engine.flow.over ≡ false
    → is_clear engine.flow.sources.items engine.flow.ahead.items ≡ false
none-clear m engine is none open_now = by (is_clear engine.flow.sources.items engine.flow.ahead.items) refl
  where
    goes : (t : Bool) → is_clear engine.flow.sources.items engine.flow.ahead.items ≡ true → cond t (is_clear engine.flow.sources.items engine.flow.ahead.items) true ≡ true
    goes true h = h
    goes false h = refl

    by : (t : Bool) → is_clear engine.flow.sources.items engine.flow.ahead.items ≡ t → t ≡ false
    by false h = refl
    by true h =
        let here = is.flow.shaped.replay_is in
        let ready : IsReady engine.flow engine.flow.wires.replay =
        record {
          running = replay-done engine.flow engine.flow.wires.replay here ∙ open_now;
          standing = λ port arc reads. absurd (reads-none engine.flow is.flow.shaped port arc reads);
          going = goes (eqb engine.flow.wires.replay (length engine.flow.seats.items)) h;
        }
        in
        let listed : contains_number engine.ready.list 0 ≡ true = (is.exact 0 (omega arith)).ready (subst (IsReady engine.flow) here ready) in
        cc (sym (ap (λ xs. contains_number xs 0) none) ∙ listed)

-- where all are finished the replay is over
pub all-over : {O : Type 0} (flow : Flow O) → AllDone flow → flow.over ≡ true
all-over flow all = sym (replay-done flow (length flow.seats.items) refl) ∙ all (length flow.seats.items) (omega arith)

-- where all are finished no actor is listed
pub none-ready : {O : Type 0} (m : Ghosts O) (engine : Engine O) → IsEngine m engine → AllDone engine.flow → engine.ready.list ≡ []
none-ready m engine is all = by engine.ready.list refl
  where
    by : (xs : List ℕ) → engine.ready.list ≡ xs → xs ≡ []
    by [] e = refl
    by (x ∷ xs) e =
        let listed : contains_number engine.ready.list x ≡ true = ap (λ ys. contains_number ys x) e ∙ ap (λ b. b || contains_number xs x) (eqb_true x x refl) in
        let below = is.below x listed in
        let room = is.room.actors in
        let low : x ≤ length engine.flow.seats.items = omega (arith, below, room) in
        let done = all (seat_number (length engine.flow.seats.items) x) (place-within (length engine.flow.seats.items) x low) in
        absurd (cc (sym done ∙ ((is.exact x low).listed listed).running))
