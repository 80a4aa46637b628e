-- What the replay keeps.
use Rattle.std.proofs.Common.{◌≡◌, ◌≢◌, ℕ, zero, suc, ◌+◌, ◌^◌, ◌/◌, ◌<◌, ◌≤◌, eqb, cond, Bool, true, false, not, ◌||◌, List, [], ◌∷◌, ◌++◌, length, set, Option, Some, None, refl, ap, sym, ◌∙◌, append-nil, arith, subst}
use Rattle.std.specs.Prelude.{is_some, slice_get, slice_index, Vec}
use Rattle.std.specs.declared.alloc.Global.{Global}
use Rattle.std.proofs.lemmas.Option.{slice_get_past, same_Some}
use Rattle.std.proofs.lemmas.List.{length-set, get_or-set_same, get_or-set_other}
use Rattle.sq_value.specs.declared.Tuple.{Tuple}
use Rattle.sq_item.specs.declared.Item.{Item}
use Rattle.sq_item.specs.Things.{Thing, spread, spread_all}
use Rattle.sq_item.specs.SoundItems.{IsSoundItem}
use Rattle.sq_road.specs.Levels.{LevelTable, AgreesWith}
use Rattle.sq_plan.specs.Plans.{Setting}
use Rattle.sq_oper.specs.declared.operator.Operator.{Ghosts}
use Rattle.sq_oper.specs.declared.outs.Event.{Event}
use Rattle.sq_oper.specs.Streams.{things, IsSoundTuple, tuples_in}
use Rattle.sq_oper.proofs.GivenLemmas.{ThingsUpTo-later}
use Rattle.sq_left.specs.Remainder.{Net, is_known_actor}
use Rattle.sq_left.specs.Heads.{AllFine}
use Rattle.sq_left.proofs.MergeLemmas.{eqb-no, eqb-not}
use Rattle.sq_left.proofs.Conserve.{Kept}
use Rattle.sq_left.proofs.WorldSteps.{world-released}
use Rattle.sq_queue.specs.declared.Queues.{Queues}
use Rattle.sq_outside.specs.Disks.{Pages}
use Rattle.sq_pool.specs.Trust.{Tells}
use Rattle.sq_queue.specs.Faces.{face, items_on, Together}
use Rattle.sq_replay.specs.RecordedTuples.{Recorded}
use Rattle.sq_flow.specs.Sends.{many, Pushes, EndsOnly}
use Rattle.sq_flow.specs.Sources.{BeginsLeast, IsNextSource}
use Rattle.sq_flow.proofs.PlanLemmas.{rise-later}
use Rattle.sq_flow.proofs.DropLemmas.{owns-later}
use Rattle.sq_flow.proofs.ReleasedPlans.{ClosedBefore, agrees-before, epoch_there, mid-len, mid-low, planned-after, plans-go}
use Rattle.sq_flow.specs.Readiness.{TouchesOnly}
use Rattle.sq_flow.proofs.TouchLemmas.{away-from, stands-grows, stands-pushed}
use Rattle.sq_flow.proofs.WireLemmas.{sent, one-sent, comes-from}
use Rattle.sq_flow.specs.declared.seats.Seat.{Seat}
use Rattle.sq_flow.specs.declared.flow.Flow.{Flow}
use Rattle.sq_flow.specs.Wiring.{net_of, arcs_from, times_in, from_of, IsOwn}
use Rattle.sq_flow.specs.Seats.{done_at, holds_at, IsSeat}
use Rattle.sq_flow.specs.Events.{lines_of, drops_of}
use Rattle.sq_flow.specs.Flows.{world_of, IsFlow, HoldsItems, Goes, Stepped, ShowsPrefix, RiseFrom, to_release, tuples_to_come, more_from, fed_on, lines_left, decisions_left, count_all}
use Rattle.sq_flow.proofs.SendLemmas.{at_or_other, apart-arcs}
use Rattle.std.proofs.Math.Bool.{or-true, or-false}
use Rattle.sq_flow.proofs.SeatFlow.{turns-same, goes-kept}
use Rattle.sq_words.specs.Lists.{contains_number}
use Rattle.std.proofs.lemmas.Map.Views.{exact_unsigned_eq}
use Rattle.sq_words.proofs.Lists.{get_set_same, get_set_other}
use Rattle.sq_words.proofs.Numbers.{eqb_true}

pub fine-later : (t u : ℕ) (its : List Item) → t ≤ u → AllFine t its → AllFine u its
fine-later t u [] le h = tt
fine-later t u (i ∷ its) le h = (omega (arith, le, h.0), h.1, fine-later t u its le h.2)

slice_get-not_none : {X : Type 0} (xs : List X) (i : ℕ) → i < length xs → slice_get xs i ≢ None
slice_get-not_none [] i h = absurd (omega (arith, h))
slice_get-not_none (x ∷ xs) zero h = λ e. cc e
slice_get-not_none (x ∷ xs) (suc i) h = slice_get-not_none xs i (omega (arith, h))

-- the replay stands behind the operators
pub replay-open : {O : Type 0} (m : Ghosts O) (e : Flow O) → IsFlow m e → e.over ≡ false → done_at e.over (slice_get e.seats.items e.wires.replay) ≡ false
replay-open m e flow open_now =
    let is = flow.shaped.replay_is in
    ap (done_at e.over) (slice_get_past e.seats.items e.wires.replay (omega (arith, is))) ∙ open_now

-- a step of the replay that pushes what the source loses
module _ {O : Type 0} (m : Ghosts O) (e : Flow O) (flow : IsFlow m e) (table : ℕ → ℕ → ℕ) (items items' : ℕ → List Item) (holds : HoldsItems m table items e)
    (over' : Bool) (queues' : Queues) (sources' : Vec Recorded Global) (clock' : ℕ) (planner' : Setting) (levels' : LevelTable) (counts' : Vec ℕ Global) (pushed : ℕ → ℕ → List Thing)
    (source : (q : ℕ) → things (to_release e q) ≡ pushed e.wires.replay q ++ things (tuples_to_come (slice_get sources'.items q)))
    (quiet : (other : ℕ) → other ≢ e.wires.replay → (q : ℕ) → pushed other q ≡ [])
    (ends : over' ≡ true → (q : ℕ) → tuples_to_come (slice_get sources'.items q) ≡ [])
    (given_on : (k : ℕ) → k < length e.wires.arcs.items → spread_all (items' k) ≡ spread_all (items k) ++ pushed ((net_of e.wires).from k) ((net_of e.wires).port k)) where
  abbrev net : Net
  net = net_of e.wires

  abbrev e' : Flow O
  e' = record e { over = over'; queues = queues'; sources = sources'; clock = clock'; planner = planner'; levels = levels'; counts = counts' }

  some-seat : (other : ℕ) → other < length e.seats.items → done_at over' (slice_get e.seats.items other) ≡ done_at e.over (slice_get e.seats.items other)
  some-seat other low = by (slice_get e.seats.items other) (slice_get-not_none e.seats.items other low)
    where
      by : (o : Option (Seat O)) → o ≢ None → done_at over' o ≡ done_at e.over o
      by None n = absurd (n refl)
      by (Some s) n = refl

  pub kept : Kept net (world_of m table items e) (world_of m table items' e') pushed (λ _. []) (λ _. []) e.wires.order.items
  kept =
      world-released net (world_of m table items e) (world_of m table items' e') pushed (λ _. []) e.wires.order.items flow.shaped.wired holds.facts
      (λ k within. sym (given_on k within))
      source
      (λ other ne k. record { rest = refl; decide = refl; lost = refl; taken = refl; place = refl; done = done-same other ne k })
      quiet (λ other ne. refl)
      (λ d q. ap things (ends (sym (ap (done_at over') (slice_get_past e.seats.items e.wires.replay behind)) ∙ d) q))
    where
      behind : length e.seats.items ≤ e.wires.replay
      behind = let r = flow.shaped.replay_is in omega (arith, r)

      done-same : (other : ℕ) → other ≢ net.replay → is_known_actor net e.wires.order.items other ≡ true → done_at over' (slice_get e.seats.items other) ≡ done_at e.over (slice_get e.seats.items other)
      done-same other ne k = let r = flow.shaped.replay_is in let low = flow.shaped.listed other k in some-seat other (omega (arith, r, low, ne))

  pub holds-after : ((k : ℕ) → AllFine clock' (items' k)) → HoldsItems m table items' e'
  holds-after fine =
      record {
        facts = kept.facts;
        queued = fine;
      }

  pub goes-after : (events events' : List Event) → ((o : ℕ) → lines_of o events' ≡ lines_of o events) → ((w : ℕ) → drops_of w events' ≡ drops_of w events) → ((output : ℕ) → output < length e.seats.items → (q : ℕ) → pushed output q ≡ [])
      → Goes m table items items' e e' events events'
  goes-after events events' shown decides none =
      goes-kept m e e' flow table items items' holds pushed (λ _. []) (λ _. []) refl kept (λ _. []) events events' (λ arc within. sym (given_on arc within))
      (λ other port arc reads. sym (append-nil (fed_on e other port)))
      (turns-same m e e' flow table items items' holds pushed (λ _. []) (λ _. []) refl kept (λ other. refl) refl)
      (λ output low. shown output ∙ sym (ap (λ z. lines_of output events ++ tuples_in z) (none (e.wires.shown + output) low 0) ∙ append-nil (lines_of output events)))
      (λ w low. decides w ∙ sym (append-nil (drops_of w events)))

own-sent : (replay port : ℕ) (xs : List Thing) (q : ℕ) → sent replay port xs replay q ≡ cond (eqb port q) xs []
own-sent replay port xs q = ap (λ b. cond b (cond (eqb port q) xs []) []) (eqb_true replay replay refl)

not-sent : (replay port : ℕ) (xs : List Thing) (other : ℕ) → other ≢ replay → (q : ℕ) → sent replay port xs other q ≡ []
not-sent replay port xs other ne q = ap (λ b. cond b (cond (eqb port q) xs []) []) (eqb-not replay other (λ k. ne (sym k)))

module _ {O : Type 0} (m : Ghosts O) (e : Flow O) (flow : IsFlow m e) where
  not-replay : (other : ℕ) → other < length e.seats.items → other ≢ e.wires.replay
  not-replay other low = let r = flow.shaped.replay_is in omega (arith, r, low)

  -- the whole of a release, from what its parts say
  module _ (pos : 0 < e.levels.epoch) (port : ℕ) (v more : Recorded) (x : Tuple) (next : IsNextSource e.sources.items port)
      (at : slice_get e.sources.items port ≡ Some v) (held : v.items ≡ x ∷ more.items) where
    abbrev item : Item
    item = record { time = x.time; mark = None; body = Some x.fields }

    front : to_release e port ≡ x ∷ more.items
    front = ap tuples_to_come at ∙ held

    first : (e.clock ≤ x.time) × IsSoundTuple x × RiseFrom x.time more.items
    first = subst (RiseFrom e.clock) front (flow.replay.coming port)

    pub item-sound : IsSoundItem item
    item-sound = record { tick = first.1.0; some = refl; mark = tt; body = first.1.1 }

    -- as long as something is to be released the replay isn't over
    pub replay-runs : e.over ≡ false
    replay-runs = by e.over refl
      where
        by : (b : Bool) → e.over ≡ b → b ≡ false
        by false h = refl
        by true h = cc (sym front ∙ flow.replay.ends h port)

    module _ (planner' : Setting) (levels' : LevelTable) (mid : List ℕ) (events events' : List Event)
        (did : ClosedBefore e.planner planner' e.levels levels' e.counts.items mid (epoch_there m e flow pos port v more x next at held) events events')
        (sources' : Vec Recorded Global) (counts' : Vec ℕ Global)
        (taken : sources'.items ≡ set e.sources.items port more) (counts_are : counts'.items ≡ set mid port (slice_index mid port + 1)) where
      is_after : slice_get sources'.items port ≡ Some more
      is_after = ap (λ l. slice_get l port) taken ∙ get_set_same e.sources.items port more next.there

      apart : (other : ℕ) → other ≢ port → slice_get sources'.items other ≡ slice_get e.sources.items other
      apart other ne = ap (λ l. slice_get l other) taken ∙ get_set_other e.sources.items port other more ne

      sources_len : length sources'.items ≡ length e.sources.items
      sources_len = ap (λ (l : List Recorded). length l) taken ∙ length-set e.sources.items port more

      coming-after : (source : ℕ) → RiseFrom x.time (tuples_to_come (slice_get sources'.items source))
      coming-after = at_or_other (λ k. RiseFrom x.time (tuples_to_come (slice_get sources'.items k))) port (rw is_after first.2)
          (λ k ne. subst (λ o. RiseFrom x.time (tuples_to_come o)) (sym (apart k ne)) (rise-later e.clock x.time (to_release e k) (flow.replay.coming k) (least.0 k)))
        where
          least : BeginsLeast e.sources.items port (x ∷ more.items)
          least = subst (BeginsLeast e.sources.items port) front next.least

      before : (table : ℕ → ℕ → ℕ) → AgreesWith levels' table → AgreesWith e.levels table
      before = agrees-before e.levels levels' did.some.keeps did.some.grows

      counts-len : length counts'.items ≡ length sources'.items
      counts-len = ap (λ (l : List ℕ). length l) counts_are ∙ length-set mid port (slice_index mid port + 1)
          ∙ mid-len m e flow pos port v more x next at held planner' levels' mid events events' did ∙ flow.replay.counted ∙ sym sources_len

      few-after : (source : ℕ) → slice_index counts'.items source + length (tuples_to_come (slice_get sources'.items source)) ≤ 2 ^ 62
      few-after = at_or_other (λ k. slice_index counts'.items k + length (tuples_to_come (slice_get sources'.items k)) ≤ 2 ^ 62) port
          (let low = mid-low m e flow pos port v more x next at held planner' levels' mid events events' did port in
          let few = flow.replay.few_tuples port in
          let more-is = ap (λ o. length (tuples_to_come o)) is_after in
          let was = ap (λ (l : List Tuple). length l) front in
          let counted = ap (λ l. slice_index l port) counts_are ∙ get_or-set_same mid port (slice_index mid port + 1) 0 within in
          omega (arith, low, few, more-is, was, counted))
          (λ k ne.
          let low = mid-low m e flow pos port v more x next at held planner' levels' mid events events' did k in
          let few = flow.replay.few_tuples k in
          let same = ap (λ o. length (tuples_to_come o)) (apart k ne) in
          let counted = ap (λ l. slice_index l k) counts_are ∙ get_or-set_other mid port k (slice_index mid port + 1) 0 ne in
          omega (arith, low, few, same, counted))
        where
          within : port < length mid
          within = let l = mid-len m e flow pos port v more x next at held planner' levels' mid events events' did in let n = next.there in let c = flow.replay.counted in omega (arith, l, n, c)

      pub released-stepped : (was is : Option Pages) (q' : Queues) → Together e.queues was
          → Pushes e.queues q' was is (λ k. many (times_in k (arcs_from e.wires e.wires.replay port)) (spread item)) (λ time. x.time ≤ time) (contains_number (arcs_from e.wires e.wires.replay port))
          → Stepped m was is e (record e { queues = q'; sources = sources'; clock = x.time; planner = planner'; levels = levels'; counts = counts' }) events events'
      released-stepped was is q' together pushes =
          record {
            flow_after =
                record {
                  shaped = flow.shaped;
                  lanes = pushes.lanes ∙ flow.lanes;
                  ended = λ arc low. pushes.ended arc ∙ flow.ended arc low;
                  seats = λ actor. subst (λ n. holds_at (IsSeat m ((net_of e.wires).takes actor) ((net_of e.wires).fits actor) n e.taken) (slice_get e.seats.items actor)) (sym did.some.epoch) (flow.seats actor);
                  few = flow.few;
                  held = λ table agrees actor q. ThingsUpTo-later e.clock x.time _ first.0 (flow.held table (before table agrees) actor q);
                  replay =
                      record {
                        few_sources = rw sources_len flow.replay.few_sources;
                        coming = coming-after;
                        told = flow.replay.told ∙ sym sources_len;
                        counted = counts-len;
                        few_tuples = few-after;
                        ends = λ o. absurd (cc (replay-runs, o));
                        closed = λ o. absurd (cc (replay-runs, o));
                      };
                  levels = (did.all.closed ∙ ap (λ n. x.time / n + 1) (sym did.some.epoch), first.1.0);
                  owned = λ actor. owns-later m (IsOwn e.wires actor) e.levels levels' before (slice_get e.seats.items actor) (flow.owned actor);
                };
            together = pushes.together;
            tells = pushes.tells;
            wires = refl;
            ahead = refl;
            framed = pushes.framed;
            seats = refl;
            closes = before;
            shows = did.some.within _ _;
            planner = did.some.same;
            planned = planned-after m e flow pos port v more x next at held planner' levels' mid events events' did q' sources' counts' taken counts_are;
            plans = plans-go m e flow pos port v more x next at held planner' levels' mid events events' did q' sources' counts' taken counts_are;
            holds = λ told table agrees holds.
                holds-after m e flow table (items_on e.queues was) (items_on q' is) holds e.over q' sources' x.time planner' levels' counts' (sent-by) given-there quiet ends (on told)
                (pushes.fine told x.time le-refl (λ k. fine-later e.clock x.time (items_on e.queues was k) first.0 (holds.queued k)));
            goes = λ told table agrees holds.
                goes-after m e flow table (items_on e.queues was) (items_on q' is) holds e.over q' sources' x.time planner' levels' counts' (sent-by) given-there quiet ends (on told)
                events events' did.some.lines did.some.drops (λ output low q. quiet output (not-replay output low) q);
          }
        where
          le-refl : x.time ≤ x.time
          le-refl = omega arith

          sent-by : ℕ → ℕ → List Thing
          sent-by = sent e.wires.replay port (spread item)

          given-there : (q : ℕ) → things (to_release e q) ≡ sent e.wires.replay port (spread item) e.wires.replay q ++ things (tuples_to_come (slice_get sources'.items q))
          given-there q =
              at_or_other (λ k. things (to_release e k) ≡ cond (eqb port k) (spread item) [] ++ things (tuples_to_come (slice_get sources'.items k))) port
              (ap things front ∙ ap (λ o. spread item ++ things (tuples_to_come o)) (sym is_after)
              ∙ ap (λ b. cond b (spread item) [] ++ things (tuples_to_come (slice_get sources'.items port))) (sym (eqb_true port port refl)))
              (λ k ne. ap (λ o. things (tuples_to_come o)) (sym (apart k ne))
              ∙ ap (λ b. cond b (spread item) [] ++ things (tuples_to_come (slice_get sources'.items k))) (sym (eqb-not port k (λ same. ne (sym same))))) q
              ∙ ap (λ z. z ++ things (tuples_to_come (slice_get sources'.items q))) (sym (own-sent e.wires.replay port (spread item) q))

          quiet : (other : ℕ) → other ≢ e.wires.replay → (q : ℕ) → sent e.wires.replay port (spread item) other q ≡ []
          quiet = not-sent e.wires.replay port (spread item)

          ends : e.over ≡ true → (q : ℕ) → tuples_to_come (slice_get sources'.items q) ≡ []
          ends o = absurd (cc (replay-runs, o))

          on : Tells is → (k : ℕ) → k < length e.wires.arcs.items
              → spread_all (items_on q' is k) ≡ spread_all (items_on e.queues was k) ++ sent e.wires.replay port (spread item) ((net_of e.wires).from k) ((net_of e.wires).port k)
          on told k low = pushes.items told k ∙ ap (λ z. spread_all (items_on e.queues was k) ++ z) (one-sent e.wires (length e.seats.items) flow.shaped e.wires.replay port k (spread item) low)

    pub released-touches : (was is : Option Pages) (q' : Queues) (sources' : Vec Recorded Global) (planner' : Setting) (levels' : LevelTable) (counts' : Vec ℕ Global)
        → Pushes e.queues q' was is (λ k. many (times_in k (arcs_from e.wires e.wires.replay port)) (spread item)) (λ time. x.time ≤ time) (contains_number (arcs_from e.wires e.wires.replay port))
        → TouchesOnly (length e.seats.items) e (record e { queues = q'; sources = sources'; clock = x.time; planner = planner'; levels = levels'; counts = counts' })
    released-touches was is q' sources' planner' levels' counts' pushes =
        record {
          apart = λ arc low to from.
              let r = flow.shaped.replay_is in
              pushes.apart arc (apart-arcs e.wires e.wires.replay port arc (comes-from e.wires (length e.seats.items) flow.shaped e.wires.replay port arc)
              (away-from e.wires e.wires.replay arc (λ same. from (same ∙ r))));
          grows = λ arc low to h. stands-pushed e.queues q' was is _ _ _ pushes arc h;
          others = λ other low ne. refl;
          sources = λ ne. absurd (ne refl);
          ahead = refl;
        }

  -- the whole of the end of the replay
  pub ended-stepped : (pages : Option Pages) (q' : Queues) (events : List Event)
      → Together e.queues pages → ((source : ℕ) → to_release e source ≡ []) → ((source : ℕ) → more_from (slice_get e.ahead.items source) ≡ None) → EndsOnly e.wires e.wires.replay e.queues q'
      → Stepped m pages pages e (record e { over = true; queues = q' }) events events
  ended-stepped pages q' events together none closed ends =
      record {
        flow_after =
            record {
              shaped = flow.shaped;
              lanes = ends.keeps.lanes ∙ flow.lanes;
              ended = λ arc low. ends.ended arc low ∙ ap (λ b. b || eqb (from_of (slice_get e.wires.arcs.items arc)) e.wires.replay) (flow.ended arc low)
                  ∙ done-is (from_of (slice_get e.wires.arcs.items arc)) (flow.shaped.from_in arc low);
              seats = flow.seats;
              few = flow.few;
              held = flow.held;
              replay = (let replay = flow.replay in record { few_sources = replay.few_sources; coming = replay.coming; told = replay.told; counted = replay.counted; few_tuples = replay.few_tuples; ends = λ o. none; closed = λ o. closed });
              levels = flow.levels;
              owned = flow.owned;
            };
        together = ends.keeps.together pages together;
        tells = λ told. told;
        wires = refl;
        ahead = refl;
        framed = ends.keeps.framed;
        seats = refl;
        closes = λ table h. h;
        shows = λ h. h;
        planner = refl;
        planned = λ all h. record { agrees = h.agrees; counts = h.counts };
        plans = refl;
        holds = λ told table agrees holds.
            holds-after m e flow table (items_on e.queues pages) (items_on q' pages) holds true q' e.sources e.clock e.planner e.levels e.counts (λ _ _. []) (λ q. refl) (λ other ne q. refl) (λ o. none) (on)
            (λ k. subst (AllFine e.clock) (sym (ends.keeps.items pages k)) (holds.queued k));
        goes = λ told table agrees holds.
            goes-after m e flow table (items_on e.queues pages) (items_on q' pages) holds true q' e.sources e.clock e.planner e.levels e.counts (λ _ _. []) (λ q. refl) (λ other ne q. refl) (λ o. none) (on)
            events events (λ o. refl) (λ w. refl) (λ output low q. refl);
      }
    where
      on : (k : ℕ) → k < length e.wires.arcs.items → spread_all (items_on q' pages k) ≡ spread_all (items_on e.queues pages k) ++ []
      on k low = ap spread_all (ends.keeps.items pages k) ∙ sym (append-nil (spread_all (items_on e.queues pages k)))

      done-is : (actor : ℕ) → actor < length e.seats.items + 1 → (done_at e.over (slice_get e.seats.items actor) || eqb actor e.wires.replay) ≡ done_at true (slice_get e.seats.items actor)
      done-is actor low = by (eqb actor e.wires.replay) refl
        where
          some : (o : Option (Seat O)) → o ≢ None → (done_at e.over o || false) ≡ done_at true o
          some None n = absurd (n refl)
          some (Some s) n = or-false (not s.tally.running)

          by : (b : Bool) → eqb actor e.wires.replay ≡ b → (done_at e.over (slice_get e.seats.items actor) || b) ≡ done_at true (slice_get e.seats.items actor)
          by true k =
              let r = flow.shaped.replay_is in
              let here : actor ≡ e.wires.replay = exact_unsigned_eq actor e.wires.replay k in
              let past : slice_get e.seats.items actor ≡ None = slice_get_past e.seats.items actor (omega (arith, r, here)) in
              rw past (or-true e.over)
          by false k =
              let r = flow.shaped.replay_is in
              let away : actor ≢ e.wires.replay = eqb-no actor e.wires.replay k in
              some (slice_get e.seats.items actor) (slice_get-not_none e.seats.items actor (omega (arith, r, away, low)))

  pub ended-touches : (q' : Queues) → EndsOnly e.wires e.wires.replay e.queues q' → TouchesOnly (length e.seats.items) e (record e { over = true; queues = q' })
  ended-touches q' ends =
      record {
        apart = λ arc low to from. let r = flow.shaped.replay_is in ends.apart arc (away-from e.wires e.wires.replay arc (λ is. from (is ∙ r)));
        grows = λ arc low to h.
            stands-grows (face e.queues arc) (face q' arc) (λ some. ap (λ (o : Option ℕ). is_some o) (ends.keeps.first arc) ∙ some)
            (λ over. ends.ended arc low ∙ ap (λ b. b || eqb (from_of (slice_get e.wires.arcs.items arc)) e.wires.replay) over) h;
        others = λ other low ne. some-done (slice_get e.seats.items other) (slice_get-not_none e.seats.items other (omega (arith, low, ne)));
        sources = λ ne. refl;
        ahead = refl;
      }
    where
      some-done : (o : Option (Seat O)) → o ≢ None → done_at true o ≡ done_at e.over o
      some-done None n = absurd (n refl)
      some-done (Some s) n = refl

-- where no tuple and no decision was shown
pub lines-stay : {O : Type 0} (m : Ghosts O) (was is : Option Pages) (e : Flow O) (levels : LevelTable) (events events' : List Event)
    → ((o : ℕ) → lines_of o events' ≡ lines_of o events) → ((w : ℕ) → drops_of w events' ≡ drops_of w events) → ShowsPrefix m was is e levels events events'
lines-stay m was _ e levels events events' same decides = λ told table agrees holds.
    record {
      lines = λ output low. (lines_left m table (items_on e.queues was) e output, ap (λ z. z ++ lines_left m table (items_on e.queues was) e output) (sym (same output)));
      drops = λ w low.
          (decisions_left m table (items_on e.queues was) e (e.wires.sheds + w), ap (λ z. z ++ decisions_left m table (items_on e.queues was) e (e.wires.sheds + w)) (sym (decides w)));
    }

-- a source of which one tuple was taken
pub count-less : (sources : List Recorded) (i : ℕ) (v v' : Recorded) (x : Tuple) → slice_get sources i ≡ Some v → v.items ≡ x ∷ v'.items
    → count_all (set sources i v') + 1 ≡ count_all sources
count-less [] i v v' x is front = cc is
count-less (s ∷ sources) zero v v' x is front =
    let same : s ≡ v = same_Some s v is in
    let one : length s.items ≡ length v'.items + 1 = ap (λ (d : Recorded). length d.items) same ∙ ap (λ (l : List Tuple). length l) front ∙ add-one-of (length v'.items) in omega (arith, one)
  where
    add-one-of : (n : ℕ) → suc n ≡ n + 1
    add-one-of n = omega arith
count-less (s ∷ sources) (suc i) v v' x is front = let r = count-less sources i v v' x is front in omega (arith, r)
