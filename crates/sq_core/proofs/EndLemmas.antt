-- What a run that is done has shown, fed and lost.
use Rattle.std.proofs.Common.{◌≡◌, ℕ, suc, ◌+◌, ◌-◌, ◌/◌, ◌<◌, max, true, None, refl, List, [], ◌∷◌, ◌++◌, map, length, Option, Some, Vec, slice_get, ap, sym, ◌∙◌, arith, append-nil}
use Rattle.std.specs.List.{flat_map, range_with_len}
use Rattle.std.specs.Option.{option_map}
use Rattle.std.specs.declared.alloc.Global.{Global}
use Rattle.std.proofs.lemmas.Option.{slice_get-map, slice_get_past}
use Rattle.sq_value.specs.declared.Tuple.{Tuple}
use Rattle.sq_words.specs.Lists.{max_by}
use Rattle.sq_plan.specs.PlanRows.{shown_after}
use Rattle.sq_replay.specs.RecordedTuples.{Recorded}
use Rattle.sq_outside.specs.Disks.{Pages}
use Rattle.sq_graph.specs.Wires.{arcs_of, input_arcs_of}
use Rattle.sq_oper.specs.declared.outs.Event.{Event}
use Rattle.sq_oper.specs.Streams.{tuples_in}
use Rattle.sq_oper.proofs.StreamLemmas.{tuples_back}
use Rattle.sq_net.specs.declared.Network.{Network}
use Rattle.sq_net.proofs.StreamLemmas.{boxes_count}
use Rattle.sq_points.specs.Above.{drop_above_arc}
use Rattle.sq_model.specs.FullStreams.{full_arc}
use Rattle.sq_model.specs.Shedding.{Replay, batch_level}
use Rattle.sq_model.specs.KeptTuples.{kept_of, needed}
use Rattle.sq_below.specs.Actors.{arc_from, stream_of, StreamsFollow}
use Rattle.sq_below.specs.ArcStreams.{marked_arc}
use Rattle.sq_below.specs.ArcContents.{Drop, standing, on_arc}
use Rattle.sq_below.proofs.FromSound.{ranks-of}
use Rattle.sq_below.proofs.Feeding.{kept-ascends}
use Rattle.sq_below.proofs.Spreading.{tuples-of-spread}
use Rattle.sq_start.specs.Numbers.{actor_at, reads_of}
use Rattle.sq_start.specs.Starts.{IsReadReplay}
use Rattle.sq_start.proofs.NumberLemmas.{box-at}
use Rattle.sq_pool.specs.Trust.{Tells}
use Rattle.sq_flow.specs.Events.{lines_of, drops_of}
use Rattle.sq_flow.specs.Plans.{counts_of, last_arrival, plans_left, plans_of, streams_left}
use Rattle.sq_flow.specs.Wiring.{net_of}
use Rattle.sq_actor.specs.declared.actor.Actor.{Actor}
use Rattle.sq_actor.proofs.LateLemmas.{late-lost}
use Rattle.sq_flow.specs.declared.flow.Flow.{Flow}
use Rattle.sq_flow.specs.declared.seats.Seat.{Seat}
use Rattle.sq_flow.specs.Seats.{lost_at, done_at, holds_at, IsSeat}
use Rattle.sq_flow.specs.Engines.{AllDone}
use Rattle.sq_flow.specs.Flows.{IsFlow, fed_on, tuples_to_come}
use Rattle.sq_flow.specs.Tails.{Tails, Fits, closed_in, joined_in, with_tails}
use Rattle.sq_core.specs.declared.engine.Engine.{Engine}
use Rattle.sq_core.specs.Meanings.{actors}
use Rattle.sq_core.specs.Runs.{IsLaidFor, IsRun, IsRunOn, NothingLeft, RunsFlow, ShownAll, late_in, flow_of}
use Rattle.sq_core.proofs.RunLemmas.{shown-in, shed-in, box-in, laid-of, laid-on}
use Rattle.sq_core.proofs.TableLemmas.{input-low}
use Rattle.sq_words.proofs.Bools.{not_true}

-- a finished operator is late with all that it loses
late-seat : (flow : Flow Actor) → IsFlow actors flow → AllDone flow → (actor : ℕ) → actor < length flow.seats.items → late_in (slice_get flow.seats.items actor) ≡ lost_at actors (slice_get flow.seats.items actor) []
late-seat flow is done actor low = by (slice_get flow.seats.items actor) (is.seats actor) (done actor (omega (arith, low)))
  where
    by : (o : Option (Seat Actor)) → holds_at (IsSeat actors ((net_of flow.wires).takes actor) ((net_of flow.wires).fits actor) flow.levels.epoch flow.taken) o → done_at flow.over o ≡ true → late_in o ≡ lost_at actors o []
    by None h d = refl
    by (Some seat) h d = late-lost seat.op h.arcs.is_valid (h.running ∙ not_true seat.tally.running d)

none-left : (sources : List Recorded) → ((source : ℕ) → tuples_to_come (slice_get sources source) ≡ []) → (epoch : ℕ) → last_arrival epoch (map (λ tuples. tuples.items) sources) ≡ 0
none-left [] none epoch = refl
none-left (tuples ∷ sources) none epoch =
    ap (λ xs. max (max_by (λ (x : Tuple). x.time / epoch) xs) (last_arrival epoch (map (λ tuples. tuples.items) sources))) (none 0)
    ∙ ap (λ k. max 0 k) (none-left sources (λ source. none (suc source)) epoch)

-- where all is done nothing is to be released, so nothing is planned
pub nothing-planned : (flow : Flow Actor) → IsFlow actors flow → AllDone flow → plans_left flow ≡ []
nothing-planned flow is done =
    let past = slice_get_past flow.seats.items (length flow.seats.items) (omega arith) in
    let none = is.replay.ends (sym (ap (done_at flow.over) past) ∙ done (length flow.seats.items) (omega arith)) in
    let last = none-left flow.sources.items none flow.levels.epoch in
    let z : last_arrival flow.levels.epoch (streams_left flow) - (flow.levels.closed - 1) ≡ 0 = omega (arith, last) in
    ap (λ k. flat_map (shown_after flow.planner (counts_of flow)) (range_with_len (flow.levels.closed - 1) k)) z

-- the tuples of what an arc's giver gives are those that are kept
kept-given : (r : Replay) → IsReadReplay r → StreamsFollow r → (a : ℕ) → a < length (arcs_of r.network.wires) → tuples_in (stream_of r (arc_from r.network a)) ≡ kept_of r a
kept-given r read follow a low = ap tuples_in (follow.arcs a low) ∙ by (drop_above_arc r.network a) refl
  where
    by : (o : Option Drop) → drop_above_arc r.network a ≡ o → tuples_in (on_arc r a) ≡ kept_of r a
    by None e =
        ap (λ z. tuples_in (standing r z a)) e ∙ tuples_back (full_arc r.network r.sources a)
        ∙ sym (ap (λ z. needed r z a (full_arc r.network r.sources a)) e)
    by (Some d) e =
        ap (λ z. tuples_in (standing r z a)) e
        ∙ tuples-of-spread (marked_arc r d.0 d.1 a) (kept-ascends r (ranks-of r.network read.sound) read.streams a)

-- a box reads the actor and the port that its arc comes from
reads-arc : (n : Network) (at port arc : ℕ) → at < length n.boxes → slice_get (input_arcs_of n.wires at) port ≡ Some arc → slice_get (reads_of n (actor_at n at)) port ≡ Some (arc_from n arc)
reads-arc n at port arc low is =
    ap (λ x. slice_get (reads_of n x) port) (box-at n at low) ∙ slice_get-map (arc_from n) (input_arcs_of n.wires at) port ∙ ap (option_map (arc_from n)) is

-- of an engine that is done, by its flow with these sources, of which so much is told
module _ (e : Engine) (done : AllDone (flow_of e)) (follow : (r : Replay) → IsReadReplay r → StreamsFollow r) (sources : Vec Recorded Global) (ahead : Vec (Option ℕ) Global) where
  abbrev flow : Flow Actor
  flow = record (flow_of e) { sources = sources; ahead = ahead }

  flow-shown : IsFlow actors flow → NothingLeft flow → (r : Replay) → IsLaidFor r.network flow → (pages : Option Pages) (history : List Event) (begun steps : ℕ) → Tells pages
      → RunsFlow r pages flow history begun steps → ShownAll r e history begun steps
  flow-shown is none r laid pages history begun steps told run =
      let a = run.answers told in
      let coming = none.coming in
      let table = batch_level r in
      record {
        lines = λ output low.
            sym (append-nil (lines_of output history)) ∙ ap (λ l. lines_of output history ++ l) (sym (coming.lines pages table a.holds output (shown-in r.network flow laid output low)))
            ∙ a.lines output low;
        drops = λ w p there.
            let shed = shed-in r.network flow laid w p there in
            let first = laid.drops in
            let all = laid.operators in
            sym (append-nil (drops_of w history))
            ∙ ap (λ l. drops_of w history ++ l) (sym (coming.drops pages table a.holds (flow.wires.sheds + w) (omega (arith, shed, first, all))))
            ∙ a.drops w p there;
        plans = sym (append-nil (plans_of history)) ∙ ap (λ l. plans_of history ++ l) (sym none.plans) ∙ run.plans.shown;
        took = λ at port arc low is.
            let boxes = boxes_count r.network run.read.sound in
            let there = input-low r.network at port arc (omega (arith, boxes, low)) is in
            let left = a.arcs at port (arc_from r.network arc) (omega (arith, low)) (reads-arc r.network at port arc low is) in
            let all = sym (append-nil (fed_on flow at port))
            ∙ ap (λ l. fed_on flow at port ++ l) (sym (coming.arcs pages table a.holds at port left.arc (box-in r.network flow laid at low) left.there)) ∙ left.whole in
            ap tuples_in all ∙ kept-given r run.read (follow r run.read) arc there;
        fed = λ at low. sym (coming.fed pages table a.holds at (box-in r.network flow laid at low)) ∙ a.fed at low;
        late = λ at low.
            late-seat flow is done at (box-in r.network flow laid at low)
            ∙ sym (coming.lost pages table a.holds at (box-in r.network flow laid at low)) ∙ a.late at low;
        work = (let all = coming.work pages table a.holds in let sum = a.work in let counted = run.counted in omega (arith, all, sum, counted));
      }

module _ (e : Engine) (done : AllDone (flow_of e)) (follow : (r : Replay) → IsReadReplay r → StreamsFollow r) (r : Replay) where
  pub shown-all : NothingLeft (flow_of e) → (pages : Option Pages) (history : List Event) (begun steps : ℕ) → Tells pages → IsRun r pages e history begun steps → ShownAll r e history begun steps
  shown-all none pages history begun steps told run =
      flow-shown e done follow (flow_of e).sources (flow_of e).ahead run.sound.engine.flow none r (laid-of e r.network run.network run.sound) pages history begun steps told run.at

  pub shown-all-on : (tails : Tails) → (Fits actors tails (flow_of e) → NothingLeft (with_tails tails (flow_of e))) → (pages : Option Pages) (history : List Event) (begun steps : ℕ) → Tells pages
      → IsRunOn r tails pages e history begun steps → ShownAll r e history begun steps
  shown-all-on tails none pages history begun steps told run =
      flow-shown e done follow (joined_in tails (flow_of e).sources) (closed_in (flow_of e).ahead) run.fits.keeps (none run.fits) r
      (laid-on r.network (flow_of e) (laid-of e r.network run.network run.sound) tails) pages history begun steps told run.at
