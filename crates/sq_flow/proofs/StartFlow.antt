-- A flow that has released nothing yet.
use Rattle.std.proofs.Common.{zero, suc, ◌+◌, ◌-◌, ◌≤◌, eqb, cond, true, replicate, ◌≡◌, ℕ, ◌/◌, ◌<◌, ◌^◌, Bool, false, not, List, [], length, Option, Some, None, refl, ap, sym, ◌∙◌, subst, arith}
use Rattle.std.specs.Prelude.{slice_get, slice_index}
use Rattle.std.specs.List.{flat_map, range_with_len}
use Rattle.sq_words.specs.Lists.{numbers_to}
use Rattle.sq_road.specs.Levels.{Rows, level_of}
use Rattle.sq_plan.specs.PlanRows.{level_for, shown_from, shown_after}
use Rattle.sq_value.specs.declared.Value.{Value}
use Rattle.sq_oper.specs.declared.operator.Operator.{Ghosts}
use Rattle.sq_oper.specs.declared.outs.Decision.{Decision}
use Rattle.sq_oper.specs.Order.{IsFuture}
use Rattle.sq_oper.specs.Outflow.{ThingsUpTo}
use Rattle.sq_queue.specs.Faces.{face, size}
use Rattle.sq_flow.specs.declared.seats.Seat.{Seat}
use Rattle.sq_flow.specs.declared.flow.Flow.{Flow}
use Rattle.sq_flow.specs.Wiring.{net_of, from_of, IsOwn, IsShaped}
use Rattle.sq_flow.specs.Seats.{rest_at, done_at, holds_at, IsSeat, Owns}
use Rattle.sq_flow.specs.Flows.{IsFlow, RiseFrom, to_release}
use Rattle.sq_flow.specs.Starts.{IsNewSeat}
use Rattle.sq_plan.specs.Arrivals.{arrivals}
use Rattle.sq_flow.specs.Plans.{last_arrival, add_counts, streams_left, counts_of, IsPlanned, plans_left}
use Rattle.sq_flow.proofs.PlanLemmas.{add-zeros, arrivals-len, flat-same}
use Rattle.sq_words.proofs.Lists.{zeros_at}

module _ {O : Type 0} (m : Ghosts O) (e : Flow O)
    (shaped : IsShaped e.wires (length e.seats.items)) (lanes : size e.queues ≡ length e.wires.arcs.items)
    (open_all : (arc : ℕ) → (face e.queues arc).ended ≡ false) (runs : e.over ≡ false)
    (seats : (actor : ℕ) → holds_at (IsNewSeat m ((net_of e.wires).takes actor) ((net_of e.wires).fits actor) (IsOwn e.wires actor) e.levels.epoch) (slice_get e.seats.items actor))
    (rises : (source : ℕ) → RiseFrom 0 (to_release e source)) (few : length e.sources.items < 2 ^ 32) (clock : e.clock ≡ 0) (none_taken : e.taken ≡ 0) (closed : e.levels.closed ≡ 1)
    (told : length e.ahead.items ≡ length e.sources.items) (counts : length e.counts.items ≡ length e.sources.items) (few_tuples : (source : ℕ) → slice_index e.counts.items source + length (to_release e source) ≤ 2 ^ 62) where
  done-none : (actor : ℕ) → done_at e.over (slice_get e.seats.items actor) ≡ false
  done-none actor = by (slice_get e.seats.items actor) (seats actor)
    where
      by : (o : Option (Seat O)) → holds_at (IsNewSeat m ((net_of e.wires).takes actor) ((net_of e.wires).fits actor) (IsOwn e.wires actor) e.levels.epoch) o → done_at e.over o ≡ false
      by None h = runs
      by (Some s) h = ap not h.open_now

  pub start-flow : IsFlow m e
  start-flow =
      record {
        shaped = shaped;
        lanes = lanes;
        ended = λ arc low. open_all arc ∙ sym (done-none (from_of (slice_get e.wires.arcs.items arc)));
        seats = λ actor. seat-of actor (slice_get e.seats.items actor) (seats actor);
        few = rw none_taken (omega arith);
        held = λ table agrees actor port. held-none table ((net_of e.wires).takes actor) ((net_of e.wires).fits actor) (IsOwn e.wires actor) (slice_get e.seats.items actor) port (seats actor);
        replay =
            record {
              few_sources = few;
              coming = λ source. rw clock (rises source);
              told = told;
              counted = counts;
              few_tuples = few_tuples;
              ends = λ o. absurd (cc (sym runs ∙ o));
              closed = λ o. absurd (cc (sym runs ∙ o));
            };
        levels = rw clock (closed ∙ first e.levels.epoch, omega arith);
        owned = λ actor. owns-of actor (slice_get e.seats.items actor) (seats actor);
      }
    where
      first : (epoch : ℕ) → 1 ≡ 0 / epoch + 1
      first epoch = grind arith

      seat-of : (actor : ℕ) (o : Option (Seat O)) → holds_at (IsNewSeat m ((net_of e.wires).takes actor) ((net_of e.wires).fits actor) (IsOwn e.wires actor) e.levels.epoch) o
          → holds_at (IsSeat m ((net_of e.wires).takes actor) ((net_of e.wires).fits actor) e.levels.epoch e.taken) o
      seat-of actor None h = tt
      seat-of actor (Some s) h =
          record {
            arcs = h.arcs;
            running = h.running ∙ sym h.open_now;
            place = h.place ∙ sym h.at_start;
            counted = h.taken ∙ sym h.none_counted;
            few = (let z = h.none_counted in omega (arith, z));
            reads = λ _. h.reads;
          }

      owns-of : (actor : ℕ) (o : Option (Seat O)) → holds_at (IsNewSeat m ((net_of e.wires).takes actor) ((net_of e.wires).fits actor) (IsOwn e.wires actor) e.levels.epoch) o
          → holds_at (Owns m (IsOwn e.wires actor) e.levels) o
      owns-of actor None h = tt
      owns-of actor (Some s) h = λ running table agrees future f. h.owns table future (subst (λ place. IsFuture (m.takes_marks s.op) (m.fits s.op) place future) h.place f)

      held-none : (table : ℕ → ℕ → ℕ) (takes : ℕ → Bool) (fits : ℕ → List Value → Bool) (own : Decision → Type 0) (o : Option (Seat O)) (port : ℕ) → holds_at (IsNewSeat m takes fits own e.levels.epoch) o → ThingsUpTo e.clock (rest_at m table o [] port)
      held-none table takes fits own None port h = tt
      held-none table takes fits own (Some s) port h = rw (h.holds_none table port) tt

-- a flow that has counted nothing yet
module _ {O : Type 0} (e : Flow O) (closed : e.levels.closed ≡ 1) (rows : e.levels.rows ≡ []) (counts : e.counts.items ≡ replicate (length e.sources.items) 0) where
  abbrev pub all : ℕ → List ℕ
  all = arrivals e.levels.epoch (streams_left e)

  counts-first : (y : ℕ) → counts_of e y ≡ all y
  counts-first y = by (eqb (y + 1) e.levels.closed)
    where
      by : (b : Bool) → add_counts (cond b e.counts.items []) (all y) ≡ all y
      by false = refl
      by true = ap (λ l. add_counts l (all y)) counts ∙ add-zeros (length e.sources.items) (all y) (arrivals-len e.levels.epoch y e.sources.items)

  pub start-planned : IsPlanned all e
  start-planned =
      record {
        agrees = λ y w low. by y w (omega (arith, low, closed)) ∙ sym (ap (λ (r : Rows). level_of (record { epoch = 1; closed = 1; rows = r }) y w) rows);
        counts = λ y from. sym (counts-first y);
      }
    where
      by : (y w : ℕ) → y < 1 → level_for e.planner all y w ≡ 0
      by zero w low = refl
      by (suc y) w low = absurd (omega (arith, low))

  pub start-plans : plans_left e ≡ flat_map (shown_after e.planner all) (numbers_to (last_arrival e.levels.epoch (streams_left e)))
  start-plans =
      ap (λ n. flat_map (shown_after e.planner (counts_of e)) (range_with_len n (last_arrival e.levels.epoch (streams_left e) - n))) first
      ∙ ap (λ n. flat_map (shown_after e.planner (counts_of e)) (range_with_len 0 n)) (less-none (last_arrival e.levels.epoch (streams_left e)))
      ∙ flat-same (shown_after e.planner (counts_of e)) (shown_after e.planner all) 0 (last_arrival e.levels.epoch (streams_left e)) (λ y from. ap (shown_from e.planner y) (counts-first y))
    where
      first : e.levels.closed - 1 ≡ 0
      first = omega (arith, closed)

      less-none : (n : ℕ) → n - 0 ≡ n
      less-none n = omega arith

-- tuples of each source, of which none is counted
pub few-first : (n : ℕ) (counts : List ℕ) (source many : ℕ) → counts ≡ replicate n 0 → many ≤ 2 ^ 62 → slice_index counts source + many ≤ 2 ^ 62
few-first n counts source many none few = let low = ap (λ l. slice_index l source) none ∙ zeros_at n source in omega (arith, low, few)
