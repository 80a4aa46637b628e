-- What a call of one actor keeps: what a feed, an end and the replay share.
use Rattle.std.proofs.Common.{◌≡◌, ◌≢◌, ℕ, ◌+◌, ◌<◌, eqb, cond, Bool, true, false, List, [], ◌++◌, length, Some, refl, ap, sym, ◌∙◌, arith, subst}
use Rattle.std.specs.Prelude.{slice_get, Vec}
use Rattle.std.specs.List.{AllByRecursion}
use Rattle.std.specs.Vec.{with_item}
use Rattle.std.specs.declared.alloc.Global.{Global}
use Rattle.std.proofs.lemmas.Bool.{not-false}
use Rattle.std.proofs.lemmas.List.{length-set}
use Rattle.std.proofs.lemmas.Map.Views.{exact_unsigned_eq}
use Rattle.sq_words.specs.Lists.{IsPrefixOf}
use Rattle.sq_words.proofs.Lists.{get_set_same, get_set_other}
use Rattle.sq_item.specs.declared.Item.{Item}
use Rattle.sq_item.specs.Things.{Thing}
use Rattle.sq_road.specs.Levels.{level_of}
use Rattle.sq_oper.specs.declared.operator.Operator.{Ghosts}
use Rattle.sq_oper.specs.declared.outs.Decision.{Decision}
use Rattle.sq_oper.specs.declared.outs.Event.{Event}
use Rattle.sq_oper.specs.Entries.{Entry}
use Rattle.sq_oper.specs.Outflow.{given}
use Rattle.sq_oper.specs.Streams.{tuples_in}
use Rattle.sq_oper.proofs.StreamLemmas.{tuples_append}
use Rattle.sq_left.specs.Remainder.{Net, Holding, coming, inputs}
use Rattle.sq_left.proofs.Conserve.{Kept}
use Rattle.sq_left.proofs.ActorSteps.{Moves, SameActor}
use Rattle.sq_flow.specs.declared.seats.Seat.{Seat}
use Rattle.sq_flow.specs.declared.flow.Flow.{Flow}
use Rattle.sq_flow.specs.Wiring.{net_of, arcs_read, pushed_by, IsOwn}
use Rattle.sq_flow.specs.Seats as seat
use Rattle.sq_flow.specs.Seats.{rest_at, decides_at, lost_at, position_at, done_at, holds_at, IsSeat, Owns, IsFutureOf}
use Rattle.sq_flow.specs.Events.{lines_of, of_drop, drops_of}
use Rattle.sq_flow.specs.Shows.{IsShown}
use Rattle.sq_flow.specs.Flows.{world_of, IsFlow, HoldsItems, BeginsLines, Goes, fed_on, lines_left, decisions_left, sum_below, turns_at_last}
use Rattle.sq_flow.proofs.FutureLemmas.{goes-on, prefix-chain}
use Rattle.sq_flow.proofs.EventLemmas.{stays-is}
use Rattle.sq_flow.proofs.ArcLemmas.{arcs-fed}
use Rattle.sq_flow.proofs.DoneLemmas.{sums-agree}
use Rattle.sq_flow.proofs.DropLemmas.{all-split, own-front}

-- an operator that is called
module _ {O : Type 0} (m : Ghosts O) (e : Flow O) (flow : IsFlow m e) (actor : ℕ) (actor_in : actor < length e.seats.items) (s : Seat O) (is_seat : slice_get e.seats.items actor ≡ Some s) where
  abbrev net : Net
  net = net_of e.wires

  pub seat-fine : IsSeat m (net.takes actor) (net.fits actor) e.levels.epoch e.taken s
  seat-fine = subst (holds_at (IsSeat m (net.takes actor) (net.fits actor) e.levels.epoch e.taken)) is_seat (flow.seats actor)

  pub runs : done_at e.over (slice_get e.seats.items actor) ≡ false → m.running s.op ≡ true
  runs open_now = seat-fine.running ∙ not-false s.tally.running (sym (ap (done_at e.over) is_seat) ∙ open_now)

  pub not-replay : actor ≢ net.replay
  not-replay = let is = flow.shaped.replay_is in omega arith

  -- what it has decided of what may come is its own
  pub own-begun : (came : List Entry) (drops : List Decision) → IsFutureOf m s.op came → IsPrefixOf drops (m.decides s.op (level_of e.levels) came)
      → done_at e.over (slice_get e.seats.items actor) ≡ false → AllByRecursion (IsOwn e.wires actor) drops
  own-begun came drops may front open_now =
      let owns : Owns m (IsOwn e.wires actor) e.levels s = subst (holds_at (Owns m (IsOwn e.wires actor) e.levels)) is_seat (flow.owned actor) in
      (all-split (IsOwn e.wires actor) drops front.0
      (subst (AllByRecursion (IsOwn e.wires actor)) front.1 (owns (runs open_now) (level_of e.levels) (λ epoch drop h. refl) came may))).0

  -- what it has shown is a beginning of what is left, where just this is still to come to it
  pub begins : (table : ℕ → ℕ → ℕ) (items : ℕ → List Item) (came : List Entry) (outs : List (ℕ × Item)) (drops : List Decision) (events events' : List Event)
      → coming net (world_of m table items e) e.wires.order.items actor 0 ≡ rest_at m table (slice_get e.seats.items actor) came 0 → inputs net (world_of m table items e) e.wires.order.items actor ≡ came
      → IsPrefixOf (given 0 outs) (m.rest s.op table came 0) → IsPrefixOf drops (m.decides s.op table came) → AllByRecursion (IsOwn e.wires actor) drops
      → IsShown e.wires actor outs drops events events' → BeginsLines m table items e events events'
  begins table items came outs drops events events' comes fed rest decides own shown =
      record {
        lines = λ output low.
            prefix-chain (lines_of output events') (lines_of output events) (tuples_in (pushed_by actor outs (e.wires.shown + output) 0)) (lines_left m table items e output)
            (stays-is (lines_of output events') _ (sym (shown.lines output))) (front (e.wires.shown + output) (eqb actor (e.wires.shown + output)) refl);
        drops = λ w low.
            prefix-chain (drops_of w events') (drops_of w events) (of_drop w drops) (decisions_left m table items e (e.wires.sheds + w))
            (stays-is (drops_of w events') _ (sym (shown.decided w)))
            (own-front e.wires actor w drops (decisions_left m table items e (e.wires.sheds + w)) own
            (λ same.
            let is : decisions_left m table items e actor ≡ m.decides s.op table came = ap (λ z. decides_at m table (slice_get e.seats.items actor) z) fed ∙ ap (λ o. decides_at m table o came) is_seat in
            subst (λ k. IsPrefixOf drops (decisions_left m table items e k)) (sym same) (rw is decides)));
      }
    where
      cut : (xs ys : List Thing) → IsPrefixOf xs ys → IsPrefixOf (tuples_in xs) (tuples_in ys)
      cut xs ys (more, k) = (tuples_in more, ap tuples_in k ∙ tuples_append xs more)

      front : (output : ℕ) (b : Bool) → eqb actor output ≡ b → IsPrefixOf (tuples_in (cond b (given 0 outs) [])) (tuples_in (coming net (world_of m table items e) e.wires.order.items output 0))
      front output true t =
          let is : coming net (world_of m table items e) e.wires.order.items actor 0 ≡ m.rest s.op table came 0 = comes ∙ ap (λ o. rest_at m table o came 0) is_seat in
          let here : IsPrefixOf (given 0 outs) (coming net (world_of m table items e) e.wires.order.items actor 0) = rw is rest in
          subst (λ k. IsPrefixOf (tuples_in (given 0 outs)) (tuples_in (coming net (world_of m table items e) e.wires.order.items k 0))) (exact_unsigned_eq actor output t) (cut (given 0 outs) (coming net (world_of m table items e) e.wires.order.items actor 0) here)
      front output false t = (tuples_in (coming net (world_of m table items e) e.wires.order.items output 0), refl)

-- the seats behind a call of an operator
module _ {O : Type 0} (e : Flow O) (actor : ℕ) (s' : Seat O) where
  abbrev pub seated : Vec (Seat O) Global
  seated = with_item e.seats actor s'

  pub is-after : actor < length e.seats.items → slice_get seated.items actor ≡ Some s'
  is-after low = get_set_same e.seats.items actor s' low

  pub apart : (other : ℕ) → other ≢ actor → slice_get seated.items other ≡ slice_get e.seats.items other
  apart other ne = get_set_other e.seats.items actor other s' ne

  pub seats-len : length seated.items ≡ length e.seats.items
  seats-len = length-set e.seats.items actor s'

  pub same-actor : (m : Ghosts O) (table : ℕ → ℕ → ℕ) (items items' : ℕ → List Item) (f : Flow O) (other : ℕ) → other ≢ actor
      → SameActor (world_of m table items e) (world_of m table items' (record f { seats = seated; over = e.over; sources = e.sources })) other
  same-actor m table items items' f other ne =
      let o = apart other ne in
      record { rest = ap (rest_at m table) o; decide = ap (decides_at m table) o; lost = ap (lost_at m) o; taken = ap (seat.taken_at m) o; place = ap (position_at m) o; done = ap (done_at e.over) o }

-- a flow behind a call that pushed these things onto streams, made these decisions, and fed these entries
module _ {O : Type 0} (m : Ghosts O) (e f : Flow O) (flow : IsFlow m e) (table : ℕ → ℕ → ℕ) (items items' : ℕ → List Item) (holds : HoldsItems m table items e)
    (pushed : ℕ → ℕ → List Thing) (decided : ℕ → List Decision) (took : ℕ → List Entry) (len : length f.seats.items ≡ length e.seats.items) where
  abbrev net' : Net
  net' = net_of e.wires

  abbrev pub e' : Flow O
  e' = record f { wires = e.wires }

  abbrev was : Holding
  was = world_of m table items e

  abbrev is : Holding
  is = world_of m table items' e'

  module _ (k : Kept net' was is pushed decided took e.wires.order.items) where
    away : (other : ℕ) → other < length e.seats.items → other ≢ net'.replay
    away other low = let r = flow.shaped.replay_is in omega (arith, r, low)

    -- what each operator is still fed
    pub comes : (other : ℕ) → other < length e.seats.items → inputs net' was e.wires.order.items other ≡ took other ++ inputs net' is e.wires.order.items other
    comes other low = (k.told other (flow.shaped.ordered other low) (away other low)).comes

    -- where nothing was fed as much is to be taken
    pub turns-same : ((other : ℕ) → took other ≡ []) → f.taken ≡ e.taken → turns_at_last m table items e ≡ turns_at_last m table items' e'
    turns-same none same =
        let sums = sums-agree (λ other. length (inputs net' was e.wires.order.items other)) (λ other. length (inputs net' is e.wires.order.items other)) (length e.seats.items)
        (λ other low. ap (λ (l : List Entry). length l) (comes other low ∙ ap (λ l. l ++ inputs net' is e.wires.order.items other) (none other))) in
        ap (λ n. e.taken + n) sums ∙ ap (λ n. n + sum_below (λ other. length (inputs net' is e.wires.order.items other)) (length e.seats.items)) (sym same)
        ∙ ap (λ n. f.taken + sum_below (λ other. length (inputs net' is e.wires.order.items other)) n) (sym len)

    pub goes-kept : (taken : ℕ → List Thing) (events events' : List Event) → Moves net' was is taken pushed
        → ((actor port arc : ℕ) → slice_get (arcs_read e.wires actor) port ≡ Some arc → fed_on e' actor port ≡ fed_on e actor port ++ taken arc)
        → turns_at_last m table items e ≡ turns_at_last m table items' e'
        → ((output : ℕ) → e.wires.shown + output < length e.seats.items → lines_of output events' ≡ lines_of output events ++ tuples_in (pushed (e.wires.shown + output) 0))
        → ((w : ℕ) → e.wires.sheds + w < length e.seats.items → drops_of w events' ≡ drops_of w events ++ decided (e.wires.sheds + w))
        → Goes m table items items' e e' events events'
    goes-kept taken events events' moves feeds turns shown decides =
        record {
          lines = λ output low.
              let at = e.wires.shown + output in
              goes-on (lines_of output events) (tuples_in (pushed at 0)) (lines_left m table items e output) (lines_left m table items' e' output) (lines_of output events')
              (ap tuples_in (k.streams at 0 (flow.shaped.ordered at low)) ∙ tuples_append (pushed at 0) (coming net' is e.wires.order.items at 0)) (shown output low);
          drops = λ w low.
              let at = e.wires.sheds + w in
              let some = flow.shaped.shown_in in
              let there : at < length e.seats.items = omega (arith, some, low) in
              goes-on (drops_of w events) (decided at) (decisions_left m table items e at) (decisions_left m table items' e' at) (drops_of w events')
              (k.told at (flow.shaped.ordered at there) (away at there)).decisions (decides w there);
          fed = λ other low. (k.told other (flow.shaped.ordered other low) (away other low)).fed;
          lost = λ other low. (k.told other (flow.shaped.ordered other low) (away other low)).lost;
          arcs = arcs-fed e.wires (length e.seats.items) flow.shaped was is taken pushed decided took (fed_on e) (fed_on e') holds.facts k moves feeds;
          turns = turns;
        }
