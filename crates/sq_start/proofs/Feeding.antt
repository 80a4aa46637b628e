-- What comes to each operator of a new engine is what the replay says that it is fed.
use Rattle.std.proofs.Common.{◌≡◌, ◌≢◌, ℕ, ◌<◌, ◌≤◌, true, false, cond, List, [], ◌∷◌, map, get_or, Some, refl, ap, sym, ◌∙◌, subst, inl, inr, arith}
use Rattle.std.specs.Prelude.{slice_get, nat_lt}
use Rattle.std.specs.List.{AllByRecursion}
use Rattle.std.proofs.lemmas.Bool.{cases_lt}
use Rattle.std.proofs.lemmas.Bool.Decides.{nat_tests}
use Rattle.std.proofs.lemmas.Option.{slice_get-get_or}
use Rattle.sq_item.specs.Things.{Thing}
use Rattle.sq_oper.specs.Order.{merge, IsFuture}
use Rattle.sq_oper.specs.declared.tally.Position.TheVariants.{Start}
use Rattle.sq_graph.specs.Wires.{producer_of, input_arcs_of}
use Rattle.sq_place.specs.declared.DropPoint.{DropPoint}
use Rattle.sq_place.specs.declared.DropAt.TheVariants as at
use Rattle.sq_points.specs.Points.{points_of}
use Rattle.sq_model.specs.Shedding.{Replay}
use Rattle.sq_left.specs.Remainder.{Net, Holding}
use Rattle.sq_below.specs.Laws.{PointsMeasured}
use Rattle.sq_below.specs.ArcContents.{drop_fed, DropsFit}
use Rattle.sq_below.specs.Actors.{Actor, Box, WindowDrop, OutputGate, giver, arc_from, stream_of, StreamsFollow}
use Rattle.sq_start.specs.Numbers.{IsThere, ops_of, seat_of_actor, actor_at, place_stream, window_drop_reads, reads_of}
use Rattle.sq_start.specs.Nets.{AllCome, fed_to, drop_fed_at}
use Rattle.sq_start.specs.Starts.{IsReadReplay}
use Rattle.sq_start.specs.Laws.{IsNew}
use Rattle.sq_start.proofs.PointLemmas.{own-arc, own-drop}
use Rattle.sq_start.proofs.OwnArcs.{own-fed}
use Rattle.sq_start.proofs.NumberLemmas.{Which, which, box-at, drop-at, output-at, replay-at, there-at, reads-there}
use Rattle.sq_left.proofs.StreamWords.{fed_by, Follows, IsStart}
use Rattle.sq_words.proofs.Lists.{map_map}

-- the streams of a replay by operator; behind the replay there is none
abbrev pub streams_by : Replay → ℕ → ℕ → List Thing
streams_by r actor port = cond (nat_lt (ops_of r.network) actor) [] (stream_of r (actor_at r.network actor, port))

pub stream-low : (r : Replay) (actor port : ℕ) → actor ≤ ops_of r.network → streams_by r actor port ≡ stream_of r (actor_at r.network actor, port)
stream-low r actor port low =
    let within : nat_lt (ops_of r.network) actor ≡ false = grind (arith, nat_tests) in
    ap (λ b. cond b [] (stream_of r (actor_at r.network actor, port))) within

stream-past : (r : Replay) (actor port : ℕ) → ops_of r.network < actor → streams_by r actor port ≡ []
stream-past r actor port past =
    let behind : nat_lt (ops_of r.network) actor ≡ true = grind (arith, nat_tests) in
    ap (λ b. cond b [] (stream_of r (actor_at r.network actor, port))) behind

apart : (k m : ℕ) → m ≤ k → (k ≡ m → ⊥) → m < k
apart k m le ne =
    elim (cases_lt m k) [
      | inl past ↦ past
      | inr other ↦ absurd (ne (omega (arith, le, other)))
    ]

no_point : DropPoint
no_point = record { at = at.Stream 0; boxes = []; outputs = []; reach = []; length = 0; keep = 0 }

stream-there : (r : Replay) (x : Actor) (port : ℕ) → IsThere r.network x → streams_by r (seat_of_actor r.network x) port ≡ stream_of r (x, port)
stream-there r x port there =
    let at = there-at r.network x there in
    stream-low r (seat_of_actor r.network x) port at.0 ∙ ap (λ y. stream_of r (y, port)) at.1

-- arcs that come as they should carry the streams
come : (r : Replay) (net : Net) (xs : List (Actor × ℕ)) (arcs : List ℕ) → AllByRecursion (λ (y : Actor × ℕ). IsThere r.network y.0) xs → AllCome r.network net xs arcs
    → map (λ arc. streams_by r (net.from arc) (net.port arc)) arcs ≡ map (stream_of r) xs
come r net [] [] there all = refl
come r net [] (arc ∷ arcs) there all = absurd all
come r net (x ∷ xs) [] there all = absurd all
come r net (x ∷ xs) (arc ∷ arcs) there all =
    let here : streams_by r (net.from arc) (net.port arc) ≡ stream_of r x =
    ap (λ k. streams_by r k (net.port arc)) all.0.0 ∙ ap (streams_by r (seat_of_actor r.network x.0)) all.0.1 ∙ stream-there r x.0 x.1 there.0 in
    ap (λ z. z ∷ map (λ a. streams_by r (net.from a) (net.port a)) arcs) here ∙ ap (λ l. stream_of r x ∷ l) (come r net xs arcs there.1 all.1)

module _ (r : Replay) (read : IsReadReplay r) (follow : StreamsFollow r) (drops : DropsFit r) (points : PointsMeasured r) where
  -- what gives the stream of a point gives all that its drop is fed
  drop-follows : (w : ℕ) (p : DropPoint) → slice_get (points_of r.network) w ≡ Some p → merge (stream_of r (giver (producer_of r.network.wires (place_stream r.network p.at))) ∷ []) ≡ drop_fed r p
  drop-follows w p there =
      let o = own-arc r.network w p there (points.there p (w, there)) in
      let d = own-drop r.network w p there o in
      ap (λ s. merge (stream_of r (giver (producer_of r.network.wires s)) ∷ [])) (sym o.stream)
      ∙ follow.drops d.0.0 d.0.1 o.arc o.there d.1
      ∙ own-fed r drops p o d.0 d.1

  module _ (net : Net) (w : Holding) (new : IsNew r net w) where
    -- what an operator reads
    reads : (k : ℕ) (x : Actor) → k < ops_of r.network → actor_at r.network k ≡ x → fed_by net (streams_by r) k ≡ merge (map (stream_of r) (reads_of r.network x))
    reads k x low is =
        ap merge (come r net (reads_of r.network x) (net.arcs k) (reads-there r.network read.sound x) (subst (λ y. AllCome r.network net (reads_of r.network y) (net.arcs k)) is (new.joins.arcs k low)))

    pub fed-is : (k : ℕ) → k < ops_of r.network → fed_by net (streams_by r) k ≡ fed_to r (actor_at r.network k)
    fed-is k low = by (which r.network k low)
      where
        by : Which r.network k → fed_by net (streams_by r) k ≡ fed_to r (actor_at r.network k)
        by (inl b) =
            let is = box-at r.network k b in
            reads k (Box k) low is ∙ ap merge (map_map (stream_of r) (arc_from r.network) (input_arcs_of r.network.wires k)) ∙ follow.boxes k ∙ ap (fed_to r) (sym is)
        by (inr (inl (d, at, few))) =
            let is = ap (actor_at r.network) at ∙ drop-at r.network d few in
            let there = slice_get-get_or (points_of r.network) d no_point few in
            let p = get_or (points_of r.network) d no_point in
            reads k (WindowDrop d) low is
            ∙ ap (λ o. merge (map (stream_of r) (window_drop_reads r.network o))) there
            ∙ drop-follows d p there
            ∙ ap (drop_fed_at r) (sym there)
            ∙ ap (fed_to r) (sym is)
        by (inr (inr (o, at, few))) =
            let is = ap (actor_at r.network) at ∙ output-at r.network o few in
            reads k (OutputGate o) low is ∙ follow.outputs o few ∙ ap (fed_to r) (sym is)

    pub start : IsStart net w (streams_by r)
    start = record {
      recorded = λ port. new.recorded port ∙ sym (ap (λ k. streams_by r k port) new.joins.replay ∙ stream-low r (ops_of r.network) port (omega arith) ∙ ap (λ y. stream_of r (y, port)) (replay-at r.network));
      empty = new.empty;
    }

    -- each operator may be fed what comes to it, and gives its stream
    pub follows : (k : ℕ) → k ≢ net.replay → Follows net w (streams_by r) k
    follows k away =
        elim (cases_lt k (ops_of r.network)) [
          | inl low ↦ (
              record {
                future = subst (IsFuture (net.takes k) (net.fits k) Start) (sym (fed-is k low)) (new.fit k low);
                gives = λ port. ap (λ es. w.rest k es port) (fed-is k low) ∙ new.gives k low port ∙ sym (stream-low r k port (omega (arith, low)));
              })
          | inr behind ↦ (
              let is = new.joins.replay in
              let past : ops_of r.network < k = apart k (ops_of r.network) behind (λ same. away (same ∙ sym is)) in
              let none : fed_by net (streams_by r) k ≡ [] = ap (λ arcs. merge (map (λ arc. streams_by r (net.from arc) (net.port arc)) arcs)) (new.joins.no_more k past) in
              record {
                future = subst (IsFuture (net.takes k) (net.fits k) Start) (sym none) (record { in_order = tt; fitting = tt });
                gives = λ port. ap (λ es. w.rest k es port) none ∙ new.no_more k past port ∙ sym (stream-past r k port past);
              })
        ]
