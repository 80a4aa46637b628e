-- What is left of a new engine is what the replay of its network says.
use Rattle.std.proofs.Common.{◌≡◌, ◌≢◌, ℕ, ◌+◌, ◌<◌, ◌≤◌, List, length, Option, Some, None, refl, ap, ◌∙◌, subst, arith}
use Rattle.std.specs.Prelude.{slice_get}
use Rattle.std.specs.List.{sum_by}
use Rattle.sq_words.specs.Lists.{numbers_to}
use Rattle.sq_oper.specs.Streams.{tuples_of, things}
use Rattle.sq_graph.specs.Wires.{input_arcs_of, output_arc_at}
use Rattle.sq_place.specs.declared.DropPoint.{DropPoint}
use Rattle.sq_net.proofs.StreamLemmas.{boxes_count}
use Rattle.sq_points.specs.Points.{points_of, drops_in}
use Rattle.sq_model.specs.Shedding.{Replay}
use Rattle.sq_model.specs.KeptTuples.{kept_of, fed_of, work_of, turns_of}
use Rattle.sq_left.specs.Remainder.{Net, Holding, coming, inputs, IsLaidOut, fed_in_all}
use Rattle.sq_left.proofs.NewEngine.{new-left, new-inputs, new-facts}
use Rattle.sq_below.specs.Laws.{PointsMeasured}
use Rattle.sq_below.specs.ArcContents.{DropsFit, OutputsFit, FedCounted}
use Rattle.sq_below.specs.Actors.{Actor, Sources, Box, WindowDrop, OutputGate, stream_of, StreamsFollow}
use Rattle.sq_start.specs.Numbers.{first_output, ops_of, actor_at}
use Rattle.sq_start.specs.Nets.{fed_to, drop_fed_at, tuples_at_drop, count_fed}
use Rattle.sq_start.specs.Starts.{IsReadReplay}
use Rattle.sq_start.specs.Laws.{IsNew, StartsAs, HasAll}
use Rattle.sq_start.proofs.NumberLemmas.{box-at, drop-at, output-at}
use Rattle.sq_start.proofs.Sums.{total, total-same, total-added, total-split, total-items, sum-total}
use Rattle.sq_start.proofs.Turns.{marks_on, box-takes, drop-takes, output-takes, each-once, marks-few}
use Rattle.sq_start.proofs.Feeding.{streams_by, stream-low, fed-is, start, follows}

-- ---- the numbers of all operators

module _ (r : Replay) (read : IsReadReplay r) where
  -- what all boxes, drops and outputs count
  split : (f : ℕ → ℕ) → sum_by f (numbers_to (ops_of r.network))
      ≡ total f (length r.network.boxes) + total (λ w. f (length r.network.boxes + w)) (drops_in r.network) + total (λ o. f (first_output r.network + o)) (length r.network.wires.outputs)
  split f =
      let all = sum-total f (ops_of r.network) in
      let last = total-split f (first_output r.network) (length r.network.wires.outputs) in
      let front = total-split f (length r.network.boxes) (drops_in r.network) in
      omega (arith, all, last, front)

  -- the same sums as the replay's work has them
  work-parts : work_of r
      ≡ total (fed_of r) (length r.network.boxes) + total (λ w. tuples_at_drop r (slice_get (points_of r.network) w)) (drops_in r.network)
      + total (λ o. length (kept_of r (output_arc_at r.network.wires o))) (length r.network.wires.outputs)
  work-parts =
      let a = sum-total (fed_of r) (length r.network.boxes) in
      let b = total-items (tuples_at_drop r) (points_of r.network) in
      let c = sum-total (λ o. length (kept_of r (output_arc_at r.network.wires o))) (length r.network.outputs) in
      let same = ap (total (λ o. length (kept_of r (output_arc_at r.network.wires o)))) read.sound.agrees.outputs in
      omega (arith, a, b, c, same)

  pub counts-sum : (f : ℕ → ℕ) → ((k : ℕ) → k < ops_of r.network → f k ≡ count_fed r (actor_at r.network k)) → sum_by f (numbers_to (ops_of r.network)) ≡ work_of r
  counts-sum f is =
      let all = split f in
      let parts = work-parts in
      let a = total-same f (fed_of r) (length r.network.boxes) (λ b low. is b (omega (arith, low)) ∙ ap (count_fed r) (box-at r.network b low)) in
      let b = total-same (λ w. f (length r.network.boxes + w)) (λ w. tuples_at_drop r (slice_get (points_of r.network) w)) (drops_in r.network)
      (λ w low. is (length r.network.boxes + w) (omega (arith, low)) ∙ ap (count_fed r) (drop-at r.network w low)) in
      let c = total-same (λ o. f (first_output r.network + o)) (λ o. length (kept_of r (output_arc_at r.network.wires o))) (length r.network.wires.outputs)
      (λ o low. is (first_output r.network + o) (omega (arith, low)) ∙ ap (count_fed r) (output-at r.network o low)) in
      omega (arith, all, parts, a, b, c)

  drop-all : (o : Option DropPoint) → length (drop_fed_at r o) ≡ tuples_at_drop r o
  drop-all None = refl
  drop-all (Some p) = drop-takes r p

  pub turns-sum : (f : ℕ → ℕ) → ((k : ℕ) → k < ops_of r.network → f k ≡ length (fed_to r (actor_at r.network k))) → sum_by f (numbers_to (ops_of r.network)) ≤ turns_of r
  turns-sum f is =
      let all = split f in
      let parts = work-parts in
      let w = r.network.wires in
      let a = total-same f (λ b. fed_of r b + sum_by (marks_on r) (input_arcs_of w b)) (length r.network.boxes) (λ b low. is b (omega (arith, low)) ∙ ap (λ x. length (fed_to r x)) (box-at r.network b low) ∙ box-takes r b) in
      let b = total-same (λ d. f (length r.network.boxes + d)) (λ d. tuples_at_drop r (slice_get (points_of r.network) d)) (drops_in r.network)
      (λ d low. is (length r.network.boxes + d) (omega (arith, low)) ∙ ap (λ x. length (fed_to r x)) (drop-at r.network d low) ∙ drop-all (slice_get (points_of r.network) d)) in
      let c = total-same (λ o. f (first_output r.network + o)) (λ o. length (kept_of r (output_arc_at w o)) + marks_on r (output_arc_at w o)) (length w.outputs)
      (λ o low. is (first_output r.network + o) (omega (arith, low)) ∙ ap (λ x. length (fed_to r x)) (output-at r.network o low) ∙ output-takes r o) in
      let d = total-added (fed_of r) (λ b. sum_by (marks_on r) (input_arcs_of w b)) (length r.network.boxes) in
      let e = total-added (λ o. length (kept_of r (output_arc_at w o))) (λ o. marks_on r (output_arc_at w o)) (length w.outputs) in
      let count = ap (total (λ b. sum_by (marks_on r) (input_arcs_of w b))) (boxes_count r.network read.sound) in
      let once = each-once w (marks_on r) (length w.outputs) in
      let few = marks-few r (sum_by (λ b. length b.inputs) w.boxes + length w.outputs) in
      omega (arith, all, parts, a, b, c, d, e, count, once, few)

-- ---- the law

module _ (r : Replay) (read : IsReadReplay r) (follow : StreamsFollow r) (drops : DropsFit r) (outputs : OutputsFit r) (fed : FedCounted r) (points : PointsMeasured r)
    (net : Net) (w : Holding) (order : List ℕ) (new : IsNew r net w) (wired : IsLaidOut net order) (has : HasAll r net order) where
  away : (k : ℕ) → k < ops_of r.network → k ≢ net.replay
  away k low = λ same. let is = new.joins.replay in let bad : ops_of r.network < ops_of r.network = subst (λ z. z < ops_of r.network) (same ∙ is) low in absurd (omega (arith, bad))

  takes-all : (k : ℕ) → k < ops_of r.network → inputs net w order k ≡ fed_to r (actor_at r.network k)
  takes-all k low =
      new-inputs net w (streams_by r) (start r read follow drops points net w new) (follows r read follow drops points net w new) order wired k (has k low) (away k low)
      ∙ fed-is r read follow drops points net w new k low

  streams-left : (k : ℕ) → k < ops_of r.network → (port : ℕ) → coming net w order k port ≡ stream_of r (actor_at r.network k, port)
  streams-left k low port =
      new-left net w (streams_by r) (start r read follow drops points net w new) (follows r read follow drops points net w new) order wired k port (has k low)
      ∙ stream-low r k port (omega (arith, low))

  count-drop : (o : Option DropPoint) → length (tuples_of (drop_fed_at r o)) ≡ tuples_at_drop r o
  count-drop None = refl
  count-drop (Some p) = fed.drops p

  tuples-fed : (k : ℕ) → k < ops_of r.network → length (tuples_of (fed_to r (actor_at r.network k))) ≡ count_fed r (actor_at r.network k)
  tuples-fed k low = by (actor_at r.network k)
    where
      by : (x : Actor) → length (tuples_of (fed_to r x)) ≡ count_fed r x
      by Sources = refl
      by (Box b) = fed.boxes b
      by (WindowDrop d) = count-drop (slice_get (points_of r.network) d)
      by (OutputGate o) = fed.outputs o

  fed-at-last : (k : ℕ) → k < ops_of r.network → fed_in_all net w order k ≡ count_fed r (actor_at r.network k)
  fed-at-last k low =
      let none = new.none_fed k in
      let taken = ap (λ es. length (tuples_of es)) (takes-all k low) in
      let count = tuples-fed k low in
      omega (arith, none, taken, count)

  pub starts-as : StartsAs r net w order
  starts-as =
      record {
        facts = new-facts net w (streams_by r) (start r read follow drops points net w new) (follows r read follow drops points net w new) new.at_start new.running order wired;
        streams = streams-left;
        lines = λ o low.
            streams-left (first_output r.network + o) (omega (arith, low)) 0
            ∙ ap (λ x. stream_of r (x, 0)) (output-at r.network o low)
            ∙ ap things (outputs.shows o);
        decided = λ k low. ap (w.decide k) (takes-all k low) ∙ new.decides k low;
        fed = fed-at-last;
        late = λ b low.
            ap (w.lost b) (takes-all b (omega (arith, low)) ∙ ap (fed_to r) (box-at r.network b low)) ∙ new.loses b low;
        work = counts-sum r read (fed_in_all net w order) fed-at-last;
        turns = turns-sum r read (λ k. length (inputs net w order k)) (λ k low. ap (λ es. length es) (takes-all k low));
      }
