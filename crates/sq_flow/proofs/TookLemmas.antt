-- How many items a step takes.
use Rattle.std.proofs.Common.{◌≡◌, ◌≢◌, ℕ, zero, suc, ◌+◌, ◌<◌, eqb, cond, Bool, true, false, not, ◌||◌, List, [], ◌∷◌, length, Option, Some, None, refl, ap, sym, ◌∙◌, subst, arith}
use Rattle.std.specs.Prelude.{slice_get}
use Rattle.std.specs.List.{sum_by}
use Rattle.std.proofs.lemmas.List.Sums.{sum_by-cons}
use Rattle.std.proofs.lemmas.Option.{same_Some, slice_get_past}
use Rattle.sq_left.specs.Remainder.{Net, is_known_actor, IsLaidOut}
use Rattle.sq_left.proofs.MergeLemmas.{eqb-not}
use Rattle.sq_paged.specs.Fronts.{Face, IsPopped}
use Rattle.sq_queue.specs.declared.Queues.{Queues}
use Rattle.sq_queue.specs.Faces.{face}
use Rattle.sq_flow.specs.declared.wires.Wires.{Wires}
use Rattle.sq_flow.specs.declared.seats.Seat.{Seat}
use Rattle.sq_flow.specs.declared.flow.Flow.{Flow}
use Rattle.sq_flow.specs.Wiring.{net_of, arcs_read, arc_place, IsShaped}
use Rattle.sq_flow.specs.Sends.{is_sent_by}
use Rattle.sq_flow.specs.Seats.{done_at}
use Rattle.sq_flow.specs.Flows.{count_all}
use Rattle.sq_flow.specs.Readiness.{to_take, Took}
use Rattle.sq_flow.proofs.TouchLemmas.{away-from}
use Rattle.sq_flow.proofs.ArcLemmas.{each-at}
use Rattle.std.proofs.lemmas.Map.Views.{exact_unsigned_eq}
use Rattle.sq_words.proofs.Numbers.{eqb_true}

sums-stay : (xs : List ℕ) (g h : ℕ → ℕ) → ((p x : ℕ) → slice_get xs p ≡ Some x → h x ≡ g x) → sum_by h xs ≡ sum_by g xs
sums-stay [] g h same = refl
sums-stay (x ∷ xs) g h same =
    let here = same 0 x refl in
    let rest = sums-stay xs g h (λ p y is. same (suc p) y is) in
    omega (arith, here, rest, sum_by-cons g x xs, sum_by-cons h x xs)

sums-less : (xs : List ℕ) (g h : ℕ → ℕ) (port arc : ℕ) → slice_get xs port ≡ Some arc → g arc ≡ h arc + 1 → ((p x : ℕ) → slice_get xs p ≡ Some x → p ≢ port → h x ≡ g x)
    → sum_by h xs + 1 ≡ sum_by g xs
sums-less [] g h port arc is less same = cc is
sums-less (x ∷ xs) g h zero arc is less same =
    let here : g x ≡ h x + 1 = subst (λ y. g y ≡ h y + 1) (sym (same_Some x arc is)) less in
    let rest = sums-stay xs g h (λ p y at. same (suc p) y at (λ z. omega (arith, z))) in
    omega (arith, here, rest, sum_by-cons g x xs, sum_by-cons h x xs)
sums-less (x ∷ xs) g h (suc port) arc is less same =
    let here = same 0 x refl (λ z. omega (arith, z)) in
    let rest = sums-less xs g h port arc is less (λ p y at ne. same (suc p) y at (λ z. ne (omega (arith, z)))) in
    omega (arith, here, rest, sum_by-cons g x xs, sum_by-cons h x xs)

-- no operator reads what it gives
reads-others : (net : Net) (order : List ℕ) → IsLaidOut net order → (actor : ℕ) → is_known_actor net order actor ≡ true → actor ≢ net.replay
    → (port arc : ℕ) → slice_get (net.arcs actor) port ≡ Some arc → net.from arc ≢ actor
reads-others net [] wired actor k ne port arc is = absurd (ne (exact_unsigned_eq actor net.replay k))
reads-others net (last ∷ earlier) wired actor k ne port arc is = by (λ e. reads-others net earlier wired.2 actor e ne port arc is) (is_known_actor net earlier actor) refl
  where
    last-of : (b c : Bool) → c ≡ false → (b || c) ≡ true → b ≡ true
    last-of true c e h = refl
    last-of false c e h = cc (e, h)

    by : (is_known_actor net earlier actor ≡ true → net.from arc ≢ actor) → (b : Bool) → is_known_actor net earlier actor ≡ b → net.from arc ≢ actor
    by sooner true e = sooner e
    by sooner false e = λ same.
        let here : actor ≡ last = exact_unsigned_eq actor last (last-of (eqb actor last) (is_known_actor net earlier actor) e k) in
        let before = (each-at (λ a. (a < net.size) × (is_known_actor net earlier (net.from a) ≡ true)) (net.arcs last) port arc wired.1 (ap (λ n. slice_get (net.arcs n) port) (sym here) ∙ is)).1 in
        cc (sym e ∙ ap (is_known_actor net earlier) (sym same) ∙ before)

module _ (wires : Wires) (ops : ℕ) (shaped : IsShaped wires ops) (actor : ℕ) (low : actor < ops) where
  away : (port arc : ℕ) → slice_get (arcs_read wires actor) port ≡ Some arc → is_sent_by wires actor arc ≡ false
  away port arc is =
      let replay = shaped.replay_is in
      away-from wires actor arc (reads-others (net_of wires) wires.order.items shaped.wired actor (shaped.ordered actor low) (λ same. omega (arith, same, replay, low)) port arc is)

  -- one item was taken from an arc, and what was given went to others
  pub fed-sum : (q mid q' : Queues) (port at : ℕ) → slice_get (arcs_read wires actor) port ≡ Some at → IsPopped (face q at) (face mid at)
      → ((other : ℕ) → other ≢ at → face mid other ≡ face q other) → ((arc : ℕ) → is_sent_by wires actor arc ≡ false → face q' arc ≡ face mid arc)
      → sum_by (λ arc. (face q' arc).count) (arcs_read wires actor) + 1 ≡ sum_by (λ arc. (face q arc).count) (arcs_read wires actor)
  fed-sum q mid q' port at is popped others apart =
      sums-less (arcs_read wires actor) (λ arc. (face q arc).count) (λ arc. (face q' arc).count) port at is
      (popped.count ∙ ap (λ (f : Face). f.count + 1) (sym (apart at (away port at is))))
      (λ p arc here ne. ap (λ (f : Face). f.count) (apart arc (away p arc here) ∙ others arc (λ same. ne (ports p arc here same))))
    where
      ports : (p arc : ℕ) → slice_get (arcs_read wires actor) p ≡ Some arc → arc ≡ at → p ≡ port
      ports p arc here same = sym (shaped.joined actor p arc here).1 ∙ ap (λ k. arc_place (slice_get wires.arcs.items k)) same ∙ (shaped.joined actor port at is).1

  -- nothing was taken
  pub ended-sum : (q q' : Queues) → ((arc : ℕ) → is_sent_by wires actor arc ≡ false → face q' arc ≡ face q arc)
      → sum_by (λ arc. (face q' arc).count) (arcs_read wires actor) ≡ sum_by (λ arc. (face q arc).count) (arcs_read wires actor)
  ended-sum q q' apart = sums-stay (arcs_read wires actor) (λ arc. (face q arc).count) (λ arc. (face q' arc).count) (λ p arc here. ap (λ (f : Face). f.count) (apart arc (away p arc here)))

-- what a step of an operator took
pub operator-took : {O : Type 0} (e e' : Flow O) (actor fed : ℕ) (finished : Bool) → actor < length e.seats.items → length e'.seats.items ≡ length e.seats.items
    → sum_by (λ arc. (face e'.queues arc).count) (arcs_read e'.wires actor) + fed ≡ sum_by (λ arc. (face e.queues arc).count) (arcs_read e.wires actor)
    → finished ≡ done_at e'.over (slice_get e'.seats.items actor) → Took actor fed finished e e'
operator-took e e' actor fed finished low seats sums done =
    let was = by e low in
    let is = by e' (rw seats low) in
    record { falls = omega (arith, was, is, sums); done = done }
  where
    by : {O : Type 0} (f : Flow O) → actor < length f.seats.items → to_take f actor ≡ sum_by (λ arc. (face f.queues arc).count) (arcs_read f.wires actor)
    by f within =
        ap (λ b. cond b (count_all f.sources.items) (sum_by (λ arc. (face f.queues arc).count) (arcs_read f.wires actor)))
        (eqb-not actor (length f.seats.items) (λ same. omega (arith, same, within)))

-- what a step of the replay took
pub replay-took : {O : Type 0} (e e' : Flow O) (fed : ℕ) (finished : Bool) → length e'.seats.items ≡ length e.seats.items → count_all e'.sources.items + fed ≡ count_all e.sources.items → finished ≡ e'.over
    → Took (length e.seats.items) fed finished e e'
replay-took e e' fed finished seats counts done =
    let was = by e (length e.seats.items) refl in
    let is = by e' (length e.seats.items) (sym seats) in
    let past : slice_get e'.seats.items (length e.seats.items) ≡ None = slice_get_past e'.seats.items (length e.seats.items) (omega (arith, seats)) in
    record { falls = omega (arith, was, is, counts); done = done ∙ ap (done_at e'.over) (sym past) }
  where
    by : {O : Type 0} (f : Flow O) (actor : ℕ) → actor ≡ length f.seats.items → to_take f actor ≡ count_all f.sources.items
    by f actor same =
        ap (λ b. cond b (count_all f.sources.items) (sum_by (λ arc. (face f.queues arc).count) (arcs_read f.wires actor))) (eqb_true actor (length f.seats.items) same)

-- an operator that was fed goes on, and one that was finished doesn't
pub goes-on : {O : Type 0} (over : Bool) (a b : Option (Seat O)) (s s' : Seat O) → a ≡ Some s → b ≡ Some s' → s'.tally.running ≡ s.tally.running → done_at over a ≡ false → false ≡ done_at over b
goes-on over a b s s' was is same open_now = sym (ap (done_at over) is ∙ ap not same ∙ sym (ap (done_at over) was) ∙ open_now)

pub is-closed : {O : Type 0} (over : Bool) (b : Option (Seat O)) (s' : Seat O) → b ≡ Some s' → s'.tally.running ≡ false → true ≡ done_at over b
is-closed over b s' is closed = sym (ap (done_at over) is ∙ ap not closed)

-- two steps, one after another
pub took-both : {O : Type 0} (actor : ℕ) (f f1 f2 : Flow O) (n k : ℕ) (b finished : Bool) → Took actor n b f f1 → Took actor k finished f1 f2 → Took actor (n + k) finished f f2
took-both actor f f1 f2 n k b finished first second =
    let one = first.falls in
    let two = second.falls in
    record { falls = omega (arith, one, two); done = second.done }

pub took-last : {O : Type 0} (actor : ℕ) (f f1 f2 : Flow O) (n : ℕ) (b finished : Bool) → Took actor n b f f1 → Took actor 0 finished f1 f2 → Took actor n finished f f2
took-last actor f f1 f2 n b finished first second =
    let one = first.falls in
    let two = second.falls in
    record { falls = omega (arith, one, two); done = second.done }
