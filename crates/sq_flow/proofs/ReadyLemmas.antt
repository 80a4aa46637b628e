-- Which actors are ready after a step of one: only itself, and the operators that read from it, are to be looked at.
use Rattle.std.proofs.Common.{◌≡◌, ◌≢◌, ℕ, zero, suc, ◌-◌, ◌^◌, ◌<◌, ◌≤◌, cond, eqb, Bool, true, false, not, ◌||◌, ◌&&◌, List, ◌++◌, length, map, Some, refl, ap, sym, ◌∙◌, subst, arith}
use Rattle.std.specs.Prelude.{slice_get, min, sum}
use Rattle.std.specs.List.{filter, list_all}
use Rattle.sq_sched.specs.ReadyLists.{AreActors, OnlyOnce}
use Rattle.sq_left.proofs.MergeLemmas.{eqb-not}
use Rattle.sq_paged.specs.Fronts.{Face}
use Rattle.sq_queue.specs.Faces.{face}
use Rattle.sq_flow.specs.declared.flow.Flow.{Flow}
use Rattle.sq_flow.specs.declared.wires.Wires.{Wires}
use Rattle.sq_flow.specs.Wiring.{arcs_read, from_of, to_of, followers_of, Climbs, IsShaped}
use Rattle.sq_flow.specs.Seats.{done_at}
use Rattle.sq_flow.specs.Readiness.{stands, IsReady, is_ready, replay_goes, waiting, TouchesOnly}
use Rattle.sq_flow.specs.Sources.{is_clear}
use Rattle.std.proofs.lemmas.Map.Views.{exact_unsigned_eq}
use Rattle.sq_flow.specs.Engines.{seat_number, ExactFor, is_new, readers_of}
use Rattle.sq_flow.proofs.ListLemmas.{contains-next, zero-next, climbs-filter, once-climbs, once-append, actors-append, all-agree, all-at, all-from, map-agree}
use Rattle.sq_words.specs.Lists.{contains_number}
use Rattle.sq_words.proofs.Bools.{and_true, not_true}
use Rattle.sq_words.proofs.Lists.{contains_append, contains_filter}

-- an actor is ready where the test says so
pub ready-of : {O : Type 0} (e : Flow O) (place : ℕ) → is_ready e place ≡ true → IsReady e place
ready-of e place h =
    let both = and_true (not (done_at e.over (slice_get e.seats.items place))) (list_all (λ arc. stands (face e.queues arc)) (arcs_read e.wires place) && replay_goes e place) h in
    let go = and_true (list_all (λ arc. stands (face e.queues arc)) (arcs_read e.wires place)) (replay_goes e place) both.1 in
    record {
      running = not_true (done_at e.over (slice_get e.seats.items place)) both.0;
      standing = all-at (λ arc. stands (face e.queues arc)) (arcs_read e.wires place) go.0;
      going = go.1;
    }

pub test-of : {O : Type 0} (e : Flow O) (place : ℕ) → IsReady e place → is_ready e place ≡ true
test-of e place h =
    ap (λ b. not b && (list_all (λ arc. stands (face e.queues arc)) (arcs_read e.wires place) && replay_goes e place)) h.running
    ∙ ap (λ b. b && replay_goes e place) (all-from (λ arc. stands (face e.queues arc)) (arcs_read e.wires place) h.standing)
    ∙ h.going

same-test : (a b : Bool) → (a ≡ true → b ≡ true) → (b ≡ true → a ≡ true) → a ≡ b
same-test true b f g = sym (f refl)
same-test false true f g = g refl
same-test false false f g = refl

-- the list is exact for an actor
pub exact-of : {O : Type 0} (e : Flow O) (list : List ℕ) (actor : ℕ) → contains_number list actor ≡ is_ready e (seat_number (length e.seats.items) actor) → ExactFor e list actor
exact-of e list actor same =
    record {
      listed = λ h. ready-of e (seat_number (length e.seats.items) actor) (sym same ∙ h);
      ready = λ r. same ∙ test-of e (seat_number (length e.seats.items) actor) r;
    }

pub exact-test : {O : Type 0} (e : Flow O) (list : List ℕ) (actor : ℕ) → ExactFor e list actor → contains_number list actor ≡ is_ready e (seat_number (length e.seats.items) actor)
exact-test e list actor exact =
    same-test (contains_number list actor) (is_ready e (seat_number (length e.seats.items) actor))
    (λ h. test-of e (seat_number (length e.seats.items) actor) (exact.listed h))
    (λ h. exact.ready (ready-of e (seat_number (length e.seats.items) actor) h))

-- places of actors
pub place-next : (ops k : ℕ) → seat_number ops (suc k) ≡ k
place-next ops k = ap (λ b. cond b ops (suc k - 1)) (eqb-not (suc k) 0 (omega arith)) ∙ less
  where
    less : suc k - 1 ≡ k
    less = omega arith

pub place-within : (ops actor : ℕ) → actor ≤ ops → seat_number ops actor ≤ ops
place-within ops zero low = omega arith
place-within ops (suc k) low = let p : seat_number ops (suc k) ≡ k = place-next ops k in omega (arith, p, low)

pub place-apart : (ops a b : ℕ) → a ≤ ops → b ≤ ops → a ≢ b → seat_number ops a ≢ seat_number ops b
place-apart ops zero zero i j ne = λ h. ne refl
place-apart ops zero (suc b) i j ne = λ h. let p : seat_number ops (suc b) ≡ b = place-next ops b in omega (arith, h, p, j)
place-apart ops (suc a) zero i j ne = λ h. let p : seat_number ops (suc a) ≡ a = place-next ops a in omega (arith, h, p, i)
place-apart ops (suc a) (suc b) i j ne = λ h.
    let p : seat_number ops (suc a) ≡ a = place-next ops a in
    let q : seat_number ops (suc b) ≡ b = place-next ops b in
    ne (omega (arith, h, p, q))

-- an actor reads from the one at a place where its own place is among those that follow
pub readers-at : {O : Type 0} (e : Flow O) (shaped : IsShaped e.wires (length e.seats.items)) (place actor : ℕ) → actor ≤ length e.seats.items
    → contains_number (readers_of e place) actor ≡ contains_number (followers_of e.wires place) (seat_number (length e.seats.items) actor)
readers-at e shaped place zero low = zero-next (followers_of e.wires place) ∙ sym (at (contains_number (followers_of e.wires place) (length e.seats.items)) refl)
  where
    at : (b : Bool) → contains_number (followers_of e.wires place) (length e.seats.items) ≡ b → contains_number (followers_of e.wires place) (length e.seats.items) ≡ false
    at false h = h
    at true h = let l : length e.seats.items < length e.seats.items = shaped.followers_in place (length e.seats.items) h in absurd (omega (arith, l))
readers-at e shaped place (suc k) low =
    contains-next (followers_of e.wires place) k ∙ ap (contains_number (followers_of e.wires place)) (sym (place-next (length e.seats.items) k))

pub readers-within : {O : Type 0} (e : Flow O) (shaped : IsShaped e.wires (length e.seats.items)) (place actor : ℕ) → contains_number (readers_of e place) actor ≡ true → actor ≤ length e.seats.items
readers-within e shaped place zero h = omega arith
readers-within e shaped place (suc k) h =
    let low : k < length e.seats.items = shaped.followers_in place k (sym (contains-next (followers_of e.wires place) k) ∙ h) in
    omega (arith, low)

-- a step of the actor at a place leaves the others as ready as they were, and those that don't read from it exactly so
module _ {O : Type 0} (e e' : Flow O) (shaped : IsShaped e.wires (length e.seats.items)) (wires : e'.wires ≡ e.wires)
    (seats : length e'.seats.items ≡ length e.seats.items) (step : ℕ) (touches : TouchesOnly step e e') where
  arcs-same : (other : ℕ) → arcs_read e'.wires other ≡ arcs_read e.wires other
  arcs-same other = ap (λ (w : Wires). arcs_read w other) wires

  face-same : (other : ℕ) → other ≢ step → contains_number (followers_of e.wires step) other ≡ false
      → (port arc : ℕ) → slice_get (arcs_read e.wires other) port ≡ Some arc → face e'.queues arc ≡ face e.queues arc
  face-same other ne none port arc is =
      let low = shaped.arcs_in other port arc is in
      let to_is : to_of (slice_get e.wires.arcs.items arc) ≡ other = (shaped.joined other port arc is).0 in
      touches.apart arc low (λ h. ne (sym to_is ∙ h)) (λ h. absurd (cc (none, followed low to_is h)))
    where
      followed : arc < length e.wires.arcs.items → to_of (slice_get e.wires.arcs.items arc) ≡ other → from_of (slice_get e.wires.arcs.items arc) ≡ step
          → contains_number (followers_of e.wires step) other ≡ true
      followed low t f = subst (λ a. contains_number (followers_of e.wires step) a ≡ true) t (subst (λ a. contains_number (followers_of e.wires a) (to_of (slice_get e.wires.arcs.items arc)) ≡ true) f (shaped.followed arc low))

  -- what the replay waits for changes by its own steps alone
  goes-same : (other : ℕ) → other ≢ step → replay_goes e' other ≡ replay_goes e other
  goes-same other ne = ap (λ n. cond (eqb other n) (is_clear e'.sources.items e'.ahead.items) true) seats ∙ by (eqb other (length e.seats.items)) refl
    where
      by : (b : Bool) → eqb other (length e.seats.items) ≡ b
          → cond b (is_clear e'.sources.items e'.ahead.items) true ≡ cond b (is_clear e.sources.items e.ahead.items) true
      by false h = refl
      by true h =
          let here : other ≡ length e.seats.items = exact_unsigned_eq other (length e.seats.items) h in
          ap (λ v. is_clear v.items e'.ahead.items) (touches.sources (λ same. ne (here ∙ sym same))) ∙ ap (λ v. is_clear e.sources.items v.items) touches.ahead

  pub ready-same : (other : ℕ) → other ≤ length e.seats.items → other ≢ step → contains_number (followers_of e.wires step) other ≡ false → is_ready e' other ≡ is_ready e other
  ready-same other low ne none =
      ap (λ b. not b && (list_all (λ arc. stands (face e'.queues arc)) (arcs_read e'.wires other) && replay_goes e' other)) (touches.others other low ne)
      ∙ ap (λ arcs. not (done_at e.over (slice_get e.seats.items other)) && (list_all (λ arc. stands (face e'.queues arc)) arcs && replay_goes e' other)) (arcs-same other)
      ∙ ap (λ b. not (done_at e.over (slice_get e.seats.items other)) && (list_all (λ arc. stands (face e'.queues arc)) (arcs_read e.wires other) && b)) (goes-same other ne)
      ∙ ap (λ b. not (done_at e.over (slice_get e.seats.items other)) && (b && replay_goes e other))
      (all-agree (λ arc. stands (face e'.queues arc)) (λ arc. stands (face e.queues arc)) (arcs_read e.wires other) (λ port arc is. ap stands (face-same other ne none port arc is)))

  pub waiting-same : (other : ℕ) → other ≢ step → contains_number (followers_of e.wires step) other ≡ false → waiting e' other ≡ waiting e other
  waiting-same other ne none =
      ap (λ arcs. min (2 ^ 64 - 1) (sum (map (λ arc. (face e'.queues arc).count) arcs))) (arcs-same other)
      ∙ ap (λ counts. min (2 ^ 64 - 1) (sum counts))
      (map-agree (λ arc. (face e'.queues arc).count) (λ arc. (face e.queues arc).count) (arcs_read e.wires other) (λ port arc is. ap (λ (f : Face). f.count) (face-same other ne none port arc is)))

  pub ready-grows : (other : ℕ) → other ≤ length e.seats.items → other ≢ step → is_ready e other ≡ true → is_ready e' other ≡ true
  ready-grows other low ne h =
      let r = ready-of e other h in
      test-of e' other (record {
        running = touches.others other low ne ∙ r.running;
        standing = λ port arc is. grows r port arc (subst (λ arcs. slice_get arcs port ≡ Some arc) (arcs-same other) is);
        going = goes-same other ne ∙ r.going;
      })
    where
      grows : IsReady e other → (port arc : ℕ) → slice_get (arcs_read e.wires other) port ≡ Some arc → stands (face e'.queues arc) ≡ true
      grows r port arc is =
          let low = shaped.arcs_in other port arc is in
          touches.grows arc low (λ h. ne (sym (shaped.joined other port arc is).0 ∙ h)) (r.standing port arc is)

-- the list after looks at climbing actors
pub looked-at : {O : Type 0} (e : Flow O) (list seen : List ℕ) (x : ℕ) → contains_number (list ++ filter (is_new e list) seen) x ≡ (contains_number list x || (contains_number seen x && is_new e list x))
looked-at e list seen x = contains_append list (filter (is_new e list) seen) x ∙ ap (λ b. contains_number list x || b) (contains_filter (is_new e list) seen x)

pub looked-once : {O : Type 0} (e : Flow O) (list seen : List ℕ) → OnlyOnce list → Climbs seen → OnlyOnce (list ++ filter (is_new e list) seen)
looked-once e list seen once climbs =
    once-append list (filter (is_new e list) seen) once (once-climbs (filter (is_new e list) seen) (climbs-filter (is_new e list) seen climbs))
    (λ n is. apart n (contains_number seen n) (sym (contains_filter (is_new e list) seen n) ∙ is))
  where
    apart : (n : ℕ) (b : Bool) → (b && is_new e list n) ≡ true → contains_number list n ≡ false
    apart n true h = not_true (contains_number list n) ((and_true (is_ready e (seat_number (length e.seats.items) n)) (not (contains_number list n)) h).1)
    apart n false h = absurd (cc h)

pub looked-below : {O : Type 0} (e : Flow O) (list seen : List ℕ) (actors : ℕ) → AreActors actors list → AreActors actors seen → AreActors actors (list ++ filter (is_new e list) seen)
looked-below e list seen actors below more =
    actors-append actors list (filter (is_new e list) seen) below (λ x is. more x (left x (contains_number seen x) refl (sym (contains_filter (is_new e list) seen x) ∙ is)))
  where
    left : (x : ℕ) (b : Bool) → contains_number seen x ≡ b → (b && is_new e list x) ≡ true → contains_number seen x ≡ true
    left x true h k = h
    left x false h k = absurd (cc k)
