-- An engine after a step of one actor.
use Rattle.std.proofs.Common.{◌≡◌, ◌≢◌, ℕ, zero, suc, ◌+◌, ◌<◌, ◌≤◌, eqb, ltb, leb, cond, Bool, true, false, not, ◌||◌, ◌&&◌, List, [], ◌∷◌, ◌++◌, length, get_or, Option, refl, ap, sym, ◌∙◌, subst, arith}
use Rattle.std.specs.Prelude.{Vec, slice_get}
use Rattle.std.specs.declared.alloc.Global.{Global}
use Rattle.std.proofs.Math.Bool.{or-false, and-true, and-false}
use Rattle.std.specs.List.{filter, list_all, range_with_len}
use Rattle.sq_queue.specs.Faces.{face}
use Rattle.sq_flow.specs.Seats.{done_at}
use Rattle.sq_flow.specs.Sources.{is_clear}
use Rattle.std.proofs.lemmas.Bool.Decides.{nat_tests}
use Rattle.sq_sched.specs.ReadyLists.{without_actor, AreActors, OnlyOnce}
use Rattle.sq_sched.proofs.ReadyLemmas.{once-without, without-gone, without-others, actors-without}
use Rattle.sq_left.proofs.MergeLemmas.{eqb-no, eqb-not}
use Rattle.sq_oper.specs.declared.operator.Operator.{Ghosts}
use Rattle.sq_replay.specs.RecordedTuples.{Recorded}
use Rattle.sq_flow.specs.declared.flow.Flow.{Flow}
use Rattle.sq_flow.specs.declared.wires.Wires.{Wires}
use Rattle.sq_flow.specs.declared.engine.Engine.{Engine}
use Rattle.sq_flow.specs.Wiring.{arcs_read, followers_of, Climbs, IsShaped}
use Rattle.sq_flow.specs.Flows.{IsFlow}
use Rattle.sq_flow.specs.Readiness.{stands, is_ready, waiting, TouchesOnly}
use Rattle.sq_flow.specs.Engines.{seat_number, ExactFor, is_new, newly_ready, listed_after, readers_of, Looked, HasSeats, IsEngine}
use Rattle.sq_flow.proofs.ListLemmas.{contains-range, climbs-filter, climbs-range, climbs-next, climbs-same, once-climbs}
use Rattle.sq_flow.proofs.ReadyLemmas.{exact-of, exact-test, place-next, place-within, place-apart, readers-at, readers-within, ready-same, waiting-same, ready-grows, looked-at, looked-once, looked-below}
use Rattle.sq_words.specs.Lists.{contains_number}
use Rattle.std.proofs.lemmas.Map.Views.{exact_unsigned_eq}
use Rattle.sq_words.proofs.Lists.{contains_filter}
use Rattle.sq_words.proofs.Numbers.{eqb_true}

-- the list after looks at the actor of a step and at its readers
module _ {O : Type 0} (e e' : Flow O) (shaped : IsShaped e.wires (length e.seats.items)) (wires : e'.wires ≡ e.wires) (seats : length e'.seats.items ≡ length e.seats.items)
    (actor : ℕ) (low : actor ≤ length e.seats.items) (touches : TouchesOnly (seat_number (length e.seats.items) actor) e e')
    (before : List ℕ) (listed : contains_number before actor ≡ true) (once : OnlyOnce before) (exact : (x : ℕ) → x ≤ length e.seats.items → ExactFor e before x) where
  abbrev ready : ℕ → Bool
  ready x = is_ready e' (seat_number (length e'.seats.items) x)

  abbrev readers : List ℕ
  readers = readers_of e' (seat_number (length e.seats.items) actor)

  abbrev pub again : List ℕ
  again = without_actor actor before ++ filter (is_new e' (without_actor actor before)) (actor ∷ [])

  abbrev pub after : List ℕ
  after = again ++ filter (is_new e' again) readers

  same-place : (x : ℕ) → seat_number (length e'.seats.items) x ≡ seat_number (length e.seats.items) x
  same-place x = ap (λ n. seat_number n x) seats

  readers-follow : (x : ℕ) → x ≤ length e.seats.items → contains_number readers x ≡ contains_number (followers_of e.wires (seat_number (length e.seats.items) actor)) (seat_number (length e.seats.items) x)
  readers-follow x in' =
      ap (λ (w : Wires). contains_number (readers_of (record e { wires = w }) (seat_number (length e.seats.items) actor)) x) wires
      ∙ readers-at e shaped (seat_number (length e.seats.items) actor) x in'

  readers-low : (x : ℕ) → contains_number readers x ≡ true → x ≤ length e.seats.items
  readers-low x is = readers-within e shaped (seat_number (length e.seats.items) actor) x (subst (λ (w : Wires). contains_number (readers_of (record e { wires = w }) (seat_number (length e.seats.items) actor)) x ≡ true) wires is)

  pub readers-climb : Climbs readers
  readers-climb = climbs-next (followers_of e'.wires (seat_number (length e.seats.items) actor)) (subst (λ (w : Wires). Climbs (followers_of w (seat_number (length e.seats.items) actor))) (sym wires) (shaped.followers_climb (seat_number (length e.seats.items) actor)))

  -- an actor that isn't the one of the step
  module _ (x : ℕ) (in' : x ≤ length e.seats.items) (ne : x ≢ actor) where
    others-apart : seat_number (length e.seats.items) x ≢ seat_number (length e.seats.items) actor
    others-apart = place-apart (length e.seats.items) x actor in' low ne

    others-low : seat_number (length e.seats.items) x ≤ length e.seats.items
    others-low = place-within (length e.seats.items) x in'

    grows : contains_number before x ≡ true → ready x ≡ true
    grows h =
        ap (is_ready e') (same-place x)
        ∙ ready-grows e e' shaped wires seats (seat_number (length e.seats.items) actor) touches (seat_number (length e.seats.items) x) others-low others-apart (sym (exact-test e before x (exact x in')) ∙ h)

    stays : contains_number readers x ≡ false → ready x ≡ contains_number before x
    stays h =
        ap (is_ready e') (same-place x)
        ∙ ready-same e e' shaped wires seats (seat_number (length e.seats.items) actor) touches (seat_number (length e.seats.items) x) others-low others-apart (sym (readers-follow x in') ∙ h)
        ∙ sym (exact-test e before x (exact x in'))

    pub waits-on : contains_number readers x ≡ false → waiting e' (seat_number (length e'.seats.items) x) ≡ waiting e (seat_number (length e.seats.items) x)
    waits-on h =
        ap (waiting e') (same-place x)
        ∙ waiting-same e e' shaped wires seats (seat_number (length e.seats.items) actor) touches (seat_number (length e.seats.items) x) others-apart (sym (readers-follow x in') ∙ h)

  gone : contains_number (without_actor actor before) actor ≡ false
  gone = without-gone actor before once

  again-other : (x : ℕ) → x ≢ actor → contains_number again x ≡ contains_number before x
  again-other x ne =
      looked-at e' (without_actor actor before) (actor ∷ []) x
      ∙ ap (λ b. contains_number (without_actor actor before) x || ((b || false) && is_new e' (without_actor actor before) x)) (eqb-not actor x (λ h. ne (sym h)))
      ∙ or-false (contains_number (without_actor actor before) x) ∙ without-others actor before x ne

  again-actor : contains_number again actor ≡ ready actor
  again-actor =
      looked-at e' (without_actor actor before) (actor ∷ []) actor
      ∙ ap (λ b. contains_number (without_actor actor before) actor || ((b || false) && is_new e' (without_actor actor before) actor)) (eqb_true actor actor refl)
      ∙ ap (λ b. b || (ready actor && not b)) gone ∙ and-true (ready actor)

  exact-bool : (x : ℕ) → x ≤ length e.seats.items → contains_number after x ≡ ready x
  exact-bool x in' = looked-at e' again readers x ∙ by (eqb x actor) refl
    where
      itself : (r b : Bool) → (r || (b && (r && not r))) ≡ r
      itself true b = refl
      itself false true = refl
      itself false false = refl

      other : (c b r : Bool) → (c ≡ true → r ≡ true) → (b ≡ false → r ≡ c) → (c || (b && (r && not c))) ≡ r
      other true b r up same = sym (up refl)
      other false true true up same = refl
      other false true false up same = refl
      other false false r up same = sym (same refl)

      by : (t : Bool) → eqb x actor ≡ t → (contains_number again x || (contains_number readers x && (ready x && not (contains_number again x)))) ≡ ready x
      by true t =
          let same : x ≡ actor = exact_unsigned_eq x actor t in
          ap (λ c. c || (contains_number readers x && (ready x && not c))) (ap (contains_number again) same ∙ again-actor ∙ ap ready (sym same)) ∙ itself (ready x) (contains_number readers x)
      by false t =
          let ne : x ≢ actor = eqb-no x actor t in
          ap (λ c. c || (contains_number readers x && (ready x && not c))) (again-other x ne) ∙ other (contains_number before x) (contains_number readers x) (ready x) (grows x in' ne) (stays x in' ne)

  pub exact-after : (x : ℕ) → x ≤ length e'.seats.items → ExactFor e' after x
  exact-after x in' = exact-of e' after x (exact-bool x (rw (← seats) in'))

  new-same : (x : ℕ) → contains_number (filter (is_new e' again) readers) x ≡ contains_number (newly_ready e' before) x
  new-same x =
      contains_filter (is_new e' again) readers x ∙ by (leb x (length e.seats.items)) refl
      ∙ sym (contains_filter (is_new e' before) (range_with_len 0 (length e'.seats.items + 1)) x)
    where
      never : (r b : Bool) → (b && (r && not r)) ≡ false
      never true true = refl
      never true false = refl
      never false true = refl
      never false false = refl

      only : (c b r : Bool) → (b ≡ false → r ≡ c) → (b && (r && not c)) ≡ (r && not c)
      only c true r same = refl
      only true false true same = refl
      only false false true same = absurd (cc (same refl))
      only c false false same = refl

      in-range : x ≤ length e.seats.items → contains_number (range_with_len 0 (length e'.seats.items + 1)) x ≡ true
      in-range in' = contains-range 0 (length e'.seats.items + 1) x ∙ grind (arith, nat_tests, seats, in')

      out-range : leb x (length e.seats.items) ≡ false → contains_number (range_with_len 0 (length e'.seats.items + 1)) x ≡ false
      out-range out = contains-range 0 (length e'.seats.items + 1) x ∙ grind (arith, nat_tests, seats, out)

      out-readers : leb x (length e.seats.items) ≡ false → (b : Bool) → contains_number readers x ≡ b → b ≡ false
      out-readers out false h = refl
      out-readers out true h = let in' = readers-low x h in absurd (grind (arith, nat_tests, in', out))

      at : x ≤ length e.seats.items → (t : Bool) → eqb x actor ≡ t
          → (contains_number readers x && (ready x && not (contains_number again x))) ≡ (ready x && not (contains_number before x))
      at in' true t =
          let same : x ≡ actor = exact_unsigned_eq x actor t in
          ap (λ c. contains_number readers x && (ready x && not c)) (ap (contains_number again) same ∙ again-actor ∙ ap ready (sym same)) ∙ never (ready x) (contains_number readers x)
          ∙ sym (ap (λ c. ready x && not c) (ap (contains_number before) same ∙ listed) ∙ and-false (ready x))
      at in' false t =
          let ne : x ≢ actor = eqb-no x actor t in
          ap (λ c. contains_number readers x && (ready x && not c)) (again-other x ne) ∙ only (contains_number before x) (contains_number readers x) (ready x) (stays x in' ne)

      by : (t : Bool) → leb x (length e.seats.items) ≡ t
          → (contains_number readers x && is_new e' again x) ≡ (contains_number (range_with_len 0 (length e'.seats.items + 1)) x && is_new e' before x)
      by true t =
          let in' : x ≤ length e.seats.items = grind (arith, nat_tests, t) in
          at in' (eqb x actor) refl ∙ ap (λ b. b && is_new e' before x) (sym (in-range in'))
      by false t =
          ap (λ b. b && is_new e' again x) (out-readers t (contains_number readers x) refl) ∙ ap (λ b. b && is_new e' before x) (sym (out-range t))

  pub order-after : after ≡ listed_after e' before actor
  order-after =
      ap (λ more. again ++ more)
      (climbs-same (filter (is_new e' again) readers) (newly_ready e' before) (climbs-filter (is_new e' again) readers readers-climb)
      (climbs-filter (is_new e' before) (range_with_len 0 (length e'.seats.items + 1)) (climbs-range 0 (length e'.seats.items + 1))) new-same)
      ∙ ap (λ b. (without_actor actor before ++ cond b (actor ∷ []) []) ++ newly_ready e' before) (ap (λ b. ready actor && not b) gone ∙ and-true (ready actor))

  pub once-after : OnlyOnce after
  once-after = looked-once e' again readers (looked-once e' (without_actor actor before) (actor ∷ []) (once-without actor before once) ((λ y is. absurd (cc is)), tt)) readers-climb

  pub below-after : (actors : ℕ) → length e.seats.items < actors → AreActors actors before → AreActors actors after
  below-after actors more below =
      looked-below e' again readers actors
      (looked-below e' (without_actor actor before) (actor ∷ []) actors (actors-without actors actor before below) (λ x is. one x (eqb actor x) refl is))
      (λ x is. let l = readers-low x is in omega (arith, l, more))
    where
      one : (x : ℕ) (b : Bool) → eqb actor x ≡ b → (b || false) ≡ true → x < actors
      one x true e h = let same : actor ≡ x = exact_unsigned_eq actor x e in omega (arith, same, low, more)
      one x false e h = absurd (cc h)

-- the engine after looks at the actor of a step and at its readers
module _ {O : Type 0} (m : Ghosts O) (a b c d : Engine O) (actor place : ℕ) (engine : IsEngine m a) (listed : contains_number a.ready.list actor ≡ true)
    (here : place ≡ seat_number a.flow.wires.replay actor) (flow : IsFlow m b.flow) (wires : b.flow.wires ≡ a.flow.wires)
    (seats : length b.flow.seats.items ≡ length a.flow.seats.items) (touched : TouchesOnly place a.flow b.flow)
    (removed : b.ready ≡ record a.ready { list = without_actor actor a.ready.list }) (waits : b.waits.items ≡ a.waits.items)
    (running : b.failed ≡ false)
    (first : Looked (actor ∷ []) b c) (looked : Looked (readers_of c.flow place) c d) where
  pub actor-low : actor ≤ length a.flow.seats.items
  actor-low = let l = engine.below actor listed in let r = engine.room.actors in omega (arith, l, r)

  place-is : place ≡ seat_number (length a.flow.seats.items) actor
  place-is = here ∙ ap (λ n. seat_number n actor) engine.flow.shaped.replay_is

  touches : TouchesOnly (seat_number (length a.flow.seats.items) actor) a.flow b.flow
  touches = subst (λ p. TouchesOnly p a.flow b.flow) place-is touched

  second : Looked (readers_of c.flow (seat_number (length a.flow.seats.items) actor)) c d
  second = subst (λ p. Looked (readers_of c.flow p) c d) place-is looked

  flow-is : d.flow ≡ b.flow
  flow-is = second.flow ∙ first.flow

  seats-are : length d.flow.seats.items ≡ length a.flow.seats.items
  seats-are = ap (λ (f : Flow O). length f.seats.items) flow-is ∙ seats

  abbrev listed-now : List ℕ
  listed-now = after a.flow b.flow engine.flow.shaped wires seats actor actor-low touches a.ready.list listed engine.once engine.exact

  list-is : d.ready.list ≡ listed-now
  list-is =
      second.list ∙ ap (λ f. c.ready.list ++ filter (is_new f c.ready.list) (readers_of f (seat_number (length a.flow.seats.items) actor))) first.flow
      ∙ ap (λ xs. xs ++ filter (is_new b.flow xs) (readers_of b.flow (seat_number (length a.flow.seats.items) actor))) (first.list ∙ ap (λ xs. xs ++ filter (is_new b.flow xs) (actor ∷ [])) (ap (λ r. r.list) removed))

  pub engine-order : d.ready.list ≡ listed_after d.flow a.ready.list actor
  engine-order =
      list-is ∙ order-after a.flow b.flow engine.flow.shaped wires seats actor actor-low touches a.ready.list listed engine.once engine.exact
      ∙ ap (λ f. listed_after f a.ready.list actor) (sym flow-is)

  waits-are : (x : ℕ) → x ≤ length a.flow.seats.items → get_or d.waits.items x 0 ≡ waiting b.flow (seat_number (length b.flow.seats.items) x)
  waits-are x low =
      second.waits x
      ∙ ap (λ (f : Flow O). cond (contains_number (readers_of f (seat_number (length a.flow.seats.items) actor)) x) (waiting f (seat_number (length f.seats.items) x)) (get_or c.waits.items x 0)) first.flow
      ∙ by (contains_number (readers_of b.flow (seat_number (length a.flow.seats.items) actor)) x) refl
    where
      at : contains_number (readers_of b.flow (seat_number (length a.flow.seats.items) actor)) x ≡ false → (t : Bool) → eqb actor x ≡ t
          → cond (t || false) (waiting b.flow (seat_number (length b.flow.seats.items) x)) (get_or b.waits.items x 0) ≡ waiting b.flow (seat_number (length b.flow.seats.items) x)
      at apart true e = refl
      at apart false e =
          let ne : x ≢ actor = λ h. eqb-no actor x e (sym h) in
          ap (λ xs. get_or xs x 0) waits ∙ engine.waits x low
          ∙ sym (waits-on a.flow b.flow engine.flow.shaped wires seats actor actor-low touches a.ready.list listed engine.once engine.exact x low ne apart)

      by : (t : Bool) → contains_number (readers_of b.flow (seat_number (length a.flow.seats.items) actor)) x ≡ t
          → cond t (waiting b.flow (seat_number (length b.flow.seats.items) x)) (get_or c.waits.items x 0) ≡ waiting b.flow (seat_number (length b.flow.seats.items) x)
      by true t = refl
      by false t = first.waits x ∙ at t (eqb actor x) refl

  pub engine-after : IsEngine m d
  engine-after =
      record {
        flow = subst (IsFlow m) (sym flow-is) flow;
        room = record { actors = actors-are; waits = second.waits_len ∙ first.waits_len ∙ ap (length {A = ℕ}) waits ∙ engine.room.waits ∙ ap (λ n. n + 1) (sym seats-are) };
        exact = λ x low.
            subst (λ f. ExactFor f d.ready.list x) (sym flow-is) (subst (λ xs. ExactFor b.flow xs x) (sym list-is)
            (exact-after a.flow b.flow engine.flow.shaped wires seats actor actor-low touches a.ready.list listed engine.once engine.exact x (rw seats (rw (← seats-are) low))));
        below =
            subst (λ xs. AreActors d.ready.actors xs) (sym list-is) (below-after a.flow b.flow engine.flow.shaped wires seats actor actor-low touches a.ready.list listed engine.once engine.exact
            d.ready.actors more (rw actors-same engine.below));
        once = subst OnlyOnce (sym list-is) (once-after a.flow b.flow engine.flow.shaped wires seats actor actor-low touches a.ready.list listed engine.once engine.exact);
        waits = λ x low.
            waits-are x (rw (← seats-are) low) ∙ ap (λ (f : Flow O). waiting f (seat_number (length f.seats.items) x)) (sym flow-is);
        running = second.failed ∙ first.failed ∙ running;
      }
    where
      actors-same : d.ready.actors ≡ a.ready.actors
      actors-same = second.actors ∙ first.actors ∙ ap (λ r. r.actors) removed

      actors-are : d.ready.actors ≡ length d.flow.seats.items + 1
      actors-are = actors-same ∙ engine.room.actors ∙ ap (λ n. n + 1) (sym seats-are)

      more : length a.flow.seats.items < d.ready.actors
      more = let s = actors-same in let r = engine.room.actors in omega (arith, s, r)

-- the list after looks at all actors, of which none was listed
list-first : {O : Type 0} (a b : Engine O) → a.ready.list ≡ [] → Looked (range_with_len 0 (length a.flow.seats.items + 1)) a b → b.ready.list ≡ newly_ready a.flow []
list-first a b empty looked = looked.list ∙ ap (λ xs. xs ++ filter (is_new a.flow xs) (range_with_len 0 (length a.flow.seats.items + 1))) empty

pub order-first : {O : Type 0} (a b : Engine O) → a.ready.list ≡ [] → Looked (range_with_len 0 (length a.flow.seats.items + 1)) a b → b.ready.list ≡ newly_ready b.flow []
order-first a b empty looked = list-first a b empty looked ∙ ap (λ f. newly_ready f []) (sym looked.flow)

-- the engine after them
module _ {O : Type 0} (m : Ghosts O) (a b : Engine O) (flow : IsFlow m a.flow) (room : HasSeats a) (empty : a.ready.list ≡ [])
    (running : a.failed ≡ false)
    (looked : Looked (range_with_len 0 (length a.flow.seats.items + 1)) a b) where
  in-range : (x : ℕ) → x ≤ length a.flow.seats.items → contains_number (range_with_len 0 (length a.flow.seats.items + 1)) x ≡ true
  in-range x low = contains-range 0 (length a.flow.seats.items + 1) x ∙ grind (arith, nat_tests, low)

  first-exact : (x : ℕ) → x ≤ length a.flow.seats.items → contains_number (newly_ready a.flow []) x ≡ is_ready a.flow (seat_number (length a.flow.seats.items) x)
  first-exact x low =
      contains_filter (is_new a.flow []) (range_with_len 0 (length a.flow.seats.items + 1)) x ∙ ap (λ b. b && is_new a.flow [] x) (in-range x low)
      ∙ and-true (is_ready a.flow (seat_number (length a.flow.seats.items) x))

  pub engine-first : IsEngine m b
  engine-first =
      record {
        flow = subst (IsFlow m) (sym looked.flow) flow;
        room = record { actors = actors-are; waits = looked.waits_len ∙ room.waits ∙ ap (λ n. n + 1) (sym seats-are) };
        exact = λ x low.
            subst (λ f. ExactFor f b.ready.list x) (sym looked.flow) (subst (λ xs. ExactFor a.flow xs x) (sym (list-first a b empty looked))
            (exact-of a.flow (newly_ready a.flow []) x (first-exact x (rw (← seats-are) low))));
        below = subst (AreActors b.ready.actors) (sym (list-first a b empty looked)) (λ x is. within x (contains_number (range_with_len 0 (length a.flow.seats.items + 1)) x) refl (sym (contains_filter (is_new a.flow []) (range_with_len 0 (length a.flow.seats.items + 1)) x) ∙ is));
        once = subst OnlyOnce (sym (list-first a b empty looked)) (once-climbs (newly_ready a.flow []) (climbs-filter (is_new a.flow []) (range_with_len 0 (length a.flow.seats.items + 1)) (climbs-range 0 (length a.flow.seats.items + 1))));
        waits = λ x low.
            looked.waits x
            ∙ ap (λ b. cond b (waiting a.flow (seat_number (length a.flow.seats.items) x)) (get_or a.waits.items x 0)) (in-range x (rw (← seats-are) low))
            ∙ ap (λ (f : Flow O). waiting f (seat_number (length f.seats.items) x)) (sym looked.flow);
        running = looked.failed ∙ running;
      }
    where
      seats-are : length b.flow.seats.items ≡ length a.flow.seats.items
      seats-are = ap (λ (f : Flow O). length f.seats.items) looked.flow

      actors-are : b.ready.actors ≡ length b.flow.seats.items + 1
      actors-are = looked.actors ∙ room.actors ∙ ap (λ n. n + 1) (sym seats-are)

      within : (x : ℕ) (t : Bool) → contains_number (range_with_len 0 (length a.flow.seats.items + 1)) x ≡ t → (t && is_new a.flow [] x) ≡ true → x < b.ready.actors
      within x true e h =
          let tests : (leb 0 x && ltb x (0 + (length a.flow.seats.items + 1))) ≡ true = sym (contains-range 0 (length a.flow.seats.items + 1) x) ∙ e in
          let low : x < length a.flow.seats.items + 1 = grind (arith, nat_tests, tests) in
          let same = seats-are in
          let are = actors-are in
          omega (arith, low, same, are)
      within x false e h = absurd (cc h)

-- an engine of which no actor was ready, after more is known of a source
module _ {O : Type 0} (m : Ghosts O) (a b : Engine O) (engine : IsEngine m a) (empty : a.ready.list ≡ []) (sources : Vec Recorded Global) (ahead : Vec (Option ℕ) Global)
    (flow : IsFlow m (record a.flow { sources = sources; ahead = ahead }))
    (looked : Looked (0 ∷ []) (record a { flow = record a.flow { sources = sources; ahead = ahead } }) b) where
  abbrev ops : ℕ
  ops = length a.flow.seats.items

  abbrev more : Flow O
  more = record a.flow { sources = sources; ahead = ahead }

  abbrev fed-list : List ℕ
  fed-list = filter (is_new more []) (0 ∷ [])

  list-fed : b.ready.list ≡ fed-list
  list-fed = looked.list ∙ ap (λ xs. xs ++ filter (is_new more xs) (0 ∷ [])) empty

  -- an operator is as ready as it was: it wasn't
  never : (x : ℕ) → x ≢ 0 → x ≤ ops → is_ready more (seat_number ops x) ≡ false
  never zero ne low = absurd (ne refl)
  never (suc k) ne low =
      ap (is_ready more) (place-next ops k)
      ∙ ap (λ t. not (done_at a.flow.over (slice_get a.flow.seats.items k)) && (list_all (λ arc. stands (face a.flow.queues arc)) (arcs_read a.flow.wires k) && t))
      (goes (is_clear sources.items ahead.items) ∙ sym (goes (is_clear a.flow.sources.items a.flow.ahead.items)))
      ∙ ap (is_ready a.flow) (sym (place-next ops k)) ∙ sym (exact-test a.flow a.ready.list (suc k) (engine.exact (suc k) low)) ∙ ap (λ xs. contains_number xs (suc k)) empty
    where
      goes : (clear : Bool) → cond (eqb k ops) clear true ≡ true
      goes clear = ap (λ t. cond t clear true) (eqb-not k ops (omega (arith, low)))

  listed-one : (x : ℕ) → x ≤ ops → contains_number fed-list x ≡ is_ready more (seat_number ops x)
  listed-one x low = contains_filter (is_new more []) (0 ∷ []) x ∙ by (eqb x 0) refl
    where
      by : (t : Bool) → eqb x 0 ≡ t → ((eqb 0 x || false) && is_new more [] x) ≡ is_ready more (seat_number ops x)
      by true t = ap (λ s. (s || false) && is_new more [] x) (eqb_true 0 x (sym (exact_unsigned_eq x 0 t))) ∙ and-true (is_ready more (seat_number ops x))
      by false t =
          let ne : x ≢ 0 = eqb-no x 0 t in
          ap (λ s. (s || false) && is_new more [] x) (eqb-not 0 x (λ e. ne (sym e))) ∙ sym (never x ne low)

  pub engine-fed : IsEngine m b
  engine-fed =
      record {
        flow = subst (IsFlow m) (sym looked.flow) flow;
        room = record { actors = actors-are; waits = looked.waits_len ∙ engine.room.waits ∙ ap (λ n. n + 1) (sym seats-are) };
        exact = λ x low.
            subst (λ f. ExactFor f b.ready.list x) (sym looked.flow) (subst (λ xs. ExactFor more xs x) (sym list-fed)
            (exact-of more fed-list x (listed-one x (rw (← seats-are) low))));
        below = λ x is. within x (eqb 0 x) refl (sym (contains_filter (is_new more []) (0 ∷ []) x) ∙ subst (λ xs. contains_number xs x ≡ true) list-fed is);
        once = subst OnlyOnce (sym list-fed) (once-climbs fed-list (climbs-filter (is_new more []) (0 ∷ []) ((λ y is. absurd (cc is)), tt)));
        waits = λ x low.
            looked.waits x ∙ at x (eqb 0 x) (rw (← seats-are) low) ∙ ap (λ (f : Flow O). waiting f (seat_number (length f.seats.items) x)) (sym looked.flow);
        running = looked.failed ∙ engine.running;
      }
    where
      seats-are : length b.flow.seats.items ≡ ops
      seats-are = ap (λ (f : Flow O). length f.seats.items) looked.flow

      actors-are : b.ready.actors ≡ length b.flow.seats.items + 1
      actors-are = looked.actors ∙ engine.room.actors ∙ ap (λ n. n + 1) (sym seats-are)

      within : (x : ℕ) (t : Bool) → eqb 0 x ≡ t → ((t || false) && is_new more [] x) ≡ true → x < b.ready.actors
      within x true t h = let here : 0 ≡ x = exact_unsigned_eq 0 x t in omega (arith, here, actors-are)
      within x false t h = absurd (cc h)

      at : (x : ℕ) (t : Bool) → x ≤ ops → cond (t || false) (waiting more (seat_number ops x)) (get_or a.waits.items x 0) ≡ waiting more (seat_number ops x)
      at x true low = refl
      at x false low = engine.waits x low
