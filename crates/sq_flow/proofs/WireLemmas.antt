-- What goes to arcs, by the streams that they come from.
use Rattle.std.proofs.Common.{◌≡◌, ◌≢◌, ℕ, zero, suc, ◌<◌, eqb, cond, Bool, true, false, ◌||◌, List, [], ◌∷◌, ◌++◌, length, Option, Some, None, refl, ap, sym, ◌∙◌, append-nil, arith}
use Rattle.std.specs.Prelude.{slice_get}
use Rattle.std.proofs.lemmas.Option.{same_Some}
use Rattle.sq_item.specs.declared.Item.{Item}
use Rattle.sq_item.specs.Things.{Thing, spread}
use Rattle.sq_oper.specs.declared.operator.Operator.{Ghosts}
use Rattle.sq_oper.specs.Outflow.{given}
use Rattle.sq_outside.specs.Disks.{Pages}
use Rattle.sq_queue.specs.declared.Queues.{Queues}
use Rattle.sq_queue.specs.Faces.{face, size, Together}
use Rattle.sq_flow.specs.declared.errors.RunErr.{RunErr}
use Rattle.sq_flow.specs.declared.wires.Wires.{Wires}
use Rattle.sq_flow.specs.declared.flow.Flow.{Flow}
use Rattle.sq_flow.specs.Wiring.{arcs_from, times_in, from_of, arc_port, pushed_by, IsShaped}
use Rattle.sq_flow.specs.Seats.{done_at}
use Rattle.sq_flow.specs.Sends.{many, sent_to, is_sent_by, MayGive}
use Rattle.sq_flow.specs.Flows.{IsFlow}
use Rattle.sq_words.specs.Lists.{contains_number}
use Rattle.std.proofs.lemmas.Map.Views.{exact_unsigned_eq}
use Rattle.sq_words.proofs.Numbers.{eqb_true}

-- what an item that an actor gives at a port is on a stream
abbrev pub sent : ℕ → ℕ → List Thing → ℕ → ℕ → List Thing
sent actor port things from to = cond (eqb actor from) (cond (eqb port to) things []) []

times-some : (xs : List ℕ) (place x : ℕ) → slice_get xs place ≡ Some x → times_in x xs ≢ 0
times-some [] place x is = λ h. cc is
times-some (y ∷ xs) zero x is = λ h.
    let same : y ≡ x = same_Some y x is in
    let one : ◌≡◌ {A = ℕ} (cond (eqb y x) 1 0) 1 = ap (λ b. cond b 1 0) (eqb_true y x same) in
    omega (arith, one, h)
times-some (y ∷ xs) (suc place) x is = λ h. let r = times-some xs place x is in r (omega (arith, h))

contains-place : (xs : List ℕ) (x : ℕ) → contains_number xs x ≡ true → (place : ℕ) × (slice_get xs place ≡ Some x)
contains-place [] x h = cc h
contains-place (y ∷ xs) x h = by (contains-place xs x) (eqb y x) refl h
  where
    by : (contains_number xs x ≡ true → (place : ℕ) × (slice_get xs place ≡ Some x)) → (b : Bool) → eqb y x ≡ b → (b || contains_number xs x) ≡ true → (place : ℕ) × (slice_get (y ∷ xs) place ≡ Some x)
    by later true e k = (0, ap Some (exact_unsigned_eq y x e))
    by later false e k = let r = later k in (suc r.0, r.1)

many-sent : (n : ℕ) (b c : Bool) (xs : List Thing) → n ≡ cond b (cond c 1 0) 0 → many n xs ≡ cond b (cond c xs []) []
many-sent n true true xs e = rw e (append-nil xs)
many-sent n true false xs e = rw e refl
many-sent n false c xs e = rw e refl

module _ (wires : Wires) (ops : ℕ) (shaped : IsShaped wires ops) where
  -- an arc that is read of an actor's port comes from that actor
  pub reads-from : (actor port place arc : ℕ) → slice_get (arcs_from wires actor port) place ≡ Some arc
      → (arc < length wires.arcs.items) × (actor ≡ from_of (slice_get wires.arcs.items arc))
  reads-from actor port place arc is = (low, by (eqb actor (from_of (slice_get wires.arcs.items arc))) refl (shaped.read actor port arc low))
    where
      low : arc < length wires.arcs.items
      low = shaped.readers_in actor port place arc is

      by : (b : Bool) → eqb actor (from_of (slice_get wires.arcs.items arc)) ≡ b
          → times_in arc (arcs_from wires actor port) ≡ cond b (cond (eqb port (arc_port (slice_get wires.arcs.items arc))) 1 0) 0
          → actor ≡ from_of (slice_get wires.arcs.items arc)
      by true e h = exact_unsigned_eq actor (from_of (slice_get wires.arcs.items arc)) e
      by false e h = absurd (times-some (arcs_from wires actor port) place arc is h)

  pub comes-from : (actor port arc : ℕ) → contains_number (arcs_from wires actor port) arc ≡ true → is_sent_by wires actor arc ≡ true
  comes-from actor port arc there =
      let at = contains-place (arcs_from wires actor port) arc there in
      eqb_true (from_of (slice_get wires.arcs.items arc)) actor (sym (reads-from actor port at.0 arc at.1).1)

  pub one-sent : (actor port arc : ℕ) (xs : List Thing) → arc < length wires.arcs.items
      → many (times_in arc (arcs_from wires actor port)) xs ≡ sent actor port xs (from_of (slice_get wires.arcs.items arc)) (arc_port (slice_get wires.arcs.items arc))
  one-sent actor port arc xs low =
      many-sent (times_in arc (arcs_from wires actor port)) (eqb actor (from_of (slice_get wires.arcs.items arc))) (eqb port (arc_port (slice_get wires.arcs.items arc))) xs
      (shaped.read actor port arc low)

  pub sent-is : (actor : ℕ) (outs : List (ℕ × Item)) (arc : ℕ) → arc < length wires.arcs.items
      → sent_to wires actor outs arc ≡ pushed_by actor outs (from_of (slice_get wires.arcs.items arc)) (arc_port (slice_get wires.arcs.items arc))
  sent-is actor [] arc low = none (eqb actor (from_of (slice_get wires.arcs.items arc)))
    where
      none : (b : Bool) → [] ≡ cond {A = List Thing} b [] []
      none true = refl
      none false = refl
  sent-is actor (out ∷ outs) arc low =
      ap (λ z. z ++ sent_to wires actor outs arc) (one-sent actor out.0 arc (spread out.1) low)
      ∙ ap (λ z. sent actor out.0 (spread out.1) (from_of (slice_get wires.arcs.items arc)) (arc_port (slice_get wires.arcs.items arc)) ++ z) (sent-is actor outs arc low)
      ∙ joins (eqb actor (from_of (slice_get wires.arcs.items arc)))
    where
      joins : (b : Bool) → cond b (cond (eqb out.0 (arc_port (slice_get wires.arcs.items arc))) (spread out.1) []) [] ++ cond b (given (arc_port (slice_get wires.arcs.items arc)) outs) []
          ≡ cond b (cond (eqb out.0 (arc_port (slice_get wires.arcs.items arc))) (spread out.1) [] ++ given (arc_port (slice_get wires.arcs.items arc)) outs) []
      joins true = refl
      joins false = refl

-- the arcs that come from an actor which isn't finished haven't ended
pub arcs-open : {O : Type 0} (m : Ghosts O) (e : Flow O) (flow : IsFlow m e) (actor : ℕ) → done_at e.over (slice_get e.seats.items actor) ≡ false
    → (port place arc : ℕ) → slice_get (arcs_from e.wires actor port) place ≡ Some arc → (arc < size e.queues) × ((face e.queues arc).ended ≡ false)
arcs-open m e flow actor open_now port place arc is =
    let r = reads-from e.wires (length e.seats.items) flow.shaped actor port place arc is in
    (rw flow.lanes r.0, flow.ended arc r.0 ∙ ap (λ k. done_at e.over (slice_get e.seats.items k)) (sym r.1) ∙ open_now)

-- so it may give, where the queues have the arcs that the flow has, as far ended
pub may-give : {O : Type 0} (m : Ghosts O) (e : Flow O) (flow : IsFlow m e) (actor : ℕ) → actor < length e.seats.items → done_at e.over (slice_get e.seats.items actor) ≡ false
    → (queues : Queues) (was : Option Pages) (failed : Option RunErr) → size queues ≡ size e.queues → ((arc : ℕ) → (face queues arc).ended ≡ (face e.queues arc).ended)
    → Together queues was → failed ≡ None → MayGive e.wires actor queues was failed
may-give m e flow actor low open_now queues was failed lanes ended together whole =
    record {
      passes = λ port.
          record {
            within = (let many = flow.shaped.readers_len in omega (arith, low, many));
            shown = λ past. flow.shaped.outputs_end actor port past low;
            there = λ place arc is. let r = arcs-open m e flow actor open_now port place arc is in (rw lanes r.0, ended arc ∙ r.1);
            together = together;
            whole = whole;
          };
      joined = comes-from e.wires (length e.seats.items) flow.shaped actor;
    }
