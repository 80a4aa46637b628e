-- What a step feeds from each arc and what it leaves, and that nothing is left of an arc of an actor that is fed nothing more.
use Rattle.std.proofs.Common.{◌≡◌, ◌≢◌, ℕ, zero, suc, ◌+◌, ◌<◌, eqb, Bool, true, false, List, [], ◌∷◌, ◌++◌, length, Some, refl, ap, sym, ◌∙◌, subst, append_assoc, arith, inl, inr}
use Rattle.std.specs.Prelude.{slice_get, map, if◌then◌else◌}
use Rattle.std.proofs.lemmas.Bool.{cases_lt, or_right}
use Rattle.sq_item.specs.Things.{Thing}
use Rattle.sq_oper.specs.declared.outs.Decision.{Decision}
use Rattle.sq_oper.specs.Entries.{Entry, at_port}
use Rattle.sq_oper.specs.Order.{earlier, merge_under, merge_two, merge_from}
use Rattle.sq_left.specs.Remainder.{Net, Holding, Each, coming, left, is_known_actor, Facts}
use Rattle.sq_left.proofs.Conserve.{Kept, ended-none}
use Rattle.sq_left.proofs.ActorSteps.{Moves, left-moved}
use Rattle.sq_flow.specs.declared.wires.Wires.{Wires}
use Rattle.sq_flow.specs.Wiring.{net_of, arcs_read, IsShaped}
use Rattle.sq_words.proofs.Numbers.{eqb_true}

pub known-replay : (net : Net) (order : List ℕ) → is_known_actor net order net.replay ≡ true
known-replay net [] = eqb_true net.replay net.replay refl
known-replay net (last ∷ earlier) = or_right (eqb net.replay last) (is_known_actor net earlier net.replay) (known-replay net earlier)

pub each-at : (P : ℕ → Type 0) (xs : List ℕ) (i x : ℕ) → Each P xs → slice_get xs i ≡ Some x → P x
each-at P [] i x h is = cc is
each-at P (y ∷ xs) zero x h is = let same : y ≡ x = cc is in subst P same h.0
each-at P (y ∷ xs) (suc i) x h is = each-at P xs i x h.1 is

module _ (wires : Wires) (ops : ℕ) (shaped : IsShaped wires ops) where
  abbrev net : Net
  net = net_of wires

  -- what an arc comes from is the replay or an operator
  pub giver-known : (arc : ℕ) → arc < length wires.arcs.items → is_known_actor net wires.order.items (net.from arc) ≡ true
  giver-known arc low =
      elim (cases_lt (net.from arc) ops) [
        | inl op ↦ shaped.ordered (net.from arc) op
        | inr past ↦ (
            let below = shaped.from_in arc low in
            let replay = shaped.replay_is in
            let is : net.replay ≡ net.from arc = omega (arith, past, below, replay) in
            subst (λ k. is_known_actor net wires.order.items k ≡ true) is (known-replay net wires.order.items))
      ]

  -- where a step feeds what it takes from the fronts of arcs, what was fed at a port, and then what is left of its arc, stays the same
  pub arcs-fed : (w w' : Holding) (taken : ℕ → List Thing) (pushed : ℕ → ℕ → List Thing) (decided : ℕ → List Decision) (took : ℕ → List Entry) (fed fed' : ℕ → ℕ → List Thing)
      → Facts net w wires.order.items → Kept net w w' pushed decided took wires.order.items → Moves net w w' taken pushed
      → ((actor port arc : ℕ) → slice_get (arcs_read wires actor) port ≡ Some arc → fed' actor port ≡ fed actor port ++ taken arc)
      → (actor port arc : ℕ) → slice_get (arcs_read wires actor) port ≡ Some arc
      → fed actor port ++ left net w wires.order.items arc ≡ fed' actor port ++ left net w' wires.order.items arc
  arcs-fed w w' taken pushed decided took fed fed' facts kept moves feeds actor port arc reads =
      let low = shaped.arcs_in actor port arc reads in
      let there = giver-known arc low in
      let less = left-moved net w w' taken pushed (coming net w wires.order.items) (coming net w' wires.order.items) moves arc
      (record {
        inside = low;
        moved = kept.streams (net.from arc) (net.port arc) there;
        ended = ended-none net w wires.order.items facts (net.from arc) (net.port arc) there;
      }) in
      ap (λ l. fed actor port ++ l) less ∙ sym (append_assoc (fed actor port) (taken arc) (left net w' wires.order.items arc))
      ∙ ap (λ l. l ++ left net w' wires.order.items arc) (sym (feeds actor port arc reads))

-- a merge is empty of empty lists alone
under-some : (x : Entry) (more : List Entry → List Entry) (ys : List Entry) → merge_under x more ys ≢ []
under-some x more [] = λ e. cc e
under-some x more (y ∷ ys) = by (earlier y x)
  where
    by : (b : Bool) → (if b then y ∷ merge_under x more ys else x ∷ more (y ∷ ys)) ≢ []
    by true = λ e. cc e
    by false = λ e. cc e

none-of-two : (xs ys : List Entry) → merge_two xs ys ≡ [] → (xs ≡ []) × (ys ≡ [])
none-of-two [] ys h = (refl, h)
none-of-two (x ∷ xs) ys h = absurd (under-some x (merge_two xs) ys h)

none-at-port : (port : ℕ) (xs : List Thing) → at_port port xs ≡ [] → xs ≡ []
none-at-port port [] h = refl
none-at-port port (x ∷ xs) h = cc h

pub none-merged : (f : ℕ → List Thing) (arcs : List ℕ) (base port arc : ℕ) → merge_from base (map f arcs) ≡ [] → slice_get arcs port ≡ Some arc → f arc ≡ []
none-merged f [] base port arc h is = cc is
none-merged f (a ∷ arcs) base zero arc h is =
    let same : a ≡ arc = cc is in
    subst (λ k. f k ≡ []) same (none-at-port base (f a) (none-of-two (at_port base (f a)) (merge_from (base + 1) (map f arcs)) h).0)
none-merged f (a ∷ arcs) base (suc port) arc h is = none-merged f arcs (base + 1) port arc (none-of-two (at_port base (f a)) (merge_from (base + 1) (map f arcs)) h).1 is

pub front-none : {A : Type 0} (xs ys : List A) → xs ++ ys ≡ [] → xs ≡ []
front-none [] ys h = refl
front-none (x ∷ xs) ys h = cc h
