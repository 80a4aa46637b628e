-- What a call of one actor leaves alone.
use Rattle.std.proofs.Common.{◌≡◌, ◌≢◌, ℕ, Bool, true, false, ◌||◌, Option, List, length, refl, ap, ◌∙◌}
use Rattle.std.proofs.lemmas.Bool.{or_right}
use Rattle.std.specs.Prelude.{slice_get, is_some}
use Rattle.sq_outside.specs.Disks.{Pages}
use Rattle.sq_item.specs.Things.{Thing}
use Rattle.sq_queue.specs.declared.Queues.{Queues}
use Rattle.sq_paged.specs.Fronts.{Face}
use Rattle.sq_queue.specs.Faces.{face}
use Rattle.sq_left.proofs.MergeLemmas.{eqb-not}
use Rattle.sq_flow.specs.declared.wires.Wires.{Wires}
use Rattle.sq_flow.specs.declared.flow.Flow.{Flow}
use Rattle.sq_flow.specs.Wiring.{from_of}
use Rattle.sq_flow.specs.Sends.{is_sent_by, Pushes}
use Rattle.sq_flow.specs.Readiness.{stands, TouchesOnly}

pub stands-grows : (a b : Face) → (is_some a.first ≡ true → is_some b.first ≡ true) → (a.ended ≡ true → b.ended ≡ true) → stands a ≡ true → stands b ≡ true
stands-grows a b first ended h = by (is_some a.first) refl h
  where
    by : (x : Bool) → is_some a.first ≡ x → (x || a.ended) ≡ true → stands b ≡ true
    by true e k = ap (λ x. x || b.ended) (first e)
    by false e k = or_right (is_some b.first) b.ended (ended k)

-- an arc that doesn't come from the actor
pub away-from : (wires : Wires) (actor arc : ℕ) → from_of (slice_get wires.arcs.items arc) ≢ actor → is_sent_by wires actor arc ≡ false
away-from wires actor arc ne = eqb-not (from_of (slice_get wires.arcs.items arc)) actor ne

pub stands-pushed : (q q' : Queues) (p p' : Option Pages) (more : ℕ → List Thing) (upto : ℕ → Type 0) (near : ℕ → Bool) → Pushes q q' p p' more upto near
    → (arc : ℕ) → stands (face q arc) ≡ true → stands (face q' arc) ≡ true
stands-pushed q q' p p' more upto near sent arc h = stands-grows (face q arc) (face q' arc) (sent.grows arc) (λ e. sent.ended arc ∙ e) h

module _ {O : Type 0} (actor : ℕ) where
  -- nothing was done
  pub touches-none : (f : Flow O) → TouchesOnly actor f f
  touches-none f = record { apart = λ arc low to from. refl; grows = λ arc low to h. h; others = λ other low ne. refl; sources = λ ne. refl; ahead = refl }

  pub touches-both : (f f1 f2 : Flow O) → f1.wires ≡ f.wires → length f1.seats.items ≡ length f.seats.items → TouchesOnly actor f f1 → TouchesOnly actor f1 f2 → TouchesOnly actor f f2
  touches-both f f1 f2 wires seats a b =
      record {
        apart = λ arc low to from. b.apart arc (rw wires low) (rw wires to) (rw wires from) ∙ a.apart arc low to from;
        grows = λ arc low to h. b.grows arc (rw wires low) (rw wires to) (a.grows arc low to h);
        others = λ other low ne. b.others other (rw seats low) ne ∙ a.others other low ne;
        sources = λ ne. b.sources (rw seats ne) ∙ a.sources ne;
        ahead = b.ahead ∙ a.ahead;
      }
