-- The least box on a cycle, by the test that computes.
use Rattle.std.proofs.Common.{◌≡◌, sym, ℕ, zero, suc, ◌<◌, Bool, true, false, Some, None, refl, arith, length}
use Rattle.std.specs.List.{find}
use Rattle.sq_words.specs.Lists.{numbers_to}
use Rattle.sq_graph.specs.declared.Wiring.{Wiring}
use Rattle.sq_graph.specs.Order.{is_on_cycle, Leads, LiesOnCycle, IsLeastOnCycle}
use Rattle.sq_graph.proofs.Bounded.{on_cycle, on_cycle_from}
use Rattle.sq_graph.proofs.Finding.{first_is, none_is}
use Rattle.sq_graph.proofs.Reach.{arc_ends}

pub cycle_is_of_box : (w : Wiring) (at : ℕ) → LiesOnCycle w at → at < length w.boxes
cycle_is_of_box w at on = ends on.0 on.1
  where
    ends : (k : ℕ) → Leads w k at at → at < length w.boxes
    ends zero arc = arc_ends w at at arc
    ends (suc k) leads = arc_ends w leads.0 at leads.1.1

off_cycle : (w : Wiring) (at : ℕ) → (LiesOnCycle w at → ⊥) → is_on_cycle w at ≡ false
off_cycle w at none = by_test (is_on_cycle w at) refl
  where
    by_test : (b : Bool) → is_on_cycle w at ≡ b → is_on_cycle w at ≡ false
    by_test true e = absurd (none (on_cycle_from w at e))
    by_test false e = e

pub first_on_cycle : (w : Wiring) (at : ℕ) → IsLeastOnCycle w at → find (is_on_cycle w) (numbers_to (length w.boxes)) ≡ Some at
first_on_cycle w at least = sym (first_is (is_on_cycle w) (length w.boxes) at (cycle_is_of_box w at least.0) (λ b low. off_cycle w b (least.1 b low)) (on_cycle w at least.0))

pub none_on_cycle : (w : Wiring) → ((at : ℕ) → LiesOnCycle w at → ⊥) → find (is_on_cycle w) (numbers_to (length w.boxes)) ≡ None
none_on_cycle w none = sym (none_is (is_on_cycle w) (length w.boxes) (length w.boxes) (omega arith) (λ b low. off_cycle w b (none b)))
