use Rattle.std.proofs.Common.{ℕ, List, sym, subst, refl, rules}
use Rattle.std.specs.Prelude.{slice_get}
use Rattle.sq_queue.specs.declared.FrontLane.{FrontLane}
use Rattle.sq_queue.specs.Faces.{IsEmpty}
use Rattle.sq_queue.proofs.TogetherLemmas.{empty-more}
use Rattle.sq_queue.proofs.empty_lanes.Goals as goal

pub loop-arc-preserved : goal.loop-arc-preserved
loop-arc-preserved c =
    record {
      len = search rules;
      empty = subst (λ (ls : List FrontLane). (arc : ℕ) → IsEmpty (slice_get ls arc)) (sym c.in_ok-push.ensures.items)
          (empty-more c.loop-arc.lanes.items _ (record { face = search rules; front = c.new.ensures.items; behind = refl; held = refl }) c.loop-arc.invariant.empty);
    }
