use Rattle.std.proofs.Common.{◌≡◌, ℕ, ◌<◌, ◌≤◌, ◌^◌, map, drop}
use Rattle.sq_plan.specs.PlanRows.{is_quiet}
use Rattle.sq_plan.specs.Arrivals.{arrivals}
use Rattle.sq_model.proofs.epochs.next_of.Given as goal

abbrev pub invariant-loop-source : goal.invariant-loop-source
invariant-loop-source l = record {
  later : l.ended < l.next;
  low : l.next ≤ 2 ^ 40;
  quiet : (e : ℕ) → l.ended < e → e < l.next → is_quiet (arrivals l.epoch (map (λ t. t.items) l.sources) e) ≡ is_quiet (arrivals l.epoch (map (λ t. t.items) (drop l.source-index l.sources)) e);
}
