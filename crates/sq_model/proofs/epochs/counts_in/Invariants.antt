use Rattle.std.proofs.Common.{◌≡◌, ◌++◌, map, drop}
use Rattle.sq_plan.specs.Arrivals.{arrivals}
use Rattle.sq_model.proofs.epochs.counts_in.Given as goal

abbrev pub invariant-loop-source : goal.invariant-loop-source
invariant-loop-source l = arrivals l.epoch (map (λ t. t.items) l.sources) l.e ≡ l.counts.items ++ arrivals l.epoch (map (λ t. t.items) (drop l.source-index l.sources)) l.e
