use Rattle.std.proofs.Common.{ap, arith, length, refl, ◌∙◌}
use Rattle.std.proofs.lemmas.List.{length-replicate}
use Rattle.sq_due.proofs.CountLemmas.{no_counts}
use Rattle.sq_due.proofs.counting.no_counts.Goals as goal

pub returns-clause-room : goal.returns-clause-room
returns-clause-room c = record {
  lines = ap (λ xs. length xs) c.in_ok-lines.ensures ∙ length-replicate _ 0 ∙ c.count_outputs.ensures;
  drops = ap (λ xs. length xs) c.in_ok-drops.ensures ∙ length-replicate _ 0 ∙ omega (arith, c.requires.laid.drops, c.requires.laid.boxes);
}

pub returns-clause-none : goal.returns-clause-none
returns-clause-none c = record {
  lines = no_counts _ _ _ c.in_ok-lines.ensures (λ k. refl);
  drops = no_counts _ _ _ c.in_ok-drops.ensures (λ k. refl);
}
