use Rattle.std.proofs.Common.{◌≡◌, drop, map}
use Rattle.std.specs.Ordering.{is_eq}
use Rattle.std.specs.Map.{lookup}
use Rattle.sq_value.specs.Values.{fields_cmp}
use Rattle.sq_pane.specs.Panes.{lent_group}
use Rattle.sq_rows.specs.Rows.{AllAreMade}
use Rattle.sq_pane.proofs.panes.Panes.answer.Given as goal

abbrev pub invariant-loop-key : goal.invariant-loop-key
invariant-loop-key g l = record {
  value : lookup (λ q. is_eq (fields_cmp l.group q)) (map lent_group (drop l.key-index l.key-items)) ≡ lookup (λ q. is_eq (fields_cmp l.group q)) (map lent_group l.key-items);
  made : AllAreMade (g.F.Fold.made l.self.fold) (map lent_group (drop l.key-index l.key-items));
}
