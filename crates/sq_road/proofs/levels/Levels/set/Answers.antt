use Rattle.std.proofs.Common.{◌≡◌, ◌++◌, ◌∷◌, [], slice_index, ap, refl, arith}
use Rattle.sq_road.proofs.LevelLemmas.{inserted, are_below-push, row_at-before}
use Rattle.sq_road.proofs.levels.Levels.set.Goals as goal

is_next : (c : goal.After-self-1) → c.args.e ≡ c.self.inside.closed
is_next c = rw (← c.self.view_is) at c.requires.next

rows_are : (c : goal.After-self-1) → c.insert.new.self.entries ≡ c.self.inside.rows.entries ++ (c.args.e, c.args.of.items) ∷ []
rows_are c =
    inserted c.args.e c.self.inside.closed c.new.result c.args.of.items c.self.inside.rows.entries c.insert.new.self.entries
    (is_next c) c.new.ensures c.self.invariant.2 c.in_ok-insert.ensures.entries

pub invariant_of-self-2 : goal.invariant_of-self-2
invariant_of-self-2 c = (
  c.self.invariant.0,
  omega arith,
  rw (rows_are c) (are_below-push c.args.e c.args.of.items c.self.inside.rows.entries (rw (is_next c) c.self.invariant.2)),
)

pub returns-clause-table : goal.returns-clause-table
returns-clause-table c = rw (rows_are c, ← c.self.view_is) refl

pub returns-clause-keeps : goal.returns-clause-keeps
returns-clause-keeps c x w before =
    rw (rows_are c, ← c.self.view_is)
    (ap (λ row. slice_index row w) (row_at-before c.args.e x c.args.of.items c.self.inside.rows.entries (rw c.requires.next before)))
