use Rattle.std.proofs.Common.{◌≡◌, ◌++◌, drop}
use Rattle.sq_expr.specs.Keys.{bare_of}
use Rattle.sq_shard.specs.Keys.{is_among, places}
use Rattle.sq_shard.proofs.columns.bare_places.Given as goal

abbrev pub invariant-loop-place : goal.invariant-loop-place
invariant-loop-place l = places (λ e. is_among l.columns (bare_of e.tree)) 0 l.exprs ≡ l.found.items ++ places (λ e. is_among l.columns (bare_of e.tree)) l.place (drop l.place l.exprs)
