use Rattle.std.proofs.Common.{◌∙◌, ap}
use Rattle.sq_expr.specs.Keys.{bare_of}
use Rattle.sq_shard.specs.Keys.{is_among, places}
use Rattle.sq_shard.specs.declared.Cut.TheVariants.{By}
use Rattle.sq_shard.proofs.boxes.map_cut.Goals as goal

pub returns-in_ok-bare_places-in-By : goal.returns-in_ok-bare_places-in-By
returns-in_ok-bare_places-in-By c =
    rw c.in-By.is (c.by_columns.ensures ∙ ap By (c.in_ok-bare_places-in-By.ensures ∙ ap (λ columns. places (λ e. is_among columns (bare_of e.tree)) 0 c.args.exprs.now) c.as_slice.ensures))
