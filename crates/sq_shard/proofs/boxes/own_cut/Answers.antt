use Rattle.std.proofs.Common.{◌∙◌, ap, nat_lt}
use Rattle.std.specs.List.{filter}
use Rattle.sq_shard.specs.declared.Cut.TheVariants.{By}
use Rattle.sq_shard.proofs.boxes.own_cut.Goals as goal

pub returns-in_ok-below-in-By : goal.returns-in_ok-below-in-By
returns-in_ok-below-in-By c =
    rw c.in-By.is (c.by_columns.ensures ∙ ap By (c.in_ok-below-in-By.ensures ∙ ap (filter (λ n. nat_lt n c.args.width)) c.as_slice.ensures))
