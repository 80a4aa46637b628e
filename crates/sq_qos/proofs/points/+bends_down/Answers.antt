use Rattle.sq_qos.proofs.Short.{short_is_concave}
use Rattle.sq_qos.proofs.points.+bends_down.Goals as goal

pub returns-in_default : goal.returns-in_default
returns-in_default t c = short_is_concave c.args.points.now c.in_default.len_below
