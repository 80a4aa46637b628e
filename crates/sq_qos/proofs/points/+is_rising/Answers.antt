use Rattle.sq_qos.proofs.Short.{short_rises}
use Rattle.sq_qos.proofs.points.+is_rising.Goals as goal

pub returns-in_default : goal.returns-in_default
returns-in_default t c = short_rises c.args.points.now c.in_default.len_below
