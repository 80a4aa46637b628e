use Rattle.sq_replay.proofs.CutLemmas.{line_is_read}
use Rattle.sq_replay.proofs.testing.time_at_once.Goals as goal

pub returns-in-Some-2 : goal.returns-in-Some-2
returns-in-Some-2 c =
    let tick = c.in-Some.ensures in
    let are = rw c.in-Some-2.is at c.in_ok-end.ensures in
    (are.0, line_is_read c.args.kinds.now c.args.latest c.args.text.now c.args.from c.in-Some.at c.in-Some-2.end c.in-Some.time are.0 c.requires tick.0 tick.1 tick.2 are.1 are.2)
