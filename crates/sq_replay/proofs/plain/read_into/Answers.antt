use Rattle.sq_replay.proofs.CutLemmas.{line_is_read}
use Rattle.sq_replay.proofs.plain.read_into.Goals as goal

pub returns : goal.returns
returns c =
    let tick = c.in-Some.ensures in
    let are = rw c.in-Some-2.is at c.in_ok-values.ensures in
    rw c.new.ensures
    (line_is_read c.args.kinds.now c.args.latest c.args.text.now c.args.from c.in-Some.at c.read_values.new.end c.in-Some.time c.in-Some-2.values.items c.requires.within tick.0 tick.1 tick.2 are.0 are.1)
