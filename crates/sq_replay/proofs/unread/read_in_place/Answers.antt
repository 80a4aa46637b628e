use Rattle.std.proofs.Common.{sym}
use Rattle.sq_replay.proofs.RecordedLemmas.{line_recorded}
use Rattle.sq_replay.proofs.unread.read_in_place.Goals as goal

pub returns-clause-read : goal.returns-clause-read
returns-clause-read c =
    let u = c.args.unread.now in
    let read = rw (c.in-Some.is, c.deref.ensures.value, c.deref-2.ensures.value) at c.in_ok-tuple.ensures in
    sym (line_recorded u.kinds.items u.latest u.text.items u.at c.in-Some.tuple c.read_into.new.end read)
