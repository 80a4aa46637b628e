use Rattle.std.proofs.Common.{refl, arith}
use Rattle.sq_feeds.proofs.MemFeedLemmas.{gives_on, taken_copied}
use Rattle.sq_feeds.proofs.mem_feeds.read_feed.Goals as goal

pub returns-clause-gives : goal.returns-clause-gives
returns-clause-gives c files gave =
    let f = c.args.feed.now in
    let n = c.min-count.result in
    let copied = rw c.deref.ensures.value at c.copy_from_slice.ensures.after in
    gives_on files f _ n _ gave refl refl refl c.requires.going (omega (arith, c.min-count.ensures, c.len.ensures))
    (taken_copied n f.at f.bytes.items c.copy_from_slice.new.self _ c.args.into.now (omega (arith, c.min-count.ensures, c.requires.room)) c.copy_from_slice.ensures.len copied) c.note.ensures
