use Rattle.std.proofs.Common.{◌<◌, length, set, arith}
use Rattle.std.proofs.lemmas.List.{length-map}
use Rattle.sq_feeds.proofs.FeedLemmas.{feed_read, feed_same}
use Rattle.sq_system.specs.OpenFeeds.{open_log_of}
use Rattle.sq_system.proofs.LeftLemmas.{left_on, told_read}
use Rattle.sq_system.proofs.feeds.OpenFeedsFeeds.read.Goals as goal

pub returns-in-Ok-clause-ok : goal.returns-in-Ok-clause-ok
returns-in-Ok-clause-ok g c =
    let feeds = c.self.inside.feeds.items in
    let going = rw (← c.self.view_is) at c.requires.going in
    let within : c.args.feed < length feeds = omega (arith, going.0, length-map feeds open_log_of) in
    rw (← c.self.view_is) (feed_read open_log_of feeds c.args.feed c.index_mut.result.now c.read_next.new.feed _ within c.index_mut.ensures.value c.in-Ok.ensures.told)

pub returns-in-Ok-clause-whole : goal.returns-in-Ok-clause-whole
returns-in-Ok-clause-whole g c =
    let feeds = c.self.inside.feeds.items in
    let held = g.O.Opens.held c.self.inside.opener.now in
    let going = rw (← c.self.view_is) at c.requires.going in
    let within : c.args.feed < length feeds = omega (arith, going.0, length-map feeds open_log_of) in
    told_read g.O.Source.Read.remaining held (set feeds c.args.feed c.read_next.new.feed)
    (left_on g.O.Source.Read.remaining held feeds c.args.feed c.index_mut.result.now c.read_next.new.feed c.self.invariant within c.index_mut.ensures.value c.read_next.ensures.left)

pub returns-in-Err-clause-err : goal.returns-in-Err-clause-err
returns-in-Err-clause-err g c =
    rw (← c.self.view_is) (feed_same open_log_of c.self.inside.feeds.items c.args.feed c.index_mut.result.now c.read_next.new.feed c.index_mut.ensures.value c.in-Err.ensures.err)

pub returns-in-Err-clause-whole : goal.returns-in-Err-clause-whole
returns-in-Err-clause-whole g c =
    let feeds = c.self.inside.feeds.items in
    let held = g.O.Opens.held c.self.inside.opener.now in
    let going = rw (← c.self.view_is) at c.requires.going in
    let within : c.args.feed < length feeds = omega (arith, going.0, length-map feeds open_log_of) in
    told_read g.O.Source.Read.remaining held (set feeds c.args.feed c.read_next.new.feed)
    (left_on g.O.Source.Read.remaining held feeds c.args.feed c.index_mut.result.now c.read_next.new.feed c.self.invariant within c.index_mut.ensures.value c.read_next.ensures.left)
