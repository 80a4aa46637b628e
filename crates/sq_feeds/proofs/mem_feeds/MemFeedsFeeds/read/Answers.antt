use Rattle.std.proofs.Common.{◌<◌, length, arith}
use Rattle.std.proofs.lemmas.List.{length-map}
use Rattle.sq_outside.specs.MemFolders.{files_of}
use Rattle.sq_feeds.specs.MemFeeds.{GaveFront, feed_log_of}
use Rattle.sq_feeds.proofs.FeedLemmas.{all_set}
use Rattle.sq_feeds.proofs.MemFeedLemmas.{all_read, view_read}
use Rattle.sq_feeds.proofs.mem_feeds.MemFeedsFeeds.read.Goals as goal

pub returns-then-call_fails-clause-whole : goal.returns-then-call_fails-clause-whole
returns-then-call_fails-clause-whole c = all_read (files_of c.self.inside.files.items) c.self.inside.feeds.items c.self.invariant

pub returns-clause-ok : goal.returns-clause-ok
returns-clause-ok c =
    let feeds = c.self.inside.feeds.items in
    let going = rw (← c.self.view_is) at c.requires.going in
    let within : c.args.feed < length feeds = omega (arith, going.0, length-map feeds feed_log_of) in
    rw (← c.self.view_is) (
    view_read (files_of c.self.inside.files.items) feeds c.args.feed c.index_mut.result.now c.read_feed.new.feed _ c.self.inside.cuts.items c.next_cut-most.new.cuts.items c.self.inside.calls c.call_fails.new.self within
    c.index_mut.ensures.value c.read_feed.ensures.told c.next_cut-most.ensures.rest (rw c.if-call_fails.false at c.call_fails.ensures.called)
    )

pub returns-clause-whole : goal.returns-clause-whole
returns-clause-whole c =
    let files = files_of c.self.inside.files.items in
    let feeds = c.self.inside.feeds.items in
    let going = rw (← c.self.view_is) at c.requires.going in
    let within : c.args.feed < length feeds = omega (arith, going.0, length-map feeds feed_log_of) in
    all_read files _ (all_set (GaveFront files) feeds c.args.feed c.index_mut.result.now c.read_feed.new.feed c.self.invariant within c.index_mut.ensures.value (c.read_feed.ensures.gives files))
