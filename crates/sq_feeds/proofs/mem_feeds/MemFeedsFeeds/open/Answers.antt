use Rattle.std.proofs.Common.{◌≡◌, Some}
use Rattle.sq_outside.specs.Folders.{file}
use Rattle.sq_outside.specs.MemFolders.{files_of}
use Rattle.sq_feeds.specs.MemFeeds.{GaveFront}
use Rattle.sq_feeds.proofs.FeedLemmas.{all_pushed}
use Rattle.sq_feeds.proofs.MemFeedLemmas.{all_read}
use Rattle.sq_feeds.proofs.mem_feeds.MemFeedsFeeds.open.Goals as goal

pub returns-then-call_fails-clause-whole : goal.returns-then-call_fails-clause-whole
returns-then-call_fails-clause-whole c = all_read (files_of c.self.inside.files.items) c.self.inside.feeds.items c.self.invariant

pub returns-in_default-clause-whole : goal.returns-in_default-clause-whole
returns-in_default-clause-whole c = all_read (files_of c.self.inside.files.items) c.self.inside.feeds.items c.self.invariant

pub returns-in_default-copy_feed-clause-whole : goal.returns-in_default-copy_feed-clause-whole
returns-in_default-copy_feed-clause-whole c = all_read (files_of c.self.inside.files.items) c.self.inside.feeds.items c.self.invariant

pub returns-clause-whole : goal.returns-clause-whole
returns-clause-whole c =
    let files = files_of c.self.inside.files.items in
    let found = rw c.deref.ensures.value at c.in-Some.ensures in
    let there : file files c.args.name.now ≡ Some c.deref-2.result.now = cc (found, c.deref-2.ensures.value) in
    all_read files _ (all_pushed (GaveFront files) c.self.inside.feeds.items c.push.new.self.items c.in-Ok.feed c.push.result c.self.invariant (c.in-Ok.ensures.gives files there) c.push.ensures.items)
