use Rattle.std.specs.Prelude.{IfSome}
use Rattle.std.proofs.Common.{subst}
use Rattle.sq_feeds.specs.Feeds.{AreReadOf}
use Rattle.sq_system.specs.OpenFeeds.{OpenedFeeds}
use Rattle.sq_system.proofs.LeftLemmas.{left_pushed, told_read}
use Rattle.sq_system.proofs.feeds.OpenFeedsFeeds.open.Goals as goal

pub returns-in-Err-clause-whole : goal.returns-in-Err-clause-whole
returns-in-Err-clause-whole g c =
    subst (λ (v : OpenedFeeds). IfSome v.files (λ told. AreReadOf told v.logs)) c.self.view_is
    (told_read g.O.Source.Read.remaining (g.O.Opens.held c.self.inside.opener.now) c.self.inside.feeds.items c.self.invariant)

pub returns-in-Err-2-clause-whole : goal.returns-in-Err-2-clause-whole
returns-in-Err-2-clause-whole g c = told_read g.O.Source.Read.remaining (g.O.Opens.held c.self.inside.opener.now) c.self.inside.feeds.items c.self.invariant

pub returns-clause-whole : goal.returns-clause-whole
returns-clause-whole g c =
    let held = g.O.Opens.held c.self.inside.opener.now in
    told_read g.O.Source.Read.remaining held c.push.new.self.items
    (left_pushed g.O.Source.Read.remaining held c.self.inside.feeds.items c.push.new.self.items c.in-Ok.feed c.push.result c.self.invariant c.in-Ok.ensures.left c.push.ensures.items)
