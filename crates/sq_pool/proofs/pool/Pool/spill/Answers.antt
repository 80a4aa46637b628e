use Rattle.std.proofs.Common.{sym, ap, ◌∙◌, arith}
use Rattle.sq_words.specs.Lists.{nth}
use Rattle.sq_pool.specs.Trust.{known, pages_with}
use Rattle.sq_pool.specs.Slots.{without_page}
use Rattle.sha2.specs.Sha256.{sha256}
use Rattle.sq_pool.proofs.PoolLemmas.{first-frame, first-filled, length-without_page, spilled, length-filled}
use Rattle.sq_pool.proofs.TrustLemmas.{known-put}
use Rattle.sq_pool.proofs.pool.Pool.spill.Goals as goal

pub frame-bytes-requires : goal.frame-bytes-requires
frame-bytes-requires g c =
    let first = first-frame c.self.inside.slots.order (c.in-Some.page, c.in-Some.frame) (sym c.in-Some.ensures) in
    omega (arith, c.sound.ensures.below c.in-Some.frame first.1, c.self.invariant.0)

pub release-requires-clause-resident : goal.release-requires-clause-resident
release-requires-clause-resident g c = (first-frame c.self.inside.slots.order (c.in-Some.page, c.in-Some.frame) (sym c.in-Some.ensures)).0

pub invariant_of-self : goal.invariant_of-self
invariant_of-self g c =
    let first = first-frame c.self.inside.slots.order (c.in-Some.page, c.in-Some.frame) (sym c.in-Some.ensures) in
    rw c.release.ensures
    (c.self.invariant.0, omega (arith, c.self.invariant.1, length-without_page c.in-Some.page c.in-Some.frame c.self.inside.slots.order c.sound.ensures.apart first.0), c.self.invariant.2, c.self.invariant.3)

pub returns-in-Ok-clause-ok : goal.returns-in-Ok-clause-ok
returns-in-Ok-clause-ok g c =
    rw (c.release.ensures, ← c.self.view_is) (record {
      page = c.in-Some.page;
      bytes = nth c.self.inside.frames c.in-Some.frame;
      oldest = first-filled c.self.inside.frames c.self.inside.slots.order (c.in-Some.page, c.in-Some.frame) (sym c.in-Some.ensures);
      inside = (c.sound.ensures.own c.in-Some.page c.in-Some.frame (first-frame c.self.inside.slots.order (c.in-Some.page, c.in-Some.frame) (sym c.in-Some.ensures)).0).1;
      pool = spilled c.self.inside.slots c.self.inside.frames (c.in-Some.page, c.in-Some.frame) c.digest_of-digest.result.0 (c.digest_of-digest.ensures ∙ ap sha256 c.frame-bytes.ensures.value);
      disk = ap known c.in-Ok.ensures.ok ∙ known-put (g.D.PageDisk.log c.args.disk.now) c.in-Some.page c.frame-bytes.result.now ∙ ap (pages_with (known (g.D.PageDisk.log c.args.disk.now)) c.in-Some.page) c.frame-bytes.ensures.value;
    })

pub returns-in-Ok-clause-room : goal.returns-in-Ok-clause-room
returns-in-Ok-clause-room g c =
    let first = first-frame c.self.inside.slots.order (c.in-Some.page, c.in-Some.frame) (sym c.in-Some.ensures) in
    rw (c.release.ensures, ← c.self.view_is)
    (omega (arith, length-filled c.self.inside.frames c.self.inside.slots.order, length-filled c.self.inside.frames (without_page c.in-Some.page c.self.inside.slots.order), length-without_page c.in-Some.page c.in-Some.frame c.self.inside.slots.order c.sound.ensures.apart first.0))
