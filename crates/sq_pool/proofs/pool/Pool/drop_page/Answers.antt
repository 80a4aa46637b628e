use Rattle.std.proofs.Common.{arith, ap, ◌∙◌}
use Rattle.sq_pool.specs.Trust.{known}
use Rattle.sq_pool.proofs.PoolLemmas.{held-inside, length-without_page, not-held, out-of-frames}
use Rattle.sq_pool.proofs.CallLemmas.{drops-release, drops-given, release-goes, given-goes}
use Rattle.sq_pool.proofs.TrustLemmas.{known-give_up}
use Rattle.sq_pool.proofs.pool.Pool.drop_page.Goals as goal

pub place-requires : goal.place-requires
place-requires g c = held-inside c.self.inside.slots c.self.inside.frames c.args.page c.sound.ensures (rw (← c.self.view_is) at c.requires.held)

pub invariant_of-self : goal.invariant_of-self
invariant_of-self g c =
    rw (c.give_number.ensures, c.release.ensures) (c.self.invariant.0, omega (arith, c.self.invariant.1, length-without_page c.args.page c.in-Resident.frame c.self.inside.slots.order c.sound.ensures.apart c.in-Resident.ensures.frame), c.self.invariant.2, c.self.invariant.3)

pub returns-in-Resident-clause-map : goal.returns-in-Resident-clause-map
returns-in-Resident-clause-map g c =
    rw (c.give_number.ensures, c.release.ensures, ← c.self.view_is) (drops-release c.self.inside.slots c.self.inside.frames (known (g.D.PageDisk.log c.args.disk.now)) c.args.page)

pub returns-in-Ok-clause-map : goal.returns-in-Ok-clause-map
returns-in-Ok-clause-map g c =
    rw (c.forget.ensures, ← c.self.view_is)
    (drops-given c.self.inside.slots c.self.inside.frames (known (g.D.PageDisk.log c.args.disk.now)) _ c.args.page c.in-Spilled.ensures.frame (ap known c.in-Ok.ensures.ok ∙ known-give_up (g.D.PageDisk.log c.args.disk.now) c.args.page))

pub returns-in-Ok-clause-agree : goal.returns-in-Ok-clause-agree
returns-in-Ok-clause-agree g c =
    rw (c.forget.ensures)
    ((drops-given c.self.inside.slots c.self.inside.frames (known (g.D.PageDisk.log c.args.disk.now)) _ c.args.page c.in-Spilled.ensures.frame (ap known c.in-Ok.ensures.ok ∙ known-give_up (g.D.PageDisk.log c.args.disk.now) c.args.page)).agree (rw (← c.self.view_is) at c.requires.agree))

pub returns-in-Absent-clause-map : goal.returns-in-Absent-clause-map
returns-in-Absent-clause-map g c =
    absurd (not-held c.self.inside.slots c.self.inside.frames c.args.page c.in-Absent.ensures.frame c.in-Absent.ensures.kept (rw (← c.self.view_is) at c.requires.held))

pub returns-in-Resident-clause-pool : goal.returns-in-Resident-clause-pool
returns-in-Resident-clause-pool g c = rw (c.give_number.ensures, c.release.ensures, ← c.self.view_is) (release-goes c.self.inside.slots c.self.inside.frames c.args.page)

pub returns-in-Ok-clause-pool : goal.returns-in-Ok-clause-pool
returns-in-Ok-clause-pool g c = rw (c.forget.ensures, ← c.self.view_is) (given-goes c.self.inside.slots c.self.inside.frames c.args.page c.in-Spilled.ensures.frame)

pub returns-in-Absent-clause-pool : goal.returns-in-Absent-clause-pool
returns-in-Absent-clause-pool g c =
    absurd (not-held c.self.inside.slots c.self.inside.frames c.args.page c.in-Absent.ensures.frame c.in-Absent.ensures.kept (rw (← c.self.view_is) at c.requires.held))

pub returns-in-Ok-clause-disk_after : goal.returns-in-Ok-clause-disk_after
returns-in-Ok-clause-disk_after g c =
    rw (← c.self.view_is, out-of-frames c.self.inside.slots c.self.inside.frames c.args.page c.in-Spilled.ensures.frame) (c.in-Ok.ensures.ok)

pub returns-in-Absent-clause-disk_after : goal.returns-in-Absent-clause-disk_after
returns-in-Absent-clause-disk_after g c =
    absurd (not-held c.self.inside.slots c.self.inside.frames c.args.page c.in-Absent.ensures.frame c.in-Absent.ensures.kept (rw (← c.self.view_is) at c.requires.held))
