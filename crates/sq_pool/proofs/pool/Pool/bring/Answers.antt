use Rattle.std.proofs.Common.{◌≡◌, ℕ, List, Option, Some, None, sym, ap, ◌∙◌, arith}
use Rattle.sq_words.specs.Lists.{nth}
use Rattle.sq_pool.specs.Trust.{known}
use Rattle.sq_pool.specs.Slots.{without_page}
use Rattle.sq_pool.specs.Pools.{Pooled, filled, CameBack}
use Rattle.sq_pool.proofs.PoolLemmas.{bytes-frame, held-inside, touched, out-of-frames, not-held, length-touched}
use Rattle.sq_pool.proofs.MapLemmas.{keeps-fetched}
use Rattle.sq_pool.proofs.CallLemmas.{keeps-touch, touches}
use Rattle.sq_pool.proofs.pool.Pool.bring.Goals as goal

pub place-requires : goal.place-requires
place-requires g c = held-inside c.self.inside.slots c.self.inside.frames c.args.page c.sound.ensures (rw (← c.self.view_is) at c.requires.held)

pub invariant_of-self : goal.invariant_of-self
invariant_of-self g c =
    rw c.touch.ensures (c.self.invariant.0, c.self.invariant.1 ∙ sym (length-touched c.args.page c.in-Resident.frame c.self.inside.slots.order c.sound.ensures.apart c.in-Resident.ensures.frame), c.self.invariant.2, c.self.invariant.3)

pub fetch-requires-clause-frames : goal.fetch-requires-clause-frames
fetch-requires-clause-frames g c = rw (← c.self.view_is) (omega (arith, c.self.invariant.2))

pub fetch-requires-clause-out : goal.fetch-requires-clause-out
fetch-requires-clause-out g c = rw (← c.self.view_is) (out-of-frames c.self.inside.slots c.self.inside.frames c.args.page c.in-Spilled.ensures.frame)

pub returns-in-Resident-clause-map : goal.returns-in-Resident-clause-map
returns-in-Resident-clause-map g c =
    rw (c.touch.ensures, ← c.self.view_is) (keeps-touch c.self.inside.slots c.self.inside.frames (known (g.D.PageDisk.log c.args.disk.now)) c.args.page c.in-Resident.frame c.in-Resident.ensures.frame)

pub returns-in-Resident-clause-last : goal.returns-in-Resident-clause-last
returns-in-Resident-clause-last g c = (
  without_page c.args.page (filled c.self.inside.frames c.self.inside.slots.order),
  nth c.self.inside.frames c.in-Resident.frame,
  rw c.touch.ensures (ap (λ (x : Pooled). x.resident) (touched c.self.inside.slots c.self.inside.frames c.args.page c.in-Resident.frame)),
)

pub returns-in-Absent-clause-last : goal.returns-in-Absent-clause-last
returns-in-Absent-clause-last g c =
    absurd (not-held c.self.inside.slots c.self.inside.frames c.args.page c.in-Absent.ensures.frame c.in-Absent.ensures.kept (rw (← c.self.view_is) at c.requires.held))

pub returns-in_ok-fetch-in-Spilled-clause-map : goal.returns-in_ok-fetch-in-Spilled-clause-map
returns-in_ok-fetch-in-Spilled-clause-map g c =
    keeps-fetched _ _ _ _ c.args.page c.in-Spilled.kept.0 c.in_ok-fetch-in-Spilled.ensures.ok
    (rw (← c.self.view_is) (out-of-frames c.self.inside.slots c.self.inside.frames c.args.page c.in-Spilled.ensures.frame)) (rw (← c.self.view_is) c.in-Spilled.ensures.kept)

pub returns-in_ok-fetch-in-Spilled-clause-agree : goal.returns-in_ok-fetch-in-Spilled-clause-agree
returns-in_ok-fetch-in-Spilled-clause-agree g c =
    (keeps-fetched _ _ _ _ c.args.page c.in-Spilled.kept.0 c.in_ok-fetch-in-Spilled.ensures.ok
    (rw (← c.self.view_is) (out-of-frames c.self.inside.slots c.self.inside.frames c.args.page c.in-Spilled.ensures.frame)) (rw (← c.self.view_is) c.in-Spilled.ensures.kept)).agree c.requires.agree

pub returns-in-Resident-clause-pool : goal.returns-in-Resident-clause-pool
returns-in-Resident-clause-pool g c =
    rw (c.touch.ensures, ← c.self.view_is) (touches c.self.inside.slots c.self.inside.frames (known (g.D.PageDisk.log c.args.disk.now)) c.args.page c.in-Resident.frame c.in-Resident.ensures.frame)

pub returns-in_ok-fetch-in-Spilled-clause-pool : goal.returns-in_ok-fetch-in-Spilled-clause-pool
returns-in_ok-fetch-in-Spilled-clause-pool g c = CameBack c.in-Spilled.kept.0 (rw (← c.self.view_is) (out-of-frames c.self.inside.slots c.self.inside.frames c.args.page c.in-Spilled.ensures.frame)) (rw (← c.self.view_is) c.in-Spilled.ensures.kept) c.in_ok-fetch-in-Spilled.ensures.ok

pub returns-in-Absent-clause-pool : goal.returns-in-Absent-clause-pool
returns-in-Absent-clause-pool g c =
    absurd (not-held c.self.inside.slots c.self.inside.frames c.args.page c.in-Absent.ensures.frame c.in-Absent.ensures.kept (rw (← c.self.view_is) at c.requires.held))

pub returns-in-Resident-clause-came : goal.returns-in-Resident-clause-came
returns-in-Resident-clause-came g c = λ out. absurd (no_bytes _ (bytes-frame c.self.inside.frames c.self.inside.slots.order c.args.page c.in-Resident.frame c.in-Resident.ensures.frame) (rw (← c.self.view_is) at out))
  where
    no_bytes : {o : Option (List ℕ)} (bytes : List ℕ) → o ≡ Some bytes → o ≡ None → ⊥
    no_bytes {o} bytes some none = let both : Some bytes ≡ None = sym some ∙ none in cc

pub returns-in-Absent-clause-came : goal.returns-in-Absent-clause-came
returns-in-Absent-clause-came g c =
    absurd (not-held c.self.inside.slots c.self.inside.frames c.args.page c.in-Absent.ensures.frame c.in-Absent.ensures.kept (rw (← c.self.view_is) at c.requires.held))
