use Rattle.std.proofs.Common.{ap, ◌∙◌, arith}
use Rattle.sq_pool.specs.Trust.{known}
use Rattle.sq_pool.specs.Pools.{Pooled, bytes_in}
use Rattle.sq_pool.proofs.PoolLemmas.{is-some}
use Rattle.sq_pool.proofs.MapLemmas.{started, numbered-frames, room-out, room-length, loaded-bytes}
use Rattle.sq_pool.proofs.CallLemmas.{made-by, made-makes, made-last}
use Rattle.sq_pool.proofs.pool.Pool.make.Goals as goal

pub open_frame-requires-clause-out : goal.open_frame-requires-clause-out
open_frame-requires-clause-out g c =
    room-out _ _ _ _ c.in_ok-page.page c.in_ok-make_room.ensures.ok (started c.args.self.now (known (g.D.PageDisk.log c.args.disk.now)) c.new_number.new.self c.in_ok-page.page c.in_ok-page.ensures.numbers c.in_ok-page.ensures.out c.in_ok-page.ensures.gone).out

pub page_mut-requires : goal.page_mut-requires
page_mut-requires g c =
    let out = room-out _ _ _ _ c.in_ok-page.page c.in_ok-make_room.ensures.ok (started c.args.self.now (known (g.D.PageDisk.log c.args.disk.now)) c.new_number.new.self c.in_ok-page.page c.in_ok-page.ensures.numbers c.in_ok-page.ensures.out c.in_ok-page.ensures.gone).out in
    is-some _ c.open_frame.ensures.0 (ap (λ (x : Pooled). bytes_in c.in_ok-page.page x.resident) c.open_frame.ensures.1 ∙ loaded-bytes c.make_room.new.self c.in_ok-page.page c.open_frame.ensures.0 out)

pub returns-clause-pool : goal.returns-clause-pool
returns-clause-pool g c =
    made-by c.args.self.now (known (g.D.PageDisk.log c.args.disk.now)) c.new_number.new.self c.in_ok-page.page c.make_room.new.self (known (g.D.PageDisk.log c.make_room.new.disk)) c.open_frame.new.self c.open_frame.ensures.0 c.clear.new.bytes
    c.in_ok-page.ensures.numbers c.in_ok-page.ensures.out c.in_ok-page.ensures.gone c.in_ok-make_room.ensures.ok c.open_frame.ensures.1 c.clear.ensures

pub returns-clause-map : goal.returns-clause-map
returns-clause-map g c = made-makes _ _ _ _ c.in_ok-page.page (returns-clause-pool g c)

pub returns-clause-last : goal.returns-clause-last
returns-clause-last g c = made-last _ _ _ _ c.in_ok-page.page (returns-clause-pool g c)

pub returns-clause-agree : goal.returns-clause-agree
returns-clause-agree g c = (made-makes _ _ _ _ c.in_ok-page.page (returns-clause-pool g c)).agree c.requires.agree

pub make_room-requires : goal.make_room-requires
make_room-requires g c = numbered-frames _ _ c.in_ok-page.ensures.numbers (rw (← c.self.view_is) (omega (arith, c.self.invariant.2)))

pub open_frame-requires-clause-page : goal.open_frame-requires-clause-page
open_frame-requires-clause-page g c = omega (arith, c.in_ok-page.ensures.page, room-length _ _ _ _ c.in_ok-make_room.ensures.ok)
