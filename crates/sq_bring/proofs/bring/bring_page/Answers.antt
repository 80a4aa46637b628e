use Rattle.std.proofs.Common.{sym}
use Rattle.sq_bring.proofs.BringLemmas.{brought-there, brought-back, told-fits, were-there}
use Rattle.sq_bring.proofs.CauseLemmas.{if-err, none-by, pool-cause, pool-fits, told-fits-all, misfit-cause, were-back}
use Rattle.sq_bring.proofs.bring.bring_page.Goals as goal
use Rattle.sq_words.proofs.Results.{OnOk_weaker}

pub returns-then-there-clause-ok : goal.returns-then-there-clause-ok
returns-then-there-clause-ok g c =
    brought-there _ _ _ _ c.args.kept.now c.in-Ok.ensures.pool c.in-Ok.ensures.map c.bring.ensures.later.known c.in-Ok.ensures.agree c.in-Ok.ensures.frames c.requires.fits c.requires.held (sym c.if-there.ensures)

pub returns-clause-ok : goal.returns-clause-ok
returns-clause-ok g c =
    OnOk_weaker c.test_page.result
    (brought-back _ _ _ _ c.args.kept.now c.in-Ok.ensures.pool c.in-Ok.ensures.map c.bring.ensures.later.known c.in-Ok.ensures.agree c.in-Ok.ensures.frames c.requires.held c.page.result.now c.page.ensures.value)
    c.test_page.ensures.ok

pub returns-then-there-clause-had : goal.returns-then-there-clause-had
returns-then-there-clause-had g c = λ bytes e.
    were-there _ _ _ _ (g.D.PageDisk.log c.args.disk.now) (g.D.PageDisk.log c.bring.new.disk) c.args.kept.now.page bytes c.in-Ok.ensures.pool (sym c.if-there.ensures) e

pub returns-clause-had : goal.returns-clause-had
returns-clause-had g c =
    let back = c.in-Ok.ensures.came (none-by _ c.if-there.ensures) in
    OnOk_weaker c.test_page.result (λ fits bytes e. were-back c.args.pool.now c.bring.new.self _ _ c.args.kept.now.page bytes back e) c.test_page.ensures.ok

pub returns-in-Err-clause-cause : goal.returns-in-Err-clause-cause
returns-in-Err-clause-cause g c = rw c.failed.ensures (pool-cause c.args.pool.now c.bring.new.self _ _ c.args.kept.now c.in-Err.e c.in-Err.ensures.garbled)

pub returns-in-Err-clause-misfit : goal.returns-in-Err-clause-misfit
returns-in-Err-clause-misfit g c = λ tells. rw c.failed.ensures (pool-fits c.in-Err.e)

pub returns-clause-cause : goal.returns-clause-cause
returns-clause-cause g c =
    let out = none-by _ c.if-there.ensures in
    if-err c.test_page.result (λ e. misfit-cause c.args.pool.now c.bring.new.self _ _ c.args.kept.now c.page.result.now e out (c.in-Ok.ensures.came out) c.page.ensures.value) c.test_page.ensures.cause

pub returns-clause-misfit : goal.returns-clause-misfit
returns-clause-misfit g c =
    if-err c.test_page.result (λ e told tells. told-fits-all e (told (told-fits _ _ _ _ c.args.kept.now c.in-Ok.ensures.map c.bring.ensures.later.known c.requires.fits c.page.result.now c.page.ensures.value tells))) c.test_page.ensures.told
