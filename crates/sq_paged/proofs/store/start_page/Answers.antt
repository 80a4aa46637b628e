use Rattle.std.proofs.Common.{◌∙◌, refl, sym}
use Rattle.sq_paged.proofs.StoreLemmas.{started, made-there, zeros-end}
use Rattle.sq_paged.proofs.store.start_page.Goals as goal

pub append_item-end-requires-clause-page : goal.append_item-end-requires-clause-page
append_item-end-requires-clause-page g c bytes e = zeros-end bytes (sym (made-there _ _ _ _ _ c.in-Ok.ensures.pool) ∙ e)

pub returns-clause-ok : goal.returns-clause-ok
returns-clause-ok g c =
    let w = c.append_item-end.ensures.pool in
    started _ _ _ _ _ _ c.args.item.now w.0 c.append_item-end.result c.make.ensures.later.known c.in-Ok.ensures.pool c.in-Ok.ensures.map c.in-Ok.ensures.agree c.in-Ok.ensures.frames w.1 w.2 c.append_item-end.ensures.end refl
