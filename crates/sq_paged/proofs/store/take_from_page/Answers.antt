use Rattle.std.proofs.Common.{refl}
use Rattle.sq_paged.proofs.StoreLemmas.{taken, first-of, fits-begins, next-begins, rebrought}
use Rattle.sq_paged.proofs.store.take_from_page.Goals as goal

pub item_at-requires : goal.item_at-requires
item_at-requires g c =
    let b = rebrought _ _ _ _ c.args.kept.now c.in-Ok.ensures.ok c.page-bytes.result.now c.page-bytes.ensures.value in
    fits-begins c.page-bytes.result.now c.args.kept.now b.fits c.requires.some

pub next_time-time-requires : goal.next_time-time-requires
next_time-time-requires g c two =
    let b = rebrought _ _ _ _ c.args.kept.now c.in-Ok.ensures.ok c.page-bytes.result.now c.page-bytes.ensures.value in
    next-begins c.page-bytes.result.now c.args.kept.now _ b.fits two (λ front item back page is. (c.in-Ok-item_at.ensures.item front item back page is).1)

pub returns-clause-ok : goal.returns-clause-ok
returns-clause-ok g c =
    let b = rebrought _ _ _ _ c.args.kept.now c.in-Ok.ensures.ok c.page-bytes.result.now c.page-bytes.ensures.value in
    taken _ _ _ _ c.args.kept.now _ c.in-Ok-item_at.found.0 c.in-Ok-item_at.found.1 c.next_time-time.result b c.requires.some c.in-Ok-item_at.ensures.item c.next_time-time.ensures refl

pub returns-clause-first : goal.returns-clause-first
returns-clause-first g c =
    let b = rebrought _ _ _ _ c.args.kept.now c.in-Ok.ensures.ok c.page-bytes.result.now c.page-bytes.ensures.value in
    first-of _ _ _ c.args.kept.now _ c.in-Ok-item_at.found.1 c.page-bytes.result.now b.fits c.requires.some (c.in-Ok.ensures.had c.page-bytes.result.now c.page-bytes.ensures.value) c.in-Ok-item_at.ensures.item
