use Rattle.std.proofs.Common.{◌+◌, ap, arith}
use Rattle.sq_paged.proofs.StoreLemmas.{appended, fits-few}
use Rattle.sq_paged.proofs.store.append_to_page.Goals as goal

pub overflow_add-result : goal.overflow_add-result
overflow_add-result g c = record { fits = omega (arith, fits-few _ _ _ _ c.in-Ok.ensures.ok.fits) }

pub returns-clause-ok : goal.returns-clause-ok
returns-clause-ok g c =
    let w = c.append_item-end.ensures.pool in
    appended _ _ _ _ _ c.args.kept.now _ c.args.item.now w.0 c.in-Ok.ensures.ok w.1 w.2 (ap (λ n. record c.args.kept.now { count = c.args.kept.now.count + 1; end = n }) c.append_item-end.ensures.end)
