use Rattle.std.proofs.Common.{arith}
use Rattle.std.proofs.lemmas.Result.{on_ok_weaker}
use Rattle.sq_running.specs.Running.{IsSum}
use Rattle.sq_running.proofs.SumLemmas.{as-many}
use Rattle.sq_running.proofs.running.with_first.Goals as goal

pub returns-clause-first : goal.returns-clause-first
returns-clause-first g c =
    let f = c.args.fold.now in
    let sum = IsSum (g.F.Fold.joined f) (g.F.Fold.unit f) (g.F.Fold.none f) (g.F.Fold.made f) (g.F.Fold.number f) in
    let some = c.requires.some in
    on_ok_weaker c.renew.result (λ each. let n = as-many sum c.args.held.now.tuples.items c.renew.new.held.heads.items each in omega (arith, n, some)) c.renew.ensures.heads
