use Rattle.std.proofs.Common.{◌≡◌, drop}
use Rattle.sq_link.specs.ChainLists.{Chained}
use Rattle.sq_sched.proofs.ready.loosen.Given as goal

abbrev pub invariant-loop : goal.invariant-loop
invariant-loop l = ◌≡◌ {A = Chained} l.chains (record l.fn.chains { free = drop l.counter l.fn.chains.free })
