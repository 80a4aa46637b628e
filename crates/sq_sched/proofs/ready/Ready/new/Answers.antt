use Rattle.sq_sched.proofs.ChainLemmas.{ready-none}
use Rattle.sq_sched.proofs.ready.Ready.new.Goals as goal

pub invariant_of-result : goal.invariant_of-result
invariant_of-result c = rw (c.loosen.ensures, c.in_ok-chains.ensures, c.from.ensures) (ready-none c.args.actors)
