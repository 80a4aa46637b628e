use Rattle.std.proofs.Common.{arith}
use Rattle.sq_oper.specs.Order.{time_of}
use Rattle.sq_plain.proofs.SortLemmas.{late-adds-up, late-so-far, held-few}
use Rattle.sq_plain.proofs.bsort.BSortBox.late.Goals as goal

pub returns-clause-adds_up : goal.returns-clause-adds_up
returns-clause-adds_up c = λ table future.
    let b = c.args.self.now in
    late-adds-up b.by b.tally.taken _ b.sorter future (omega (arith, c.given.ensures, c.len.ensures, c.requires.2))

pub returns-clause-so_far : goal.returns-clause-so_far
returns-clause-so_far c = λ future.
    let b = c.args.self.now in
    late-so-far b.by b.tally.taken _ b.sorter future (omega (arith, c.given.ensures, c.len.ensures, c.requires.2))

pub returns-clause-held : goal.returns-clause-held
returns-clause-held c = λ time things no-more.
    let b = c.args.self.now in
    omega (arith, no-more, held-few b.tally.running (time_of b.tally.place) b.tally.taken b.sorter c.requires.0 c.requires.1)
