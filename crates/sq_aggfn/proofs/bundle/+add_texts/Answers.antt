use Rattle.std.proofs.Common.{rules, sym, subst, ◌+◌}
use Rattle.sq_aggfn.specs.Parts.{IsPart}
use Rattle.sq_aggfn.proofs.PartBounds.{join_bound}
use Rattle.sq_aggfn.proofs.bundle.+add_texts.Goals as goal

pub returns-in_ok-add_texts-in-len1-up-clause-sound : goal.returns-in_ok-add_texts-in-len1-up-clause-sound
returns-in_ok-add_texts-in-len1-up-clause-sound t c =
    let n = c.args._number in
    let first : IsPart n c.in-Some.part.now = search rules in
    (subst (IsPart (n + 1)) (sym c.join_to.ensures) (join_bound _ n 1 c.in-Some.part.now c.in_ok-one-in-len1-up.one first c.in_ok-one-in-len1-up.ensures.sound), c.in_ok-add_texts-in-len1-up.ensures.sound)
