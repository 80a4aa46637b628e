use Rattle.std.proofs.Common.{arith, ◌≡◌, ◌+◌, ◌≤◌, length}
use Rattle.sq_aggfn.specs.Parts.{IsPart}
use Rattle.sq_aggfn.proofs.PartBounds.{added_from_places, all_from_places}
use Rattle.sq_aggfn.proofs.bundle.add_plain.Goals as goal

pub returns-clause-value : goal.returns-clause-value
returns-clause-value c =
    let fs = c.args.funcs.now in
    let long : length c.loop-i.parts ≡ length fs = omega arith in
    let far : length fs ≤ c.loop-i.i = omega arith in
    added_from_places fs c.args.t.now c.args.parts.now c.loop-i.parts c.requires.lengths long
    (λ k d lt. c.loop-i.invariant.done k d (omega (arith, lt, far)))

pub returns-clause-sound : goal.returns-clause-sound
returns-clause-sound c =
    let fs = c.args.funcs.now in
    let long : length c.loop-i.parts ≡ length fs = omega arith in
    let far : length fs ≤ c.loop-i.i = omega arith in
    all_from_places (IsPart (c.args._number + 1)) c.loop-i.parts
    (λ k d lt. c.loop-i.invariant.sound k d (omega (arith, lt, far, long)))
