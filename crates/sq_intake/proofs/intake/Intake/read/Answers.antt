use Rattle.std.proofs.Common.{◌≡◌, ◌<◌, ◌++◌, length, drop, subst, arith}
use Rattle.std.proofs.lemmas.Bool.Decides.{nat_tests}
use Rattle.sq_lines.specs.Classes.{last_piece}
use Rattle.sq_replay.specs.FileLines.{pieces_of}
use Rattle.sq_intake.proofs.IntakeLemmas.{all_passed, read_halts, same_last, shorter}
use Rattle.sq_intake.specs.Intakes.{IsHaltedBy}
use Rattle.sq_intake.proofs.intake.Intake.read.Goals as goal

pub returns-in-Ok-clause-all : goal.returns-in-Ok-clause-all
returns-in-Ok-clause-all c all =
    let s = c.self.inside in
    let same : c.in-Ok.at ≡ length s.lines.items = grind (arith, nat_tests, all, c.len.ensures) in
    subst (λ now. drop c.in-Ok.at s.lines.items ++ s.kept.items ≡ last_piece (pieces_of now.text)) c.self.view_is
    (all_passed s.lines.items s.kept.items s.at c.in-Ok.at c.self.invariant same)

pub returns-in-Ok-clause-last : goal.returns-in-Ok-clause-last
returns-in-Ok-clause-last c =
    let s = c.self.inside in
    subst (λ now. last_piece (pieces_of (drop c.in-Ok.at s.lines.items ++ s.kept.items)) ≡ last_piece (pieces_of now.text)) c.self.view_is
    (same_last s.lines.items s.kept.items s.at c.in-Ok.at c.self.invariant)

pub returns-in-Err-clause-halts : goal.returns-in-Err-clause-halts
returns-in-Err-clause-halts c =
    let s = c.self.inside in
    let bad = rw (c.deref.ensures.value, c.deref-2.ensures.value) at c.in-Err.ensures.bad in
    subst (λ now. IsHaltedBy c.in-Err.e now c.args.tuples.now.items c.read_lines.new.tuples.items) c.self.view_is
    (read_halts c.in-Err.e s.kinds.items s.latest s.passed s.lines.items s.kept.items s.at c.args.tuples.now.items c.read_lines.new.tuples.items bad)

pub returns-in-Ok-clause-less : goal.returns-in-Ok-clause-less
returns-in-Ok-clause-less c left few =
    let s = c.self.inside in
    let within = rw c.deref-2.ensures.value at c.in-Ok.ensures.within in
    let further = rw c.deref-2.ensures.value at c.in-Ok.ensures.further in
    let some : c.in-Ok.at < length s.lines.items = grind (arith, nat_tests, left, c.len.ensures, within) in
    subst (λ now. length (drop c.in-Ok.at s.lines.items ++ s.kept.items) < length now.text) c.self.view_is
    (shorter s.lines.items s.kept.items s.at c.in-Ok.at (further few some) within)
