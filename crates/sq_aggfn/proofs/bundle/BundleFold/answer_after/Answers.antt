use Rattle.std.proofs.Common.{rules, ◌≡◌, ◌+◌, ◌++◌, length, length-append, ap, ◌∙◌}
use Rattle.sq_aggfn.specs.Parts.{answer_kept}
use Rattle.sq_aggfn.proofs.PartBounds.{answer_width}
use Rattle.sq_aggfn.proofs.bundle.BundleFold.answer_after.Goals as goal

pub returns-clause-width : goal.returns-clause-width
returns-clause-width c =
    let front = c.args.front.now in
    let fs = c.args.self.now in
    let s = c.args.s.now in
    let value : c.new.result ≡ front ++ answer_kept fs s = search rules in
    ap length value ∙ length-append front (answer_kept fs s) ∙ ap (λ n. length front + n) (answer_width fs s.number s.parts c.requires.all)
