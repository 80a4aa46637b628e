use Rattle.std.proofs.Common.{◌≡◌, ◌≢◌, ◌||◌, false, ap, sym, ◌∙◌, arith}
use Rattle.std.specs.Prelude.{◌==◌}
use borrow.Author.Count.{below_more}
use Rattle.sq_paged.specs.Fronts.{Face}
use Rattle.sq_queue.specs.Faces.{face}
use Rattle.sq_flow.specs.Wiring.{from_of}
use Rattle.sq_flow.specs.Sends.{is_sent_by}
use Rattle.sq_flow.proofs.SendLemmas.{at_or_other, keeps-both}
use Rattle.sq_flow.proofs.flow.end_arcs.Goals as goal

pub loop-arc-preserved : goal.loop-arc-preserved
loop-arc-preserved c =
    let i = c.loop-arc.arc in
    let inv = c.loop-arc.invariant in
    let told = c.end_if.ensures in
    let from = sym (ap from_of c.arc.ensures) in
    record {
      keeps = keeps-both _ _ _ inv.keeps told.keeps;
      ended = below_more _ i
          (λ arc h. let ne : arc ≢ i = omega (arith, h) in ap (λ (f : Face). f.ended) (told.others arc ne) ∙ inv.ended arc h)
          (told.ended ∙ ap (λ b. b || (c.arc.result.now.from == c.args.seat)) (inv.later i (omega arith)) ∙ ap (λ n. (face c.args.queues.now i).ended || (n == c.args.seat)) from);
      later = λ arc h. let ne : arc ≢ i = omega (arith, h) in ap (λ (f : Face). f.ended) (told.others arc ne) ∙ inv.later arc (omega (arith, h));
      apart = at_or_other (λ arc. is_sent_by c.args.wires.now c.args.seat arc ≡ false → face c.end_if.new.queues arc ≡ face c.args.queues.now arc) i
          (λ away. told.none (ap (λ n. n == c.args.seat) from ∙ away) ∙ inv.apart i away)
          (λ arc ne away. told.others arc ne ∙ inv.apart arc away);
    }
