use Rattle.std.proofs.Common.{◌∙◌, ap, sym, subst, map, length}
use Rattle.sq_verdict.specs.Faults.{class_fault, output_told_in}
use Rattle.sq_verdict.specs.Wanting.{shown_of}
use Rattle.sq_verdict.specs.Walking.{IsMost}
use Rattle.sq_verdict.proofs.WalkLemmas.{after_step, unended_fault}
use Rattle.sq_verdict.proofs.walking.step.Goals as goal

pub returns-clause-fault : goal.returns-clause-fault
returns-clause-fault c =
    λ record_at before hold h.
    let line = c.args.line.now in
    let most = c.args.walk.now.most.items in
    let shown = shown_of record_at (map (λ t. t.items) c.args.streams.now) c.args.outputs.now in
    c.in_ok-fault.ensures.fault record_at before hold (subst (λ k. IsMost k most before) (sym c.requires.most) h.most_is) h.places_are
    ∙ ap (λ k. class_fault k before line (output_told_in shown line)) c.requires.most
    ∙ unended_fault shown (length c.args.sets.now) before line (h.any ∙ c.if-walk.false)

pub returns-clause-after : goal.returns-clause-after
returns-clause-after c =
    λ none record_at before hold h.
    after_step record_at _ _ _ _ _ _ _ _ _ before c.args.line.now h c.if-walk.false c.is_end-walk.ensures
    (c.note_drop.ensures.most (length c.args.sets.now) before c.args.line.now c.in_ok-found.ensures.found h.most_is) (c.in_ok-fault.ensures.places none record_at before hold h.places_are)
