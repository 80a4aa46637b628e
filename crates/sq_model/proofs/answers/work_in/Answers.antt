use Rattle.std.proofs.Common.{◌∙◌, ◌+◌, ap, ℕ}
use Rattle.std.specs.List.{sum_by}
use Rattle.sq_model.proofs.WorkLemmas.{work_is}
use Rattle.sq_model.proofs.answers.work_in.Goals as goal

pub returns : goal.returns
returns c = λ r known.
    ap (λ x. x + c.total-2.result) (c.total.ensures.sum ∙ ap (sum_by (λ (k : ℕ). k)) c.deref.ensures.value)
    ∙ ap (λ y. sum_by (λ (k : ℕ). k) c.in_ok-kept.kept.items + y) (c.total-2.ensures.sum ∙ ap (sum_by (λ (k : ℕ). k)) c.deref-2.ensures.value)
    ∙ work_is c.args.known.now r known c.in_ok-kept.kept.items c.in_ok-given.given.items (c.in_ok-kept.ensures.kept r known) c.in_ok-given.ensures
