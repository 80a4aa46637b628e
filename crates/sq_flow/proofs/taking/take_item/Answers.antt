use Rattle.std.proofs.Common.{◌≡◌, true, false, refl, ap, sym, ◌∙◌, inl, inr}
use Rattle.std.proofs.lemmas.Result.{err_from_is_err_and}
use Rattle.sq_queue.specs.Faces.{face}
use Rattle.sq_flow.proofs.CauseLemmas.{cause-of, told-of, counts-none}
use Rattle.sq_flow.proofs.SendLemmas.{at_or_other}
use Rattle.sq_flow.proofs.taking.take_item.Goals as goal

pub returns-in_err-item-clause-err : goal.returns-in_err-item-clause-err
returns-in_err-item-clause-err g c =
    let p = err_from_is_err_and c.from_residual.result c.from_residual.ensures.1 in
    let told = c.in_err-item.ensures in
    let cause = cause-of c.args.queues.now c.pop.new.self c.args.arc _ _ _ _ _ told.disk told.cause in
    rw (p.1, p.2)
    (record {
      cause = inl cause;
      honest = λ known front. told-of _ _ told.honest (told.misfit known);
      counts = counts-none c.pop.new.self _ _ _ _ _ cause;
    })

no_way : true ≡ false → ⊥
no_way e = cc

pub returns-then-not-may_be_fed-clause-err : goal.returns-then-not-may_be_fed-clause-err
returns-then-not-may_be_fed-clause-err g c =
    let told = c.in_ok-item.ensures in
    record {
      cause =
          inr (
            c.in_ok-item.item,
            refl,
            record { popped = told.face; others = told.faces; first = told.first; items = told.items },
            λ may. no_way (sym (c.may_be_fed.ensures.no may) ∙ c.if-not-may_be_fed.true),
          );
      honest = λ known front. absurd (no_way (sym (c.may_be_fed.ensures.no (front c.in_ok-item.item _ (told.items known))) ∙ c.if-not-may_be_fed.true));
      counts = λ same. cc same;
    }

pub returns-clause-ok : goal.returns-clause-ok
returns-clause-ok g c =
    let told = c.in_ok-item.ensures in
    record {
      sound = told.sound;
      may_be_fed = c.may_be_fed.ensures.yes c.if-not-may_be_fed.false;
      taken = record { popped = told.face; others = told.faces; first = told.first; items = told.items };
      ended = at_or_other (λ other. (face c.pop.new.self other).ended ≡ (face c.args.queues.now other).ended) c.args.arc told.face.ended (λ other ne. ap (λ f. f.ended) (told.faces other ne));
      others = told.others;
      together = told.together;
      framed = told.frames;
    }
