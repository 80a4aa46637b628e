use Rattle.std.proofs.Common.{◌∙◌, ◌<◌, ◌^◌, IfSome, subst, sym}
use Rattle.sq_lines.specs.Classes.{whole_lines}
use Rattle.sq_verdict.proofs.SetLemmas.{hold_all, hold_more, hold_same}
use Rattle.sq_verdict.proofs.recording.recorded_in.Goals as goal

pub loop-line-preserved-in-Continue-branch-3 : goal.loop-line-preserved-in-Continue-branch-3
loop-line-preserved-in-Continue-branch-3 c =
    let drops = c.args.drops in
    let sets = c.loop-line.sets.items in
    let w = c.in-Some-found.w in
    let known = subst (λ o. IfSome o (λ d. (d.0 < drops) × (d.1 < 2 ^ 40))) c.in-Some-found.is c.in_ok-found.ensures.inside in
    record {
      many = c.note.ensures.length ∙ c.loop-line.invariant.many;
      held = hold_more drops sets c.note.new.sets.items c.in-Some.line.now (whole_lines c.in-Some.rest.now) (whole_lines c.loop-line.left.now) (whole_lines c.args.text.now)
          c.in-Some.ensures.parts.whole c.loop-line.invariant.held w c.in-Some-found.b (sym c.in_ok-found.ensures.found ∙ c.in-Some-found.is)
          (subst (λ k. w < k) (sym c.loop-line.invariant.many) known.0) c.in_ok-note.ensures.hit c.in_ok-note.ensures.miss;
    }

pub loop-line-preserved : goal.loop-line-preserved
loop-line-preserved c =
    let sets = c.loop-line.sets.items in
    record {
      many = c.loop-line.invariant.many;
      held = hold_same c.args.drops sets sets c.in-Some.line.now (whole_lines c.in-Some.rest.now) (whole_lines c.loop-line.left.now) (whole_lines c.args.text.now)
          c.in-Some.ensures.parts.whole c.loop-line.invariant.held (sym c.in_ok-found.ensures.found ∙ c.in_default-found.is);
    }

pub returns-clause-record : goal.returns-clause-record
returns-clause-record c =
    hold_all c.args.drops c.loop-line.sets.items (whole_lines c.loop-line.left.now) (whole_lines c.args.text.now) c.in_default.ensures.parts.whole c.loop-line.invariant.held
