use Rattle.std.proofs.Common.{arith, ap, ◌∙◌, ◌≡◌, ◌<◌, ◌≤◌, length, get_or, get_or-set_other}
use Rattle.std.proofs.lemmas.List.{get_or_default}
use Rattle.sq_aggfn.specs.declared.Func.TheVariants as func
use Rattle.sq_aggfn.specs.Parts.{join_part}
use Rattle.sq_aggfn.proofs.PartBounds.{joined_from_places, done_more}
use Rattle.sq_aggfn.proofs.bundle.take_in_plain.Goals as goal

pub loop-i-preserved : goal.loop-i-preserved
loop-i-preserved c =
    let i = c.loop-i.i in
    let fs = c.args.funcs.now in
    let ps = c.args.parts.now in
    let qs = c.args.others.now in
    let rs = c.loop-i.parts in
    let f = get_or fs i func.Count in
    let p = c.index-parts-i.result in
    let q = c.index-others-i.result in
    let hi : i < length rs = omega arith in
    let hb : i < length qs = omega arith in
    record {
      done = done_more fs ps qs rs i c.join_copy.new.a hi
          (λ d. c.join_copy.ensures ∙ ap (λ a. join_part f a q) (c.loop-i.invariant.left i p (omega arith) ∙ get_or_default ps i p d (omega arith))
          ∙ ap (join_part f (get_or ps i d)) (c.index-others-i.is ∙ get_or_default qs i q d hb))
          c.loop-i.invariant.done;
      left = λ k d le. get_or-set_other rs i k c.join_copy.new.a d (λ e. absurd (omega (arith, le, e))) ∙ c.loop-i.invariant.left k d (omega (arith, le));
    }

pub returns : goal.returns
returns c =
    let fs = c.args.funcs.now in
    let long : length c.loop-i.parts ≡ length fs = omega arith in
    let far : length fs ≤ c.loop-i.i = omega arith in
    joined_from_places fs c.args.parts.now c.args.others.now c.loop-i.parts c.requires.lengths.0 c.requires.lengths.1 long
    (λ k d lt. c.loop-i.invariant.done k d (omega (arith, lt, far)))
