use Rattle.std.proofs.Common.{arith, sym, subst, ◌∙◌, ◌≡◌, ◌<◌, false, length, get_or}
use Rattle.std.proofs.lemmas.List.{get_or_default}
use Rattle.sq_aggfn.specs.declared.Func.TheVariants as func
use Rattle.sq_aggfn.specs.declared.parts.PartialAggregate.{PartialAggregate}
use Rattle.sq_aggfn.specs.Parts.{part_of, takes_text}
use Rattle.sq_aggfn.proofs.PartBounds.{next_place}
use Rattle.sq_aggfn.proofs.bundle.takes_texts_of.Goals as goal

pub loop-i-preserved : goal.loop-i-preserved
loop-i-preserved c =
    let i = c.loop-i.i in
    let fs = c.args.funcs.now in
    let ps = c.args.parts.now in
    let x = c.args.t.now in
    let f = get_or fs i func.Count in
    let p = c.index-parts-i.result in
    let hp : i < length ps = omega arith in
    next_place (λ k d. takes_text (get_or fs k func.Count) (get_or ps k d) (part_of (get_or fs k func.Count) x) ≡ false) i c.loop-i.invariant
    (λ d. subst (λ (q : PartialAggregate). takes_text f q (part_of f x) ≡ false) (c.index-parts-i.is ∙ get_or_default ps i p d hp) (sym c.takes_text_of.ensures ∙ c.if-takes_text_of.false))
