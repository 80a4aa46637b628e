use Rattle.std.proofs.Common.{◌≡◌, ◌∙◌, ◌+◌, true, suc, drop, get_or, refl, sym, subst, arith}
use Rattle.std.proofs.lemmas.Option.{slice_get_read, slice_get-get_or}
use Rattle.sq_value.specs.declared.Kind.TheVariants.{Int}
use Rattle.sq_value.specs.Values.{kinds_fit, is_of_kind}
use Rattle.sq_flow.proofs.TakeLemmas.{kinds_step}
use Rattle.sq_flow.proofs.taking.kinds_fit.Goals as goal

pub loop-at-preserved : goal.loop-at-preserved
loop-at-preserved c =
    let next : suc c.loop-at.at ≡ c.loop-at.at + 1 = omega arith in
    let low = c.loop-at-test.true in
    let many = c.if-values-kinds.false in
    let kind = slice_get-get_or c.args.kinds.now c.loop-at.at Int low in
    let value = slice_get_read c.args.values.now _ c.loop-at.at c.index-values-at.result refl (omega (arith, low, many)) c.index-values-at.is in
    let fits : is_of_kind (get_or c.args.kinds.now c.loop-at.at Int) c.index-values-at.result ≡ true = sym c.is_of.ensures ∙ c.if-not-is_of.false in
    subst (λ n. kinds_fit (drop n c.args.kinds.now) (drop n c.args.values.now) ≡ kinds_fit c.args.kinds.now c.args.values.now) next
    (kinds_step c.args.kinds.now c.args.values.now c.loop-at.at _ c.index-values-at.result kind value fits ∙ c.loop-at.invariant)
