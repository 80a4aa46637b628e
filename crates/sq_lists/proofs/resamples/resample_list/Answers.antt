use Rattle.std.proofs.Common.{◌≡◌, List, IfOk, ◌∙◌, subst}
use Rattle.sq_aggfn.specs.declared.Func.{Func}
use Rattle.sq_lists.specs.Resamples.{resample_list_of}
use Rattle.sq_lists.proofs.resamples.resample_list.Goals as goal

pub returns : goal.returns
returns c =
    let same : c.in_ok-to_vec.field-0.items ≡ c.args.funcs.now = c.in_ok-to_vec.ensures.items_if_clones_equal (λ x y h. h) in
    subst (λ (fs : List Func). IfOk c.resample.result (λ out. out.items ≡ resample_list_of fs c.args.size c.args.left.now c.args.right.now)) (c.new-bundle.ensures ∙ same) c.resample.ensures
