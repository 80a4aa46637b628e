use Rattle.std.proofs.Common.{◌++◌, sym, ap, ◌∙◌}
use Rattle.std.proofs.lemmas.List.{drop_all}
use Rattle.sq_lists.specs.Sorting.{retimed}
use Rattle.sq_lists.specs.Sorters.{sort_run}
use Rattle.sq_lists.proofs.SorterLemmas.{sorter-list}
use Rattle.sq_lists.proofs.sorts.bsort_list.Goals as goal

pub returns : goal.returns
returns c =
    c.in_ok-take_all.ensures
    ∙ ap (λ l. c.loop-x.out.items ++ sort_run c.loop-x.sorter (retimed c.args.by l)) (sym (drop_all c.loop-x.x-index c.args.tuples.now c.loop-x-test.false))
    ∙ sym c.loop-x.invariant.given
    ∙ sorter-list c.args.slack (retimed c.args.by c.args.tuples.now)
