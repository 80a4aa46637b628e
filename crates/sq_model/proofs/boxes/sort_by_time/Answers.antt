use Rattle.std.proofs.Common.{rules}
use Rattle.std.proofs.lemmas.List.Sorted.{answers_always}
use Rattle.sq_words.proofs.Sorting.{sorted_is}
use Rattle.sq_model.specs.Unions.{tuple_sooner}
use Rattle.sq_model.proofs.UnionLemmas.{sooner_orders}
use Rattle.sq_model.proofs.boxes.sort_by_time.Goals as goal
use Rattle.sq_words.proofs.Results.{on_ok_map}

pub returns : goal.returns
returns c =
    on_ok_map c.sort_by.result
    (λ up.
    sorted_is tuple_sooner sooner_orders c.args.tuples.now.items c.sort_by.new.self.items
    (up tuple_sooner sooner_orders (answers_always _ _ _ (λ f a r g h. search rules)))
    (c.sort_by.ensures.stable tuple_sooner sooner_orders (answers_always _ _ _ (λ f a r g h. search rules))))
    c.sort_by.ensures.sorted
