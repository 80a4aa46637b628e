use Rattle.std.proofs.Common.{rules, arith}
use Rattle.std.proofs.lemmas.List.Sorted.{answers_always}
use Rattle.std.proofs.lemmas.Bool.Decides.{nat_tests}
use Rattle.std.specs.Cmp.{IsStrictWeakOrder}
use Rattle.sq_lists.specs.Merge.{tuple_earlier}
use Rattle.sq_words.proofs.Sorting.{sorted_is}
use Rattle.sq_lists.proofs.merges.sort_pairs.Goals as goal
use Rattle.sq_words.proofs.Results.{on_ok_map}

earlier_orders : IsStrictWeakOrder tuple_earlier
earlier_orders = record {
  one_way = λ x y h. grind (arith, nat_tests);
  chain = λ x y z p q. grind (arith, nat_tests);
}

pub returns : goal.returns
returns c =
    on_ok_map c.sort_by.result
    (λ up.
    sorted_is tuple_earlier earlier_orders c.args.pairs.now.items c.sort_by.new.self.items
    (up tuple_earlier earlier_orders (answers_always _ _ _ (λ f a r g h. search rules)))
    (c.sort_by.ensures.stable tuple_earlier earlier_orders (answers_always _ _ _ (λ f a r g h. search rules))))
    c.sort_by.ensures.sorted
