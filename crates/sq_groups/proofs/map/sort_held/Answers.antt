use Rattle.std.proofs.Common.{ap, sym, ◌∙◌, rules}
use Rattle.std.proofs.lemmas.List.Sorted.{answers_always}
use Rattle.sq_groups.specs.Ordered.{group_earlier, in_order}
use Rattle.sq_groups.proofs.OrderLemmas.{groups_order, held_sorted, in_order_again}
use Rattle.sq_groups.proofs.map.sort_held.Goals as goal

pub returns-in-Ok-clause-same : goal.returns-in-Ok-clause-same
returns-in-Ok-clause-same g c =
    let es = c.args.held.now.entries in
    let sorted = held_sorted es c.sort_by.new.self.entries c.len-count.ensures.unique
    (c.in-Ok.ensures.sorted group_earlier groups_order (answers_always _ _ _ (λ f a r g h. search rules)))
    (c.in-Ok.ensures.stable group_earlier groups_order (answers_always _ _ _ (λ f a r g h. search rules))) in
    ap in_order sorted ∙ in_order_again es

pub returns-in-Ok-clause-order : goal.returns-in-Ok-clause-order
returns-in-Ok-clause-order g c =
    let es = c.args.held.now.entries in
    let sorted = held_sorted es c.sort_by.new.self.entries c.len-count.ensures.unique
    (c.in-Ok.ensures.sorted group_earlier groups_order (answers_always _ _ _ (λ f a r g h. search rules)))
    (c.in-Ok.ensures.stable group_earlier groups_order (answers_always _ _ _ (λ f a r g h. search rules))) in
    λ stood so. ap in_order sorted ∙ in_order_again es ∙ sym sorted
