use Rattle.std.proofs.Common.{rules}
use Rattle.std.proofs.lemmas.List.Sorted.{answers_always}
use Rattle.sq_words.proofs.Results.{OnOk_weaker}
use Rattle.sq_groups.proofs.OrderLemmas.{shown_earlier, shown_orders, shown_sorted}
use Rattle.sq_groups.proofs.map.sort_entries.Goals as goal

pub returns : goal.returns
returns g c =
    OnOk_weaker c.sort_by.result
    (λ up.
    shown_sorted c.args.entries.now.items c.sort_by.new.self.items
    (up shown_earlier shown_orders (answers_always _ _ _ (λ f a r g h. search rules)))
    (c.sort_by.ensures.stable shown_earlier shown_orders (answers_always _ _ _ (λ f a r g h. search rules))))
    c.sort_by.ensures.sorted
