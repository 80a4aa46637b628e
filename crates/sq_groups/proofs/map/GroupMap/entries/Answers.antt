use Rattle.std.proofs.Common.{ap, subst, ◌∙◌}
use Rattle.std.specs.List.Sorted.{IsStrictlySortedBy}
use Rattle.std.specs.Map.{keys_of}
use Rattle.sq_words.specs.Lists.{sort_by}
use Rattle.sq_value.specs.Values.{fields_cmp}
use Rattle.sq_groups.specs.Ordered.{group_earlier}
use Rattle.sq_groups.proofs.OrderLemmas.{in_order_sorted, sorted_in_order}
use Rattle.sq_groups.proofs.map.GroupMap.entries.Goals as goal

pub returns-clause-entries : goal.returns-clause-entries
returns-clause-entries g c =
    let es = c.self.inside.held.entries in
    c.in_ok-sort_entries.ensures ∙ ap (sort_by group_earlier) c.in_ok-entries.ensures.entries ∙ sorted_in_order es c.in_ok-entries.ensures.apart ∙ c.self.view_is

pub returns-clause-ordered : goal.returns-clause-ordered
returns-clause-ordered g c = subst (λ es. IsStrictlySortedBy fields_cmp (keys_of es)) c.self.view_is (in_order_sorted c.self.inside.held.entries)

pub returns-then-self-clause-ordered : goal.returns-then-self-clause-ordered
returns-then-self-clause-ordered g c = subst (λ es. IsStrictlySortedBy fields_cmp (keys_of es)) c.self.view_is (in_order_sorted c.self.inside.held.entries)
