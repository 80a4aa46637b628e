use Rattle.std.proofs.Common.{subst, length, sym, ap, ◌∙◌}
use Rattle.std.specs.List.Sorted.{IsStrictlySortedBy}
use Rattle.std.specs.Map.{keys_of}
use Rattle.sq_value.specs.Values.{fields_cmp}
use Rattle.sq_groups.proofs.OrderLemmas.{in_order_sorted, length_in_order}
use Rattle.sq_groups.proofs.map.GroupMap.len.Goals as goal

pub returns : goal.returns
returns g c =
    let es = c.self.inside.held.entries in
    record {
      count = c.len.ensures.len ∙ sym (length_in_order es c.len.ensures.unique) ∙ ap length c.self.view_is;
      ordered = subst (λ es. IsStrictlySortedBy fields_cmp (keys_of es)) c.self.view_is (in_order_sorted es);
    }
