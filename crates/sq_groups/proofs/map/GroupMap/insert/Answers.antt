use Rattle.std.proofs.Common.{sym, ap, ◌∙◌}
use Rattle.std.specs.BTreeMap.{insert_entry}
use Rattle.std.specs.Map.{lookup}
use Rattle.sq_value.specs.Values.{fields_cmp}
use Rattle.sq_groups.specs.Ordered.{in_order, is_at}
use Rattle.sq_groups.proofs.OrderLemmas.{lookup_in_order, put_in_order}
use Rattle.sq_groups.proofs.map.GroupMap.insert.Goals as goal

pub returns-clause-entries : goal.returns-clause-entries
returns-clause-entries g c =
    let key = c.args.key in
    let es = c.self.inside.held.entries in
    ap in_order c.in_ok-insert.ensures.entries
    ∙ put_in_order key c.args.value es (sym (lookup_in_order key es) ∙ ap (lookup (is_at key)) c.self.view_is ∙ c.requires)
    ∙ ap (λ l. insert_entry fields_cmp l key c.args.value) c.self.view_is
