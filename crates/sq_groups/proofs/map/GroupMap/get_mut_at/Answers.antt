use Rattle.std.proofs.Common.{refl, sym, ap, subst, ◌∙◌}
use Rattle.std.specs.Map.{lookup, set_value}
use Rattle.sq_groups.specs.Ordered.{in_order, is_at, StandsInOrder}
use Rattle.sq_groups.proofs.OrderLemmas.{lookup_in_order, set_in_order, stands_set}
use Rattle.sq_groups.proofs.map.GroupMap.get_mut_at.Goals as goal

pub invariant_of-self-lent : goal.invariant_of-self-lent
invariant_of-self-lent g c =
    let stood = StandsInOrder c.self.inside.sorted in
    λ r. (
      λ w. subst stood (sym (c.get_mut.follows.holds w).0) (stands_set c.args.picked.now w c.self.inside.sorted c.self.inside.held.entries c.self.invariant),
      subst stood (sym (ap (λ m. m.entries) c.get_mut.follows.holds-at-none)) c.self.invariant,
    )

pub returns : goal.returns
returns g c =
    let group = c.args.picked.now in
    let es = c.self.inside.held.entries in (
      (
        refl,
        λ w. ap in_order (c.get_mut.follows.holds w).0 ∙ set_in_order group w es ∙ ap (λ l. set_value (is_at group) l w) c.self.view_is,
        ap (λ m. in_order m.entries) c.get_mut.follows.holds-at-none ∙ c.self.view_is,
      ),
      record { writes_back = tt; value = c.get_mut.ensures.value ∙ sym (lookup_in_order group es) ∙ ap (lookup (is_at group)) c.self.view_is },
    )
