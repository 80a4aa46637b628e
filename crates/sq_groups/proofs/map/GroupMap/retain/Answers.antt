use Rattle.std.proofs.Common.{refl, sym, ◌∙◌}
use Rattle.sq_groups.proofs.OrderLemmas.{kept_stands}
use Rattle.sq_groups.proofs.map.GroupMap.retain.Goals as goal

pub retain-requires : goal.retain-requires
retain-requires g c = record { at = λ before after f k v e run. c.requires f k v }

pub invariant_of-self : goal.invariant_of-self
invariant_of-self g c = λ so. kept_stands _ _ c.sort_held-self-inside.new.held.entries c.retain.new.self.entries (c.sort_held-self-inside.ensures.order c.self.invariant so) c.retain.ensures.filtered

pub returns : goal.returns
returns g c =
    record {
      kept =
          (c.sort_held-self-inside.new.held.entries, c.retain.new.self.entries, sym c.self.view_is ∙ sym c.sort_held-self-inside.ensures.same, refl, c.len-count.ensures.unique, c.retain.ensures.filtered);
    }
