use Rattle.std.proofs.Common.{refl, sym, ◌∙◌, arith}
use Rattle.std.proofs.lemmas.List.{length-map}
use Rattle.sq_pool.specs.declared.slots.Whereabouts.TheVariants.{Absent}
use Rattle.sq_pool.specs.Slots.{digest_of}
use Rattle.sq_pool.proofs.SlotLemmas.{AreSlots-placed, placed-view, place-frame}
use Rattle.sq_pool.proofs.slots.Slots.forget.Goals as goal

pub invariant_of-self : goal.invariant_of-self
invariant_of-self c =
    AreSlots-placed c.self.inside.chain c.self.inside.owners.items c.self.inside.places.items c.args.page Absent c.self.invariant
    (sym (place-frame c.self.inside.chain c.self.inside.owners.items c.self.inside.places.items c.args.page c.self.invariant) ∙ (rw (← c.self.view_is) at c.requires.out)) refl (omega (arith, rw (← c.self.view_is) at c.requires.page, length-map c.self.inside.places.items digest_of))

pub returns : goal.returns
returns c = rw (← c.self.view_is) (placed-view c.self.inside.chain c.self.inside.owners.items c.self.inside.places.items c.args.page Absent)
