use Rattle.std.proofs.Common.{◌≡◌, ◌∙◌, false, sym, arith}
use Rattle.std.specs.Prelude.{nat_lt}
use Rattle.std.proofs.lemmas.Bool.Decides.{nat_tests}
use Rattle.sq_sched.proofs.ChainLemmas.{listed-in, none-above}
use Rattle.sq_sched.proofs.ready.Ready.has.Goals as goal

pub returns-then-actor-self : goal.returns-then-actor-self
returns-then-actor-self c =
    rw (← c.self.view_is) (c.is_some.ensures ∙ listed-in c.self.inside.actors c.self.inside.count c.self.inside.chains c.args.actor c.list_of.result c.self.invariant (rw c.from.ensures at c.list_of.ensures))

pub returns-else-actor-self : goal.returns-else-actor-self
returns-else-actor-self c =
    let high : nat_lt c.args.actor c.self.inside.actors ≡ false = grind (arith, nat_tests, c.if-actor-self.false) in
    rw (← c.self.view_is) (high ∙ sym (none-above c.self.inside.actors c.self.inside.count c.self.inside.chains c.args.actor c.self.invariant c.one_place_each.ensures c.if-actor-self.false))
