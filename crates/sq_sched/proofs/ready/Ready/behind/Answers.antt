use Rattle.std.proofs.Common.{◌≡◌, ◌∙◌, true, false, None, ap, sym, arith}
use Rattle.std.specs.Prelude.{is_some}
use Rattle.sq_link.specs.ChainLists.{StandsIn, next_in}
use Rattle.sq_sched.specs.ReadyLists.{ready_in}
use Rattle.sq_sched.proofs.ReadyLemmas.{stands-before, stands-behind}
use Rattle.sq_sched.proofs.ChainLemmas.{below-in}
use Rattle.sq_sched.proofs.ready.Ready.behind.Goals as goal

pub next-requires : goal.next-requires
next-requires c = rw c.from.ensures (0, stands-before (ready_in c.self.inside.chains) c.args.actor (rw (← c.self.view_is) at c.requires))

pub unreachable-requires : goal.unreachable-requires
unreachable-requires c =
    let list = ready_in c.self.inside.chains in
    let some : is_some (next_in c.args.actor list) ≡ true = rw (← c.self.view_is) at c.requires in
    let here : StandsIn c.from.result list = rw c.from.ensures (stands-before list c.args.actor some) in
    let none : next_in c.args.actor list ≡ None = ap (λ n. next_in n list) (sym c.from.ensures) ∙ sym (c.next.ensures 0 here) ∙ c.in_default.is in
    let never : false ≡ true = sym (ap is_some none) ∙ some in
    absurd (cc never)

pub overflow_cast-result : goal.overflow_cast-result
overflow_cast-result c =
    let list = ready_in c.self.inside.chains in
    let here : StandsIn c.from.result list = rw c.from.ensures (stands-before list c.args.actor (rw (← c.self.view_is) at c.requires)) in
    let there : StandsIn c.in-Some.behind list = stands-behind list c.from.result c.in-Some.behind (sym (c.next.ensures 0 here) ∙ c.in-Some.is) in
    let low = below-in c.self.inside.actors c.self.inside.count c.self.inside.chains c.in-Some.behind c.self.invariant c.one_place_each.ensures there in
    omega (arith, low)

pub returns : goal.returns
returns c =
    let list = ready_in c.self.inside.chains in
    let here : StandsIn c.from.result list = rw c.from.ensures (stands-before list c.args.actor (rw (← c.self.view_is) at c.requires)) in
    rw (← c.self.view_is) (ap (λ n. next_in n list) (sym c.from.ensures) ∙ sym (c.next.ensures 0 here) ∙ c.in-Some.is)
