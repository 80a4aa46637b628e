use Rattle.std.proofs.Common.{rules, append-nil, arith, ap, le_refl, refl, sym, ◌∙◌, ◌++◌}
use Rattle.std.specs.Prelude.{None}
use Rattle.sq_flow.specs.Plans.{plans_of}
use Rattle.sq_flow.proofs.EventLemmas.{plan-shown}
use Rattle.sq_words.proofs.Prefixes.{prefix_itself}
use Rattle.sq_flow.proofs.plans.close_before.Goals as goal

pub returns-then-next-closed-clause-closes : goal.returns-then-next-closed-clause-closes
returns-then-next-closed-clause-closes c =
    record {
      same = refl;
      epoch = refl;
      grows = le_refl _;
      keeps = λ x w low. refl;
      agrees = λ all ended agrees. agrees;
      lines = λ o. refl;
      drops = λ w. refl;
      within = λ outputs drops shows. shows;
      stay = prefix_itself c.args.events.now.items;
    }

pub returns-in_err-show_plan-clause-closes : goal.returns-in_err-show_plan-clause-closes
returns-in_err-show_plan-clause-closes c =
    let did = c.in_ok-plan.ensures in
    let s = plan-shown None c.args.events.now.items c.show_plan.new.events.items (c.in_err-show_plan.ensures.err ∙ sym (append-nil c.args.events.now.items)) in
    record { same = did.same; epoch = did.epoch; grows = omega (arith, did.closed, c.requires.later); keeps = did.keeps; agrees = λ all ended. did.agrees all (ended (omega (arith, c.requires.later, c.if-next-closed.false))); lines = s.1; drops = s.2; within = s.3; stay = s.4 }

pub returns-clause-closes : goal.returns-clause-closes
returns-clause-closes c =
    let did = c.in_ok-plan.ensures in
    let s = plan-shown c.in_ok-plan.plan c.args.events.now.items c.show_plan.new.events.items c.in_ok-show_plan.ensures.ok in
    record { same = did.same; epoch = did.epoch; grows = omega (arith, did.closed, c.requires.later); keeps = did.keeps; agrees = λ all ended. did.agrees all (ended (omega (arith, c.requires.later, c.if-next-closed.false))); lines = s.1; drops = s.2; within = s.3; stay = s.4 }

pub returns-clause-ok : goal.returns-clause-ok
returns-clause-ok c =
    let did = c.in_ok-plan.ensures in
    let s = plan-shown c.in_ok-plan.plan c.args.events.now.items c.show_plan.new.events.items c.in_ok-show_plan.ensures.ok in
    record { closed = did.closed; counts = search rules; plans = λ all ended. s.0 ∙ ap (λ z. plans_of c.args.events.now.items ++ z) (did.shown all (ended (omega (arith, c.requires.later, c.if-next-closed.false)))) }
