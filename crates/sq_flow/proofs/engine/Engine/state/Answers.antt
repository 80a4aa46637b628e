use Rattle.std.proofs.Common.{refl, sym, ◌∙◌}
use Rattle.sq_flow.proofs.DoneLemmas.{all-over, none-clear, none-listed, none-ready}
use Rattle.sq_flow.proofs.engine.Engine.state.Goals as goal

pub returns-then-not-is_empty-clause-when_done : goal.returns-then-not-is_empty-clause-when_done
returns-then-not-is_empty-clause-when_done g c = λ runs all.
    absurd (cc (c.if-not-is_empty.ensures.1 (none-ready _ c.args.self.now (c.requires.engine runs) all)))

pub returns-then-self-2-clause-done : goal.returns-then-self-2-clause-done
returns-then-self-2-clause-done g c = λ done.
    (none-listed _ c.args.self.now (c.requires.engine c.if-self.false) (c.if-not-is_empty.ensures.0 refl) c.if-self-2.true, c.if-self.false)

pub returns-else-self-2-clause-waits : goal.returns-else-self-2-clause-waits
returns-else-self-2-clause-waits g c = λ waits.
    let empty = c.if-not-is_empty.ensures.0 refl in
    record {
      none_ready = empty;
      held = none-clear _ c.args.self.now (c.requires.engine c.if-self.false) empty c.if-self-2.false;
      runs = c.if-self.false;
      open_still = c.if-self-2.false;
    }

pub returns-else-self-2-clause-when_done : goal.returns-else-self-2-clause-when_done
returns-else-self-2-clause-when_done g c = λ runs all. absurd (cc (sym c.if-self-2.false ∙ all-over c.args.self.now.flow all))
