use Rattle.std.proofs.Common.{ℕ, ◌++◌, Bool, true, List, ap, subst, sym, refl, ◌∙◌}
use Rattle.sq_value.specs.declared.Value.{Value}
use Rattle.sq_words.specs.Lists.{IsPrefixOf}
use Rattle.sq_item.specs.Things.{Thing}
use Rattle.sq_oper.specs.Entries.{Entry, entries}
use Rattle.sq_oper.specs.Outflow.{given}
use Rattle.sq_oper.specs.Streams.{first_port}
use Rattle.sq_oper.proofs.GivenLemmas.{IsPrefixOf-append}
use Rattle.sq_oper.proofs.GivingLemmas.{some, keeps-some}
use Rattle.sq_oper.proofs.QuietFeeds.{quiet-fed, quiet-err}
use Rattle.sq_windrop.specs.declared.gate.GateBox.{GateBox}
use Rattle.sq_windrop.specs.Gates.{IsLength, gate_rest}
use Rattle.sq_windrop.proofs.GateLemmas.{gate_fed, gate_times}
use Rattle.sq_windrop.proofs.gate.GateBoxOperator.feed.Goals as goal

abbrev rest : GateBox → List Entry → ℕ → List Thing
rest b future q = gate_rest b.length b.opened future q

pub returns-in_err-show : goal.returns-in_err-show
returns-in_err-show g c =
    let b = c.args.self.now in
    let s = c.read_mark.new.self in
    let gave = c.in_err-show.ensures in
    quiet-err g.T.Outlet c.args._levels.now c.args.port c.args.item (IsLength b.length) (IsLength s.length) b.tally s.tally first_port first_port (λ port fields. true) (λ port fields. true) (rest b) (rest s)
    c.args.out.now c.show.new.out c.args.steps.now _ c.from_residual.result c.from_residual.ensures.1
    (λ future may q.
    let before = given q (g.T.Outlet.items c.args.out.now) in
    let more = rest b (entries c.args.port c.args.item ++ future) q in
    subst (λ l. IsPrefixOf (given q l) (before ++ more)) (sym gave.err) (IsPrefixOf-append before more)) gave.drops (keeps-some g.T.Outlet _ _ (some g.T.Outlet _ _ _ _ gave))

pub returns : goal.returns
returns g c =
    let b = c.args.self.now in
    let s = c.read_mark.new.self in
    let same = c.read_mark.ensures in
    let length = ap (λ (z : GateBox). z.length) same in
    let gave = c.in_ok-show.ensures in
    let fed = c.is_some-fed.ensures in
    let n = c.note.ensures in
    quiet-fed g.T.Outlet c.args._levels.now c.args.port c.args.item (IsLength b.length) (IsLength s.length) b.tally s.tally first_port first_port (λ port fields. true) (λ port fields. true) (rest b) (rest s)
    c.args.out.now c.show.new.out c.args.steps.now _ c.tick_if.new.steps (rw length c.requires.is_valid)
    (record {
      place = ap (λ (z : GateBox). z.tally.place) same ∙ n.place;
      taken = ap (λ (z : GateBox). z.tally.taken) same ∙ n.taken;
      running = ap (λ (z : GateBox). z.tally.running) same ∙ n.running ∙ c.requires.is_running;
    })
    refl refl (rw fed at c.tick_if.ensures)
    (λ future may q.
    gate_fed b.length s.length b.opened s.opened c.args.port c.args.item future q (given q (g.T.Outlet.items c.args.out.now)) (given q (g.T.Outlet.items c.show.new.out))
    length (ap (λ (z : GateBox). z.opened) same) (gave.given q))
    (λ q. gate_times b.length b.opened c.args.port c.args.item q) (λ q. refl) gave.stays_ready gave.drops (keeps-some g.T.Outlet _ _ (some g.T.Outlet _ _ _ _ gave))
