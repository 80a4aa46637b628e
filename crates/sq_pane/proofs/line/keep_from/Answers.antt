use Rattle.std.proofs.Common.{ℕ, List, length, length-drop, ap, sym, ◌∙◌, arith}
use Rattle.std.specs.Prelude.{nat_le}
use Rattle.std.specs.List.{filter}
use Rattle.sq_pane.proofs.BlockLemmas.{gone_first, none_gone, some_before}
use Rattle.sq_pane.proofs.line.keep_from.Goals as goal

pub loop-line-preserved : goal.loop-line-preserved
loop-line-preserved g c =
    let kept = λ (l : List (ℕ × g.row.F-State.Denot)). filter (λ e. nat_le c.args.pane e.0) l in
    record {
      kept = ap kept c.drop_first.ensures.states ∙ sym (gone_first c.args.pane c.loop-line.line.states.items (sym c.begins_before.ensures ∙ c.loop-line-test.true)) ∙ c.loop-line.invariant.kept;
      blocks = λ is. c.drop_first.ensures.blocks (c.loop-line.invariant.blocks is);
    }

pub loop-line-smaller : goal.loop-line-smaller
loop-line-smaller g c =
    let es = c.loop-line.line.states.items in
    let some = some_before c.args.pane es (sym c.begins_before.ensures ∙ c.loop-line-test.true) in
    let long = length-drop 1 es in
    let same = ap length c.drop_first.ensures.states in
    omega (arith, some, long, same)

pub returns-clause-kept : goal.returns-clause-kept
returns-clause-kept g c =
    sym (none_gone c.args.pane c.loop-line.line.states.items c.loop-line.line.rises (sym c.begins_before.ensures ∙ c.loop-line-test.false)) ∙ c.loop-line.invariant.kept
