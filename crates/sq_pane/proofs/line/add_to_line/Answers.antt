use Rattle.std.proofs.Common.{ℕ, List, drop, sym, subst}
use Rattle.std.proofs.lemmas.Result.{on_ok_weaker}
use Rattle.sq_pane.specs.Blocks.{IsJoin, AreBlocks}
use Rattle.sq_pane.proofs.BlockLemmas.{all_at_last, blocks_added, both_ends}
use Rattle.sq_pane.proofs.line.add_to_line.Goals as goal

pub returns-then-ends_at-clause-added : goal.returns-then-ends_at-clause-added
returns-then-ends_at-clause-added g c = on_ok_weaker c.add_to_last.result (λ added. added c.args.pane (λ d. c.ends_at.ensures.last d c.if-ends_at.true)) c.add_to_last.ensures.added

pub returns-then-ends_at-clause-blocks : goal.returns-then-ends_at-clause-blocks
returns-then-ends_at-clause-blocks g c =
    let fold = c.args.fold.now in
    let join = IsJoin (g.F.Fold.none fold) (g.F.Fold.joined fold) (g.F.Fold.made fold) (g.F.Fold.number fold) in
    let line = c.args.line.now in
    let blocks = λ (l : List (ℕ × g.row.F-State.Denot)). AreBlocks 64 join line.blocks.items (drop line.ahead l) in
    let last = λ (d : ℕ × g.row.F-State.Denot). c.ends_at.ensures.last d c.if-ends_at.true in
    λ is.
    both_ends c.add_to_last.result c.add_to_last.ensures.added c.add_to_last.ensures.err
    (λ added. subst blocks (sym (added c.args.pane last))
    (blocks_added (g.F.Fold.none fold) (g.F.Fold.joined fold) c.args.pane (g.F.Fold.unit fold c.args.t.now) 64 join line.blocks.items line.ahead line.states.items line.rises
    (all_at_last c.args.pane line.states.items line.rises last) is))
    (λ e. subst blocks (sym e) is)

pub returns-clause-blocks : goal.returns-clause-blocks
returns-clause-blocks g c =
    let fold = c.args.fold.now in
    let join = IsJoin (g.F.Fold.none fold) (g.F.Fold.joined fold) (g.F.Fold.made fold) (g.F.Fold.number fold) in
    let line = c.ready_blocks.new.line in
    let blocks = λ (l : List (ℕ × g.row.F-State.Denot)). AreBlocks 64 join line.blocks.items (drop line.ahead l) in
    λ is.
    both_ends c.add_state.result c.add_state.ensures.added c.add_state.ensures.err
    (λ e. subst blocks (sym e) (c.in_ok-ready_blocks.ensures.added (g.F.Fold.unit fold c.args.t.now) is))
    (λ e. subst blocks (sym e) (c.in_ok-ready_blocks.ensures.blocks is))
