use Rattle.std.proofs.Common.{ℕ, ◌≤◌, List, drop, sym, subst, nat_cmp}
use Rattle.std.specs.List.{AllByRecursion}
use Rattle.sq_aggfn.specs.KeyedStates.{added}
use Rattle.sq_pane.specs.Blocks.{IsJoin, AreBlocks}
use Rattle.sq_pane.proofs.BlockLemmas.{all_up_to, blocks_added}
use Rattle.sq_pane.proofs.line.ready_blocks.Goals as goal

pub returns-then-ends_past-clause-blocks : goal.returns-then-ends_past-clause-blocks
returns-then-ends_past-clause-blocks g c =
    let fold = c.args.fold.now in
    let join = IsJoin (g.F.Fold.none fold) (g.F.Fold.joined fold) (g.F.Fold.made fold) (g.F.Fold.number fold) in
    let line = c.args.line.now in
    λ is. subst (λ l. AreBlocks 64 join l (drop line.ahead line.states.items)) (sym c.clear.ensures.items) tt

pub returns-then-ends_past-clause-added : goal.returns-then-ends_past-clause-added
returns-then-ends_past-clause-added g c =
    let fold = c.args.fold.now in
    let join = IsJoin (g.F.Fold.none fold) (g.F.Fold.joined fold) (g.F.Fold.made fold) (g.F.Fold.number fold) in
    let line = c.args.line.now in
    λ u is. subst (λ l. AreBlocks 64 join l (drop line.ahead (added nat_cmp (g.F.Fold.none fold) (g.F.Fold.joined fold) c.args.pane u line.states.items))) (sym c.clear.ensures.items) tt

pub returns-clause-added : goal.returns-clause-added
returns-clause-added g c =
    let fold = c.args.fold.now in
    let join = IsJoin (g.F.Fold.none fold) (g.F.Fold.joined fold) (g.F.Fold.made fold) (g.F.Fold.number fold) in
    let line = c.grow_blocks.new.line in
    let all = all_up_to c.args.pane c.args.line.now.states.items c.args.line.now.rises (λ d some. c.ends_past.ensures d c.if-ends_past.false some) in
    λ u is.
    blocks_added (g.F.Fold.none fold) (g.F.Fold.joined fold) c.args.pane u 64 join line.blocks.items line.ahead line.states.items line.rises
    (subst (λ (l : List (ℕ × g.row.F-State.Denot)). AllByRecursion (λ e. e.0 ≤ c.args.pane) l) (sym c.grow_blocks.ensures.states) all)
    (c.grow_blocks.ensures.blocks is)
