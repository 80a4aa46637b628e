use Rattle.std.proofs.Common.{ℕ, ◌+◌, length-drop, drop, refl, ap, sym, subst, ◌∙◌, arith}
use Rattle.std.proofs.lemmas.List.{drop_all}
use Rattle.std.proofs.lemmas.Result.{IfOk-weaker}
use Rattle.sq_pane.specs.Panes.{joined_within}
use Rattle.sq_pane.specs.Blocks.{IsJoin, AreBlocks}
use Rattle.sq_pane.proofs.BlockLemmas.{drop_add, next_block}
use Rattle.sq_pane.proofs.line.joined_by_blocks.Goals as goal

pub with_block-requires-clause-room : goal.with_block-requires-clause-room
with_block-requires-clause-room g c =
    let fold = c.args.fold.now in
    let join = IsJoin (g.F.Fold.none fold) (g.F.Fold.joined fold) (g.F.Fold.made fold) (g.F.Fold.number fold) in
    let line = c.args.line.now in
    let parts = next_block 64 join line.blocks.items c.loop-k.k c.index-block.result.now (drop c.loop-k.at line.states.items) (omega arith) c.index-block.ensures c.loop-k.invariant.blocks in
    let room = parts.0 in
    let long = length-drop c.loop-k.at line.states.items in
    omega (arith, room, long)

pub with_block-requires-clause-block : goal.with_block-requires-clause-block
with_block-requires-clause-block g c =
    let fold = c.args.fold.now in
    let join = IsJoin (g.F.Fold.none fold) (g.F.Fold.joined fold) (g.F.Fold.made fold) (g.F.Fold.number fold) in
    let line = c.args.line.now in
    (next_block 64 join line.blocks.items c.loop-k.k c.index-block.result.now (drop c.loop-k.at line.states.items) (omega arith) c.index-block.ensures c.loop-k.invariant.blocks).1

pub loop-k-preserved : goal.loop-k-preserved
loop-k-preserved g c =
    let fold = c.args.fold.now in
    let join = IsJoin (g.F.Fold.none fold) (g.F.Fold.joined fold) (g.F.Fold.made fold) (g.F.Fold.number fold) in
    let line = c.args.line.now in
    let es = line.states.items in
    let at : ℕ = c.loop-k.at in
    let parts = next_block 64 join line.blocks.items c.loop-k.k c.index-block.result.now (drop at es) (omega arith) c.index-block.ensures c.loop-k.invariant.blocks in
    let room = parts.0 in
    let long = length-drop at es in
    let less = c.in_ok-joined-2.ensures.few in
    let few = c.loop-k.invariant.few in
    record {
      within = omega (arith, room, long);
      blocks = subst (AreBlocks 64 join (drop (c.loop-k.k + 1) line.blocks.items)) (sym (drop_add at 64 (at + 64) es refl)) parts.2;
      value = c.in_ok-joined-2.ensures.value ∙ c.loop-k.invariant.value;
      made = c.in_ok-joined-2.ensures.made;
      few = omega (arith, less, few);
    }

pub returns-clause-value : goal.returns-clause-value
returns-clause-value g c =
    let fold = c.args.fold.now in
    let es = c.args.line.now.states.items in
    let whole = joined_within (g.F.Fold.none fold) (g.F.Fold.joined fold) c.args.window c.args.width c.args.start in
    IfOk-weaker c.joined_through.result _ _
    (λ o e. sym (ap (whole o) (drop_all c.len-count.result es (omega arith))) ∙ e ∙ c.loop-k.invariant.value)
    c.joined_through.ensures.value
