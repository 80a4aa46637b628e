use Rattle.std.proofs.Common.{◌≡◌, ℕ, ◌+◌, ◌*◌, ◌<◌, List, length, length-drop, take, drop, sym, subst, arith}
use Rattle.sq_pane.specs.Blocks.{IsJoin, AreBlocks}
use Rattle.sq_pane.proofs.BlockLemmas.{drop_add, blocks_more}
use Rattle.sq_pane.proofs.line.grow_blocks.Goals as goal

pub returns-clause-blocks : goal.returns-clause-blocks
returns-clause-blocks g c =
    let fold = c.args.fold.now in
    let join = IsJoin (g.F.Fold.none fold) (g.F.Fold.joined fold) (g.F.Fold.made fold) (g.F.Fold.number fold) in
    let line = c.args.line.now in
    let es = line.states.items in
    let n : ℕ = c.len.result * 64 in
    let count : n ≡ length line.blocks.items * 64 = omega arith in
    let at : ℕ = n + line.ahead in
    let past = drop_add line.ahead n at es (omega arith) in
    let long = length-drop at es in
    let room : 64 < length (drop at es) = omega (arith, long) in
    λ is. subst (λ l. AreBlocks 64 join l (drop line.ahead es)) (sym c.in_ok-push.ensures.items)
    (blocks_more 64 join line.blocks.items c.in_ok-block.block (drop line.ahead es) n count
    (subst (λ (l : List (ℕ × g.row.F-State.Denot)). 64 < length l) past room)
    (subst (λ (l : List (ℕ × g.row.F-State.Denot)). join (take 64 l) c.in_ok-block.block) past c.in_ok-block.ensures) is)
