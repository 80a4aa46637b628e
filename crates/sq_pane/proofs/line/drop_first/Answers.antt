use Rattle.std.proofs.Common.{◌≡◌, ℕ, ◌-◌, List, length, drop, sym, subst, arith, tests}
use Rattle.std.specs.List.{remove}
use Rattle.sq_pane.specs.Blocks.{IsJoin, AreBlocks}
use Rattle.sq_pane.proofs.BlockLemmas.{drop_add, first_gone, empty_blocks}
use Rattle.sq_pane.proofs.line.drop_first.Goals as goal

pub returns-then-line-gt0-clause-blocks : goal.returns-then-line-gt0-clause-blocks
returns-then-line-gt0-clause-blocks g c =
    let fold = c.args.fold.now in
    let join = IsJoin (g.F.Fold.none fold) (g.F.Fold.joined fold) (g.F.Fold.made fold) (g.F.Fold.number fold) in
    let line = c.args.line.now in
    let some = c.if-line-gt0.true in
    λ is.
    subst (λ (l : List (ℕ × g.row.F-State.Denot)). AreBlocks 64 join line.blocks.items (drop (line.ahead - 1) l)) (sym c.pop_front.ensures.rest)
    (subst (AreBlocks 64 join line.blocks.items) (drop_add 1 (line.ahead - 1) line.ahead line.states.items (omega (arith, some))) is)

pub returns-clause-blocks : goal.returns-clause-blocks
returns-clause-blocks g c =
    let fold = c.args.fold.now in
    let join = IsJoin (g.F.Fold.none fold) (g.F.Fold.joined fold) (g.F.Fold.made fold) (g.F.Fold.number fold) in
    let line = c.args.line.now in
    let none : line.ahead ≡ 0 = omega arith in
    λ is.
    subst (λ l. AreBlocks 64 join l (drop 63 c.pop_front.new.self.items)) (sym c.remove.ensures.items)
    (subst (λ (l : List (ℕ × g.row.F-State.Denot)). AreBlocks 64 join (remove line.blocks.items 0) (drop 63 l)) (sym c.pop_front.ensures.rest)
    (first_gone 64 join line.blocks.items line.states.items (omega arith) (subst (λ (n : ℕ). AreBlocks 64 join line.blocks.items (drop n line.states.items)) none is)))

pub returns-then-is_empty-clause-blocks : goal.returns-then-is_empty-clause-blocks
returns-then-is_empty-clause-blocks g c =
    let fold = c.args.fold.now in
    let join = IsJoin (g.F.Fold.none fold) (g.F.Fold.joined fold) (g.F.Fold.made fold) (g.F.Fold.number fold) in
    let line = c.args.line.now in
    let none : length line.blocks.items ≡ 0 = grind (arith, tests) in
    λ is. empty_blocks 64 join line.blocks.items (drop line.ahead c.pop_front.new.self.items) none
