use Rattle.std.proofs.Common.{◌≡◌, ◌+◌, ◌++◌, ◌∷◌, [], ap, sym, arith, tests}
use Rattle.std.proofs.lemmas.Grind.{common_steps}
use Rattle.sq_join.specs.Indexes.{row_count}
use Rattle.sq_join.proofs.IndexLemmas.{IsIndex-push, IsIndex-bare}
use Rattle.std.proofs.lemmas.List.{length_push}
use Rattle.sq_join.proofs.index.Index.add.Goals as goal
use Rattle.sq_join.proofs.index.Index.add.Goals.{else-not-is_empty-via-then-not-is_empty+else-not-put, else-not-is_empty-via-else-not-is_empty}

pub returns-else-not-is_empty-clause-index : goal.returns-else-not-is_empty-clause-index
returns-else-not-is_empty-clause-index c = λ held count index.
    let before = c.args.self.now in
    let x = c.args.x.now in
    let few = c.requires in
    elim c.else-not-is_empty.branch [
      | else-not-is_empty-via-then-not-is_empty+else-not-put w ↦
          let put = w.put.ensures in
          let was = w.if-not-put.false in
          rw w.self-is
          (IsIndex-push held x before w.put.new.self (before.first + c.args.count) (ap (λ n. before.first + n) (sym count)) (omega (arith, few)) index
          put.same put.first (put.len was) (put.even was) (put.rows was))
      | else-not-is_empty-via-else-not-is_empty w ↦
          let none : row_count before ≡ 0 = grind (arith, tests, common_steps, w.if-not-is_empty.false, c.is_empty.ensures) in
          let n = length_push held x in
          rw w.self-is (IsIndex-bare (held ++ x ∷ []) before none (omega (arith, n, few, count)))
    ]
