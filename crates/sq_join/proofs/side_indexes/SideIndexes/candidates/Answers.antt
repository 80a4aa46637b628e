use Rattle.std.proofs.Common.{◌≡◌, ◌<◌, length, sym, ◌∙◌, arith, tests}
use Rattle.std.proofs.lemmas.Grind.{common_steps}
use Rattle.sq_join.specs.Indexes.{row_count}
use Rattle.sq_join.proofs.IndexLemmas.{row-found, none-found}
use Rattle.sq_join.proofs.side_indexes.SideIndexes.candidates.Goals as goal

pub returns-in-Some-row_of : goal.returns-in-Some-row_of
returns-in-Some-row_of c = λ on left right are.
    let own = c.of_side-own.result.now in
    let wide : length c.args.x.now.fields ≡ own.width = grind (arith, tests, common_steps, c.if-not-is_even.false, c.is_even.ensures) in
    row-found on left right c.args.self.now c.args.side c.args.x.now c.in-Some.code c.in-Some-row_of.row own c.against-other.result.now
    c.of_side-own.ensures c.against-other.ensures are wide (sym c.code_in.ensures ∙ c.in-Some.is) c.in-Some-row_of.ensures

pub returns-else-is_empty : goal.returns-else-is_empty
returns-else-is_empty c = λ on left right are.
    let own = c.of_side-own.result.now in
    let wide : length c.args.x.now.fields ≡ own.width = grind (arith, tests, common_steps, c.if-not-is_even.false, c.is_even.ensures) in
    let some : 0 < row_count c.against-other.result.now = grind (arith, tests, common_steps, c.if-is_empty.false, c.is_empty.ensures) in
    none-found on left right c.args.self.now c.args.side c.args.x.now own c.against-other.result.now
    c.of_side-own.ensures c.against-other.ensures are wide (sym c.code_in.ensures ∙ c.in-None.is) some
