use Rattle.std.proofs.Common.{◌≡◌, ◌<◌, ◌≤◌, Some, false, true, length, refl, sym, ◌∙◌, rules, arith, slice_get}
use Rattle.std.proofs.lemmas.Grind.{common_steps}
use Rattle.std.proofs.lemmas.Option.{slice_get_read}
use Rattle.sq_expr.specs.Checking.{trees}
use Rattle.sq_expr.specs.Expressions.{holds_of}
use Rattle.sq_plain.specs.Ports.{AreGuessed}
use Rattle.sq_plain.proofs.PortLemmas.{guess_found, guess_fails, guess_beyond}
use Rattle.sq_plain.proofs.filter.FilterBox.port_of.Goals as goal

pub returns-then-port-len-clause-port : goal.returns-then-port-len-clause-port
returns-then-port-len-clause-port c =
    let preds = c.args.self.now.preds.items in
    let t = c.args.tuple.now in
    let ports = c.in-Some.ports in
    let all : AreGuessed ports 0 (trees preds) = rw c.in-Some.is at c.requires in
    let count : c.len-then-port-len.result ≡ length preds = search rules in
    let beyond : length preds ≤ c.guess-port.result = grind (arith, common_steps) in
    count ∙ sym (guess_beyond ports t preds all (rw c.guess-port.ensures at beyond))

pub returns-then-holds-clause-port : goal.returns-then-holds-clause-port
returns-then-holds-clause-port c =
    let preds = c.args.self.now.preds.items in
    let t = c.args.tuple.now in
    let ports = c.in-Some.ports in
    let all : AreGuessed ports 0 (trees preds) = rw c.in-Some.is at c.requires in
    let low : c.guess-port.result < length preds = grind (arith, common_steps) in
    let at : slice_get preds c.guess-port.result ≡ Some c.index.result.now = slice_get_read preds _ c.guess-port.result c.index.result.now refl low c.index.ensures in
    let holds : holds_of c.index.result.now.tree t ≡ true = search rules in
    c.guess-port.ensures ∙ sym (guess_found ports t preds c.index.result.now all (rw c.guess-port.ensures at at) holds)

pub returns-clause-port : goal.returns-clause-port
returns-clause-port c =
    let preds = c.args.self.now.preds.items in
    let t = c.args.tuple.now in
    let ports = c.in-Some.ports in
    let all : AreGuessed ports 0 (trees preds) = rw c.in-Some.is at c.requires in
    let low : c.guess-port.result < length preds = grind (arith, common_steps) in
    let at : slice_get preds c.guess-port.result ≡ Some c.index.result.now = slice_get_read preds _ c.guess-port.result c.index.result.now refl low c.index.ensures in
    let fails : holds_of c.index.result.now.tree t ≡ false = search rules in
    let count : c.len-2.result ≡ length preds = search rules in
    count ∙ sym (guess_fails ports t preds c.index.result.now all (rw c.guess-port.ensures at at) fails)
