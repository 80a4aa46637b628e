use Rattle.std.proofs.Common.{◌<◌, length, sym, ◌∙◌, arith}
use Rattle.sq_flow.specs.Sources.{is_clear_of}
use Rattle.sq_flow.proofs.ClearLemmas.{all-not}
use Rattle.sq_flow.proofs.clearing.is_clear.Goals as goal

pub returns-then-not-is_clear_of : goal.returns-then-not-is_clear_of
returns-then-not-is_clear_of c =
    let low : c.loop-source.source < length c.args.sources.now.items = omega (arith, c.loop-source-test.true, c.len-source-end.ensures, c.args.sources.now.ok.0) in
    sym (all-not (is_clear_of c.args.sources.now.items c.args.ahead.now.items) (length c.args.sources.now.items) c.loop-source.source (sym c.is_clear_of.ensures ∙ c.if-not-is_clear_of.true) low)
