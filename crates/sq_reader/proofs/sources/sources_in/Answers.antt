use Rattle.std.proofs.Common.{◌∙◌}
use Rattle.sq_reader.proofs.SourceLemmas.{sources_more}
use Rattle.sq_reader.proofs.sources.sources_in.Goals as goal

pub loop-number-preserved : goal.loop-number-preserved
loop-number-preserved c =
    let typed = rw c.as_slice.ensures at c.in_ok-schema.ensures in
    rw (c.in_ok-push.ensures, c.in_ok-name.ensures, c.in_ok-file.ensures)
    (sources_more c.loop-number.number c.loop-number.typed.items c.args.sources.now c.index-sources-number.result c.in_ok-schema.schema c.loop-number-test.true c.index-sources-number.is typed ∙ c.loop-number.invariant)
