use Rattle.std.proofs.Common.{◌+◌, refl}
use Rattle.std.specs.List.{slice_range}
use Rattle.sq_value.specs.declared.Kind.TheVariants as kind
use Rattle.sq_replay.proofs.CutLemmas.{quoted_field, reads_cut}
use Rattle.sq_replay.proofs.testing.behind_quoted.Goals as goal

pub returns-then-is_text : goal.returns-then-is_text
returns-then-is_text c =
    let text = c.args.text.now in
    let from = c.args.from in
    let quote = c.in-Some.quote in
    reads_cut kind.Text text (slice_range text (from + 1) quote) from (quote + 1) (quoted_field text from quote c.requires c.in-Some.ensures.first)
    (c.if-is_text.ensures refl)
