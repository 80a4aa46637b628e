use Rattle.std.proofs.Common.{◌+◌}
use Rattle.std.specs.List.{slice_range}
use Rattle.sq_replay.proofs.CutLemmas.{adds_cut, quoted_field}
use Rattle.sq_replay.proofs.plain.push_quoted.Goals as goal

pub returns-then-branch : goal.returns-then-branch
returns-then-branch c =
    let text = c.args.text.now in
    let from = c.args.from in
    let quote = c.in-Some.quote in
    adds_cut c.args.kind text (slice_range text (from + 1) quote) from (quote + 1) c.args.values.now.items c.push_field.new.values.items
    (quoted_field text from quote c.requires c.in-Some.ensures.first) (c.in_ok-push_field.ensures c.if-branch.true)
