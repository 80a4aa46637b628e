use Rattle.sq_csv.proofs.FieldLemmas.{quote_opens}
use Rattle.sq_replay.proofs.CutLemmas.{adds_cut}
use Rattle.sq_replay.proofs.plain.push_doubled.Goals as goal

pub returns-then-branch : goal.returns-then-branch
returns-then-branch c =
    let text = c.args.text.now in
    let field = c.unquote.new.field.items in
    let cut = rw c.in-Some.is at c.in_ok-at.ensures.cut in
    let adds = rw c.as_slice-field.ensures.value at (c.in_ok-push_field.ensures c.if-branch.true) in
    adds_cut c.args.kind text field c.args.from c.in-Some.at c.args.values.now.items c.push_field.new.values.items
    (quote_opens text field c.args.from c.in-Some.at c.requires cut) adds
