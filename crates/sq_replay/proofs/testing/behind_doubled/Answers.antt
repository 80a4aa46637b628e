use Rattle.std.proofs.Common.{refl}
use Rattle.sq_value.specs.declared.Kind.TheVariants as kind
use Rattle.sq_csv.proofs.FieldLemmas.{quote_opens}
use Rattle.sq_replay.proofs.CutLemmas.{reads_cut}
use Rattle.sq_replay.proofs.testing.behind_doubled.Goals as goal

pub returns-then-is_text : goal.returns-then-is_text
returns-then-is_text c =
    let text = c.args.text.now in
    let field = c.unquote.new.field.items in
    let cut = rw c.in-Some.is at c.in_ok-at.ensures.cut in
    let read = rw c.as_slice-field.ensures.value at (c.if-is_text.ensures refl) in
    reads_cut kind.Text text field c.args.from c.in-Some.at (quote_opens text field c.args.from c.in-Some.at c.requires cut) read
