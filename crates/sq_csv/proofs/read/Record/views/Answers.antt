use Rattle.std.proofs.Common.{◌≡◌, arith, suc, sym}
use Rattle.csv.specs.Records.{fields_of}
use Rattle.sq_csv.proofs.ReaderLemmas.{all_more, all_seen}
use Rattle.sq_csv.proofs.read.Record.views.Goals as goal

pub loop-field-preserved : goal.loop-field-preserved
loop-field-preserved c =
    let it = c.loop-field.field-iterator in
    let steps = rw c.in-Some.is at c.next.ensures.steps in
    let next : c.next.new.self.at ≡ suc it.at = omega (arith, steps.2) in
    rw (c.in_ok-push.ensures.items, steps.0, next) (all_more c.loop-field.fields.items it.at (fields_of it.row.now) c.args.self.now c.in-Some.field c.loop-field.invariant (sym steps.1))

pub returns : goal.returns
returns c =
    let it = c.loop-field.field-iterator in
    let steps = rw c.in-None.is at c.next.ensures.steps in
    all_seen c.loop-field.fields.items it.at (fields_of it.row.now) c.args.self.now c.loop-field.invariant (sym steps.1)
