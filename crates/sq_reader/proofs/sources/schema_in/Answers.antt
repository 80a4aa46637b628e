use Rattle.std.proofs.Common.{◌≡◌, ◌∙◌, sym, arith, Some, [], ◌∷◌, length-append}
use Rattle.sq_reader.specs.Sources.{column_in}
use Rattle.sq_reader.proofs.SourceLemmas.{columns_done, columns_more}
use Rattle.sq_reader.proofs.RuleLemmas.{fields_schema}
use Rattle.sq_reader.proofs.sources.schema_in.Goals as goal

pub loop-item-preserved : goal.loop-item-preserved
loop-item-preserved c =
    let moved = rw (c.deref.ensures.value, c.as_str.ensures) at c.in_ok-name.ensures in
    let here : column_in c.loop-item.names.items c.index-fields-item.result ≡ Some (c.in-Some.name, c.in-Some.kind) = sym moved ∙ c.in-Some.is in
    rw (c.in_ok-push-in-Some.ensures, c.in_ok-push-in-Some-2.ensures)
    (record {
      even = omega (arith, length-append c.loop-item.names.items (c.in-Some.name ∷ []), length-append c.loop-item.kinds.items (c.in-Some.kind ∷ []));
      so_far = columns_more c.args.number c.loop-item.item c.loop-item.names.items c.loop-item.kinds.items c.args.fields.now c.index-fields-item.result c.in-Some.name c.in-Some.kind c.loop-item-test.true c.index-fields-item.is c.loop-item.invariant.even here ∙ c.loop-item.invariant.so_far;
    })

pub schema_of-requires : goal.schema_of-requires
schema_of-requires c =
    fields_schema c.args.number c.args.fields.now c.loop-item.names.items c.loop-item.kinds.items c.requires.some c.requires.few c.loop-item.invariant.even
    (columns_done c.args.number c.loop-item.item c.loop-item.names.items c.loop-item.kinds.items c.args.fields.now (omega arith) c.loop-item.invariant.so_far)
