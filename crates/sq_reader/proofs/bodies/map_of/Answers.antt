use Rattle.std.proofs.Common.{◌≡◌, ◌∙◌, sym, [], None}
use Rattle.std.specs.Prelude.{Ok}
use Rattle.sq_reader.specs.Expressions.{may_be_set, typed_in}
use Rattle.sq_reader.specs.Columns.{bad_name, set_names, set_texts}
use Rattle.sq_reader.proofs.BodyLemmas.{map_schema}
use Rattle.sq_reader.proofs.bodies.map_of.Goals as goal

pub schema_of-requires : goal.schema_of-requires
schema_of-requires c =
    let first = rw (c.deref.ensures.value, c.in_ok-names.ensures) at c.bad_name.ensures.first in
    let good : bad_name [] (set_names c.args.set.now) ≡ None = sym first ∙ c.in_default.is in
    let typed : typed_in c.args.number may_be_set c.args.scope.now (set_texts c.args.set.now) ≡ Ok c.in_ok-typed.typed.items =
    rw (c.deref-2.ensures.value, c.in_ok-texts.ensures) at c.in_ok-typed.ensures.ok in
    rw (c.in_ok-names.ensures, c.in_ok-kinds.ensures, c.deref-3.ensures.value)
    (map_schema c.args.number c.args.scope.now c.args.set.now c.in_ok-typed.typed.items c.requires.within good typed)
