use Rattle.std.proofs.Common.{◌≡◌, ◌∙◌, sym, refl, ℕ, ◌++◌, List, [], ◌∷◌, None}
use Rattle.std.specs.Prelude.{Ok}
use Rattle.std.specs.List.{filter_map, zip}
use Rattle.sq_value.specs.Values.{Columns}
use Rattle.sq_expr.specs.Kinds.{kind_at}
use Rattle.sq_aggfn.specs.declared.Func.{Func}
use Rattle.sq_aggfn.specs.declared.WindowSpec.{WindowSpec}
use Rattle.sq_net.specs.declared.Body.TheVariants as body
use Rattle.sq_tables.specs.declared.tables.AnswerColumn.{AnswerColumn}
use Rattle.sq_reader.specs.Functions.{funcs_from, group_from, kinds_answered}
use Rattle.sq_reader.specs.Columns.{typed_aggregate, bad_given, give_names}
use Rattle.sq_reader.proofs.FunctionLemmas.{shown_columns, shown_schema}
use Rattle.sq_reader.proofs.bodies.typed_aggregate.Goals as goal

typed : (n : ℕ) (window : WindowSpec) (group : List (List ℕ)) (give : List AnswerColumn) (cs : Columns) (fs : List Func) (ps : List ℕ) → bad_given group (give_names give) ≡ None
    → funcs_from n 0 cs give ≡ Ok fs → group_from n 0 cs [] group ≡ Ok ps
    → typed_aggregate n window group give cs ≡ Ok (body.Aggregate fs ps window, zip (group ++ give_names give) (filter_map (kind_at cs) ps ++ kinds_answered cs fs) ∷ [])
typed n window group give cs fs ps good funcs places =
    rw (good, funcs, places, shown_columns n cs group ps (give_names give) (kinds_answered cs fs) places) refl

pub schema_of-requires : goal.schema_of-requires
schema_of-requires c =
    let first = rw (c.deref.ensures.value, c.in_ok-given.ensures) at c.bad_given.ensures.first in
    let good : bad_given c.args.group.now (give_names c.args.give.now) ≡ None = sym first ∙ c.in_default.is in
    rw (c.in_ok-names.ensures, c.in_ok-kinds.ensures, c.deref-2.ensures.value, c.deref-3.ensures.value, c.deref-4.ensures.value, c.in_ok-given.ensures)
    (shown_schema c.args.number c.args.scope.now c.args.group.now c.args.give.now c.in_ok-funcs.funcs.items c.in_ok-places.places.items c.requires.some good c.in_ok-funcs.ensures.ok c.in_ok-places.ensures.ok)

pub returns-clause-ok : goal.returns-clause-ok
returns-clause-ok c =
    let first = rw (c.deref.ensures.value, c.in_ok-given.ensures) at c.bad_given.ensures.first in
    let good : bad_given c.args.group.now (give_names c.args.give.now) ≡ None = sym first ∙ c.in_default.is in
    rw (c.in_ok-ports.ensures, c.schema_of.ensures, c.in_ok-names.ensures, c.in_ok-kinds.ensures, c.deref-2.ensures.value, c.deref-3.ensures.value, c.deref-4.ensures.value, c.in_ok-given.ensures, c.new.ensures, c.new-2.ensures)
    (typed c.args.number c.args.window c.args.group.now c.args.give.now c.args.scope.now c.in_ok-funcs.funcs.items c.in_ok-places.places.items good c.in_ok-funcs.ensures.ok c.in_ok-places.ensures.ok)
