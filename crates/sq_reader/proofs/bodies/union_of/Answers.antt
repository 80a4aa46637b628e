use Rattle.std.proofs.Common.{◌≡◌, ◌∙◌, sym, subst, refl, ℕ, List, [], ◌∷◌, Option, Some, None}
use Rattle.std.specs.Prelude.{Ok, Err}
use Rattle.sq_value.specs.Values.{Columns}
use Rattle.sq_net.specs.Columns.{first_columns}
use Rattle.sq_net.specs.declared.Body.TheVariants as body
use Rattle.sq_net.specs.declared.NetErr.TheVariants as broken
use Rattle.sq_net.specs.declared.Part.TheVariants as part
use Rattle.sq_tables.specs.Places.{place_at}
use Rattle.sq_rules.specs.Limits.{first_failing}
use Rattle.sq_reader.specs.Columns.{same_columns, union_of}
use Rattle.sq_reader.proofs.bodies.union_of.Goals as goal

-- the first input that isn't as the first one
as_first : (ins : List Columns) (cs : Columns) (o : Option ℕ) → cs ≡ first_columns ins → first_failing (λ ds. same_columns ds cs) ins ≡ o → first_failing (λ ds. same_columns ds (first_columns ins)) ins ≡ o
as_first ins cs o same h = subst (λ (es : Columns). first_failing (λ ds. same_columns ds es) ins ≡ o) same h

at_fault : (n i : ℕ) (ins : List Columns) (cs : Columns) → cs ≡ first_columns ins → first_failing (λ ds. same_columns ds cs) ins ≡ Some i → union_of n ins ≡ Err (broken.Schema (place_at part.Box n i))
at_fault n i ins cs same h = rw (as_first ins cs (Some i) same h) refl

alike : (n : ℕ) (ins : List Columns) (cs : Columns) → cs ≡ first_columns ins → first_failing (λ ds. same_columns ds cs) ins ≡ None → union_of n ins ≡ Ok (body.Union, cs ∷ [])
alike n ins cs same h = rw (as_first ins cs None same h, same) refl

pub returns-in-Some-clause-err : goal.returns-in-Some-clause-err
returns-in-Some-clause-err c = λ _.
    rw c.place_at.ensures (at_fault c.args.number c.in-Some.item c.args.ins.now c.first_of-first.result.now c.first_of-first.ensures (sym c.unlike.ensures.first ∙ c.in-Some.is))

pub returns-clause-ok : goal.returns-clause-ok
returns-clause-ok c =
    rw (c.in_ok-ports.ensures, c.in_ok-copy_schema.ensures)
    (alike c.args.number c.args.ins.now c.first_of-first.result.now c.first_of-first.ensures (sym c.unlike.ensures.first ∙ c.in_default.is))
