use Rattle.std.proofs.Common.{sym, ap, ◌∙◌}
use Rattle.std.specs.Prelude.{slice_get}
use Rattle.std.specs.Option.{option_copied}
use Rattle.sq_pairs.specs.EqualPlaces.{Equates}
use Rattle.sq_pairs.proofs.EqualLemmas.{equates-all, first-of}
use Rattle.sq_pairs.proofs.condition.first_equated.Goals as goal

pub returns-in-Some : goal.returns-in-Some
returns-in-Some c =
    first-of (Equates c.args.on.now.tree) _ c.in-Some.places.now
    (sym (ap option_copied c.in-Some.is) ∙ c.first.ensures.value ∙ ap (λ pairs. slice_get pairs 0) (c.deref.ensures.value ∙ c.in-Ok.ensures))
    (equates-all c.args.on.now.tree)
