use Rattle.std.proofs.Common.{◌≡◌, ◌∙◌, [], ◌∷◌, ◌++◌, IfSome, true, ap, sym, subst, map, is_some}
use Rattle.std.proofs.lemmas.Grind.{get_or_default_zero}
use Rattle.std.proofs.lemmas.List.{get_or-set_same}
use Rattle.sq_wanted.specs.Showing.{has_first}
use Rattle.sq_verdict.specs.Walking.{line_fault}
use Rattle.sq_wanted.specs.Places.{IsAtPlace}
use Rattle.sq_verdict.proofs.walking.output_fault.Goals as goal

pub returns-in-Some-clause-fault : goal.returns-in-Some-clause-fault
returns-in-Some-clause-fault c =
    λ record_at before hold here.
    let streams = map (λ t. t.items) c.args.streams.now in
    let place = c.index-place.ensures ∙ get_or_default_zero c.args.places.now.items c.args.i c.index-place.result.now c.requires.inside in
    let next = c.in_ok-behind.ensures.next record_at before hold (subst (λ k. IsAtPlace record_at streams c.args.output.now k before) (sym place) here) in
    ap line_fault (sym (ap is_some c.in-Some.is) ∙ next)

pub returns-in-Some-clause-hit : goal.returns-in-Some-clause-hit
returns-in-Some-clause-hit c =
    λ none record_at before hold first here.
    let streams = map (λ t. t.items) c.args.streams.now in
    let o = c.args.output.now in
    let line = c.args.line.now in
    let places = c.args.places.now.items in
    let place = c.index-place.ensures ∙ get_or_default_zero places c.args.i c.index-place.result.now c.requires.inside in
    let behind = c.in_ok-behind.ensures.behind record_at before hold (subst (λ k. IsAtPlace record_at streams o k before) (sym place) here) in
    let now = subst (λ p. IfSome p (λ at. has_first o.name line ≡ true → IsAtPlace record_at streams o at (before ++ line ∷ []))) c.in-Some.is behind first in
    subst (λ k. IsAtPlace record_at streams o k (before ++ line ∷ [])) (sym (get_or-set_same places c.args.i c.in-Some.behind 0 c.requires.inside)) now

pub returns-in-None-clause-fault : goal.returns-in-None-clause-fault
returns-in-None-clause-fault c =
    λ record_at before hold here.
    let streams = map (λ t. t.items) c.args.streams.now in
    let place = c.index-place.ensures ∙ get_or_default_zero c.args.places.now.items c.args.i c.index-place.result.now c.requires.inside in
    let next = c.in_ok-behind.ensures.next record_at before hold (subst (λ k. IsAtPlace record_at streams c.args.output.now k before) (sym place) here) in
    ap line_fault (sym (ap is_some c.in-None.is) ∙ next)
