use Rattle.std.proofs.Common.{◌∙◌, ◌<◌, List, slice_get, length, map, ap, sym, subst}
use Rattle.std.proofs.lemmas.Result.{IfOk-weaker}
use Rattle.sq_place.specs.declared.DropPoint.{DropPoint}
use Rattle.sq_model.proofs.answers.dropped.Goals as goal

pub dropped_in-requires-clause-there : goal.dropped_in-requires-clause-there
dropped_in-requires-clause-there c = subst (λ (ps : List DropPoint). c.args.w < length ps) (sym c.in_ok-known.ensures.known.points) c.requires.there

pub returns : goal.returns
returns c =
    IfOk-weaker c.dropped_in.result _ _
    (λ v h p at.
    h (record { network = c.args.n.now; sources = map (λ t. t.items) c.args.sources.now; entries = c.args.c.now; seed = c.args.seed }) p c.in_ok-known.ensures.known
    (ap (λ (ps : List DropPoint). slice_get ps c.args.w) c.in_ok-known.ensures.known.points ∙ at))
    c.dropped_in.ensures
