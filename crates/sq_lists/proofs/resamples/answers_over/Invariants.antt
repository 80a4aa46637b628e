use Rattle.std.proofs.Common.{◌≡◌, drop}
use Rattle.sq_aggfn.specs.Folds.{joined_from}
use Rattle.sq_lists.proofs.resamples.answers_over.Given as goal

abbrev pub invariant-loop-x : goal.invariant-loop-x
invariant-loop-x g l = record {
  joined : joined_from (g.F.Fold.joined l.fold) (g.F.Fold.unit l.fold) l.state (drop l.x-index l.tuples)
      ≡ joined_from (g.F.Fold.joined l.fold) (g.F.Fold.unit l.fold) (g.F.Fold.none l.fold) l.tuples;
  made : g.F.Fold.made l.fold l.state;
  number : g.F.Fold.number l.fold l.state ≡ l.x-index;
}
