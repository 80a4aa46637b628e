use Rattle.std.proofs.Common.{◌≡◌, [], drop}
use Rattle.sq_value.specs.Values.{fields_cmp}
use Rattle.sq_aggfn.specs.Groups.{group_of}
use Rattle.sq_aggfn.specs.KeyedStates.{keyed_from, AllMade}
use Rattle.sq_lists.proofs.windows.groups_of.Given as goal

abbrev pub invariant-loop-x : goal.invariant-loop-x
invariant-loop-x g l = record {
  groups : keyed_from fields_cmp (g.F.Fold.none l.fold) (g.F.Fold.joined l.fold) (group_of l.by) (g.F.Fold.unit l.fold) l.held.entries (drop l.x-index l.inside)
      ≡ keyed_from fields_cmp (g.F.Fold.none l.fold) (g.F.Fold.joined l.fold) (group_of l.by) (g.F.Fold.unit l.fold) [] l.inside;
  made : AllMade (g.F.Fold.made l.fold) (g.F.Fold.number l.fold) (λ k. l.x-index) l.held.entries;
}
