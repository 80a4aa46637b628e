-- The limits of drop points: none of a network's has a batch that is too long or an extent that is too wide.
use Rattle.std.specs.List.{All}
use Rattle.sq_place.specs.Refusals.{IsFine}
use Rattle.sq_net.specs.declared.Network.{Network}
use Rattle.sq_points.specs.Points.{points_of}

abbrev pub KeepsDropLimits : Network → Type 0
KeepsDropLimits n = All IsFine (points_of n)
