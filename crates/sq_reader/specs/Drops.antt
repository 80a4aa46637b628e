-- The rule on the drop points of a network.
use Rattle.std.specs.Prelude.{Bool, not, ◌&&◌, Option, option_map}
use Rattle.sq_place.specs.declared.DropPoint.{DropPoint}
use Rattle.sq_place.specs.Points.{is_long_batch, is_wide_extent}
use Rattle.sq_net.specs.declared.Network.{Network}
use Rattle.sq_net.specs.declared.Part.TheVariants as part
use Rattle.sq_net.specs.declared.Place.{Place}
use Rattle.sq_points.specs.Points.{points_of}
use Rattle.sq_tables.specs.Places.{part_place}
use Rattle.sq_rules.specs.Limits.{first_failing}

-- neither a batch that is too long nor an extent that is too wide
abbrev pub is_drop_within : DropPoint → Bool
is_drop_within p = not (is_long_batch p) && not (is_wide_extent p)

-- the first drop point that is out of the limits
abbrev pub drop_place : Network → Option Place
drop_place n = option_map (part_place part.Drop) (first_failing is_drop_within (points_of n))
