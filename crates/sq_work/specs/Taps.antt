-- A query that is joined to a stream of a network: what comes of it, or the first rule that is broken.
use Rattle.std.specs.Prelude.{ℕ, ◌-◌, Bool, ◌&&◌, ◌==◌, if◌then◌else◌, length, Option, Some, None, Result, Ok, Err, nat_le}
use Rattle.sq_value.specs.Values.{kinds_of}
use Rattle.sq_net.specs.declared.Network.{Network}
use Rattle.sq_tap.specs.declared.TapErr.{TapErr}
use Rattle.sq_tap.specs.declared.TapErr.TheVariants as error
use Rattle.sq_joined.specs.Joining.{boxes_in_front, columns, joined}
use Rattle.sq_expr.specs.Kinds.{same_kinds}
use Rattle.sq_reader.specs.Drops.{is_drop_within}
use Rattle.std.specs.List.{list_all}
use Rattle.sq_points.specs.Points.{points_of}

-- the joined network, and how many boxes stand in front of the query's
pub record Tapped : Type 0 where
  pub network : Network
  pub first : ℕ

abbrev pub is_within_limits : Network → Bool
is_within_limits net = nat_le (length net.boxes) 128 && list_all is_drop_within (points_of net)

module _ (n : Network) (stream from : ℕ) (q : Network) where
  abbrev pub tapped_within : Bool → Result Tapped TapErr
  tapped_within within = if within then Ok (record { network = joined n stream from q; first = boxes_in_front n stream }) else Err error.Limit

  abbrev pub tapped_kinds : Bool → Result Tapped TapErr
  tapped_kinds same = if same then tapped_within (is_within_limits (joined n stream from q)) else Err error.Schema

  abbrev pub tapped_source : Bool → Result Tapped TapErr
  tapped_source one = if one then tapped_kinds (same_kinds (kinds_of (columns q 0)) (kinds_of (columns n stream))) else Err error.Sources

  abbrev pub tapped_at : Result Tapped TapErr
  tapped_at = tapped_source (length q.sources == 1)

-- the rules in their order: the stream is there, the query has one source, of the stream's kinds, and the joined network keeps its limits
abbrev pub tapped : Network → Option ℕ → ℕ → Network → Result Tapped TapErr
tapped n None from q = Err error.NoStream
tapped n (Some stream) from q = tapped_at n stream from q

-- the first tick of which the query is fed: a history that is longer than the time before the tick goes back to 0
abbrev pub first_tick : ℕ → ℕ → ℕ
first_tick tick history = tick - history
