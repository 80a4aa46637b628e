-- A Union by the times of tuples alone.
use Rattle.std.specs.Prelude.{Bool, nat_lt}
use Rattle.sq_value.specs.declared.Tuple.{Tuple}

abbrev pub tuple_sooner : Tuple → Tuple → Bool
tuple_sooner a b = nat_lt a.time b.time
