-- The numbers that values are.
use Rattle.std.proofs.Common.{◌≡◌, ℤ}
use Rattle.std.specs.Prelude.{Option, None, Some}
use Rattle.sq_value.specs.declared.Value.{Value}
use Rattle.sq_value.specs.Values.{int_of}
use Rattle.sq_expr.specs.Views.{number_or_null}

-- a number is what its value is read as
pub number_back : (o : Option ℤ) (v : Value) → number_or_null o ≡ v → o ≡ int_of v
number_back None v is = cc
number_back (Some x) v is = cc
