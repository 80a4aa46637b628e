-- The values of a key, wherever they lie.
use Rattle.std.specs.Prelude.{List, [], ◌∷◌}
use Rattle.sq_value.specs.declared.Value.{Value}
use Rattle.sq_groups.specs.declared.key.KeyValues.{KeyValues}
use Rattle.sq_groups.specs.declared.key.KeyValues.TheVariants as lying

abbrev pub values_lying : KeyValues → List Value
values_lying (lying.One v) = v ∷ []
values_lying (lying.Many g) = g
