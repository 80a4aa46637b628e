-- What a map of groups ends as, once a `&mut` into it has ended.
use Rattle.std.specs.Prelude.{◌≡◌, List, Option}
use Rattle.std.specs.Borrow.{Fml, RattleType, MutBor, LendsSo}
use Rattle.std.specs.Map.{set_value}
use Rattle.sq_value.specs.declared.Value.{Value}
use Rattle.sq_groups.specs.Ordered.{is_at}
use Rattle.sq_groups.specs.contracts.map.GroupMap.{the_row}

-- the group has the last value written through r, and without the group the map stays as it is
abbrev pub lends_at : (V : RattleType) → MutBor (List (List Value × V.Denot)) → List Value → Option (MutBor V.Denot) → Fml
lends_at V m g r = LendsSo (the_row V) V m r (λ n w. n ≡ set_value (is_at g) m.now w) (λ n. n ≡ m.now)
