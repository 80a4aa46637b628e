-- Join: what it still gives, and the facts that it keeps.
use Rattle.std.specs.Prelude.{ℕ, ◌-◌, ◌≤◌, ◌==◌, ◌&&◌, nat_le, Bool, if◌then◌else◌, List, length}
use Rattle.std.specs.List.{AllByRecursion}
use Rattle.sq_value.specs.declared.Value.{Value}
use Rattle.sq_value.specs.declared.Tuple.{Tuple}
use Rattle.sq_value.specs.Values.{Columns}
use Rattle.sq_expr.specs.Trees.{Expr}
use Rattle.sq_item.specs.Things.{Thing}
use Rattle.sq_lists.specs.Pairs.{pairs_from, left_fields}
use Rattle.sq_lists.specs.Sides.{held_on_sides}
use Rattle.sq_lists.specs.WindowParts.{TimesNotFalling}
use Rattle.sq_oper.specs.Entries.{Entry}
use Rattle.sq_oper.specs.Streams.{things, at_zero}
use Rattle.sq_join.specs.Elements.{elements_of}

-- what a Join that holds these will still give: the pairs of those that come with those before them
abbrev pub join_rest : ℕ → Expr → List Tuple → List Tuple → List Entry → ℕ → List Thing
join_rest size on left right future q = at_zero q (things (pairs_from size on (held_on_sides left right) (elements_of future)))

-- how many values a tuple of a side may have: a left one as many as there are left fields, a right one what is left of 16
abbrev pub most_at : Columns → ℕ → ℕ
most_at columns side = if side == 0 then left_fields columns else 16 - left_fields columns

abbrev pub join_fits : Columns → ℕ → List Value → Bool
join_fits columns port fields = nat_le port 1 && nat_le (length fields) (most_at columns port)

-- what is held of a side: in order of time, none later than a time, each with at least one value and not too many
pub record IsSide (most now : ℕ) (xs : List Tuple) : Type 0 where
  pub rises : TimesNotFalling 0 xs
  pub early : AllByRecursion (λ x. x.time ≤ now) xs
  pub some : AllByRecursion (λ x. 1 ≤ length x.fields) xs
  pub few : AllByRecursion (λ x. length x.fields ≤ most) xs
