use Rattle.std.proofs.Common.{◌≡◌, ◌≢◌, List, [], ◌∷◌, length, None, refl, sym, arith}
use Rattle.toml.specs.Data.{array}
use Rattle.toml.specs.View.{view, items_view, array_view}
use Rattle.toml.specs.declared.value.Value.{Value}
use Rattle.sq_tables.specs.Shapes.{point_in}
use Rattle.sq_tables.proofs.DocumentLemmas.{is_array}
use Rattle.sq_tables.proofs.graphs.point_in.Goals as goal

not_two : (vs : List Value) → length vs ≢ 2 → point_in (array (items_view vs)) ≡ None
not_two [] h = refl
not_two (a ∷ []) h = refl
not_two (a ∷ b ∷ []) h = absurd (h (omega arith))
not_two (a ∷ b ∷ e ∷ vs) h = refl

pub returns-then-len-ne2 : goal.returns-then-len-ne2
returns-then-len-ne2 c =
    let is : view c.args.value.now ≡ array (array_view c.in_ok-items.items.now) = is_array (view c.args.value.now) (array_view c.in_ok-items.items.now) (sym c.in_ok-items.ensures) in
    let short : length c.in_ok-items.items.now.items ≢ 2 = omega arith in
    rw is (sym (not_two c.in_ok-items.items.now.items short))
