use Rattle.std.proofs.Common.{◌≡◌, ◌≢◌, List, [], ◌∷◌, length, None, refl, sym, arith}
use Rattle.toml.specs.Data.{array}
use Rattle.toml.specs.View.{view, items_view, array_view}
use Rattle.toml.specs.declared.value.Value.{Value}
use Rattle.sq_tables.specs.Shapes.{answer_column_in}
use Rattle.sq_tables.proofs.DocumentLemmas.{is_array}
use Rattle.sq_tables.proofs.answer_columns.answer_column_in.Goals as goal

not_two_or_three : (vs : List Value) → length vs ≢ 2 → length vs ≢ 3 → answer_column_in (array (items_view vs)) ≡ None
not_two_or_three [] two three = refl
not_two_or_three (a ∷ []) two three = refl
not_two_or_three (a ∷ b ∷ []) two three = absurd (two (omega arith))
not_two_or_three (a ∷ b ∷ e ∷ []) two three = absurd (three (omega arith))
not_two_or_three (a ∷ b ∷ e ∷ d ∷ vs) two three = refl

pub returns : goal.returns
returns c = λ _.
    let is : view c.args.value.now ≡ array (array_view c.in-Some.items.now) = is_array (view c.args.value.now) (array_view c.in-Some.items.now) (sym c.in-Some.ensures) in
    let two : length c.in-Some.items.now.items ≢ 2 = omega arith in
    let three : length c.in-Some.items.now.items ≢ 3 = omega arith in
    rw is (not_two_or_three c.in-Some.items.now.items two three)
