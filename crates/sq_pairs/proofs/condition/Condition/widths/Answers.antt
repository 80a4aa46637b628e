use Rattle.std.proofs.Common.{◌≡◌, List, [], ◌∷◌, Bool, true, false, ℕ, suc, cond, length, take, refl, ap, ◌∙◌}
use Rattle.std.specs.List.{filter}
use Rattle.sq_expr.specs.Trees.{Checked}
use Rattle.sq_value.specs.Values.{Columns, names_of}
use Rattle.sq_words.specs.Lists.{same_bytes}
use Rattle.sq_lists.specs.Pairs.{left_fields}
use Rattle.sq_pairs.proofs.condition.Condition.widths.Goals as goal

abbrev is_left : List ℕ → Bool
is_left name = same_bytes (take 2 name) (108 ∷ 95 ∷ [])

names-left : (columns : Columns) → length (filter is_left (names_of columns)) ≡ left_fields columns
names-left [] = refl
names-left (c ∷ columns) =
    elim (is_left c.0) as (λ b. length (cond b (c.0 ∷ filter is_left (names_of columns)) (filter is_left (names_of columns)))
    ≡ length (cond b (c ∷ filter (λ c. is_left c.0) columns) (filter (λ c. is_left c.0) columns))) [ true ↦ ap suc (names-left columns) | false ↦ names-left columns ]

pub returns-clause-left : goal.returns-clause-left
returns-clause-left c =
    c.left_names.ensures ∙ ap (λ names. length (filter is_left names)) (c.names-names.ensures.value ∙ ap names_of c.scope.ensures) ∙ names-left c.self.inside.on.scope
    ∙ ap (λ (on : Checked). left_fields on.scope) c.self.view_is
