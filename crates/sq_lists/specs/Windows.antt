-- Aggregate.
use Rattle.std.specs.Prelude.{ℕ, List, ◌++◌, map}
use Rattle.std.specs.List.{filter, flat_map}
use Rattle.std.specs.Ordering.{is_eq}
use Rattle.sq_value.specs.declared.Value.{Value}
use Rattle.sq_value.specs.declared.Tuple.{Tuple}
use Rattle.sq_value.specs.Values.{fields_cmp}
use Rattle.sq_words.specs.Lists.{ascending, numbers_to, max_by}
use Rattle.sq_aggfn.specs.declared.Func.{Func}
use Rattle.sq_aggfn.specs.declared.WindowSpec.{WindowSpec}
use Rattle.sq_aggfn.specs.Windows.{start_of, started, covers}
use Rattle.sq_aggfn.specs.Functions.{answers_of}
use Rattle.sq_aggfn.specs.Groups.{group_of}

-- the tuples of the window that begins at a tick
abbrev pub in_window : WindowSpec → ℕ → List Tuple → List Tuple
in_window w start xs = filter (λ x. covers w start x.time) xs

-- the groups of some tuples, ascending
abbrev pub groups_of : List ℕ → List Tuple → List (List Value)
groups_of by xs = ascending fields_cmp (map (group_of by) xs)

abbrev pub in_group : List ℕ → List Value → List Tuple → List Tuple
in_group by group xs = filter (λ x. is_eq (fields_cmp (group_of by x) group)) xs

-- the results of one window: a tuple for each group that has one there
abbrev pub window_results : (List Tuple → List Value) → List ℕ → ℕ → List Tuple → List Tuple
window_results answers by start inside = map (λ g. record { time = start; fields = g ++ answers (in_group by g inside) }) (groups_of by inside)

-- the starts of windows, ascending, up to the last time
abbrev pub starts_of : WindowSpec → List Tuple → List ℕ
starts_of w xs = map (start_of w) (numbers_to (started w (max_by (λ x. x.time) xs)))

-- the results of all windows, for answers of any kind
abbrev pub aggregate_of : (List Tuple → List Value) → List ℕ → WindowSpec → List Tuple → List Tuple
aggregate_of answers by w xs = flat_map (λ s. window_results answers by s (in_window w s xs)) (starts_of w xs)

-- what an Aggregate gives
abbrev pub aggregate_list_of : List Func → List ℕ → WindowSpec → List Tuple → List Tuple
aggregate_list_of fs by w xs = aggregate_of (answers_of fs) by w xs
