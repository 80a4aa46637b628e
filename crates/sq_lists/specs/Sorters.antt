-- BSort one tuple at a time: what it holds stands in order of time, and then of number.
use Rattle.std.specs.Prelude.{ℕ, ◌+◌, ◌<◌, ◌≤◌, max, nat_lt, if◌then◌else◌, List, [], ◌∷◌, ◌++◌, length, map, Option, Some, None}
use Rattle.std.specs.List.{AllByRecursion}
use Rattle.sq_value.specs.declared.Tuple.{Tuple}
use Rattle.sq_value.specs.Values.{field}
use Rattle.sq_lists.specs.Sorting.{Numbered, numbered_sooner, time_in, at_time, without_late}

-- behind those that aren't later
abbrev pub put_in : Numbered → List Numbered → List Numbered
put_in x [] = x ∷ []
put_in x (y ∷ ys) = if numbered_sooner x y then x ∷ y ∷ ys else y ∷ put_in x ys

abbrev pub first_of_all : List Numbered → List Tuple
first_of_all [] = []
first_of_all (x ∷ xs) = x.1 ∷ []

abbrev pub after_first : List Numbered → List Numbered
after_first [] = []
after_first (x ∷ xs) = xs

-- how many may be held, those that are, the number of the next one, the greatest time of those that were chosen, and how many were given
pub record SorterState : Type 0 where
  pub slack : ℕ
  pub held : List Numbered
  pub number : ℕ
  pub latest : ℕ
  pub given : ℕ

abbrev pub new_sorter : ℕ → SorterState
new_sorter slack = record { slack = slack; held = []; number = 0; latest = 0; given = 0 }

abbrev pub latest_of : ℕ → List Tuple → ℕ
latest_of latest [] = latest
latest_of latest (x ∷ xs) = latest_of (max latest x.time) xs

-- what is chosen when this is held beside the slack
abbrev pub chosen_of : ℕ → List Numbered → List Tuple
chosen_of slack full = if nat_lt slack (length full) then first_of_all full else []

abbrev pub kept_back : ℕ → List Numbered → List Numbered
kept_back slack full = if nat_lt slack (length full) then after_first full else full

abbrev pub sort_gives : SorterState → Tuple → List Tuple
sort_gives s x = without_late s.latest (chosen_of s.slack (put_in (s.number, x) s.held))

abbrev pub sort_next : SorterState → Tuple → SorterState
sort_next s x =
    let full = put_in (s.number, x) s.held in
    record {
      slack = s.slack;
      held = kept_back s.slack full;
      number = s.number + 1;
      latest = latest_of s.latest (chosen_of s.slack full);
      given = s.given + length (sort_gives s x);
    }

abbrev pub sort_flush : SorterState → List Tuple
sort_flush s = without_late s.latest (map (λ a. a.1) s.held)

-- what a sorter gives for tuples that have their times
abbrev pub sort_run : SorterState → List Tuple → List Tuple
sort_run s [] = sort_flush s
sort_run s (x ∷ xs) = sort_gives s x ++ sort_run (sort_next s x) xs

-- the first of the held ones goes out, and is given unless it is late
abbrev pub sort_first : SorterState → List Tuple
sort_first s = without_late s.latest (first_of_all s.held)

abbrev pub sort_after : SorterState → SorterState
sort_after s = record {
  slack = s.slack;
  held = after_first s.held;
  number = s.number;
  latest = latest_of s.latest (first_of_all s.held);
  given = s.given + length (sort_first s);
}

-- a tuple at the time of its field, where that is a time
abbrev pub timed : ℕ → Tuple → Option Tuple
timed by x = at_time x (time_in x.time (field x.fields by))

abbrev pub next_with : SorterState → Option Tuple → SorterState
next_with s None = s
next_with s (Some x) = sort_next s x

abbrev pub gives_with : SorterState → Option Tuple → List Tuple
gives_with s None = []
gives_with s (Some x) = sort_gives s x

-- the facts that a sorter keeps
pub record IsSorter (s : SorterState) : Type 0 where
  pub below : AllByRecursion (λ a. a.0 < s.number) s.held
  pub few : length s.held ≤ s.slack
  pub counted : s.given + length s.held ≤ s.number
