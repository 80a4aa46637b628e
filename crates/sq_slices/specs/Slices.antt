-- Slices of time.
--     slice a b xs          the tuples from tick a on, and before tick b
--     AgreeIn a b xs ys     two lists have the same tuples there, in the same order
--     CameWithin delay by x the tuple came at most so many ticks after the time in its field
use Rattle.std.specs.Prelude.{◌≡◌, ℕ, ◌+◌, ◌≤◌, ◌&&◌, nat_le, nat_lt, Bool, List}
use Rattle.std.specs.List.{filter}
use Rattle.std.specs.Option.{IfSome}
use Rattle.sq_value.specs.declared.Tuple.{Tuple}
use Rattle.sq_value.specs.Values.{field}
use Rattle.sq_words.specs.Lists.{nth}
use Rattle.sq_lists.specs.Sorting.{time_in}

abbrev pub in_slice : ℕ → ℕ → Tuple → Bool
in_slice a b x = nat_le a x.time && nat_lt x.time b

abbrev pub slice : ℕ → ℕ → List Tuple → List Tuple
slice a b xs = filter (in_slice a b) xs

abbrev pub AgreeIn : ℕ → ℕ → List Tuple → List Tuple → Type 0
AgreeIn a b xs ys = slice a b xs ≡ slice a b ys

-- what a part of a run has of the sources is all of them there; beyond it may have anything
abbrev pub SourcesAgree : ℕ → ℕ → List (List Tuple) → List (List Tuple) → Type 0
SourcesAgree a b sources part = (s : ℕ) → AgreeIn a b (nth sources s) (nth part s)

abbrev pub CameWithin : ℕ → ℕ → Tuple → Type 0
CameWithin delay by x = IfSome (time_in x.time (field x.fields by)) (λ t. x.time ≤ t + delay)
