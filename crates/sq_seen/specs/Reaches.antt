-- What is seen of a place from an arc below it: the numbers that are worked out box by box.
--     past, join_all           what a box makes of what is seen from its arcs
use Rattle.std.specs.Prelude.{ℕ, ◌+◌, ◌-◌, min, max, true, false, ◌||◌, if◌then◌else◌, List, [], ◌∷◌, Option, Some, None, is_some, slice_index_or}
use Rattle.std.specs.Option.{option_map}
use Rattle.sq_aggfn.specs.declared.WindowSpec.{WindowSpec}
use Rattle.sq_seen.specs.declared.seen.Seen.{Seen}
use Rattle.sq_seen.specs.Numbers.{lcm_of}

-- one more than the greatest length that isn't too long; a greater number counts as this one
abbrev pub cap : ℕ
cap = 17179869185

abbrev pub capped : ℕ → ℕ
capped n = min n cap

-- the greatest distance that is kept in a word; none is so great
abbrev pub farthest : ℕ
farthest = 18446744073709551615

-- a number and one that may be there: the greater, the less
abbrev pub greater : ℕ → Option ℕ → ℕ
greater n None = n
greater n (Some m) = max n m

abbrev pub lesser_number : ℕ → Option ℕ → ℕ
lesser_number n None = n
lesser_number n (Some m) = min n m

-- the last start before a multiple of the advance lies this much before it, or more
abbrev pub margin_of : WindowSpec → ℕ
margin_of w = w.advance - w.phase

abbrev pub nothing : Seen
nothing = record { dist = None; bare = false; common = 1; least = None }

-- from an arc of the place itself
abbrev pub itself : Seen
itself = record { dist = Some 0; bare = true; common = 1; least = None }

abbrev pub later : Option ℕ → Option ℕ → Option ℕ
later None d = d
later (Some n) d = Some (greater n d)

abbrev pub sooner_reach : Option ℕ → Option ℕ → Option ℕ
sooner_reach None d = d
sooner_reach (Some n) d = Some (lesser_number n d)

-- from both of two arcs
abbrev pub join : Seen → Seen → Seen
join a b = record { dist = later a.dist b.dist; bare = a.bare || b.bare; common = capped (lcm_of a.common b.common); least = sooner_reach a.least b.least }

abbrev pub join_all : List Seen → Seen
join_all [] = nothing
join_all (x ∷ xs) = join x (join_all xs)

-- behind a box: an Aggregate is the last on each path through it
abbrev pub past : Option WindowSpec → Seen → Seen
past None s = s
past (Some w) s = record {
  dist = option_map (λ d. min (d + (w.size - 1)) farthest) s.dist;
  bare = false;
  common = if is_some s.dist then capped w.advance else 1;
  least = if is_some s.dist then Some (margin_of w) else None;
}

-- by a table of what is seen behind each box
abbrev pub in_table : List Seen → Option ℕ → Seen
in_table table None = nothing
in_table table (Some b) = slice_index_or table b nothing
