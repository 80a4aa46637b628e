-- Aggregate on whole lists, worked out.
use Rattle.std.proofs.Common.{◌≡◌, ℕ, List, [], ◌∷◌, map, refl, pos, negsuc}
use Rattle.sq_value.specs.declared.Value.{Value}
use Rattle.sq_value.specs.declared.Value.TheVariants as value
use Rattle.sq_value.specs.declared.Tuple.{Tuple}
use Rattle.sq_words.specs.Lists.{numbers_to}
use Rattle.sq_aggfn.specs.declared.Func.TheVariants as func
use Rattle.sq_lists.specs.Windows.{aggregate_list_of}

-- a tuple of one number
abbrev at : ℕ → ℕ → Tuple
at t v = record { time = t; fields = value.Int (pos v) ∷ [] }

abbrev sums : ℕ → ℕ → ℕ → List Tuple → List Tuple
sums size advance phase xs = aggregate_list_of (func.Sum 0 ∷ []) [] (record { size = size; advance = advance; phase = phase }) xs

abbrev greatest : ℕ → ℕ → ℕ → List Tuple → List Tuple
greatest size advance phase xs = aggregate_list_of (func.Max 0 ∷ []) [] (record { size = size; advance = advance; phase = phase }) xs

-- windows of size 10 begin at 0, 5 and 10; the last is open at the end of the input
overlapping : sums 10 5 0 (at 0 1 ∷ at 3 2 ∷ at 12 4 ∷ []) ≡ at 0 3 ∷ at 5 4 ∷ at 10 4 ∷ []
overlapping = refl

-- with the phase 3 they begin at 3 and 8, and the tuple of time 2 is in none
later : sums 10 5 3 (at 2 5 ∷ at 3 1 ∷ at 9 2 ∷ []) ≡ at 3 3 ∷ at 8 2 ∷ []
later = refl

-- the greatest in fours of the sums of the ticks in fours, by twos
nested : greatest 4 4 0 (sums 4 2 0 (map (λ t. at t t) (numbers_to 16))) ≡ at 0 14 ∷ at 4 30 ∷ at 8 46 ∷ at 12 54 ∷ []
nested = refl

-- the fours of the second 2 later: the tuples of times 0 and 1 of the first's results are in none
nested-later : greatest 4 4 2 (sums 4 2 0 (map (λ t. at t t) (numbers_to 16))) ≡ at 2 22 ∷ at 6 38 ∷ at 10 54 ∷ at 14 29 ∷ []
nested-later = refl

-- a sum out of 64 bits is Null
wide : sums 10 10 0 (at 1 9223372036854775807 ∷ at 2 1 ∷ []) ≡ record { time = 0; fields = value.Null ∷ [] } ∷ []
wide = refl

-- `count` and `avg` by a text: b with 5 and Null, a with -7 and 0
abbrev of : ℕ → ℕ → Value → Tuple
of t letter v = record { time = t; fields = value.Text (letter ∷ []) ∷ v ∷ [] }

grouped : aggregate_list_of (func.Count ∷ func.Avg 1 ∷ []) (0 ∷ []) (record { size = 10; advance = 10; phase = 0 })
    (of 1 98 (value.Int (pos 5)) ∷ of 2 97 (value.Int (negsuc 6)) ∷ of 3 97 (value.Int (pos 0)) ∷ of 4 98 value.Null ∷ [])
    ≡ record { time = 0; fields = value.Text (97 ∷ []) ∷ value.Int (pos 2) ∷ value.Int (negsuc 2) ∷ [] }
    ∷ record { time = 0; fields = value.Text (98 ∷ []) ∷ value.Int (pos 2) ∷ value.Int (pos 5) ∷ [] }
    ∷ []
grouped = refl
