-- Windows of size 6 by 4 over panes of width 2, worked out.
use Rattle.std.proofs.Common.{◌≡◌, ℕ, List, [], ◌∷◌, map, refl, pos, Option, Some, None}
use Rattle.std.specs.Prelude.{option_map}
use Rattle.std.specs.Ordering.{is_eq}
use Rattle.std.specs.Map.{lookup}
use Rattle.sq_value.specs.declared.Value.{Value}
use Rattle.sq_value.specs.declared.Value.TheVariants as value
use Rattle.sq_value.specs.declared.Tuple.{Tuple}
use Rattle.sq_value.specs.Values.{fields_cmp}
use Rattle.sq_aggfn.specs.declared.Func.{Func}
use Rattle.sq_aggfn.specs.declared.WindowSpec.{WindowSpec}
use Rattle.sq_aggfn.specs.declared.Func.TheVariants as func
use Rattle.sq_aggfn.specs.KeyedStates.{added}
use Rattle.sq_aggfn.specs.Parts.{Kept, nothing_kept, kept_of_one, join_kept, answer_kept}
use Rattle.sq_pane.specs.Panes.{Key, key_cmp, pane_of, from_pane, window_from}

abbrev at : ℕ → Value → Tuple
at t v = record { time = t; fields = v ∷ [] }

abbrev number : ℕ → ℕ → Tuple
number t n = at t (value.Int (pos n))

abbrev six_by_four : WindowSpec
six_by_four = record { size = 6; advance = 4; phase = 0 }

-- each in its pane, all in one group
abbrev held_of : WindowSpec → List Func → List (Key × Kept) → List Tuple → List (Key × Kept)
held_of w fs es [] = es
held_of w fs es (x ∷ xs) = held_of w fs (added key_cmp (nothing_kept fs) (join_kept fs) (pane_of w 2 x.time, []) (kept_of_one fs x) es) xs

abbrev answer : WindowSpec → List Func → ℕ → List (Key × Kept) → Option (List Value)
answer w fs start es =
    option_map (answer_kept fs) (lookup (λ q. is_eq (fields_cmp [] q)) (window_from (nothing_kept fs) (join_kept fs) w 2 start [] es))

-- sums of 1:5, 4:7 and 5:1 in the windows from 0, 4 and 8 on
abbrev sums : List (Key × Kept)
sums = held_of six_by_four (func.Sum 0 ∷ []) [] (number 1 5 ∷ number 4 7 ∷ number 5 1 ∷ [])

windows : map (λ s. answer six_by_four (func.Sum 0 ∷ []) s sums) (0 ∷ 4 ∷ 8 ∷ []) ≡ Some (value.Int (pos 13) ∷ []) ∷ Some (value.Int (pos 8) ∷ []) ∷ None ∷ []
windows = refl

-- once what ended by 4 is forgotten
forgotten : answer six_by_four (func.Sum 0 ∷ []) 4 (from_pane (pane_of six_by_four 2 4) sums) ≡ Some (value.Int (pos 8) ∷ [])
forgotten = refl

-- Null, 3 and 4 in three panes of one window
ends : answer six_by_four (func.First 0 ∷ func.Last 0 ∷ []) 0 (held_of six_by_four (func.First 0 ∷ func.Last 0 ∷ []) [] (at 0 value.Null ∷ number 2 3 ∷ number 4 4 ∷ [])) ≡ Some (value.Int (pos 3) ∷ value.Int (pos 4) ∷ [])
ends = refl

-- from 3 on: the windows begin at 3 and 7, and no pane of theirs has the tuples of times 1 and 2
abbrev later : WindowSpec
later = record { size = 6; advance = 4; phase = 3 }

numbers : map (pane_of later 2) (0 ∷ 1 ∷ 2 ∷ 3 ∷ 4 ∷ 5 ∷ []) ≡ 0 ∷ 1 ∷ 1 ∷ 2 ∷ 2 ∷ 3 ∷ []
numbers = refl

windows-later : map (λ s. answer later (func.Sum 0 ∷ []) s (held_of later (func.Sum 0 ∷ []) [] (number 1 5 ∷ number 2 9 ∷ number 4 7 ∷ number 8 1 ∷ []))) (3 ∷ 7 ∷ 11 ∷ [])
    ≡ Some (value.Int (pos 8) ∷ []) ∷ Some (value.Int (pos 1) ∷ []) ∷ None ∷ []
windows-later = refl
