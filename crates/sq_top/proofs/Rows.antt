-- A worked row, by evaluation: one Aggregate is shown at p, and taken by a second one, which is shown at q; capacity lacks for two epochs.
use Rattle.std.proofs.Common.{◌≡◌, ℕ, List, [], ◌∷◌, map, refl, Some, None}
use Rattle.std.specs.Prelude.{codes}
use Rattle.std.specs.Fmt.{digits}
use Rattle.sq_lines.specs.LineTexts.{output_line}
use Rattle.sq_place.specs.declared.DropAt.TheVariants as at
use Rattle.sq_place.specs.declared.DropPoint.{DropPoint}
use Rattle.sq_place.specs.Points.{point_at}
use Rattle.sq_points.specs.Above.{drop_above_output}
use Rattle.sq_points.specs.Points.{points_of, windows_of}
use Rattle.sq_tap.specs.Parts.{full_output}
use Rattle.sq_starts.proofs.Rows.{forked, to_fifteen}
use Rattle.sq_work.specs.Scripts.{AcceptedReplay}
use Rattle.sq_work.proofs.Rows.{of_tuples}
use Rattle.sq_top.specs.Headline.{batch_line, unrecorded}

abbrev replay : AcceptedReplay
replay = record (of_tuples forked to_fifteen) { entries = (1, Some 0) ∷ (3, None) ∷ [] }

abbrev drop_point : DropPoint
drop_point = point_at forked.wires (windows_of forked) 1 (at.Stream 0)

points_are : points_of forked ≡ drop_point ∷ []
points_are = refl

-- where the batches 1 and 2 are dropped, the text records them at the level of the epochs in which they begin
told_are : map (batch_line replay 0 drop_point) (1 ∷ 2 ∷ []) ≡ codes "@drop,0,1,1000\n" ∷ codes "@drop,0,2,1000\n" ∷ []
unfolding digits
told_are = refl

abbrev lines_at : List ℕ → ℕ → List (List ℕ)
lines_at name o = map (output_line name) (unrecorded (λ w. 1 ∷ 2 ∷ []) (drop_above_output forked o) (full_output forked to_fifteen o))

-- the windows that start in these batches, from 4 on and before 12, are missing
lines_p : lines_at (codes "p") 0 ≡ codes "p,0,6\n" ∷ codes "p,2,14\n" ∷ codes "p,12,54\n" ∷ codes "p,14,29\n" ∷ []
unfolding digits
lines_p = refl

lines_q : lines_at (codes "q") 1 ≡ codes "q,0,30\n" ∷ codes "q,12,54\n" ∷ []
unfolding digits
lines_q = refl
