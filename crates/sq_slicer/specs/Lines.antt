-- What is written of each output and of the run: how far slices reach into the sources, and where they may end.
use Rattle.std.specs.Prelude.{ℕ, Bool, not, List, [], ◌∷◌, ◌++◌, Option, Some, None, is_some, codes}
use Rattle.std.specs.Fmt.{decimal}
use Rattle.sq_net.specs.declared.Network.{Network}
use Rattle.sq_net.specs.declared.Output.{Output}
use Rattle.sq_slices.specs.declared.Reach.{Reach}
use Rattle.sq_slices.specs.Laws.{run_reach}
use Rattle.sq_slices.specs.Reaches.{first_uncut, output_reaches_of, outputs_reach}
use Rattle.sq_teller.specs.Boxes.{named_box}

-- ,BACK,AHEAD,STEP,PHASE
abbrev pub reach_text : Reach → List ℕ
reach_text r =
    codes "," ++ (decimal r.back ++ (codes "," ++ (decimal r.ahead ++ (codes "," ++ (decimal r.cuts.step ++ (codes "," ++ (decimal r.cuts.phase ++ codes "\n")))))))

-- NAME,sliced,BACK,AHEAD,STEP,PHASE or NAME,uncut
abbrev pub reach_line : Output → Option Reach → List ℕ
reach_line o None = o.name ++ codes ",uncut\n"
reach_line o (Some r) = o.name ++ (codes ",sliced" ++ reach_text r)

abbrev pub reach_lines : List Output → List (Option Reach) → List ℕ
reach_lines [] reaches = []
reach_lines (o ∷ os) [] = []
reach_lines (o ∷ os) (r ∷ rs) = reach_line o r ++ reach_lines os rs

-- how far slices of a run reach: those that serve all outputs, or where a delay is told those that tell by themselves whether they are in time
abbrev pub shared_reach : Network → Option ℕ → Option Reach
shared_reach n None = outputs_reach n None
shared_reach n (Some delay) = run_reach n delay

-- @run,BACK,AHEAD,STEP,PHASE, or the first box that can't be sliced: @uncut,BOX,KIND
abbrev pub run_line : Network → Option ℕ → Option Reach → List ℕ
run_line n delay None = named_box (codes "@uncut") n (first_uncut n delay)
run_line n delay (Some r) = codes "@run" ++ reach_text r

abbrev pub slices_text : Network → Option ℕ → List ℕ
slices_text n delay = reach_lines n.outputs (output_reaches_of n delay) ++ run_line n delay (shared_reach n delay)

-- whether there are no slices of a run
abbrev pub has_no_slices : Network → Option ℕ → Bool
has_no_slices n delay = not (is_some (shared_reach n delay))
