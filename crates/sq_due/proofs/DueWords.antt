-- What a run is to write and the steps that it is to take: words of the proofs alone.
use Rattle.sq_due.specs.Due.{Due}
use Rattle.std.specs.Prelude.{List, ℕ, ◌++◌}
use Rattle.std.specs.List.{flat_map}
use Rattle.sq_lines.specs.RunLines.{lines_text}

-- all lines, class by class, and their text
abbrev pub all_lines : Due → List (List ℕ)
all_lines d = flat_map (λ o. o.1) d.shown ++ (flat_map (λ w. w.1) d.dropped ++ (d.planned ++ d.ended))

abbrev pub all_text : Due → List ℕ
all_text d = lines_text (all_lines d)
