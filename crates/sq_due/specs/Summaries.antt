-- The summary of a run: how many lines of each class came, and how many tuples each box was fed.
use Rattle.std.specs.Prelude.{ℕ, List, [], ◌++◌, map, length, if◌then◌else◌, codes}
use Rattle.std.specs.Fmt.{decimal}
use Rattle.std.specs.List.{flat_map, zip}
use Rattle.sq_words.specs.Lists.{numbers_to}
use Rattle.sq_net.specs.declared.Network.{Network}
use Rattle.sq_net.specs.declared.Node.{Node}
use Rattle.sq_net.specs.declared.Output.{Output}
use Rattle.sq_lines.specs.RunLines.{is_sorter}
use Rattle.sq_model.specs.Shedding.{Replay}
use Rattle.sq_points.specs.Points.{drops_in}
use Rattle.sq_due.specs.Due.{answer_in, fed_in, late_counts}

-- a word, what is counted, and how many there are
abbrev pub count_line : List ℕ → List ℕ → ℕ → List ℕ
count_line word name count = word ++ (codes "," ++ (name ++ (codes "," ++ (decimal count ++ codes "\n"))))

abbrev pub output_count : Output × ℕ → List ℕ
output_count o = count_line (codes "lines") (o.0).name o.1

abbrev pub drop_count_line : ℕ × ℕ → List ℕ
drop_count_line w = count_line (codes "drops") (decimal w.0) w.1

abbrev pub fed_count : Node × ℕ → List ℕ
fed_count b = count_line (codes "fed") (b.0).name b.1

-- a BSort alone has tuples that are late
abbrev pub late_count : Node × ℕ → List ℕ
late_count b = if is_sorter (b.0).body then count_line (codes "late") (b.0).name b.1 else []

-- the summary with these counts: of each output, of each drop and of each box
abbrev pub summary_text : ℕ → ℕ → Network → List ℕ → List ℕ → List ℕ → List ℕ → List ℕ
summary_text number rows n lines drops fed late =
    count_line (codes "gen") (decimal number) rows
    ++ (flat_map output_count (zip n.outputs lines)
    ++ (flat_map drop_count_line (zip (numbers_to (length drops)) drops)
    ++ (flat_map fed_count (zip n.boxes fed)
    ++ (flat_map late_count (zip n.boxes late) ++ codes "end\n"))))

-- the summary of the run that a number and rows name, which is a replay as any other
abbrev pub summary_of : ℕ → ℕ → Replay → List ℕ
summary_of number rows r =
    summary_text number rows r.network
    (map (λ o. length ((answer_in r).tuples o)) (numbers_to (length r.network.outputs)))
    (map (λ w. length ((answer_in r).decisions w)) (numbers_to (drops_in r.network)))
    (map (fed_in r) (numbers_to (length r.network.boxes)))
    (map (late_counts r) (numbers_to (length r.network.boxes)))
