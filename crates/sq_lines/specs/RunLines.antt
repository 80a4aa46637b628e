-- The lines of a run: one for each event, and those at its end.
use Rattle.std.specs.Prelude.{drop, ⊤, ◌≡◌, ℕ, ◌<◌, Bool, true, false, if◌then◌else◌, List, [], ◌∷◌, ◌++◌, map, length, Option, Some, None, slice_get, codes}
use Rattle.std.specs.List.{flat_map, zip}
use Rattle.sq_words.specs.Lists.{IsPrefixOf}
use Rattle.sq_lines.specs.LineTexts.{output_line, drop_line, plan_line, box_line, late_line, end_line}
use Rattle.sq_net.specs.declared.Network.{Network}
use Rattle.sq_net.specs.declared.Node.{Node}
use Rattle.sq_net.specs.declared.Output.{Output}
use Rattle.sq_net.specs.declared.Body.{Body}
use Rattle.sq_net.specs.declared.Body.TheVariants.{BSort}
use Rattle.sq_oper.specs.declared.outs.Event.{Event}
use Rattle.sq_oper.specs.declared.outs.Event.TheVariants.{Line, Dropped, Plan}

-- the text of lines
abbrev pub lines_text : List (List ℕ) → List ℕ
lines_text lines = flat_map (λ line. line) lines

-- the name of the output with this number
abbrev pub output_name_in : Option Output → List ℕ
output_name_in None = []
output_name_in (Some o) = o.name

abbrev pub output_name : Network → ℕ → List ℕ
output_name n output = output_name_in (slice_get n.outputs output)

-- whether what a plan leaves fits its capacity
abbrev pub fits_text : Bool → List ℕ
fits_text fits = if fits then codes "fits" else codes "short"

-- the line of an event
abbrev pub event_line : Network → Event → List ℕ
event_line n (Line output tuple) = output_line (output_name n output) tuple
event_line n (Dropped d) = drop_line d.drop d.batch d.level
event_line n (Plan epoch load capacity saved fits) = plan_line epoch load capacity saved fits

-- an event of this network: its output is there
abbrev pub IsEventOf : Network → Event → Type 0
IsEventOf n (Line output tuple) = output < length n.outputs
IsEventOf n (Dropped d) = ⊤
IsEventOf n (Plan epoch load capacity saved fits) = ⊤

-- a box's line, with how many tuples it was fed
abbrev pub fed_line : Node × ℕ → List ℕ
fed_line b = box_line (b.0).name b.1

abbrev pub is_sorter : Body → Bool
is_sorter (BSort by slack) = true
is_sorter body = false

-- the line of a box's late tuples, which a BSort alone has
abbrev pub late_lines : Node × ℕ → List (List ℕ)
late_lines b = if is_sorter (b.0).body then late_line (b.0).name b.1 ∷ [] else []

abbrev pub late_text : Node × ℕ → List ℕ
late_text b = lines_text (late_lines b)

-- the lines of all boxes, then those of the BSorts, then the last one, where each box was fed so many tuples, of which so many were late
abbrev pub end_lines : Network → List ℕ → List ℕ → List (List ℕ)
end_lines n fed late = map fed_line (zip n.boxes fed) ++ (flat_map late_lines (zip n.boxes late) ++ end_line ∷ [])

-- a network of the boxes from one on
abbrev pub boxes_from : ℕ → Network → Network
boxes_from first n = record n { boxes = drop first n.boxes }

-- the end lines of the boxes from one on
abbrev pub end_lines_from : Network → ℕ → List ℕ → List ℕ → List (List ℕ)
end_lines_from n first fed late = end_lines (boxes_from first n) (drop first fed) (drop first late)

-- a part of a text was appended, from its start
abbrev pub AppendsPart : List ℕ → List ℕ → List ℕ → Type 0
AppendsPart before now text = (part : List ℕ) × IsPrefixOf part text × (now ≡ before ++ part)
