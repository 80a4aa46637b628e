-- Why a network is refused, in words.
use Rattle.std.specs.Prelude.{ℕ, List, [], ◌++◌, codes, Option, Some, None}
use Rattle.std.specs.Fmt.{decimal}
use Rattle.sq_expr.specs.declared.What.{What}
use Rattle.sq_expr.specs.declared.What.TheVariants as what
use Rattle.sq_qos.specs.declared.GraphErr.{GraphErr}
use Rattle.sq_qos.specs.declared.GraphErr.TheVariants as graph
use Rattle.sq_net.specs.declared.Part.{Part}
use Rattle.sq_net.specs.declared.Part.TheVariants as part
use Rattle.sq_net.specs.declared.Place.{Place}
use Rattle.sq_net.specs.declared.NetErr.{NetErr}
use Rattle.sq_net.specs.declared.NetErr.TheVariants as net

abbrev pub what_text : What → List ℕ
what_text what.BadToken = codes "BadToken"
what_text what.Expected = codes "Expected"
what_text what.Depth = codes "Depth"
what_text what.Wide = codes "Wide"
what_text what.EmptyText = codes "EmptyText"
what_text what.Memory = codes "Memory"

abbrev pub graph_text : GraphErr → List ℕ
graph_text graph.TooMany = codes "TooMany"
graph_text graph.Grid = codes "Grid"
graph_text graph.Ends = codes "Ends"
graph_text graph.Falls = codes "Falls"
graph_text graph.NotConcave = codes "NotConcave"
graph_text graph.Memory = codes "Memory"

abbrev pub part_text : Part → List ℕ
part_text part.Top = codes "top"
part_text part.Source = codes "source"
part_text part.Box = codes "box"
part_text part.Output = codes "output"
part_text part.Drop = codes "drop"

-- a part, its number and the item in it
abbrev pub place_text : Place → List ℕ
place_text p = part_text p.part ++ (codes " " ++ (decimal p.number ++ (codes " " ++ decimal p.item)))

-- the rule by its name
abbrev pub rule_text : NetErr → List ℕ
rule_text net.Toml = codes "Toml"
rule_text net.Version = codes "Version"
rule_text (net.Shape p) = codes "Shape"
rule_text (net.Limit p) = codes "Limit"
rule_text (net.NoName p) = codes "NoName"
rule_text (net.Twice p) = codes "Twice"
rule_text (net.Unknown p) = codes "Unknown"
rule_text (net.Cycle p) = codes "Cycle"
rule_text (net.Window p) = codes "Window"
rule_text (net.Graph p e) = codes "Graph"
rule_text (net.Schema p) = codes "Schema"
rule_text (net.Expr p e) = codes "Expr"
rule_text (net.Typing p) = codes "Typing"
rule_text (net.Group p) = codes "Group"
rule_text net.Memory = codes "Memory"

-- where it is broken
abbrev pub refusal_place : NetErr → Option Place
refusal_place net.Toml = None
refusal_place net.Version = None
refusal_place (net.Shape p) = Some p
refusal_place (net.Limit p) = Some p
refusal_place (net.NoName p) = Some p
refusal_place (net.Twice p) = Some p
refusal_place (net.Unknown p) = Some p
refusal_place (net.Cycle p) = Some p
refusal_place (net.Window p) = Some p
refusal_place (net.Graph p e) = Some p
refusal_place (net.Schema p) = Some p
refusal_place (net.Expr p e) = Some p
refusal_place (net.Typing p) = Some p
refusal_place (net.Group p) = Some p
refusal_place net.Memory = None

abbrev pub at_place_text : Option Place → List ℕ
at_place_text None = []
at_place_text (Some p) = codes " " ++ place_text p

-- what else it says: why the points are no graph, or where and why the text is no expression
abbrev pub detail_text : NetErr → List ℕ
detail_text (net.Graph p e) = codes " " ++ graph_text e
detail_text (net.Expr p e) = codes " " ++ (decimal e.at ++ (codes " " ++ what_text e.what))
detail_text e = []

-- the rule, where it is broken, and what else is said
abbrev pub refusal_text : NetErr → List ℕ
refusal_text e = rule_text e ++ (at_place_text (refusal_place e) ++ detail_text e)
