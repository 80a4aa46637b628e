-- Networks, worked out.
use Rattle.std.proofs.Common.{◌≡◌, ℕ, List, [], ◌∷◌, map, refl, pos}
use Rattle.std.specs.Prelude.{codes}
use Rattle.sq_value.specs.declared.Value.TheVariants as value
use Rattle.sq_value.specs.declared.Kind.TheVariants as kind
use Rattle.sq_value.specs.declared.Tuple.{Tuple}
use Rattle.sq_words.specs.Lists.{numbers_to}
use Rattle.sq_value.specs.Values.{Columns}
use Rattle.sq_expr.specs.declared.CompareOp.TheVariants as compare
use Rattle.sq_expr.specs.Trees.{Checked, Field, Literal, Compare}
use Rattle.sq_graph.specs.declared.BoxKind.TheVariants as boxes
use Rattle.sq_graph.specs.declared.Wiring.{Wiring}
use Rattle.sq_net.specs.declared.Body.{Body}
use Rattle.sq_net.specs.declared.Body.TheVariants as body
use Rattle.sq_net.specs.declared.Node.{Node}
use Rattle.sq_net.specs.declared.Source.{Source}
use Rattle.sq_net.specs.declared.Output.{Output}
use Rattle.sq_net.specs.declared.Network.{Network}
use Rattle.sq_model.specs.FullStreams.{full_arc, full_streams}
use Rattle.sq_model.specs.FullCounts.{full_fed_of}
use Rattle.sq_model.proofs.FedWords.{work_of}

abbrev at : ℕ → ℕ → Tuple
at t v = record { time = t; fields = value.Int (pos v) ∷ [] }

abbrev columns : Columns
columns = (codes "v", kind.Int) ∷ []

abbrev source : List ℕ → Source
source name = record { name = name; file = []; schema = columns }

abbrev output : List ℕ → Output
output name = record { name = name; weight = 1; graph = (0, 0) ∷ (1000, 1000000) ∷ [] }

abbrev node : List ℕ → Body → List Columns → List ℕ → Node
node name b schemas selectivity = record { name = name; body = b; schemas = schemas; cost = 1; selectivity = selectivity }

-- a Union of p and q, which output o shows
abbrev pub wires_d : Wiring
wires_d = record { sources = 2; boxes = record { kind = boxes.Union; inputs = 0 ∷ 1 ∷ []; ports = 1 } ∷ []; outputs = 2 ∷ [] }

abbrev network_d : Network
network_d = record {
  epoch = 1000;
  batch = 1;
  wires = wires_d;
  sources = source (codes "p") ∷ source (codes "q") ∷ [];
  boxes = node (codes "u") body.Union (columns ∷ []) (1000 ∷ []) ∷ [];
  outputs = output (codes "o") ∷ [];
}

abbrev both : List (List Tuple)
both = (at 1 10 ∷ at 3 11 ∷ at 3 12 ∷ []) ∷ (at 2 20 ∷ at 3 21 ∷ []) ∷ []

-- arc 2 is the output's
union_shown : full_arc network_d both 2 ≡ at 1 10 ∷ at 2 20 ∷ at 3 11 ∷ at 3 12 ∷ at 3 21 ∷ []
union_shown = refl

union_fed : map (full_fed_of network_d both) (numbers_to 1) ≡ 5 ∷ []
union_fed = refl

union_work : work_of network_d both ≡ 10
union_work = refl

-- Union 0 takes the other port of Filter 1 and then the source; Filter 1 keeps what is at least 10 of the source
abbrev at_least_10 : Checked
at_least_10 = record { scope = columns; tree = Compare compare.AtLeast (Field 0) (Literal (value.Int (pos 10))) }

abbrev network_else : Network
network_else = record {
  epoch = 1000;
  batch = 1;
  wires = record {
    sources = 1;
    boxes = record { kind = boxes.Union; inputs = 3 ∷ 0 ∷ []; ports = 1 } ∷ record { kind = boxes.Filter; inputs = 0 ∷ []; ports = 2 } ∷ [];
    outputs = 1 ∷ 2 ∷ [];
  };
  sources = source (codes "s") ∷ [];
  boxes = node (codes "u") body.Union (columns ∷ []) (1000 ∷ []) ∷ node (codes "f") (body.Filter (at_least_10 ∷ [])) (columns ∷ columns ∷ []) (1000 ∷ 1000 ∷ []) ∷ [];
  outputs = output (codes "all") ∷ output (codes "high") ∷ [];
}

abbrev readings : List (List Tuple)
readings = (at 1 5 ∷ at 2 10 ∷ at 2 4 ∷ at 3 12 ∷ []) ∷ []

else_streams : full_streams network_else readings ≡
    (at 1 5 ∷ at 2 10 ∷ at 2 4 ∷ at 3 12 ∷ [])
    ∷ (at 1 5 ∷ at 1 5 ∷ at 2 4 ∷ at 2 10 ∷ at 2 4 ∷ at 3 12 ∷ [])
    ∷ (at 2 10 ∷ at 3 12 ∷ [])
    ∷ (at 1 5 ∷ at 2 4 ∷ [])
    ∷ []
else_streams = refl

-- the arcs are the Union's two, the Filter's, and the outputs'
else_shown : map (full_arc network_else readings) (3 ∷ 4 ∷ []) ≡
    (at 1 5 ∷ at 1 5 ∷ at 2 4 ∷ at 2 10 ∷ at 2 4 ∷ at 3 12 ∷ []) ∷ (at 2 10 ∷ at 3 12 ∷ []) ∷ []
else_shown = refl

else_fed : map (full_fed_of network_else readings) (numbers_to 2) ≡ 6 ∷ 4 ∷ []
else_fed = refl

else_work : work_of network_else readings ≡ 18
else_work = refl
