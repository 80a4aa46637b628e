-- Worked rows, by evaluation: an Aggregate that an output shows and a second one takes; and with a Union of both and a BSort behind it.
use Rattle.std.proofs.Common.{◌≡◌, ℕ, List, [], ◌∷◌, ◌++◌, map, refl}
use Rattle.std.specs.Prelude.{codes, pos}
use Rattle.sq_value.specs.declared.Kind.TheVariants as kind
use Rattle.sq_value.specs.declared.Value.TheVariants as value
use Rattle.sq_value.specs.declared.Tuple.{Tuple}
use Rattle.sq_words.specs.Lists.{numbers_to}
use Rattle.sq_aggfn.specs.declared.Func.TheVariants as func
use Rattle.sq_graph.specs.declared.BoxKind.TheVariants as boxes
use Rattle.sq_net.specs.declared.Network.{Network}
use Rattle.sq_net.specs.declared.Node.{Node}
use Rattle.sq_net.specs.declared.Output.{Output}
use Rattle.sq_net.specs.declared.Body.{Body}
use Rattle.sq_net.specs.declared.Body.TheVariants as body
use Rattle.sq_starts.specs.LastAggregates.{StartsWindow, lasts_of}

abbrev named : List ℕ → Body → Node
named name b = record { name = name; body = b; schemas = ((codes "v", kind.Int) ∷ []) ∷ []; cost = 1; selectivity = 1000 ∷ [] }

abbrev answering : List ℕ → Output
answering name = record { name = name; weight = 1; graph = (0, 0) ∷ (1000, 1000000) ∷ [] }

abbrev sums : Node
sums = named (codes "a1") (body.Aggregate (func.Sum 0 ∷ []) [] (record { size = 4; advance = 2; phase = 0 }))

abbrev greatest : Node
greatest = named (codes "q1") (body.Aggregate (func.Max 0 ∷ []) [] (record { size = 8; advance = 4; phase = 0 }))

abbrev pub forked : Network
forked = record {
  epoch = 4;
  batch = 1;
  wires = record {
    sources = 1;
    boxes = record { kind = boxes.Aggregate; inputs = 0 ∷ []; ports = 1 } ∷ record { kind = boxes.Aggregate; inputs = 1 ∷ []; ports = 1 } ∷ [];
    outputs = 1 ∷ 2 ∷ [];
  };
  sources = record { name = codes "s"; file = codes "s.csv"; schema = (codes "v", kind.Int) ∷ [] } ∷ [];
  boxes = sums ∷ greatest ∷ [];
  outputs = answering (codes "p") ∷ answering (codes "q") ∷ [];
}

-- with the Union of both and a BSort behind it
abbrev united : Network
united = record {
  epoch = 4;
  batch = 1;
  wires = record {
    sources = 1;
    boxes = forked.wires.boxes
        ++ record { kind = boxes.Union; inputs = 1 ∷ 2 ∷ []; ports = 1 } ∷ record { kind = boxes.BSort; inputs = 3 ∷ []; ports = 1 } ∷ [];
    outputs = 3 ∷ 4 ∷ [];
  };
  sources = forked.sources;
  boxes = forked.boxes ++ named (codes "u") body.Union ∷ named (codes "bs") (body.BSort 0 0) ∷ [];
  outputs = forked.outputs;
}

abbrev pub to_fifteen : List (List Tuple)
to_fifteen = map (λ t. record { time = t; fields = value.Int (pos t) ∷ [] }) (numbers_to 16) ∷ []

lasts-forked : map (lasts_of forked) (0 ∷ 1 ∷ []) ≡ (0 ∷ []) ∷ (1 ∷ []) ∷ []
lasts-forked = refl

-- a Union has the last ones of both inputs, a BSort has none
lasts-united : map (lasts_of united) (0 ∷ 1 ∷ []) ≡ (0 ∷ 1 ∷ []) ∷ [] ∷ []
lasts-united = refl

-- at 6 the window 3 of a1 starts, and at 4 the window 1 of q1
starts-inner : StartsWindow forked to_fifteen 0 6
starts-inner = record { at = 0; is_last = refl; window = record { size = 4; advance = 2; phase = 0 }; of_box = refl; number = 3; starts = refl; filled = λ e. cc e }

starts-outer : StartsWindow forked to_fifteen 1 4
starts-outer = record { at = 1; is_last = refl; window = record { size = 8; advance = 4; phase = 0 }; of_box = refl; number = 1; starts = refl; filled = λ e. cc e }
