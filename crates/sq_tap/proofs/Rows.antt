-- Rows: wirings that are joined, and what a joined network shows, evaluated.
use Rattle.std.proofs.Common.{◌≡◌, refl, ℕ, true, false, List, [], ◌∷◌, map, pos}
use Rattle.std.specs.Prelude.{codes}
use Rattle.sq_value.specs.declared.Value.TheVariants as value
use Rattle.sq_value.specs.declared.Kind.TheVariants as kind
use Rattle.sq_value.specs.declared.Tuple.{Tuple}
use Rattle.sq_words.specs.Lists.{numbers_to}
use Rattle.sq_aggfn.specs.declared.Func.{Func}
use Rattle.sq_aggfn.specs.declared.Func.TheVariants as func
use Rattle.sq_graph.specs.declared.BoxKind.{BoxKind}
use Rattle.sq_graph.specs.declared.BoxKind.TheVariants as boxes
use Rattle.sq_graph.specs.declared.BoxWires.{BoxWires}
use Rattle.sq_graph.specs.declared.Wiring.{Wiring}
use Rattle.sq_net.specs.declared.Network.{Network}
use Rattle.sq_net.specs.declared.Node.{Node}
use Rattle.sq_net.specs.declared.Body.TheVariants as body
use Rattle.sq_joined.specs.Staying.{needed_for}
use Rattle.sq_joined.specs.Joining.{boxes_in_front, joined, joined_wires}
use Rattle.sq_tap.specs.Parts.{full_output, tuples_since}

abbrev box : BoxKind → List ℕ → ℕ → BoxWires
box kind inputs ports = record { kind = kind; inputs = inputs; ports = ports }

abbrev wiring : ℕ → List BoxWires → List ℕ → Wiring
wiring sources bs outputs = record { sources = sources; boxes = bs; outputs = outputs }

-- two Aggregates in a row, of which the first is tapped, and an Aggregate as the query
abbrev nested : Wiring
nested = wiring 1 (box boxes.Aggregate (0 ∷ []) 1 ∷ box boxes.Aggregate (1 ∷ []) 1 ∷ []) (2 ∷ [])

abbrev counting : Wiring
counting = wiring 1 (box boxes.Aggregate (0 ∷ []) 1 ∷ []) (1 ∷ [])

needs_first : needed_for nested 1 ≡ true ∷ false ∷ []
needs_first = refl

first_tapped : joined_wires nested (needed_for nested 1) 1 counting
    ≡ wiring 1 (box boxes.Aggregate (0 ∷ []) 1 ∷ box boxes.Filter (1 ∷ []) 2 ∷ box boxes.Aggregate (2 ∷ []) 1 ∷ []) (4 ∷ [])
first_tapped = refl

-- the stream of a source needs no box
source_tapped : joined_wires nested (needed_for nested 0) 0 counting ≡ wiring 1 (box boxes.Filter (0 ∷ []) 2 ∷ box boxes.Aggregate (1 ∷ []) 1 ∷ []) (3 ∷ [])
source_tapped = refl

-- boxes that the stream doesn't need leave gaps in the numbers, which close; an output of the query may show the query's source
abbrev apart : Wiring
apart = wiring 2 (box boxes.Map (0 ∷ []) 1 ∷ box boxes.Filter (1 ∷ []) 2 ∷ box boxes.Map (4 ∷ []) 1 ∷ []) (5 ∷ [])

abbrev shown_twice : Wiring
shown_twice = wiring 1 (box boxes.Map (0 ∷ []) 1 ∷ []) (0 ∷ 1 ∷ [])

needs_two : needed_for apart 5 ≡ false ∷ true ∷ true ∷ []
needs_two = refl

gaps_close : joined_wires apart (needed_for apart 5) 5 shown_twice
    ≡ wiring 2 (box boxes.Filter (1 ∷ []) 2 ∷ box boxes.Map (3 ∷ []) 1 ∷ box boxes.Filter (4 ∷ []) 2 ∷ box boxes.Map (5 ∷ []) 1 ∷ []) (5 ∷ 7 ∷ [])
gaps_close = refl

-- ---- what is shown

abbrev at : ℕ → ℕ → Tuple
at t v = record { time = t; fields = value.Int (pos v) ∷ [] }

abbrev ticks : List (List Tuple)
ticks = map (λ t. at t t) (numbers_to 16) ∷ []

abbrev aggregate : List ℕ → Func → ℕ → ℕ → Node
aggregate name f size advance = record {
  name = name;
  body = body.Aggregate (f ∷ []) [] (record { size = size; advance = advance; phase = 0 });
  schemas = ((codes "n", kind.Int) ∷ []) ∷ [];
  cost = 1;
  selectivity = 1000 ∷ [];
}

abbrev network : Wiring → List Node → Network
network w bs = record {
  epoch = 4;
  batch = 1;
  wires = w;
  sources = record { name = codes "s"; file = []; schema = (codes "v", kind.Int) ∷ [] } ∷ [];
  boxes = bs;
  outputs = record { name = codes "o"; weight = 1; graph = (0, 0) ∷ (1000, 1000000) ∷ [] } ∷ [];
}

-- sums over 4 ticks each 2, and then the greatest of them each 4
abbrev sums : Network
sums = network nested (aggregate (codes "a1") (func.Sum 0) 4 2 ∷ aggregate (codes "a2") (func.Max 0) 4 4 ∷ [])

-- how many tuples come each 4 ticks
abbrev counts : Network
counts = network counting (aggregate (codes "q") func.Count 4 4 ∷ [])

sums_from_4 : tuples_since sums ticks 1 4 ≡ at 4 22 ∷ at 6 30 ∷ at 8 38 ∷ at 10 46 ∷ at 12 54 ∷ at 14 29 ∷ []
sums_from_4 = refl

counted_from_4 : full_output (joined sums 1 4 counts) ticks 0 ≡ at 4 2 ∷ at 8 2 ∷ at 12 2 ∷ []
counted_from_4 = refl

none_from_100 : full_output (joined sums 1 100 counts) ticks 0 ≡ []
none_from_100 = refl

-- the sums and the tap
two_in_front : boxes_in_front sums 1 ≡ 2
two_in_front = refl
