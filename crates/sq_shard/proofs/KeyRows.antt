-- Worked rows of where keys stand.
use Rattle.std.proofs.Common.{◌≡◌, refl, ℕ, false, true, List, [], ◌∷◌, Some, None}
use Rattle.std.specs.Prelude.{codes}
use Rattle.std.specs.List.{find}
use Rattle.sq_value.specs.declared.Value.TheVariants as value
use Rattle.sq_value.specs.declared.Kind.TheVariants as kind
use Rattle.sq_words.specs.Lists.{numbers_to}
use Rattle.sq_value.specs.Values.{Columns}
use Rattle.sq_expr.specs.Keys.{bare_of, equated}
use Rattle.sq_expr.specs.Trees.{Expr, Time, Field, Literal, Compare, Logic}
use Rattle.sq_expr.specs.declared.CompareOp.TheVariants as compare
use Rattle.sq_expr.specs.declared.LogicOp.TheVariants as logic
use Rattle.sq_aggfn.specs.declared.Func.TheVariants as func
use Rattle.sq_graph.specs.declared.BoxKind.{BoxKind}
use Rattle.sq_graph.specs.declared.BoxKind.TheVariants as boxes
use Rattle.sq_graph.specs.declared.BoxWires.{BoxWires}
use Rattle.sq_net.specs.declared.Body.{Body}
use Rattle.sq_net.specs.declared.Body.TheVariants.{Filter, BSort, Aggregate, Resample}
use Rattle.sq_net.specs.declared.Network.{Network}
use Rattle.sq_net.specs.declared.Node.{Node}
use Rattle.sq_net.specs.declared.Source.{Source}
use Rattle.sq_shard.specs.declared.Cut.TheVariants.{Whole, By}
use Rattle.sq_shard.specs.Keys.{box_cut, cut_at, cuts_of, is_among, join_cut, loses_key, own, places, union_cut}

abbrev same_symbol : Expr
same_symbol = Compare compare.Equal (Field 0) (Field 2)

-- l_price < r_bid and l_symbol = r_symbol, over symbol and price left, symbol and bid right
row-and : equated (Logic logic.And (Compare compare.Less (Field 1) (Field 3)) same_symbol) ≡ (0, 2) ∷ []
row-and = refl

row-or : equated (Logic logic.Or same_symbol same_symbol) ≡ []
row-or = refl

row-not-bare : equated (Compare compare.Equal (Field 0) Time) ≡ []
row-not-bare = refl

-- the symbol is the key of both sides
row-join : join_cut 2 ((0, 2) ∷ []) (By (0 ∷ [])) (By (0 ∷ [])) ≡ By (0 ∷ 2 ∷ [])
row-join = refl

-- the keys of the sides aren't made equal
row-unjoined : join_cut 2 ((0, 2) ∷ []) (By (1 ∷ [])) (By (0 ∷ [])) ≡ By []
row-unjoined = refl

-- a side whole
row-beside-whole : join_cut 2 [] Whole (By (1 ∷ [])) ≡ By (3 ∷ [])
row-beside-whole = refl

-- a column that isn't there
row-own : own 2 (By (1 ∷ 7 ∷ [])) ≡ By (1 ∷ [])
row-own = refl

-- set = [a, key, key + 1, key]
row-places : places (λ e. is_among (4 ∷ []) (bare_of e)) 0 (Field 1 ∷ Field 4 ∷ Time ∷ Field 4 ∷ []) ≡ 1 ∷ 3 ∷ []
row-places = refl

row-group : box_cut false (Aggregate (func.Count ∷ []) (1 ∷ 0 ∷ []) (record { size = 60; advance = 20; phase = 0 })) (2, 0) (By (0 ∷ []) ∷ []) ≡ By (1 ∷ [])
row-group = refl

row-union : union_cut (By (0 ∷ 1 ∷ []) ∷ By (1 ∷ []) ∷ By (1 ∷ 2 ∷ []) ∷ []) ≡ By (1 ∷ [])
row-union = refl

row-some-whole : union_cut (Whole ∷ By (0 ∷ []) ∷ []) ≡ By []
row-some-whole = refl

-- a left tuple is answered by right ones of all keys
row-sample : box_cut false (Resample 5 (func.Count ∷ [])) (2, 2) (By (0 ∷ 7 ∷ []) ∷ Whole ∷ []) ≡ By (0 ∷ [])
row-sample = refl

row-sample-of-parts : box_cut false (Resample 5 (func.Count ∷ [])) (2, 2) (By (0 ∷ []) ∷ By (0 ∷ []) ∷ []) ≡ By []
row-sample-of-parts = refl

row-sort : box_cut false (BSort 0 3) (2, 0) (By (1 ∷ []) ∷ []) ≡ By []
row-sort = refl

row-sort-on-time : box_cut true (BSort 0 3) (2, 0) (By (1 ∷ []) ∷ []) ≡ By (1 ∷ [])
row-sort-on-time = refl

-- ---- a network

abbrev columns : Columns
columns = (codes "symbol", kind.Text) ∷ (codes "price", kind.Int) ∷ []

abbrev source : List ℕ → Source
source name = record { name = name; file = []; schema = columns }

abbrev wired : BoxKind → List ℕ → ℕ → BoxWires
wired kind inputs ports = record { kind = kind; inputs = inputs; ports = ports }

abbrev node : Body → List Columns → Node
node b schemas = record { name = []; body = b; schemas = schemas; cost = 1; selectivity = [] }

abbrev counted_by : ℕ → Body
counted_by column = Aggregate (func.Count ∷ []) (column ∷ []) (record { size = 60; advance = 60; phase = 0 })

-- trades and rates; a Filter of the trades, what passes counted by symbol, the rest by price, and a summary of rates for what passes
abbrev network : Network
network = record {
  epoch = 1000;
  batch = 1;
  wires = record {
    sources = 2;
    boxes = wired boxes.Filter (0 ∷ []) 2 ∷ wired boxes.Aggregate (2 ∷ []) 1 ∷ wired boxes.Aggregate (3 ∷ []) 1 ∷ wired boxes.Resample (2 ∷ 1 ∷ []) 1 ∷ [];
    outputs = [];
  };
  sources = source (codes "trades") ∷ source (codes "rates") ∷ [];
  boxes = node (Filter (record { scope = columns; tree = Literal (value.Bool true) } ∷ [])) (columns ∷ columns ∷ []) ∷ node (counted_by 0) [] ∷ node (counted_by 1) []
      ∷ node (Resample 5 (func.Count ∷ [])) [] ∷ [];
  outputs = [];
}

-- trades cut by their symbol, rates whole
row-cuts : cuts_of network (Some 0 ∷ None ∷ []) false ≡ By (0 ∷ []) ∷ Whole ∷ By (0 ∷ []) ∷ By (0 ∷ []) ∷ By (0 ∷ []) ∷ By [] ∷ By (0 ∷ []) ∷ []
row-cuts = refl

row-loss : find (loses_key network false (cut_at (cuts_of network (Some 0 ∷ None ∷ []) false))) (numbers_to 4) ≡ Some 2
row-loss = refl

-- trades whole, rates cut
row-lost-by-sample : find (loses_key network false (cut_at (cuts_of network (None ∷ Some 0 ∷ []) false))) (numbers_to 4) ≡ Some 3
row-lost-by-sample = refl
