-- Worked rows of slices, of cuts, and of how far slices reach.
use Rattle.std.proofs.Common.{◌≡◌, refl, ℕ, true, List, [], ◌∷◌, ◌++◌, Some, None, pos}
use Rattle.std.specs.Prelude.{codes}
use Rattle.std.specs.List.{find}
use Rattle.sq_value.specs.declared.Tuple.{Tuple}
use Rattle.sq_value.specs.declared.Kind.TheVariants as kind
use Rattle.sq_value.specs.declared.Value.TheVariants as value
use Rattle.sq_value.specs.Values.{Columns}
use Rattle.sq_words.specs.Lists.{numbers_to}
use Rattle.sq_aggfn.specs.declared.Func.TheVariants as func
use Rattle.sq_graph.specs.declared.BoxKind.{BoxKind}
use Rattle.sq_graph.specs.declared.BoxKind.TheVariants as boxes
use Rattle.sq_graph.specs.declared.BoxWires.{BoxWires}
use Rattle.sq_net.specs.declared.Body.{Body}
use Rattle.sq_net.specs.declared.Body.TheVariants.{Union, BSort, Aggregate, Resample}
use Rattle.sq_net.specs.declared.Network.{Network}
use Rattle.sq_net.specs.declared.Node.{Node}
use Rattle.sq_net.specs.declared.Source.{Source}
use Rattle.sq_model.specs.FullStreams.{full_stream}
use Rattle.sq_slices.specs.declared.Grid.{Grid}
use Rattle.sq_slices.specs.declared.Reach.{Reach}
use Rattle.sq_slices.specs.Grids.{gap, may_end, pad}
use Rattle.sq_slices.specs.Slices.{slice}
use Rattle.sq_slices.specs.Reaches.{box_reach, both_reaches, earlier_reach, is_uncut, own_reach, reach_numbered, reaches_of, union_reach}
use Rattle.sq_slices.specs.Laws.{Slice, answers_behind}

abbrev at : ℕ → Tuple
at t = record { time = t; fields = [] }

row-slice : slice 10 20 (at 5 ∷ at 10 ∷ at 19 ∷ at 20 ∷ []) ≡ at 10 ∷ at 19 ∷ []
row-slice = refl

-- slices that overlap by a tick have its tuples twice
row-overlap : slice 0 11 (at 5 ∷ at 10 ∷ at 19 ∷ []) ++ slice 10 20 (at 5 ∷ at 10 ∷ at 19 ∷ []) ≡ at 5 ∷ at 10 ∷ at 10 ∷ at 19 ∷ []
row-overlap = refl

-- ---- cuts

abbrev every : ℕ → ℕ → Grid
every step phase = record { step = step; phase = phase }

row-cut : may_end (every 60 15) 75 ≡ true
row-cut = refl

row-gap : gap (every 60 15) 70 ≡ 5
row-gap = refl

row-gap-none : gap (every 60 0) 120 ≡ 0
row-gap-none = refl

-- each hour begins with a minute, and a minute may begin an hour or be all but one before it
row-pad : pad (every 3600 0) (every 60 0) ≡ 0
row-pad = refl

row-pad-coarser : pad (every 60 0) (every 3600 0) ≡ 3599
row-pad-coarser = refl

row-pad-phase : pad (every 3600 0) (every 60 15) ≡ 15
row-pad-phase = refl

-- ---- boxes

abbrev reach : ℕ → ℕ → ℕ → ℕ → Reach
reach back ahead step phase = record { back = back; ahead = ahead; cuts = every step phase }

abbrev windows : ℕ → ℕ → ℕ → Body
windows size advance phase = Aggregate (func.Count ∷ []) [] (record { size = size; advance = advance; phase = phase })

-- windows that lie one behind the other need nothing beyond a cut
row-tumbling : box_reach None (windows 60 60 0) (Some own_reach ∷ []) ≡ Some (reach 0 0 60 0)
row-tumbling = refl

row-sliding : box_reach None (windows 300 60 0) (Some own_reach ∷ []) ≡ Some (reach 0 240 60 0)
row-sliding = refl

row-hours-of-minutes : box_reach None (windows 3600 3600 0) (Some (reach 0 0 60 0) ∷ []) ≡ Some (reach 0 0 3600 0)
row-hours-of-minutes = refl

row-hours-of-other-minutes : box_reach None (windows 3600 3600 0) (Some (reach 0 0 60 15) ∷ []) ≡ Some (reach 0 15 3600 0)
row-hours-of-other-minutes = refl

row-union : union_reach (Some (reach 5 0 60 0) ∷ Some (reach 0 7 3600 0) ∷ Some own_reach ∷ []) ≡ Some (reach 5 7 3600 0)
row-union = refl

-- a right tuple from 90 ticks on may be asked for, up to the cut at 120
row-sample : box_reach None (Resample 30 (func.Count ∷ [])) (Some own_reach ∷ Some (reach 0 0 60 0) ∷ []) ≡ Some (reach 30 60 60 0)
row-sample = refl

row-pairs : earlier_reach 30 (both_reaches own_reach (reach 0 0 60 0)) ≡ reach 30 0 60 0
row-pairs = refl

row-sort : box_reach None (BSort 0 3) (Some own_reach ∷ []) ≡ None
row-sort = refl

row-sort-in-time : box_reach (Some 5) (BSort 0 3) (Some (reach 0 0 60 0) ∷ []) ≡ Some (reach 0 60 60 0)
row-sort-in-time = refl

-- ---- a network

abbrev columns : Columns
columns = (codes "n", kind.Int) ∷ []

abbrev source : Source
source = record { name = codes "s"; file = []; schema = columns }

abbrev wired : BoxKind → List ℕ → BoxWires
wired k inputs = record { kind = k; inputs = inputs; ports = 1 }

abbrev node : Body → Node
node b = record { name = []; body = b; schemas = columns ∷ []; cost = 1; selectivity = [] }

-- two sources sorted together, counted in windows of 10 ticks, and these in windows of 20 every 10
abbrev network : Network
network = record {
  epoch = 1000;
  batch = 1;
  wires = record {
    sources = 2;
    boxes = wired boxes.Union (0 ∷ 1 ∷ []) ∷ wired boxes.Aggregate (2 ∷ []) ∷ wired boxes.Aggregate (3 ∷ []) ∷ wired boxes.BSort (4 ∷ []) ∷ [];
    outputs = [];
  };
  sources = source ∷ source ∷ [];
  boxes = node Union ∷ node (windows 10 10 0) ∷ node (windows 20 10 0) ∷ node (BSort 0 3) ∷ [];
  outputs = [];
}

row-reaches : reaches_of network None ≡ Some own_reach ∷ Some own_reach ∷ Some own_reach ∷ Some (reach 0 0 10 0) ∷ Some (reach 0 10 10 0) ∷ None ∷ []
row-reaches = refl

row-uncut : find (is_uncut network None (reach_numbered (reaches_of network None))) (numbers_to 4) ≡ Some 3
row-uncut = refl

abbrev sources : List (List Tuple)
sources = (at 1 ∷ at 12 ∷ at 13 ∷ at 31 ∷ []) ∷ (at 9 ∷ at 12 ∷ at 25 ∷ []) ∷ []

-- up to 20, and from there on: the first needs 10 ticks more
abbrev slices : List Slice
slices =
    record { end = 20; sources = (at 1 ∷ at 12 ∷ at 13 ∷ []) ∷ (at 9 ∷ at 12 ∷ at 25 ∷ []) ∷ [] }
    ∷ record { end = 40; sources = (at 31 ∷ []) ∷ (at 25 ∷ []) ∷ [] } ∷ []

row-whole : answers_behind network 4 0 slices ≡ full_stream network sources 4
row-whole = refl

abbrev counted : ℕ → ℕ → Tuple
counted t n = record { time = t; fields = value.Int (pos n) ∷ [] }

row-first : slice 0 20 (full_stream network sources 4) ≡ counted 0 2 ∷ counted 10 2 ∷ []
row-first = refl

-- without the 10 ticks more the window from 10 on counts one less
abbrev short : List Slice
short = record { end = 20; sources = (at 1 ∷ at 12 ∷ at 13 ∷ []) ∷ (at 9 ∷ at 12 ∷ []) ∷ [] } ∷ []

row-short : answers_behind network 4 0 short ≡ counted 0 2 ∷ counted 10 1 ∷ []
row-short = refl
