-- Worked files, by their tables: a box of each kind that has more than inputs, outputs with weights and graphs, and refusals.
use Rattle.std.proofs.Common.{◌≡◌, ℕ, List, [], ◌∷◌, refl, ℤ, pos, negsuc}
use Rattle.std.specs.Prelude.{Result, Ok, Err, Option, None, Some, codes, replicate}
use Rattle.std.specs.Fmt.{digits}
use Rattle.sq_value.specs.Values.{Columns}
use Rattle.sq_value.specs.declared.Kind.TheVariants as kind
use Rattle.sq_value.specs.declared.Value.TheVariants as value
use Rattle.sq_expr.specs.declared.CompareOp.TheVariants as compare
use Rattle.sq_expr.specs.Trees.{Literal, Field, Compare}
use Rattle.sq_aggfn.specs.declared.Func.TheVariants as func
use Rattle.sq_qos.specs.declared.GraphErr.TheVariants as graph
use Rattle.sq_graph.specs.declared.BoxKind.TheVariants as boxes
use Rattle.sq_net.specs.declared.Network.{Network}
use Rattle.sq_net.specs.declared.Node.{Node}
use Rattle.sq_net.specs.declared.Output.{Output}
use Rattle.sq_net.specs.declared.NetErr.{NetErr}
use Rattle.sq_net.specs.declared.Part.TheVariants as part
use Rattle.sq_net.specs.declared.NetErr.TheVariants as broken
use Rattle.sq_net.specs.declared.Body.TheVariants as body
use Rattle.sq_tables.specs.declared.tables.SourceTable.{SourceTable}
use Rattle.sq_tables.specs.declared.tables.AnswerColumn.{AnswerColumn}
use Rattle.sq_tables.specs.declared.tables.Over.TheVariants.{Sum, First}
use Rattle.sq_tables.specs.declared.tables.Answer.TheVariants.{Count, Field as OfField}
use Rattle.sq_tables.specs.declared.tables.BodyTable.{BodyTable}
use Rattle.sq_tables.specs.declared.tables.BodyTable.TheVariants.{Filter, BSort, Aggregate, Join, Resample}
use Rattle.sq_tables.specs.declared.tables.BoxTable.{BoxTable}
use Rattle.sq_tables.specs.declared.tables.OutputTable.{OutputTable}
use Rattle.sq_tables.specs.declared.tables.NetworkTable.{NetworkTable}
use Rattle.sq_tables.specs.Places.{place_at}
use Rattle.sq_tables.specs.Shapes.{even_points}
use Rattle.sq_reader.specs.Networks.{limited_network, typed_network}
use Rattle.sq_words.specs.Results.{◌>>=◌}

-- an output with the default weight and graph
abbrev shown_of : List ℕ → OutputTable
shown_of stream = record { name = codes "o"; from = stream; weight = pos 1; graph = even_points }

abbrev source_of : List ℕ → List (List ℕ) → SourceTable
source_of name fields = record { name = name; file = codes "s.csv"; fields = fields }

-- the source s of numbers, a box b of it, and the output o of this stream
abbrev file_of : BodyTable → List ℤ → List ℕ → List ℕ → NetworkTable
file_of b tolls from shown = record {
  epoch = pos 4;
  batch = pos 1;
  sources = source_of (codes "s") (codes "v:int" ∷ []) ∷ [];
  boxes = record { name = codes "b"; body = b; ins = from ∷ []; cost = pos 1; selectivity = tolls } ∷ [];
  outputs = shown_of shown ∷ [];
}

abbrev filter_file : List ℕ → List ℕ → NetworkTable
filter_file pred from = file_of (Filter (pred ∷ [])) (pos 1000 ∷ pos 900 ∷ []) from (codes "b.1")

abbrev v_int : Columns
v_int = (codes "v", kind.Int) ∷ []

one_filter : typed_network (filter_file (codes "v >= 10") (codes "s")) ≡ Ok (record {
  epoch = 4;
  batch = 1;
  wires = record { sources = 1; boxes = record { kind = boxes.Filter; inputs = 0 ∷ []; ports = 2 } ∷ []; outputs = 1 ∷ [] };
  sources = record { name = codes "s"; file = codes "s.csv"; schema = v_int } ∷ [];
  boxes = record {
    name = codes "b";
    body = body.Filter (record { scope = v_int; tree = Compare compare.AtLeast (Field 0) (Literal (value.Int (pos 10))) } ∷ []);
    schemas = v_int ∷ v_int ∷ [];
    cost = 1;
    selectivity = 1000 ∷ 900 ∷ [];
  } ∷ [];
  outputs = record { name = codes "o"; weight = 1; graph = (0, 0) ∷ (1000, 1000000) ∷ [] } ∷ [];
})
unfolding digits
one_filter = refl

no_field : typed_network (filter_file (codes "w >= 1") (codes "s")) ≡ Err (broken.Typing (place_at part.Box 0 0))
unfolding digits
no_field = refl

cycle : typed_network (filter_file (codes "v >= 1") (codes "b.1")) ≡ Err (broken.Cycle (place_at part.Box 0 0))
unfolding digits
cycle = refl

-- ---- the other kinds, by the boxes of their networks

abbrev boxes_in : Result Network NetErr → Result (List Node) NetErr
boxes_in (Ok n) = Ok n.boxes
boxes_in (Err e) = Err e

abbrev sort_file : List ℕ → NetworkTable
sort_file by = file_of (BSort by (pos 8)) (pos 1000 ∷ []) (codes "s") (codes "b")

one_sort : boxes_in (typed_network (sort_file (codes "v"))) ≡ Ok (record { name = codes "b"; body = body.BSort 0 8; schemas = v_int ∷ []; cost = 1; selectivity = 1000 ∷ [] } ∷ [])
one_sort = refl

sort_by_nothing : typed_network (sort_file (codes "w")) ≡ Err (broken.Typing (place_at part.Box 0 0))
sort_by_nothing = refl

abbrev counted : AnswerColumn
counted = record { name = codes "n"; answer = Count }

abbrev aggregate_file : ℕ → ℕ → List (List ℕ) → List AnswerColumn → NetworkTable
aggregate_file size advance group give = record {
  epoch = pos 1000;
  batch = pos 1;
  sources = source_of (codes "s") (codes "k:text" ∷ codes "v:int" ∷ []) ∷ [];
  boxes = record { name = codes "a"; body = Aggregate (pos size) (pos advance) (pos 0) group give; ins = codes "s" ∷ []; cost = pos 1; selectivity = pos 1000 ∷ [] } ∷ [];
  outputs = shown_of (codes "a") ∷ [];
}

one_aggregate : boxes_in (typed_network (aggregate_file 10 5 (codes "k" ∷ []) (record { name = codes "t"; answer = OfField Sum (codes "v") } ∷ counted ∷ []))) ≡ Ok (record {
  name = codes "a";
  body = body.Aggregate (func.Sum 1 ∷ func.Count ∷ []) (0 ∷ []) (record { size = 10; advance = 5; phase = 0 });
  schemas = ((codes "k", kind.Text) ∷ (codes "t", kind.Int) ∷ (codes "n", kind.Int) ∷ []) ∷ [];
  cost = 1;
  selectivity = 1000 ∷ [];
} ∷ [])
one_aggregate = refl

no_window : typed_network (aggregate_file 0 0 [] (counted ∷ [])) ≡ Err (broken.Window (place_at part.Box 0 0))
no_window = refl

advance_past_size : typed_network (aggregate_file 5 6 [] (counted ∷ [])) ≡ Err (broken.Window (place_at part.Box 0 0))
advance_past_size = refl

group_twice : typed_network (aggregate_file 5 5 (codes "v" ∷ codes "v" ∷ []) (counted ∷ [])) ≡ Err (broken.Group (place_at part.Box 0 1))
group_twice = refl

group_given_again : typed_network (aggregate_file 5 5 (codes "v" ∷ codes "w" ∷ []) (counted ∷ record { name = codes "v"; answer = Count } ∷ [])) ≡ Err (broken.Schema (place_at part.Box 0 1))
group_given_again = refl

sum_of_text : typed_network (aggregate_file 5 5 (codes "w" ∷ []) (record { name = codes "f"; answer = OfField First (codes "k") } ∷ record { name = codes "t"; answer = OfField Sum (codes "k") } ∷ [])) ≡ Err (broken.Typing (place_at part.Box 0 1))
sum_of_text = refl

abbrev join_file : List ℕ → NetworkTable
join_file on = record {
  epoch = pos 1000;
  batch = pos 1;
  sources = source_of (codes "l") (codes "v:int" ∷ []) ∷ source_of (codes "r") (codes "v:int" ∷ codes "w:bool" ∷ []) ∷ [];
  boxes = record { name = codes "j"; body = Join (pos 2) on; ins = codes "l" ∷ codes "r" ∷ []; cost = pos 1; selectivity = pos 1000 ∷ [] } ∷ [];
  outputs = shown_of (codes "j") ∷ [];
}

abbrev pairs : Columns
pairs = (codes "l_v", kind.Int) ∷ (codes "r_v", kind.Int) ∷ (codes "r_w", kind.Bool) ∷ []

one_join : boxes_in (typed_network (join_file (codes "l_v = r_v"))) ≡ Ok (record {
  name = codes "j";
  body = body.Join 2 (record { scope = pairs; tree = Compare compare.Equal (Field 0) (Field 1) });
  schemas = pairs ∷ [];
  cost = 1;
  selectivity = 1000 ∷ [];
} ∷ [])
one_join = refl

join_on_number : typed_network (join_file (codes "l_v")) ≡ Err (broken.Typing (place_at part.Box 0 0))
join_on_number = refl

-- ---- a Resample: the left v as `l_v`, then what is given

abbrev resample_file : List (List ℕ) → ℤ → List AnswerColumn → NetworkTable
resample_file ins size give = record {
  epoch = pos 1000;
  batch = pos 1;
  sources = source_of (codes "l") (codes "v:int" ∷ []) ∷ source_of (codes "r") (codes "k:text" ∷ codes "v:int" ∷ []) ∷ [];
  boxes = record { name = codes "rs"; body = Resample size give; ins = ins; cost = pos 1; selectivity = pos 1000 ∷ [] } ∷ [];
  outputs = shown_of (codes "rs") ∷ [];
}

abbrev two_streams : List (List ℕ)
two_streams = codes "l" ∷ codes "r" ∷ []

one_resample : boxes_in (typed_network (resample_file two_streams (pos 3) (record { name = codes "t"; answer = OfField Sum (codes "v") } ∷ counted ∷ []))) ≡ Ok (record {
  name = codes "rs";
  body = body.Resample 3 (func.Sum 1 ∷ func.Count ∷ []);
  schemas = ((codes "l_v", kind.Int) ∷ (codes "t", kind.Int) ∷ (codes "n", kind.Int) ∷ []) ∷ [];
  cost = 1;
  selectivity = 1000 ∷ [];
} ∷ [])
one_resample = refl

abbrev resample_refused : List (List ℕ) → ℤ → List AnswerColumn → NetErr → Type 0
resample_refused ins size give e = typed_network (resample_file ins size give) ≡ Err e

one_stream : resample_refused (codes "l" ∷ []) (pos 3) (counted ∷ []) (broken.Limit (place_at part.Box 0 0))
one_stream = refl

three_streams : resample_refused (codes "l" ∷ codes "r" ∷ codes "r" ∷ []) (pos 3) (counted ∷ []) (broken.Limit (place_at part.Box 0 0))
three_streams = refl

negative_size : resample_refused two_streams (negsuc 0) (counted ∷ []) (broken.Limit (place_at part.Box 0 0))
negative_size = refl

size_too_large : resample_refused two_streams (pos 4294967297) (counted ∷ []) (broken.Limit (place_at part.Box 0 0))
size_too_large = refl

nothing_given : resample_refused two_streams (pos 3) [] (broken.Limit (place_at part.Box 0 0))
nothing_given = refl

seventeen_given : resample_refused two_streams (pos 3) (replicate 17 counted) (broken.Limit (place_at part.Box 0 0))
seventeen_given = refl

left_name_given : resample_refused two_streams (pos 3) (counted ∷ record { name = codes "l_v"; answer = Count } ∷ []) (broken.Schema (place_at part.Box 0 1))
left_name_given = refl

-- 17 columns together, before the name that repeats
sixteen_given : resample_refused two_streams (pos 3) (replicate 16 counted) (broken.Schema (place_at part.Box 0 0))
sixteen_given = refl

given_again : resample_refused two_streams (pos 3) (counted ∷ counted ∷ []) (broken.Schema (place_at part.Box 0 1))
given_again = refl

sum_of_right_text : resample_refused two_streams (pos 3) (counted ∷ record { name = codes "t"; answer = OfField Sum (codes "k") } ∷ []) (broken.Typing (place_at part.Box 0 1))
sum_of_right_text = refl

-- a field of the left stream alone isn't there
field_of_left : resample_refused two_streams (pos 3) (record { name = codes "t"; answer = OfField First (codes "l_v") } ∷ []) (broken.Typing (place_at part.Box 0 0))
field_of_left = refl

-- ---- weights and graphs

abbrev output_of : List ℕ → ℤ → List (ℤ × ℤ) → OutputTable
output_of name weight points = record { name = name; from = codes "s"; weight = weight; graph = points }

-- the source s with this field, and these outputs
abbrev output_file : List ℕ → List OutputTable → NetworkTable
output_file field outputs = record {
  epoch = pos 1000;
  batch = pos 1;
  sources = source_of (codes "s") (field ∷ []) ∷ [];
  boxes = [];
  outputs = outputs;
}

abbrev outputs_read : Result Network NetErr → Result (List Output) NetErr
outputs_read (Ok n) = Ok n.outputs
outputs_read (Err e) = Err e

abbrev graphed : List (ℤ × ℤ) → Result (List Output) NetErr
graphed points = outputs_read (typed_network (output_file (codes "v:int") (output_of (codes "o") (pos 1) points ∷ [])))

abbrev weighed : ℤ → Result (List Output) NetErr
weighed weight = outputs_read (typed_network (output_file (codes "v:int") (output_of (codes "o") weight even_points ∷ [])))

bent : graphed ((pos 0, pos 0) ∷ (pos 500, pos 800000) ∷ (pos 1000, pos 1000000) ∷ [])
    ≡ Ok (record { name = codes "o"; weight = 1; graph = (0, 0) ∷ (500, 800000) ∷ (1000, 1000000) ∷ [] } ∷ [])
bent = refl

steep : graphed ((pos 0, pos 0) ∷ (pos 500, pos 100) ∷ (pos 1000, pos 900) ∷ []) ≡ Err (broken.Graph (place_at part.Output 0 0) graph.NotConcave)
steep = refl

falls_and_steep : graphed ((pos 0, pos 0) ∷ (pos 100, pos 1) ∷ (pos 200, pos 9) ∷ (pos 1000, pos 8) ∷ []) ≡ Err (broken.Graph (place_at part.Output 0 0) graph.Falls)
falls_and_steep = refl

ends_and_falls : graphed ((pos 50, pos 5) ∷ (pos 1000, pos 4) ∷ []) ≡ Err (broken.Graph (place_at part.Output 0 0) graph.Ends)
ends_and_falls = refl

grid_and_ends : graphed ((pos 30, pos 0) ∷ []) ≡ Err (broken.Graph (place_at part.Output 0 0) graph.Grid)
grid_and_ends = refl

many_and_off_the_grid : graphed (replicate 22 (negsuc 0, pos 4294967296)) ≡ Err (broken.Graph (place_at part.Output 0 0) graph.TooMany)
many_and_off_the_grid = refl

negative : graphed ((pos 0, negsuc 0) ∷ (pos 1000, pos 1) ∷ []) ≡ Err (broken.Graph (place_at part.Output 0 0) graph.Grid)
negative = refl

-- 2^32 + 1000 isn't taken for 1000
far : graphed ((pos 0, pos 0) ∷ (pos 4294968296, pos 1) ∷ []) ≡ Err (broken.Graph (place_at part.Output 0 0) graph.Grid)
far = refl

no_weight : weighed (pos 0) ≡ Ok (record { name = codes "o"; weight = 0; graph = (0, 0) ∷ (1000, 1000000) ∷ [] } ∷ [])
no_weight = refl

most_weight : weighed (pos 1000) ≡ Ok (record { name = codes "o"; weight = 1000; graph = (0, 0) ∷ (1000, 1000000) ∷ [] } ∷ [])
most_weight = refl

too_heavy : weighed (pos 1001) ≡ Err (broken.Limit (place_at part.Output 0 0))
too_heavy = refl

-- the graph comes before the fields of the source, and the second output is the one at fault
second_graph : typed_network (output_file (codes "v:real") (output_of (codes "o") (pos 7) even_points ∷ output_of (codes "p") (pos 1) [] ∷ []))
    ≡ Err (broken.Graph (place_at part.Output 1 0) graph.Ends)
second_graph = refl

-- ---- the limits on drop points: two Aggregates, of which the second has this size

abbrev window_box : List ℕ → List ℕ → ℕ → BoxTable
window_box name from size =
    record { name = name; body = Aggregate (pos size) (pos 1) (pos 0) [] (counted ∷ []); ins = from ∷ []; cost = pos 1; selectivity = pos 1000 ∷ [] }

abbrev two_windows : ℕ → NetworkTable
two_windows size = record {
  epoch = pos 1000;
  batch = pos 1;
  sources = source_of (codes "s") (codes "v:int" ∷ []) ∷ [];
  boxes = window_box (codes "a") (codes "s") 4096 ∷ window_box (codes "b") (codes "a") size ∷ [];
  outputs = shown_of (codes "b") ∷ [];
}

abbrev refused : Result Network NetErr → Option NetErr
refused (Ok n) = None
refused (Err e) = Some e

widest_extent : refused (typed_network (two_windows 1) >>= limited_network) ≡ None
widest_extent = refl

wider_extent : refused (typed_network (two_windows 2) >>= limited_network) ≡ Some (broken.Limit (place_at part.Drop 0 0))
wider_extent = refl
