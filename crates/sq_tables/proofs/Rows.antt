-- Worked tables: a box of each kind, outputs, and tables out of shape.
use Rattle.std.proofs.Common.{◌≡◌, ℕ, List, [], ◌∷◌, Option, Some, None, refl, ℤ, pos, negsuc}
use Rattle.std.specs.Prelude.{codes}
use Rattle.toml.specs.Data.{Data, string, integer, array, Items, no_items, item, Members, no_members, member}
use Rattle.sq_tables.specs.declared.tables.Over.TheVariants.{Avg, First}
use Rattle.sq_tables.specs.declared.tables.Answer.TheVariants.{Count, Field}
use Rattle.sq_tables.specs.declared.tables.BodyTable.TheVariants.{Filter, Map, Union, BSort, Aggregate, Join, Resample}
use Rattle.sq_tables.specs.declared.tables.OutputTable.{OutputTable}
use Rattle.sq_tables.specs.declared.tables.Version.TheVariants.{One, Two}
use Rattle.sq_tables.specs.Shapes.{body_in, box_in, answer_column_in, output_in}

abbrev texts : List (List ℕ) → Data
texts ws = array (items ws)
  where
    items : List (List ℕ) → Items
    items [] = no_items
    items (w ∷ ws) = item (string w) (items ws)

abbrev lists : List (List (List ℕ)) → Data
lists ls = array (items ls)
  where
    items : List (List (List ℕ)) → Items
    items [] = no_items
    items (l ∷ ls) = item (texts l) (items ls)

-- the keys of every box, before some others
abbrev boxed : List ℕ → Members → Members
boxed kind others = member (codes "name") (string (codes "b")) (member (codes "kind") (string kind) (member (codes "in") (texts (codes "s" ∷ [])) others))

-- ---- one of each kind

filter_row : body_in One (codes "filter") (boxed (codes "filter") (member (codes "where") (texts (codes "v >= 10" ∷ [])) no_members)) ≡ Some (Filter (codes "v >= 10" ∷ []))
filter_row = refl

map_row : body_in One (codes "map") (boxed (codes "map") (member (codes "set") (lists ((codes "w" ∷ codes "v + 1" ∷ []) ∷ [])) no_members))
    ≡ Some (Map (record { name = codes "w"; text = codes "v + 1" } ∷ []))
map_row = refl

union_row : body_in One (codes "union") (boxed (codes "union") no_members) ≡ Some Union
union_row = refl

bsort_row : body_in One (codes "bsort") (boxed (codes "bsort") (member (codes "by") (string (codes "v")) (member (codes "slack") (integer (pos 5)) no_members)))
    ≡ Some (BSort (codes "v") (pos 5))
bsort_row = refl

-- size 10, advance 4, and what is given, with the keys of the box
abbrev windowed : List (List (List ℕ)) → Members
windowed give = boxed (codes "aggregate") (member (codes "size") (integer (pos 10)) (member (codes "advance") (integer (pos 4)) (member (codes "give") (lists give) no_members)))

aggregate_row : body_in One (codes "aggregate") (windowed ((codes "n" ∷ codes "count" ∷ []) ∷ (codes "mean" ∷ codes "avg" ∷ codes "v" ∷ []) ∷ []))
    ≡ Some (Aggregate (pos 10) (pos 4) (pos 0) [] (record { name = codes "n"; answer = Count } ∷ record { name = codes "mean"; answer = Field Avg (codes "v") } ∷ []))
aggregate_row = refl

grouped_row : body_in One (codes "aggregate") (member (codes "group") (texts (codes "k" ∷ [])) (windowed ((codes "f" ∷ codes "first" ∷ codes "v" ∷ []) ∷ [])))
    ≡ Some (Aggregate (pos 10) (pos 4) (pos 0) (codes "k" ∷ []) (record { name = codes "f"; answer = Field First (codes "v") } ∷ []))
grouped_row = refl

-- a phase is a key of the second version alone
abbrev phased : Members
phased = member (codes "phase") (integer (pos 3)) (windowed ((codes "n" ∷ codes "count" ∷ []) ∷ []))

phase_row : body_in Two (codes "aggregate") phased ≡ Some (Aggregate (pos 10) (pos 4) (pos 3) [] (record { name = codes "n"; answer = Count } ∷ []))
phase_row = refl

no_phase_yet : body_in One (codes "aggregate") phased ≡ None
no_phase_yet = refl

abbrev joining : Members
joining = boxed (codes "join") (member (codes "size") (integer (pos 3)) (member (codes "on") (string (codes "v = w")) no_members))

join_row : body_in One (codes "join") joining ≡ Some (Join (pos 3) (codes "v = w"))
join_row = refl

-- either version has it, and no phase
abbrev resampling : Members
resampling = boxed (codes "resample") (member (codes "size") (integer (pos 3)) (member (codes "give") (lists ((codes "n" ∷ codes "count" ∷ []) ∷ [])) no_members))

resample_row : body_in One (codes "resample") resampling ≡ Some (Resample (pos 3) (record { name = codes "n"; answer = Count } ∷ []))
resample_row = refl

resample_in_two : body_in Two (codes "resample") resampling ≡ body_in One (codes "resample") resampling
resample_in_two = refl

no_phase_there : body_in Two (codes "resample") (member (codes "phase") (integer (pos 0)) resampling) ≡ None
no_phase_there = refl

-- a cost of 1, and a selectivity of 1000 for its one port
whole_row : box_in One joining ≡ Some (record { name = codes "b"; body = Join (pos 3) (codes "v = w"); ins = codes "s" ∷ []; cost = pos 1; selectivity = pos 1000 ∷ [] })
whole_row = refl

-- ---- out of shape

no_slack : body_in One (codes "bsort") (boxed (codes "bsort") (member (codes "by") (string (codes "v")) no_members)) ≡ None
no_slack = refl

slack_of_text : body_in One (codes "bsort") (boxed (codes "bsort") (member (codes "by") (string (codes "v")) (member (codes "slack") (string (codes "5")) no_members))) ≡ None
slack_of_text = refl

unknown_function : body_in One (codes "aggregate") (windowed ((codes "n" ∷ codes "median" ∷ codes "v" ∷ []) ∷ [])) ≡ None
unknown_function = refl

count_of_a_field : answer_column_in (texts (codes "n" ∷ codes "count" ∷ codes "v" ∷ [])) ≡ None
count_of_a_field = refl

sum_of_nothing : answer_column_in (texts (codes "n" ∷ codes "sum" ∷ [])) ≡ None
sum_of_nothing = refl

unknown_key : body_in One (codes "join") (member (codes "advance") (integer (pos 1)) joining) ≡ None
unknown_key = refl

two_selectivities : box_in One (member (codes "selectivity") (array (item (integer (pos 1)) (item (integer (pos 1)) no_items))) joining) ≡ None
two_selectivities = refl

-- ---- outputs

abbrev shown : Members → Members
shown others = member (codes "name") (string (codes "o")) (member (codes "from") (string (codes "b")) others)

abbrev numbers : List ℤ → Items
numbers [] = no_items
numbers (z ∷ zs) = item (integer z) (numbers zs)

abbrev points : List (List ℤ) → Items
points [] = no_items
points (zs ∷ rest) = item (array (numbers zs)) (points rest)

abbrev graphed : Items → Option OutputTable
graphed entries = output_in (shown (member (codes "graph") (array entries) no_members))

bare_row : output_in (shown no_members) ≡ Some (record { name = codes "o"; from = codes "b"; weight = pos 1; graph = (pos 0, pos 0) ∷ (pos 1000, pos 1000000) ∷ [] })
bare_row = refl

weighed_row : output_in (shown (member (codes "weight") (integer (pos 7)) no_members))
    ≡ Some (record { name = codes "o"; from = codes "b"; weight = pos 7; graph = (pos 0, pos 0) ∷ (pos 1000, pos 1000000) ∷ [] })
weighed_row = refl

-- whether they are a graph isn't a matter of shape
graphed_row : graphed (points ((pos 5 ∷ negsuc 0 ∷ []) ∷ (pos 5 ∷ pos 4294967296 ∷ []) ∷ []))
    ≡ Some (record { name = codes "o"; from = codes "b"; weight = pos 1; graph = (pos 5, negsuc 0) ∷ (pos 5, pos 4294967296) ∷ [] })
graphed_row = refl

point_of_three : graphed (points ((pos 0 ∷ pos 0 ∷ []) ∷ (pos 1000 ∷ pos 1 ∷ pos 1 ∷ []) ∷ [])) ≡ None
point_of_three = refl

point_of_one : graphed (points ((pos 0 ∷ []) ∷ [])) ≡ None
point_of_one = refl

point_of_texts : graphed (item (array (item (integer (pos 0)) (item (string (codes "0")) no_items))) no_items) ≡ None
point_of_texts = refl

point_that_is_no_list : graphed (item (integer (pos 0)) no_items) ≡ None
point_that_is_no_list = refl

weight_of_text : output_in (shown (member (codes "weight") (string (codes "7")) no_members)) ≡ None
weight_of_text = refl
