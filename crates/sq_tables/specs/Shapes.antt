-- A network file by its tables, before its names and numbers are checked. A table without a key that it needs, with
-- one that it doesn't know, or with a value of another kind, gives nothing.
use Rattle.std.specs.Prelude.{◌≡◌, ℕ, ◌+◌, true, ◌==◌, if◌then◌else◌, List, [], ◌∷◌, length, replicate, ℤ, pos, Option, Some, None, codes}
use Rattle.sq_words.specs.Lists.{same_bytes}
use Rattle.std.specs.List.{All}
use Rattle.toml.specs.Data.{Data, array, no_items, item, Members, get_member, as_str, as_integer, as_table}
use Rattle.sq_tables.specs.declared.tables.SourceTable.{SourceTable}
use Rattle.sq_tables.specs.declared.tables.Setting.{Setting}
use Rattle.sq_tables.specs.declared.tables.Over.{Over}
use Rattle.sq_tables.specs.declared.tables.Over.TheVariants.{Sum, Avg, Min, Max, First, Last}
use Rattle.sq_tables.specs.declared.tables.Answer.TheVariants.{Count, Field}
use Rattle.sq_tables.specs.declared.tables.AnswerColumn.{AnswerColumn}
use Rattle.sq_tables.specs.declared.tables.BodyTable.{BodyTable}
use Rattle.sq_tables.specs.declared.tables.BodyTable.TheVariants.{Filter, Map, Union, BSort, Aggregate, Join, Resample}
use Rattle.sq_tables.specs.declared.tables.BoxTable.{BoxTable}
use Rattle.sq_tables.specs.declared.tables.Version.{Version}
use Rattle.sq_tables.specs.declared.tables.Version.TheVariants.{One, Two}
use Rattle.sq_tables.specs.declared.tables.OutputTable.{OutputTable}
use Rattle.sq_tables.specs.declared.tables.NetworkTable.{NetworkTable}
use Rattle.sq_tables.specs.Documents.{when, list_in, has_only, required, optional}
use Rattle.sq_words.specs.Options.{◌>>=◌}

-- the top of a file: its numbers, and its tables
pub record Tables : Type 0 where
  pub epoch : ℤ
  pub batch : ℤ
  pub sources : List Members
  pub boxes : List Members
  pub outputs : List Members

abbrev pub top_keys : List (List ℕ)
top_keys = codes "version" ∷ codes "epoch" ∷ codes "batch" ∷ codes "source" ∷ codes "box" ∷ codes "output" ∷ []

abbrev pub top_in : Members → Option Tables
top_in ms = do
  _keys ← when (has_only top_keys ms) true
  epoch ← optional (pos 1000) as_integer (get_member (codes "epoch") ms)
  batch ← optional (pos 1) as_integer (get_member (codes "batch") ms)
  sources ← required (list_in as_table) (get_member (codes "source") ms)
  boxes ← optional [] (list_in as_table) (get_member (codes "box") ms)
  outputs ← required (list_in as_table) (get_member (codes "output") ms)
  Some (record { epoch = epoch; batch = batch; sources = sources; boxes = boxes; outputs = outputs })

abbrev pub source_in : Members → Option SourceTable
source_in ms = do
  _keys ← when (has_only (codes "name" ∷ codes "file" ∷ codes "fields" ∷ []) ms) true
  name ← required as_str (get_member (codes "name") ms)
  file ← required as_str (get_member (codes "file") ms)
  fields ← required (list_in as_str) (get_member (codes "fields") ms)
  Some (record { name = name; file = file; fields = fields })

-- an entry of `graph`: a list of two numbers
abbrev pub point_in : Data → Option (ℤ × ℤ)
point_in (array (item a (item b no_items))) = as_integer a >>= λ x. as_integer b >>= λ y. Some (x, y)
point_in d = None

-- the line from nothing to all: each part of the tuples is worth as much as it is large
abbrev pub even_points : List (ℤ × ℤ)
even_points = (pos 0, pos 0) ∷ (pos 1000, pos 1000000) ∷ []

abbrev pub output_in : Members → Option OutputTable
output_in ms = do
  _keys ← when (has_only (codes "name" ∷ codes "from" ∷ codes "weight" ∷ codes "graph" ∷ []) ms) true
  name ← required as_str (get_member (codes "name") ms)
  from ← required as_str (get_member (codes "from") ms)
  weight ← optional (pos 1) as_integer (get_member (codes "weight") ms)
  graph ← optional even_points (list_in point_in) (get_member (codes "graph") ms)
  Some (record { name = name; from = from; weight = weight; graph = graph })

-- an entry of `set`: a list of a name and an expression
abbrev pub setting_in : Data → Option Setting
setting_in (array (item a (item b no_items))) = as_str a >>= λ name. as_str b >>= λ text. Some (record { name = name; text = text })
setting_in d = None

-- a function, by its name
abbrev pub over_named : List ℕ → Option Over
over_named word =
    if same_bytes word (codes "sum") then Some Sum
    else (if same_bytes word (codes "avg") then Some Avg
    else (if same_bytes word (codes "min") then Some Min
    else (if same_bytes word (codes "max") then Some Max
    else (if same_bytes word (codes "first") then Some First
    else (if same_bytes word (codes "last") then Some Last else None)))))

abbrev pub counting_in : Data → Data → Option AnswerColumn
counting_in a b = do
  name ← as_str a
  word ← as_str b
  when (same_bytes word (codes "count")) (record { name = name; answer = Count })

abbrev pub function_in : Data → Data → Data → Option AnswerColumn
function_in a b c = do
  name ← as_str a
  word ← as_str b
  field ← as_str c
  over ← over_named word
  Some (record { name = name; answer = Field over field })

-- an entry of `give`: a list of a name and `count`, or of a name, a function and a field
abbrev pub answer_column_in : Data → Option AnswerColumn
answer_column_in (array (item a (item b no_items))) = counting_in a b
answer_column_in (array (item a (item b (item c no_items)))) = function_in a b c
answer_column_in d = None

-- the keys of each box, whatever it does
abbrev pub box_keys : List (List ℕ)
box_keys = codes "name" ∷ codes "kind" ∷ codes "in" ∷ codes "cost" ∷ codes "selectivity" ∷ []

abbrev pub filter_in : Members → Option BodyTable
filter_in ms = do
  _keys ← when (has_only (codes "where" ∷ box_keys) ms) true
  preds ← required (list_in as_str) (get_member (codes "where") ms)
  Some (Filter preds)

abbrev pub map_in : Members → Option BodyTable
map_in ms = do
  _keys ← when (has_only (codes "set" ∷ box_keys) ms) true
  set ← required (list_in setting_in) (get_member (codes "set") ms)
  Some (Map set)

abbrev pub union_in : Members → Option BodyTable
union_in ms = do
  _keys ← when (has_only box_keys ms) true
  Some Union

abbrev pub bsort_in : Members → Option BodyTable
bsort_in ms = do
  _keys ← when (has_only (codes "by" ∷ codes "slack" ∷ box_keys) ms) true
  by ← required as_str (get_member (codes "by") ms)
  slack ← required as_integer (get_member (codes "slack") ms)
  Some (BSort by slack)

abbrev pub window_keys : List (List ℕ)
window_keys = codes "size" ∷ codes "advance" ∷ codes "group" ∷ codes "give" ∷ box_keys

-- the phase of windows is a key of the second version alone
abbrev pub aggregate_keys : Version → List (List ℕ)
aggregate_keys One = window_keys
aggregate_keys Two = codes "phase" ∷ window_keys

abbrev pub aggregate_in : Version → Members → Option BodyTable
aggregate_in version ms = do
  _keys ← when (has_only (aggregate_keys version) ms) true
  size ← required as_integer (get_member (codes "size") ms)
  advance ← required as_integer (get_member (codes "advance") ms)
  phase ← optional (pos 0) as_integer (get_member (codes "phase") ms)
  group ← optional [] (list_in as_str) (get_member (codes "group") ms)
  give ← required (list_in answer_column_in) (get_member (codes "give") ms)
  Some (Aggregate size advance phase group give)

abbrev pub join_in : Members → Option BodyTable
join_in ms = do
  _keys ← when (has_only (codes "size" ∷ codes "on" ∷ box_keys) ms) true
  size ← required as_integer (get_member (codes "size") ms)
  on ← required as_str (get_member (codes "on") ms)
  Some (Join size on)

abbrev pub resample_in : Members → Option BodyTable
resample_in ms = do
  _keys ← when (has_only (codes "size" ∷ codes "give" ∷ box_keys) ms) true
  size ← required as_integer (get_member (codes "size") ms)
  give ← required (list_in answer_column_in) (get_member (codes "give") ms)
  Some (Resample size give)

-- what a box of a kind does
abbrev pub body_in : Version → List ℕ → Members → Option BodyTable
body_in version kind ms =
    if same_bytes kind (codes "filter") then filter_in ms
    else (if same_bytes kind (codes "map") then map_in ms
    else (if same_bytes kind (codes "union") then union_in ms
    else (if same_bytes kind (codes "bsort") then bsort_in ms
    else (if same_bytes kind (codes "aggregate") then aggregate_in version ms
    else (if same_bytes kind (codes "join") then join_in ms
    else (if same_bytes kind (codes "resample") then resample_in ms else None))))))

abbrev pub port_count : BodyTable → ℕ
port_count (Filter preds) = length preds + 1
port_count b = 1

-- each port lets all tuples through
abbrev pub default_selectivity : ℕ → List ℤ
default_selectivity ports = replicate ports (pos 1000)

abbrev pub box_in : Version → Members → Option BoxTable
box_in version ms = do
  kind ← required as_str (get_member (codes "kind") ms)
  body ← body_in version kind ms
  name ← required as_str (get_member (codes "name") ms)
  ins ← required (list_in as_str) (get_member (codes "in") ms)
  cost ← optional (pos 1) as_integer (get_member (codes "cost") ms)
  selectivity ← optional (default_selectivity (port_count body)) (list_in as_integer) (get_member (codes "selectivity") ms)
  when (length selectivity == port_count body) (record { name = name; body = body; ins = ins; cost = cost; selectivity = selectivity })

-- a selectivity for each port
abbrev pub IsEven : BoxTable → Type 0
IsEven b = length b.selectivity ≡ port_count b.body

abbrev pub AreEven : NetworkTable → Type 0
AreEven r = All IsEven r.boxes
