-- The boxes by the columns of what they take.
use Rattle.std.specs.Prelude.{ℕ, ◌+◌, Bool, true, false, not, nat_le, ◌&&◌, if◌then◌else◌, List, [], ◌∷◌, ◌++◌, map, length, replicate, ℤ, pos, negsuc, Option, Some, None, Result, Ok, Err, option_map, slice_get, slice_set}
use Rattle.std.specs.List.{filter_map, zip}
use Rattle.std.specs.Option.{option_and_then}
use Rattle.sq_words.specs.Lists.{same_bytes, contains_bytes}
use Rattle.sq_value.specs.Values.{Columns, kinds_of, names_of}
use Rattle.sq_value.specs.declared.Kind.{Kind}
use Rattle.sq_expr.specs.Trees.{Checked}
use Rattle.sq_expr.specs.Checking.{column_of}
use Rattle.sq_expr.specs.Kinds.{kind_at, kind_in, same_kinds}
use Rattle.sq_aggfn.specs.declared.WindowSpec.{WindowSpec}
use Rattle.sq_graph.specs.declared.Wiring.{Wiring}
use Rattle.sq_graph.specs.Wires.{producer_of, inputs_of}
use Rattle.sq_graph.specs.declared.Producer.{Producer}
use Rattle.sq_graph.specs.declared.Producer.TheVariants.{Source, Port}
use Rattle.sq_net.specs.declared.Source as declared
use Rattle.sq_net.specs.declared.Node.{Node}
use Rattle.sq_net.specs.declared.Body.{Body}
use Rattle.sq_net.specs.declared.Body.TheVariants as body
use Rattle.sq_net.specs.declared.NetErr.{NetErr}
use Rattle.sq_net.specs.declared.NetErr.TheVariants as broken
use Rattle.sq_net.specs.declared.Part.TheVariants as part
use Rattle.sq_net.specs.Columns.{columns_at, first_columns, if_int, left_columns, pair_columns, second_columns}
use Rattle.sq_net.specs.Names.{is_name}
use Rattle.sq_net.specs.Streams.{columns_of_port}
use Rattle.sq_tables.specs.declared.tables.Setting.{Setting}
use Rattle.sq_tables.specs.declared.tables.AnswerColumn.{AnswerColumn}
use Rattle.sq_tables.specs.declared.tables.BodyTable.{BodyTable}
use Rattle.sq_tables.specs.declared.tables.BodyTable.TheVariants.{Filter, Map, Union, BSort, Aggregate, Join, Resample}
use Rattle.sq_tables.specs.declared.tables.BoxTable.{BoxTable}
use Rattle.sq_tables.specs.declared.tables.NetworkTable.{NetworkTable}
use Rattle.sq_tables.specs.Places.{place_at, part_place, or_else}
use Rattle.sq_rules.specs.Limits.{first_failing}
use Rattle.sq_tables.specs.Tables.{or_broken}
use Rattle.sq_reader.specs.Expressions.{may_be_predicate, may_be_set, predicate_of, typed_in}
use Rattle.sq_reader.specs.Functions.{funcs_from, group_from, kinds_answered}
use Rattle.sq_words.specs.Results.{◌>>=◌}

abbrev pub same_names : List (List ℕ) → List (List ℕ) → Bool
same_names [] [] = true
same_names [] (y ∷ ys) = false
same_names (x ∷ xs) [] = false
same_names (x ∷ xs) (y ∷ ys) = same_bytes x y && same_names xs ys

-- the same names of the same kinds
abbrev pub same_columns : Columns → Columns → Bool
same_columns cs ds = same_names (names_of cs) (names_of ds) && same_kinds (kinds_of cs) (kinds_of ds)

-- the number, counted from i, of the first name that is none or is one of those before
abbrev pub bad_name_from : List (List ℕ) → ℕ → List (List ℕ) → Option ℕ
bad_name_from before i [] = None
bad_name_from before i (w ∷ ws) = if is_name w && not (contains_bytes w before) then bad_name_from (before ++ w ∷ []) (i + 1) ws else Some i

abbrev pub bad_name : List (List ℕ) → List (List ℕ) → Option ℕ
bad_name before names = bad_name_from before 0 names

-- go on where no item of a box is at fault
abbrev pub unless_schema : {A : Type 0} → ℕ → Option ℕ → Result A NetErr → Result A NetErr
unless_schema n None more = more
unless_schema n (Some i) more = Err (broken.Schema (place_at part.Box n i))

abbrev pub set_names : List Setting → List (List ℕ)
set_names set = map (λ e. e.name) set

abbrev pub set_texts : List Setting → List (List ℕ)
set_texts set = map (λ e. e.text) set

-- the kinds of checked expressions
abbrev pub kinds_set : List Checked → List Kind
kinds_set es = filter_map (λ e. kind_in e.scope e.tree) es

-- a typed box: what it does, and the columns of its ports
abbrev pub TypedBody : Type 0
TypedBody = Body × List Columns

abbrev pub nat_of : ℤ → ℕ
nat_of (pos n) = n
nat_of (negsuc n) = 0

abbrev pub filter_of : ℕ → List (List ℕ) → Columns → Result TypedBody NetErr
filter_of n preds cs = typed_in n may_be_predicate cs preds >>= λ es. Ok (body.Filter es, replicate (length preds + 1) cs)

abbrev pub map_of : ℕ → List Setting → Columns → Result TypedBody NetErr
map_of n set cs =
    unless_schema n (bad_name [] (set_names set))
    (typed_in n may_be_set cs (set_texts set) >>= λ es. Ok (body.Map es, zip (set_names set) (kinds_set es) ∷ []))

abbrev pub union_of : ℕ → List Columns → Result TypedBody NetErr
union_of n ins = unless_schema n (first_failing (λ cs. same_columns cs (first_columns ins)) ins) (Ok (body.Union, first_columns ins ∷ []))

-- the place, where numbers stand there
abbrev pub place_if : ℕ → Option Kind → Option ℕ
place_if i None = None
place_if i (Some k) = Some i

-- the place of a column of numbers
abbrev pub int_place : Columns → List ℕ → Option ℕ
int_place cs name = option_and_then (λ i. place_if i (if_int (kind_at cs i))) (column_of name cs)

abbrev pub bsort_of : ℕ → List ℕ → ℤ → Columns → Result TypedBody NetErr
bsort_of n by slack cs =
    or_broken (broken.Typing (place_at part.Box n 0)) (int_place cs by) >>= λ i. Ok (body.BSort i (nat_of slack), cs ∷ [])

-- item 0 where there are more than 16
abbrev pub too_many : ℕ → Option ℕ
too_many n = if nat_le n 16 then None else Some 0

abbrev pub give_names : List AnswerColumn → List (List ℕ)
give_names give = map (λ g. g.name) give

-- the item at fault: item 0 where there are too many with those before, else the first name that is none or stands before
abbrev pub bad_given : List (List ℕ) → List (List ℕ) → Option ℕ
bad_given before given = or_else (too_many (length before + length given)) (bad_name before given)

-- a window by its size, its advance and its phase
abbrev pub window_read : ℤ → ℤ → ℤ → WindowSpec
window_read size advance phase = record { size = nat_of size; advance = nat_of advance; phase = nat_of phase }

abbrev pub typed_aggregate : ℕ → WindowSpec → List (List ℕ) → List AnswerColumn → Columns → Result TypedBody NetErr
typed_aggregate n window group give cs =
    unless_schema n (bad_given group (give_names give))
    (funcs_from n 0 cs give >>= λ fs. group_from n 0 cs [] group >>= λ ps.
    Ok (body.Aggregate fs ps window, (columns_at cs ps ++ zip (give_names give) (kinds_answered cs fs)) ∷ []))

abbrev pub join_of : ℕ → ℤ → List ℕ → List Columns → Result TypedBody NetErr
join_of n size on ins =
    unless_schema n (too_many (length (pair_columns ins)))
    (predicate_of n (pair_columns ins) on >>= λ e. Ok (body.Join (nat_of size) e, pair_columns ins ∷ []))

abbrev pub typed_resample : ℕ → ℕ → List AnswerColumn → List Columns → Result TypedBody NetErr
typed_resample n size give ins =
    unless_schema n (bad_given (names_of (left_columns ins)) (give_names give))
    (funcs_from n 0 (second_columns ins) give >>= λ fs.
    Ok (body.Resample size fs, (left_columns ins ++ zip (give_names give) (kinds_answered (second_columns ins) fs)) ∷ []))

-- a box on what it takes
abbrev pub typed_body : ℕ → BodyTable → List Columns → Result TypedBody NetErr
typed_body n (Filter preds) ins = filter_of n preds (first_columns ins)
typed_body n (Map set) ins = map_of n set (first_columns ins)
typed_body n Union ins = union_of n ins
typed_body n (BSort by slack) ins = bsort_of n by slack (first_columns ins)
typed_body n (Aggregate size advance phase group give) ins = typed_aggregate n (window_read size advance phase) group give (first_columns ins)
typed_body n (Join size on) ins = join_of n size on ins
typed_body n (Resample size give) ins = typed_resample n (nat_of size) give ins

abbrev pub node_of : BoxTable → TypedBody → Node
node_of b t = record { name = b.name; body = t.0; schemas = t.1; cost = nat_of b.cost; selectivity = map nat_of b.selectivity }

abbrev pub node_in : ℕ → BoxTable → List Columns → Result Node NetErr
node_in n b ins = typed_body n b.body ins >>= λ t. Ok (node_of b t)

-- ---- the boxes in their order

abbrev pub node_known : Option (Option Node) → Option Node
node_known None = None
node_known (Some o) = o

-- the columns of what gives a stream, as far as the boxes are typed
abbrev pub columns_known : List declared.Source → List (Option Node) → Option Producer → Option Columns
columns_known ss nodes None = None
columns_known ss nodes (Some (Source s)) = option_map (λ source. source.schema) (slice_get ss s)
columns_known ss nodes (Some (Port at port)) = columns_of_port (node_known (slice_get nodes at)) port

abbrev pub columns_taken : Wiring → List declared.Source → List (Option Node) → List ℕ → List Columns
columns_taken w ss nodes inputs = filter_map (λ s. columns_known ss nodes (producer_of w s)) inputs

-- a number with no box, which the order of the boxes doesn't have, is out of its limits
abbrev pub node_of_box : ℕ → Option BoxTable → List Columns → Result Node NetErr
node_of_box at None ins = Err (broken.Limit (part_place part.Box at))
node_of_box at (Some b) ins = node_in at b ins

-- the box of this number, on what is known so far
abbrev pub typed_node : NetworkTable → Wiring → List declared.Source → List (Option Node) → ℕ → Result Node NetErr
typed_node r w ss nodes at = node_of_box at (slice_get r.boxes at) (columns_taken w ss nodes (inputs_of w at))

-- the boxes of these numbers, one after another, each put at its place
abbrev pub nodes_from : NetworkTable → Wiring → List declared.Source → List (Option Node) → List ℕ → Result (List (Option Node)) NetErr
nodes_from r w ss nodes [] = Ok nodes
nodes_from r w ss nodes (at ∷ ats) = typed_node r w ss nodes at >>= λ node. nodes_from r w ss (slice_set nodes at (Some node)) ats

abbrev pub no_nodes : ℕ → List (Option Node)
no_nodes n = replicate n None
