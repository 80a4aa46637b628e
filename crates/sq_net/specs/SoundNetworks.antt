-- What a sound network is.
use Rattle.std.specs.Prelude.{⊤, ◌≡◌, ℕ, ◌+◌, ◌<◌, ◌^◌, Bool, true, false, ◌&&◌, ◌==◌, nat_le, List, [], ◌∷◌, ◌++◌, map, length, Some, slice_get}
use Rattle.std.specs.List.{list_all, filter_map, All}
use Rattle.sq_words.specs.Lists.{are_distinct, contains_bytes}
use Rattle.sq_value.specs.Values.{Columns, kinds_of, names_of}
use Rattle.sq_value.specs.declared.Kind.TheVariants as kind
use Rattle.sq_expr.specs.Trees.{Checked}
use Rattle.sq_expr.specs.Kinds.{fits, kind_at, kind_in, kinds_agree}
use Rattle.sq_aggfn.specs.Windows.{IsWindow}
use Rattle.sq_graph.specs.declared.BoxKind.{BoxKind}
use Rattle.sq_graph.specs.declared.BoxKind.TheVariants as boxes
use Rattle.sq_graph.specs.Wires.{producer_of, inputs_of}
use Rattle.sq_graph.specs.Order.{is_there, IsWired, LiesOnCycle}
use Rattle.sq_net.specs.declared.Network.{Network}
use Rattle.sq_net.specs.declared.Source.{Source}
use Rattle.sq_net.specs.declared.Node.{Node}
use Rattle.sq_net.specs.declared.Output.{Output}
use Rattle.sq_net.specs.declared.Body.{Body}
use Rattle.sq_net.specs.declared.Body.TheVariants.{Filter, Map, Union, BSort, Aggregate, Join, Resample}
use Rattle.sq_net.specs.Columns.{columns_at, first_columns, kind_of_func, left_columns, pair_columns, second_columns}
use Rattle.sq_net.specs.Names.{is_name}
use Rattle.sq_net.specs.Streams.{columns_of_stream}

-- ---- limits

abbrev pub is_between : ℕ → ℕ → ℕ → Bool
is_between low high n = nat_le low n && nat_le n high

abbrev pub source_within : Source → Bool
source_within s = is_between 1 255 (length s.file) && is_between 1 16 (length s.schema)

abbrev pub body_within : Body → Bool
body_within (Filter preds) = is_between 1 15 (length preds)
body_within (Map exprs) = is_between 1 16 (length exprs)
body_within Union = true
body_within (BSort by slack) = nat_le slack 10000
body_within (Aggregate funcs group window) = is_between 1 16 (length funcs) && nat_le (length group) 16
body_within (Join size on) = nat_le size (2 ^ 32)
body_within (Resample size funcs) = nat_le size (2 ^ 32) && is_between 1 16 (length funcs)

abbrev pub node_within : Node → Bool
node_within b = body_within b.body && is_between 0 1000 b.cost && list_all (is_between 0 1000000) b.selectivity

abbrev pub output_within : Output → Bool
output_within o = nat_le o.weight 1000 && nat_le (length o.graph) 1000

-- a Union takes 1 to 8 streams, a Join and a Resample two, and each other box one
abbrev pub takes_within : BoxKind → ℕ → Bool
takes_within boxes.Union n = is_between 1 8 n
takes_within boxes.Join n = n == 2
takes_within boxes.Resample n = n == 2
takes_within k n = n == 1

abbrev pub network_within : Network → Bool
network_within n =
    is_between 1 8 (length n.sources) && is_between 0 128 (length n.boxes) && is_between 1 32 (length n.outputs)
    && is_between 1 (2 ^ 34) n.epoch && is_between 1 1000000 n.batch
    && list_all source_within n.sources && list_all node_within n.boxes && list_all output_within n.outputs
    && list_all (λ b. takes_within b.kind (length b.inputs)) n.wires.boxes

-- ---- the wiring and the lists

abbrev pub kind_of_body : Body → BoxKind
kind_of_body (Filter preds) = boxes.Filter
kind_of_body (Map exprs) = boxes.Map
kind_of_body Union = boxes.Union
kind_of_body (BSort by slack) = boxes.BSort
kind_of_body (Aggregate funcs group window) = boxes.Aggregate
kind_of_body (Join size on) = boxes.Join
kind_of_body (Resample size funcs) = boxes.Resample

-- the lists and the wiring agree in number and in the kind and the ports of each box, and name only streams that exist
pub record IsConsistent (n : Network) : Type 0 where
  pub sources : n.wires.sources ≡ length n.sources
  pub kinds : map (λ b. b.kind) n.wires.boxes ≡ map (λ b. kind_of_body b.body) n.boxes
  pub ports : map (λ b. b.ports) n.wires.boxes ≡ map (λ b. length b.schemas) n.boxes
  pub tolls : map (λ b. length b.selectivity) n.boxes ≡ map (λ b. length b.schemas) n.boxes
  pub outputs : length n.wires.outputs ≡ length n.outputs
  pub wired : IsWired n.wires
  pub shown : All (λ s. is_there (producer_of n.wires s) ≡ true) n.wires.outputs

-- ---- the boxes on the columns of what they take

-- an expression that was checked over these columns
abbrev pub IsOver : Columns → Checked → Type 0
IsOver cs e = (e.scope ≡ cs) × (kinds_agree e.scope e.tree ≡ true)

-- a predicate over these columns: a boolean, or `null`
abbrev pub IsPredicate : Columns → Checked → Type 0
IsPredicate cs e = IsOver cs e × (fits kind.Bool (kind_in e.scope e.tree) ≡ true)

-- names that differ, and of which none is one of those before
abbrev pub AreNew : List (List ℕ) → List (List ℕ) → Type 0
AreNew before names = (are_distinct names ≡ true) × All (λ w. contains_bytes w before ≡ false) names

-- a Filter's ports have its input's kinds; a Map's port has the kinds of its expressions, under names that are names and
-- differ; a Union's inputs are alike, and its port is as they are; a BSort sorts by a number; an Aggregate's port has the
-- columns to group by, then one for each function, 16 at most with names that differ; a Join's port has the columns of a
-- pair, 16 at most; a Resample's port has the left columns, then one for each function over the right ones, 16 at most, and the
-- names of these differ from one another and from those of the left columns
abbrev pub IsTypedBody : List Columns → Body → List Columns → Type 0
IsTypedBody ins (Filter preds) ports =
    All (IsPredicate (first_columns ins)) preds × (length ports ≡ length preds + 1)
    × All (λ cs. kinds_of cs ≡ kinds_of (first_columns ins)) ports
IsTypedBody ins (Map exprs) ports =
    (cs : Columns) × (ports ≡ cs ∷ []) × All (IsOver (first_columns ins)) exprs
    × (map (λ e. kind_in e.scope e.tree) exprs ≡ map Some (kinds_of cs)) × All (λ w. is_name w ≡ true) (names_of cs)
    × (are_distinct (names_of cs) ≡ true)
IsTypedBody ins Union ports = All (λ cs. cs ≡ first_columns ins) ins × (ports ≡ first_columns ins ∷ [])
IsTypedBody ins (BSort by slack) ports =
    (kind_at (first_columns ins) by ≡ Some kind.Int) × (ports ≡ first_columns ins ∷ [])
IsTypedBody ins (Aggregate funcs group window) ports =
    (given : Columns) × (ports ≡ (columns_at (first_columns ins) group ++ given) ∷ [])
    × (map (kind_of_func (first_columns ins)) funcs ≡ map Some (kinds_of given)) × All (λ w. is_name w ≡ true) (names_of given)
    × All (λ i. i < length (first_columns ins)) group
    × (are_distinct (names_of (columns_at (first_columns ins) group ++ given)) ≡ true)
    × (nat_le (length group + length funcs) 16 ≡ true)
IsTypedBody ins (Join size on) ports =
    IsPredicate (pair_columns ins) on × (ports ≡ pair_columns ins ∷ []) × (nat_le (length (pair_columns ins)) 16 ≡ true)
IsTypedBody ins (Resample size funcs) ports =
    (given : Columns) × (ports ≡ (left_columns ins ++ given) ∷ [])
    × (map (kind_of_func (second_columns ins)) funcs ≡ map Some (kinds_of given)) × All (λ w. is_name w ≡ true) (names_of given)
    × AreNew (names_of (left_columns ins)) (names_of given) × (nat_le (length (first_columns ins) + length funcs) 16 ≡ true)

-- an Aggregate's window moves on, covers what it moves by, is at most 2^32 ticks and 4096 advances long, and has a phase below its advance
abbrev pub HasWindow : Body → Type 0
HasWindow (Aggregate funcs group window) = IsWindow window
HasWindow b = ⊤

-- the columns of what a box takes
abbrev pub input_columns : Network → ℕ → List Columns
input_columns n at = filter_map (columns_of_stream n) (inputs_of n.wires at)

pub record IsSound (n : Network) : Type 0 where
  pub within : network_within n ≡ true
  pub agrees : IsConsistent n
  pub acyclic : (at : ℕ) → LiesOnCycle n.wires at → ⊥
  pub named : All (λ o. is_name o.name ≡ true) n.outputs
  pub distinct : are_distinct (map (λ o. o.name) n.outputs) ≡ true
  pub windows : All (λ b. HasWindow b.body) n.boxes
  pub typed : (at : ℕ) (b : Node) → slice_get n.boxes at ≡ Some b → IsTypedBody (input_columns n at) b.body b.schemas
