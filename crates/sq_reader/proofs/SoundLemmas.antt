-- A network that is read is sound.
use Rattle.std.proofs.Common.{◌≡◌, ◌∙◌, sym, ap, subst, refl, ℕ, suc, ◌<◌, ◌^◌, true, ◌&&◌, List, [], ◌∷◌, map, length, Option, Some, None, slice_get, get_or, arith}
use Rattle.std.specs.Prelude.{nat_le, ℤ, Result, Ok, Err, IfOk}
use Rattle.std.specs.List.{All, cons_option, filter_map, list_all, AllByRecursion}
use Rattle.std.specs.Option.{option_map}
use Rattle.std.proofs.lemmas.Bool.{and_from}
use Rattle.std.proofs.lemmas.List.{length-map, length-replicate}
use Rattle.std.proofs.lemmas.List.Elements.{All-map, All-from_recursion, recursion_from_All}
use Rattle.std.proofs.lemmas.Option.{slice_get-get_or, slice_get-map, slice_get_within}
use Rattle.sq_words.specs.Lists.{are_distinct}
use Rattle.sq_value.specs.Values.{Columns}
use Rattle.sq_graph.specs.declared.BoxWires.{BoxWires}
use Rattle.sq_graph.specs.declared.Wiring.{Wiring}
use Rattle.sq_graph.specs.Wires.{producer_of, inputs_of}
use Rattle.sq_graph.specs.declared.Producer.{Producer}
use Rattle.sq_graph.specs.declared.Producer.TheVariants.{Source, Port}
use Rattle.sq_graph.specs.Order.{order_of}
use Rattle.sq_net.specs.declared.Source as declared
use Rattle.sq_net.specs.declared.Node.{Node}
use Rattle.sq_net.specs.declared.Output.{Output}
use Rattle.sq_net.specs.declared.Network.{Network}
use Rattle.sq_net.specs.declared.NetErr.{NetErr}
use Rattle.sq_net.specs.declared.NetErr.TheVariants as broken
use Rattle.sq_net.specs.declared.Part.TheVariants as part
use Rattle.sq_net.specs.Names.{is_name}
use Rattle.sq_net.specs.Streams.{columns_given, columns_of_port, columns_of_stream}
use Rattle.sq_net.specs.SoundNetworks.{IsConsistent, HasWindow, IsSound, body_within, input_columns, is_between, kind_of_body, network_within, node_within, output_within}
use Rattle.sq_tables.specs.declared.tables.BoxTable.{BoxTable}
use Rattle.sq_tables.specs.declared.tables.OutputTable.{OutputTable}
use Rattle.sq_tables.specs.declared.tables.NetworkTable.{NetworkTable}
use Rattle.sq_tables.specs.Places.{part_place}
use Rattle.sq_tables.specs.Refusals.{IsAnswerOf}
use Rattle.sq_tables.specs.Documents.{document_in}
use Rattle.sq_tables.specs.Tables.{or_broken, network_table_from, network_table_of}
use Rattle.sq_tables.proofs.EvenLemmas.{answer_even}
use Rattle.sq_tables.specs.Shapes.{AreEven, IsEven}
use Rattle.sq_rules.specs.Limits as limits
use Rattle.sq_rules.specs.Limits.{box_within, first_failing, has_between}
use Rattle.sq_tables.specs.Shapes.{port_count}
use Rattle.sq_rules.specs.Streaming as wires
use Rattle.sq_rules.specs.Streaming.{box_wires, told_stream_named, told_stream_names, wiring_of}
use Rattle.sq_reader.specs.Sources.{sources_from}
use Rattle.sq_reader.specs.Columns.{columns_known, columns_taken, nat_of, no_nodes, node_known, node_of_box, nodes_from}
use Rattle.sq_rules.specs.Windows.{has_window}
use Rattle.sq_reader.specs.Networks.{graphed_network, limited_network, network_in, network_of, ordered_network, typed_network, unless_fault}
use Rattle.sq_rules.specs.declared.rules.Wired.{Wired}
use Rattle.sq_rules.specs.Rules.{KeepsTableRules, wired_tables}
use Rattle.sq_rules.proofs.RuleLemmas.{none_on_cycle, rules_kept}
use Rattle.sq_reader.specs.Outputs.{graph_fault, output_of, graph_points}
use Rattle.sq_reader.proofs.DropLemmas.{limited_same}
use Rattle.sq_rules.proofs.LimitLemmas.{is_within}
use Rattle.sq_reader.proofs.LimitLemmas.{number_within, output_of as output_limits}
use Rattle.sq_rules.proofs.ListLemmas.{each_passes, none_failing, nothing_mapped}
use Rattle.sq_reader.proofs.ListLemmas.{all_by_place, maps_same}
use Rattle.sq_rules.proofs.WiringLemmas.{is_wired, outputs_shown}
use Rattle.sq_tables.proofs.ShapedLemmas.{first_step}
use Rattle.sq_reader.proofs.BodyLemmas.{IsNodeOf, node_is}
use Rattle.sq_reader.proofs.NodeLemmas.{AreSettled, IsSettled, all_known, follow_all, settled}
use Rattle.sq_rules.proofs.RuleLemmas.{outputs_distinct, outputs_known, outputs_named, takes_all}
use Rattle.sq_reader.proofs.RuleLemmas.{numbers_within, sources_within}
use Rattle.sq_words.specs.Results.{◌>>=◌}
use Rattle.sq_words.proofs.Bools.{and_true}
use Rattle.sq_words.proofs.Numbers.{nat_le_true}
use Rattle.sq_place.proofs.Ranks.{order-has}
use Rattle.sq_words.proofs.Lists.{map_map, list_all_at}

-- ---- the rules that the file keeps

-- a file's tables that keep every rule, and what they are as sources and boxes
pub record IsRead (r : NetworkTable) (ss : List declared.Source) (nodes : List (Option Node)) : Type 0 where
  pub even : AreEven r
  pub kept : KeepsTableRules r
  pub graphs : graph_fault r ≡ None
  pub given : sources_from 0 r.sources ≡ Ok ss
  pub typed : nodes_from r (wiring_of r) ss (no_nodes (length r.boxes)) (order_of (wiring_of r)) ≡ Ok nodes

none_at_fault : {A : Type 0} (o : Option NetErr) (more : Result A NetErr) (x : A) → unless_fault o more ≡ Ok x → (o ≡ None) × (more ≡ Ok x)
none_at_fault None more x h = (refl, h)
none_at_fault (Some e) more x h = cc

-- what a network is read from
pub record IsReadAs (n : Network) : Type 0 where
  pub raw : NetworkTable
  pub sources : List declared.Source
  pub nodes : List (Option Node)
  pub read : IsRead raw sources nodes
  pub same : network_of raw (wiring_of raw) sources nodes ≡ n

pub read_as : (r : NetworkTable) (n : Network) → AreEven r → typed_network r ≡ Ok n → IsReadAs n
read_as r n even h =
    let wired = first_step (wired_tables r) (λ x. graphed_network r x.wires) n h in
    let kept = rules_kept r wired.0 wired.1.0 in
    let typed : graphed_network r (wiring_of r) ≡ Ok n = subst (λ (x : Wired). graphed_network r x.wires ≡ Ok n) kept.1 wired.1.1 in
    let graphs = none_at_fault (graph_fault r) (ordered_network r (wiring_of r)) n typed in
    let sources = first_step (sources_from 0 r.sources) (λ ss.
    nodes_from r (wiring_of r) ss (no_nodes (length r.boxes)) (order_of (wiring_of r)) >>= λ nodes.
    Ok (network_of r (wiring_of r) ss nodes)) n graphs.1 in
    let nodes = first_step (nodes_from r (wiring_of r) sources.0 (no_nodes (length r.boxes)) (order_of (wiring_of r))) (λ nodes.
    Ok (network_of r (wiring_of r) sources.0 nodes)) n sources.1.1 in
    record {
      raw = r;
      sources = sources.0;
      nodes = nodes.0;
      read = record {
        even = even;
        kept = kept.0;
        graphs = graphs.0;
        given = sources.1.0;
        typed = nodes.1.0;
      };
      same = (let last = nodes.1.1 in cc);
    }

-- ---- no box lies on a cycle, so each is typed

-- the nodes are those of the network
pub record AreBoxes (r : NetworkTable) (ss : List declared.Source) (nodes : List (Option Node)) (bs : List Node) : Type 0 where
  pub count : length bs ≡ length r.boxes
  pub known : nodes ≡ map Some bs
  pub settled : (at : ℕ) → at < length bs → IsSettled r (wiring_of r) ss nodes at

pub are_boxes : (r : NetworkTable) (ss : List declared.Source) (nodes : List (Option Node)) → IsRead r ss nodes → AreBoxes r ss nodes (filter_map (λ o. o) nodes)
are_boxes r ss nodes read =
    let w : Wiring = wiring_of r in
    let boxes : length w.boxes ≡ length r.boxes = length-map r.boxes (box_wires (told_stream_named (told_stream_names r))) in
    let start : length (no_nodes (length r.boxes)) ≡ length w.boxes = length-replicate (length r.boxes) (none_yet r) ∙ sym boxes in
    let all : AreSettled r w ss [] (no_nodes (length r.boxes)) (order_of w) nodes = settled r w ss [] (no_nodes (length r.boxes)) (order_of w) nodes (follow_all w) start read.typed in
    let long : length nodes ≡ length w.boxes = all.count ∙ start in
    let each : (at : ℕ) → at < length nodes → IsSettled r w ss nodes at = (λ at low. all.each at (order-has w (is_wired (told_stream_names r) r refl) (none_on_cycle w read.kept.acyclic) at (omega (arith, low, long)))) in
    let known : nodes ≡ map Some (filter_map (λ o. o) nodes) = all_known nodes (λ at low. (let s = each at low in (s.node, s.there))) in
    let same : length nodes ≡ length (filter_map (λ o. o) nodes) = ap (λ (os : List (Option Node)). length os) known ∙ length-map (filter_map (λ (o : Option Node). o) nodes) (λ (b : Node). Some b) in
    record {
      count = sym same ∙ (long ∙ boxes);
      known = known;
      settled = λ at low. each at (omega (arith, low, same));
    }
  where
    none_yet : NetworkTable → Option Node
    none_yet r = None

known_again : (o : Option Node) → node_known (option_map (λ b. Some b) o) ≡ o
known_again None = refl
known_again (Some b) = refl

-- what gives a stream has the columns that it has in the network
known_given : (r : NetworkTable) (w : Wiring) (ss : List declared.Source) (nodes : List (Option Node)) → nodes ≡ map Some (filter_map (λ o. o) nodes)
    → (p : Option Producer) → columns_known ss nodes p ≡ columns_given (network_of r w ss nodes) p
known_given r w ss nodes known None = refl
known_given r w ss nodes known (Some (Source s)) = refl
known_given r w ss nodes known (Some (Port at port)) =
    let there : slice_get nodes at ≡ option_map (λ b. Some b) (slice_get (filter_map (λ (o : Option Node). o) nodes) at) =
    ap (λ (os : List (Option Node)). slice_get os at) known ∙ slice_get-map (λ (b : Node). Some b) (filter_map (λ (o : Option Node). o) nodes) at in
    ap (λ (o : Option Node). columns_of_port o port) (ap node_known there ∙ known_again (slice_get (filter_map (λ (o : Option Node). o) nodes) at))

taken_given : (r : NetworkTable) (w : Wiring) (ss : List declared.Source) (nodes : List (Option Node)) → nodes ≡ map Some (filter_map (λ o. o) nodes)
    → (ins : List ℕ) → columns_taken w ss nodes ins ≡ filter_map (columns_of_stream (network_of r w ss nodes)) ins
taken_given r w ss nodes known [] = refl
taken_given r w ss nodes known (s ∷ ins) =
    ap (λ (o : Option Columns). cons_option o (columns_taken w ss nodes ins)) (known_given r w ss nodes known (producer_of w s))
    ∙ ap (λ (cs : List Columns). cons_option (columns_of_stream (network_of r w ss nodes) s) cs) (taken_given r w ss nodes known ins)

-- a node of the network is that of the box of its number, on the columns that the network gives it
pub record IsBoxAt (r : NetworkTable) (n : Network) (at : ℕ) (b : Node) : Type 0 where
  pub raw : BoxTable
  pub there : slice_get r.boxes at ≡ Some raw
  pub is : IsNodeOf raw (input_columns n at) b

pub box_at : (r : NetworkTable) (ss : List declared.Source) (nodes : List (Option Node)) → AreBoxes r ss nodes (filter_map (λ o. o) nodes)
    → (at : ℕ) (b : Node) → slice_get (filter_map (λ o. o) nodes) at ≡ Some b → IsBoxAt r (network_of r (wiring_of r) ss nodes) at b
box_at r ss nodes boxes at b e =
    let low = slice_get_within (filter_map (λ o. o) nodes) at b e in
    let one : IsSettled r (wiring_of r) ss nodes at = boxes.settled at low in
    let here : slice_get nodes at ≡ Some (Some b) =
    ap (λ (os : List (Option Node)). slice_get os at) boxes.known ∙ (slice_get-map (λ (x : Node). Some x) (filter_map (λ (o : Option Node). o) nodes) at ∙ ap (λ (o : Option Node). option_map (λ (x : Node). Some x) o) e) in
    let node : one.node ≡ b = (let there = one.there in cc) in
    let typed : node_of_box at (slice_get r.boxes at) (input_columns (network_of r (wiring_of r) ss nodes) at) ≡ Ok b =
    ap (λ (cs : List Columns). node_of_box at (slice_get r.boxes at) cs) (sym (taken_given r (wiring_of r) ss nodes boxes.known (inputs_of (wiring_of r) at)))
    ∙ (one.typed ∙ ap (λ (x : Node). Ok x) node) in
    by_box (slice_get r.boxes at) refl typed
  where
    by_box : (o : Option BoxTable) → slice_get r.boxes at ≡ o → node_of_box at o (input_columns (network_of r (wiring_of r) ss nodes) at) ≡ Ok b → IsBoxAt r (network_of r (wiring_of r) ss nodes) at b
    by_box None there typed = cc
    by_box (Some raw) there typed = record { raw = raw; there = there; is = node_is at raw (input_columns (network_of r (wiring_of r) ss nodes) at) b typed }

-- ---- the network

-- what boxes and nodes have alike
alike : {A : Type 0} (f : BoxTable → A) (g : Node → A) (r : NetworkTable) (ss : List declared.Source) (nodes : List (Option Node)) → AreBoxes r ss nodes (filter_map (λ o. o) nodes)
    → ((raw : BoxTable) (ins : List Columns) (b : Node) → IsNodeOf raw ins b → f raw ≡ g b) → map f r.boxes ≡ map g (filter_map (λ o. o) nodes)
alike f g r ss nodes boxes same =
    maps_same f g r.boxes (filter_map (λ o. o) nodes) (sym boxes.count) (λ at raw b here there.
    (let box = box_at r ss nodes boxes at b there in
    let found : box.raw ≡ raw = (let is = box.there in cc) in
    ap f (sym found) ∙ same box.raw (input_columns (network_of r (wiring_of r) ss nodes) at) b box.is))

node_fits : (raw : BoxTable) (ins : List Columns) (b : Node) → IsNodeOf raw ins b → box_within raw ≡ true → node_within b ≡ true
node_fits raw ins b is h =
    let front = and_true (limits.told_body_within raw.body && limits.inputs_within raw.body raw.ins && limits.is_int_between 0 1000 raw.cost) (list_all (limits.is_int_between 0 1000000) raw.selectivity) h in
    let middle = and_true (limits.told_body_within raw.body && limits.inputs_within raw.body raw.ins) (limits.is_int_between 0 1000 raw.cost) front.0 in
    let body = and_true (limits.told_body_within raw.body) (limits.inputs_within raw.body raw.ins) middle.0 in
    let cost : is_between 0 1000 b.cost ≡ true = ap (λ (k : ℕ). is_between 0 1000 k) is.cost ∙ number_within 0 1000 raw.cost middle.1 in
    let selectivity : list_all (is_between 0 1000000) b.selectivity ≡ true = ap (λ (ks : List ℕ). list_all (is_between 0 1000000) ks) is.selectivity ∙ numbers_within 0 1000000 raw.selectivity front.1 in
    and_from (body_within b.body && is_between 0 1000 b.cost) (list_all (is_between 0 1000000) b.selectivity)
    (and_from (body_within b.body) (is_between 0 1000 b.cost) (is.body.within body.0) cost) selectivity

outputs_fit : (os : List OutputTable) → list_all limits.told_output_within os ≡ true → list_all output_within (map output_of os) ≡ true
outputs_fit [] h = refl
outputs_fit (o ∷ os) h =
    let parts = and_true (limits.told_output_within o) (list_all limits.told_output_within os) h in
    let within = output_limits o parts.0 in
    let light : nat_le (nat_of o.weight) 1000 ≡ true = nat_le_true (nat_of o.weight) 1000 within.light in
    let few : nat_le (length (graph_points o.graph)) 1000 ≡ true = ap (λ (k : ℕ). nat_le k 1000) (points_length o.graph) ∙ nat_le_true (length o.graph) 1000 within.few in
    and_from (output_within (output_of o)) (list_all output_within (map output_of os))
    (and_from (nat_le (nat_of o.weight) 1000) (nat_le (length (graph_points o.graph)) 1000) light few) (outputs_fit os parts.1)
  where
    points_length : (ps : List (ℤ × ℤ)) → length (graph_points ps) ≡ length ps
    points_length [] = refl
    points_length (p ∷ ps) = ap suc (points_length ps)

all_within : (r : NetworkTable) (ss : List declared.Source) (nodes : List (Option Node)) → IsRead r ss nodes → network_within (network_of r (wiring_of r) ss nodes) ≡ true
all_within r ss nodes read =
    let w = is_within r read.kept.limit in
    let boxes = are_boxes r ss nodes read in
    let given = sources_within 0 r.sources ss read.given w.sources in
    let a = and_true (has_between 1 8 r.sources && has_between 0 128 r.boxes && has_between 1 32 r.outputs && limits.is_int_between 1 (2 ^ 34) r.epoch) (limits.is_int_between 1 1000000 r.batch) w.top in
    let b = and_true (has_between 1 8 r.sources && has_between 0 128 r.boxes && has_between 1 32 r.outputs) (limits.is_int_between 1 (2 ^ 34) r.epoch) a.0 in
    let c = and_true (has_between 1 8 r.sources && has_between 0 128 r.boxes) (has_between 1 32 r.outputs) b.0 in
    let d = and_true (has_between 1 8 r.sources) (has_between 0 128 r.boxes) c.0 in
    let sources : is_between 1 8 (length ss) ≡ true = ap (λ (k : ℕ). is_between 1 8 k) given.1 ∙ d.0 in
    let count : is_between 0 128 (length (filter_map (λ o. o) nodes)) ≡ true = ap (λ (k : ℕ). is_between 0 128 k) boxes.count ∙ d.1 in
    let outputs : is_between 1 32 (length (map output_of r.outputs)) ≡ true = ap (λ (k : ℕ). is_between 1 32 k) (length-map r.outputs output_of) ∙ c.1 in
    let epoch = number_within 1 (2 ^ 34) r.epoch b.1 in
    let batch = number_within 1 1000000 r.batch a.1 in
    let fit : list_all node_within (filter_map (λ o. o) nodes) ≡ true = all_by_place node_within (filter_map (λ o. o) nodes) (λ at node e.
    (let box = box_at r ss nodes boxes at node e in
    node_fits box.raw (input_columns (network_of r (wiring_of r) ss nodes) at) node box.is (list_all_at box_within r.boxes at box.raw w.boxes box.there))) in
    let takes = takes_all (told_stream_named (told_stream_names r)) r read.kept.known w.boxes in
    and_from _ _ (and_from _ _ (and_from _ _ (and_from _ _ (and_from _ _ (and_from _ _ (and_from _ _ (and_from _ _ sources count) outputs) epoch) batch) given.0) fit) (outputs_fit r.outputs w.outputs)) takes

evens : (bs : List BoxTable) → AllByRecursion IsEven bs → map (λ b. length b.selectivity) bs ≡ map (λ b. port_count b.body) bs
evens [] h = refl
evens (b ∷ bs) h =
    let here : length b.selectivity ≡ port_count b.body = h.0 in
    let more : map (λ (b : BoxTable). length b.selectivity) bs ≡ map (λ (b : BoxTable). port_count b.body) bs = evens bs h.1 in
    cc

all_agree : (r : NetworkTable) (ss : List declared.Source) (nodes : List (Option Node)) → IsRead r ss nodes → IsConsistent (network_of r (wiring_of r) ss nodes)
all_agree r ss nodes read =
    let boxes = are_boxes r ss nodes read in
    let names : List (List ℕ) = told_stream_names r in
    let bs : List Node = filter_map (λ o. o) nodes in
    let given = sources_within 0 r.sources ss read.given (is_within r read.kept.limit).sources in
    let ports : map (λ (b : BoxTable). port_count b.body) r.boxes ≡ map (λ (b : Node). length b.schemas) bs =
    alike (λ b. port_count b.body) (λ b. length b.schemas) r ss nodes boxes (λ raw ins b is. is.body.ports) in
    let tolls : map (λ (b : BoxTable). length b.selectivity) r.boxes ≡ map (λ (b : Node). length b.selectivity) bs =
    alike (λ b. length b.selectivity) (λ b. length b.selectivity) r ss nodes boxes (λ raw ins b is. sym (ap (λ (ks : List ℕ). length ks) is.selectivity ∙ length-map raw.selectivity nat_of)) in
    record {
      sources = sym given.1;
      kinds = map_map (λ (b : BoxWires). b.kind) (box_wires (told_stream_named names)) r.boxes ∙ alike (λ b. wires.kind_of_told_body b.body) (λ b. kind_of_body b.body) r ss nodes boxes (λ raw ins b is. is.body.kind);
      ports = map_map (λ (b : BoxWires). b.ports) (box_wires (told_stream_named names)) r.boxes ∙ ports;
      tolls = sym tolls ∙ (evens r.boxes (recursion_from_All IsEven r.boxes read.even) ∙ ports);
      outputs = outputs_known (told_stream_named names) r read.kept.known ∙ sym (length-map r.outputs output_of);
      wired = is_wired names r refl;
      shown = outputs_shown names r refl;
    }

-- each Aggregate has a window
all_windows : (r : NetworkTable) (ss : List declared.Source) (nodes : List (Option Node)) → IsRead r ss nodes → All (λ (b : Node). HasWindow b.body) (network_of r (wiring_of r) ss nodes).boxes
all_windows r ss nodes read =
    let rule : list_all (λ (b : BoxTable). has_window b.body) r.boxes ≡ true = none_failing (λ (b : BoxTable). has_window b.body) r.boxes (nothing_mapped (part_place part.Box) (first_failing (λ (b : BoxTable). has_window b.body) r.boxes) read.kept.windows) in
    let bs : List Node = filter_map (λ o. o) nodes in
    λ at d low. (let box = box_at r ss nodes (are_boxes r ss nodes read) at (get_or bs at d) (slice_get-get_or bs at d low) in box.is.body.window (list_all_at (λ (b : BoxTable). has_window b.body) r.boxes at box.raw rule box.there))

sound_of : (r : NetworkTable) (ss : List declared.Source) (nodes : List (Option Node)) → IsRead r ss nodes → IsSound (network_of r (wiring_of r) ss nodes)
sound_of r ss nodes read = record {
  within = all_within r ss nodes read;
  agrees = all_agree r ss nodes read;
  acyclic = none_on_cycle (wiring_of r) read.kept.acyclic;
  named = All-map (λ (o : Output). is_name o.name ≡ true) output_of r.outputs
      (All-from_recursion (λ (o : OutputTable). is_name o.name ≡ true) r.outputs (each_passes (λ o. is_name o.name) r.outputs (outputs_named r read.kept.named)));
  windows = all_windows r ss nodes read;
  distinct = ap are_distinct (map_map (λ (o : Output). o.name) output_of r.outputs) ∙ outputs_distinct r read.kept.single;
  typed = λ at b e. (box_at r ss nodes (are_boxes r ss nodes read) at b e).is.body.typed;
}

-- a network that is read is sound
pub read_sound : (r : NetworkTable) (n : Network) → AreEven r → typed_network r ≡ Ok n → IsSound n
read_sound r n even h = let from = read_as r n even h in subst IsSound from.same (sound_of from.raw from.sources from.nodes from.read)

pub answer_sound : (r : NetworkTable) (answer : Result Network NetErr) → AreEven r → IsAnswerOf answer (typed_network r) → IfOk answer IsSound
answer_sound r (Ok n) even h = read_sound r n even h
answer_sound r (Err e) even h = tt

-- so is the network of a file's bytes
pub network_sound : (bytes : List ℕ) (n : Network) → network_in bytes ≡ Ok n → IsSound n
network_sound bytes n h =
    let typed = first_step (network_table_of bytes >>= typed_network) limited_network n h in
    let tables = first_step (network_table_of bytes) typed_network typed.0 typed.1.0 in
    let document = first_step (or_broken broken.Toml (document_in bytes)) network_table_from tables.0 tables.1.0 in
    subst IsSound (limited_same typed.0 n typed.1.1) (read_sound tables.0 typed.0 (answer_even document.0 (Ok tables.0) document.1.1) tables.1.1)
