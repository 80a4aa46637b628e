-- The network that a file is, or the first rule that it breaks. Each rule is over the whole file before the next.
use Rattle.std.specs.Prelude.{ℕ, List, map, length, Option, Some, None, Result, Ok, Err}
use Rattle.std.specs.List.{filter_map}
use Rattle.sq_graph.specs.declared.Wiring.{Wiring}
use Rattle.sq_graph.specs.Order.{order_of}
use Rattle.sq_net.specs.declared.Network.{Network}
use Rattle.sq_net.specs.declared.Node.{Node}
use Rattle.sq_net.specs.declared.Source.{Source}
use Rattle.sq_net.specs.declared.NetErr.{NetErr}
use Rattle.sq_net.specs.declared.NetErr.TheVariants as broken
use Rattle.sq_tables.specs.declared.tables.NetworkTable.{NetworkTable}
use Rattle.sq_tables.specs.Tables.{network_table_of}
use Rattle.sq_rules.specs.Rules.{unless_at, wired_tables}
use Rattle.sq_reader.specs.Sources.{sources_from}
use Rattle.sq_reader.specs.Outputs.{graph_fault, output_of}
use Rattle.sq_reader.specs.Drops.{drop_place}
use Rattle.sq_reader.specs.Columns.{nat_of, no_nodes, nodes_from}
use Rattle.sq_words.specs.Results.{◌>>=◌}

-- go on where there is no fault
abbrev pub unless_fault : {A : Type 0} → Option NetErr → Result A NetErr → Result A NetErr
unless_fault None more = more
unless_fault (Some e) more = Err e

abbrev pub network_of : NetworkTable → Wiring → List Source → List (Option Node) → Network
network_of r w ss nodes = record {
  epoch = nat_of r.epoch;
  batch = nat_of r.batch;
  wires = w;
  sources = ss;
  boxes = filter_map (λ o. o) nodes;
  outputs = map output_of r.outputs;
}

-- the schemas of the sources, and then the boxes in their order
abbrev pub ordered_network : NetworkTable → Wiring → Result Network NetErr
ordered_network r w =
    sources_from 0 r.sources >>= λ ss.
    nodes_from r w ss (no_nodes (length r.boxes)) (order_of w) >>= λ nodes.
    Ok (network_of r w ss nodes)

abbrev pub graphed_network : NetworkTable → Wiring → Result Network NetErr
graphed_network r w = unless_fault (graph_fault r) (ordered_network r w)

-- the rules that need no columns, and then the network
abbrev pub typed_network : NetworkTable → Result Network NetErr
typed_network r = wired_tables r >>= λ x. graphed_network r x.wires

-- the last rule, on the drop points of the network
abbrev pub limited_network : Network → Result Network NetErr
limited_network n = unless_at broken.Limit (drop_place n) (Ok n)

-- the network of a file's bytes, or the first rule that they break
abbrev pub network_in : List ℕ → Result Network NetErr
network_in bytes = network_table_of bytes >>= typed_network >>= limited_network
