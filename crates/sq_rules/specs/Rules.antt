-- The rules that need no columns, and the wiring of tables that keep them. Each rule is over the whole file before the next.
use Rattle.std.specs.Prelude.{◌≡◌, Option, Some, None, Result, Ok, Err}
use Rattle.sq_graph.specs.declared.Wiring.{Wiring}
use Rattle.sq_graph.specs.Order.{order_of}
use Rattle.sq_net.specs.declared.Place.{Place}
use Rattle.sq_net.specs.declared.NetErr.{NetErr}
use Rattle.sq_net.specs.declared.NetErr.TheVariants as broken
use Rattle.sq_tables.specs.declared.tables.NetworkTable.{NetworkTable}
use Rattle.sq_rules.specs.declared.rules.Wired.{Wired}
use Rattle.sq_rules.specs.Limits.{limit_place}
use Rattle.sq_rules.specs.Naming.{name_place, twice_place}
use Rattle.sq_rules.specs.Streaming.{Numbers, cycle_in, told_stream_named, told_stream_names, unknown_among, unknown_place, wiring_by, wiring_of}
use Rattle.sq_rules.specs.Windows.{window_place}

-- go on where no place breaks a rule
abbrev pub unless_at : {A : Type 0} → (Place → NetErr) → Option Place → Result A NetErr → Result A NetErr
unless_at e None more = more
unless_at e (Some p) more = Err (e p)

-- boxes as they are wired, and their order
abbrev pub ordered : Wiring → Wired
ordered w = record { wires = w; order = order_of w }

abbrev pub windowed_wires : NetworkTable → Wiring → Result Wired NetErr
windowed_wires r w = unless_at broken.Window (window_place r) (Ok (ordered w))

abbrev pub acyclic_wires : NetworkTable → Wiring → Result Wired NetErr
acyclic_wires r w = unless_at broken.Cycle (cycle_in w) (windowed_wires r w)

abbrev pub streamed_wires : NetworkTable → Numbers → Result Wired NetErr
streamed_wires r number_of = unless_at broken.Unknown (unknown_among number_of r) (acyclic_wires r (wiring_by number_of r))

abbrev pub single_wires : NetworkTable → Result Wired NetErr
single_wires r = unless_at broken.Twice (twice_place r) (streamed_wires r (told_stream_named (told_stream_names r)))

abbrev pub named_wires : NetworkTable → Result Wired NetErr
named_wires r = unless_at broken.NoName (name_place r) (single_wires r)

-- the wiring of a file's tables and the order of its boxes, or the first of these rules that the tables break
abbrev pub wired_tables : NetworkTable → Result Wired NetErr
wired_tables r = unless_at broken.Limit (limit_place r) (named_wires r)

-- tables that keep each of these rules
pub record KeepsTableRules (r : NetworkTable) : Type 0 where
  pub limit : limit_place r ≡ None
  pub named : name_place r ≡ None
  pub single : twice_place r ≡ None
  pub known : unknown_place r ≡ None
  pub acyclic : cycle_in (wiring_of r) ≡ None
  pub windows : window_place r ≡ None
