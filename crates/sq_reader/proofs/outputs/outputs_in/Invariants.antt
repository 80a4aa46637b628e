use Rattle.std.proofs.Common.{◌≡◌, ◌++◌, drop, map}
use Rattle.sq_reader.specs.Outputs.{graph_fault_from, output_of}
use Rattle.sq_reader.proofs.outputs.outputs_in.Given as goal

abbrev pub invariant-loop-number : goal.invariant-loop-number
invariant-loop-number l = record {
  outputs : l.found.items ++ map output_of (drop l.number l.outputs) ≡ map output_of l.outputs;
  faults : graph_fault_from l.number (drop l.number l.outputs) ≡ graph_fault_from 0 l.outputs;
}
