use Rattle.std.proofs.Common.{◌≡◌, ◌++◌, drop}
use Rattle.sq_reader.specs.Columns.{set_names}
use Rattle.sq_reader.proofs.boxes.names_set.Given as goal

abbrev pub invariant-loop-setting : goal.invariant-loop-setting
invariant-loop-setting l = l.names.items ++ set_names (drop l.setting-index l.set) ≡ set_names l.set
