use Rattle.std.proofs.Common.{◌≡◌, ◌++◌, drop}
use Rattle.sq_reader.specs.Columns.{set_texts}
use Rattle.sq_reader.proofs.boxes.texts_set.Given as goal

abbrev pub invariant-loop-setting : goal.invariant-loop-setting
invariant-loop-setting l = l.texts.items ++ set_texts (drop l.setting-index l.set) ≡ set_texts l.set
