-- A writer of the kit's `csv` between two rows.
use Rattle.std.specs.Prelude.{◌≡◌, ℕ, false, []}
use Rattle.std.specs.Global.{Vec}
use Rattle.csv.specs.Writing.{default_writer, fields_written, has_written, writer_pending, writer_setup}
use Rattle.csv.specs.declared.writer.Writer.{Writer}

-- it is set as by default and at a row's start, and has handed on all that it wrote
abbrev pub IsBetweenRows : Writer (Vec ℕ) → Type 0
IsBetweenRows w = ∥ (writer_setup w ≡ default_writer) × (fields_written w ≡ 0) × (has_written w ≡ false) × (writer_pending w ≡ []) ∥₁
