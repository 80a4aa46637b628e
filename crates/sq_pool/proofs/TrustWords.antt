-- Which pages of a disk are to be relied on: words of the proofs alone.
use Rattle.std.specs.Prelude.{Option, option_map, ℕ}
use Rattle.sq_outside.specs.Disks.{Pages}
use Rattle.std.specs.FinMap as map

abbrev pub pages_without : Option Pages → ℕ → Option Pages
pages_without pages page = option_map (λ told. map.remove told page) pages
