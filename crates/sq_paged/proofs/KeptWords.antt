-- What is kept of a page, and the pages of a pool as they are seen over a disk: words of the proofs alone.
use Rattle.std.specs.Prelude.{List, Option, Some, true, ℕ, ◌≡◌}
use Rattle.sq_outside.specs.Disks.{Pages}
use Rattle.sq_pool.specs.Pools.{Pooled, bytes_in, is_held}
use Rattle.sq_bring.specs.Bringing.{LeavesOthers}

-- a page is in a frame with these bytes
pub record Written (c : Pooled) (told : Option Pages) (d : Pooled) (now : Option Pages) (page : ℕ) (bytes : List ℕ) : Type 0 where
  pub there : bytes_in page d.resident ≡ Some bytes
  pub held : is_held d page ≡ true
  pub spares : LeavesOthers c told d now page
