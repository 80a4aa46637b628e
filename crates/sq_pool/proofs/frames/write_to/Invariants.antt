use Rattle.std.proofs.Common.{◌≡◌, length, ◌+◌, ◌-◌}
use Rattle.std.specs.Prelude.{vec_capacity}
use Rattle.sq_pool.specs.Blanks.{with_blanks}
use Rattle.sq_pool.proofs.frames.write_to.Given as goal

abbrev pub invariant-loop-written : goal.invariant-loop-written
invariant-loop-written l =
    record {
      room : vec_capacity l.written ≡ vec_capacity l.initial.written;
      same : with_blanks (vec_capacity l.written) l.written.items ≡ with_blanks (vec_capacity l.initial.written) l.initial.written.items;
    }

abbrev pub decreases-loop-written : goal.decreases-loop-written
decreases-loop-written l = l.f + 1 - length l.written.items
