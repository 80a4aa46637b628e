use Rattle.std.proofs.Common.{ap, ◌∙◌, arith}
use Rattle.std.specs.Prelude.{vec_capacity}
use Rattle.sq_pool.specs.Blanks.{with_blanks}
use Rattle.sq_pool.proofs.BlankLemmas.{blank-written}
use Rattle.sq_pool.proofs.frames.write_to.Goals as goal

pub loop-written-preserved : goal.loop-written-preserved
loop-written-preserved c =
    record {
      room = c.push_reserved.ensures.capacity ∙ c.loop-written.invariant.room;
      same =
          ap (λ many. with_blanks many c.push_reserved.new.self.items) c.push_reserved.ensures.capacity
          ∙ ap (λ written. with_blanks (vec_capacity c.loop-written.written) written) c.push_reserved.ensures.items
          ∙ blank-written (vec_capacity c.loop-written.written) c.loop-written.written.items (omega (arith, c.loop-written.invariant.room, c.requires, c.loop-written-test.true, c.len.ensures))
          ∙ c.loop-written.invariant.same;
    }
