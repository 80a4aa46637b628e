use Rattle.std.proofs.Common.{refl, arith, true}
use Rattle.sq_flow.proofs.ReplayFlow.{ended-stepped, ended-touches}
use Rattle.sq_flow.proofs.TailLemmas.{closed-whatever, none-more}
use Rattle.sq_flow.proofs.TookLemmas.{replay-took}
use Rattle.sq_flow.specs.Tails.{with_tails}
use Rattle.sq_flow.proofs.flow.Flow.end_step.Goals as goal

pub returns : goal.returns
returns g c =
    let told = c.end_arcs.ensures in
    record {
      stepped = λ pages events together. ended-stepped _ c.args.self.now c.requires.flow pages c.end_arcs.new.queues events together c.requires.none c.requires.closed told;
      on = λ tails fits pages events together.
          ended-stepped _ (with_tails tails c.args.self.now) fits.keeps pages c.end_arcs.new.queues events together
          (closed-whatever tails c.args.self.now.sources.items c.args.self.now.ahead.items fits.may c.requires.closed c.requires.none) (none-more c.args.self.now.ahead.items) told;
      closes = λ table agrees. agrees;
      touches = ended-touches _ c.args.self.now c.requires.flow c.end_arcs.new.queues told;
      taken = refl;
      lowers = rw c.requires.running (omega arith);
      took = replay-took c.args.self.now _ 0 true refl (omega arith) refl;
    }
