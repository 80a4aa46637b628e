use Rattle.std.proofs.Common.{arith}
use Rattle.sq_csv.specs.Cuts.{joins}
use Rattle.sq_csv.proofs.LaneLemmas.{run_short, skips_more, skips_none}
use Rattle.sq_csv.proofs.fields.skip_bare.Goals as goal

pub loop-at-init : goal.loop-at-init
loop-at-init c = skips_none joins c.args.text.now c.args.from c.requires

pub overflow_add-at : goal.overflow_add-at
overflow_add-at c = record { fits = omega (arith, run_short joins c.args.text.now c.loop-at.at _ (omega arith) c.bare_run-run.ensures) }

pub loop-at-preserved : goal.loop-at-preserved
loop-at-preserved c =
    let l = c.loop-at in skips_more joins c.args.text.now c.args.from l.at _ _ l.ascii l.invariant (omega (arith, l.invariant.within)) c.bare_run-run.ensures c.ascii_run.ensures

pub returns-then-run-lt-LANES : goal.returns-then-run-lt-LANES
returns-then-run-lt-LANES c =
    let l = c.loop-at in skips_more joins c.args.text.now c.args.from l.at _ _ l.ascii l.invariant (omega (arith, l.invariant.within)) c.bare_run-run.ensures c.ascii_run.ensures
