use Rattle.std.proofs.Common.{◌≡◌, length, arith}
use Rattle.std.proofs.lemmas.Option.{slice_get-get_or}
use Rattle.sq_heads.proofs.next_of.Goals as goal

pub loop-port-preserved : goal.loop-port-preserved
loop-port-preserved c =
    let is = slice_get-get_or c.args.arcs.now c.loop-port.port 0 c.loop-port-test.true in
    c.look-best.ensures _ _ _ is c.head-in-loop-port.ensures c.loop-port.invariant

pub returns : goal.returns
returns c = let whole : c.loop-port.port ≡ length c.args.arcs.now = omega arith in rw (← whole) c.loop-port.invariant
