use Rattle.std.proofs.Common.{◌≡◌, ◌<◌, length, get_or, subst, arith}
use Rattle.sq_flow.specs.declared.flow.Flow.{Flow}
use Rattle.sq_flow.specs.Wiring.{followers_of}
use Rattle.sq_flow.specs.Engines.{readers_of}
use Rattle.sq_flow.proofs.ListLemmas.{climbs-next}
use Rattle.sq_flow.proofs.LookLemmas.{looked-next}
use Rattle.sq_flow.proofs.engine.Engine.look_at_readers.Goals as goal

pub loop-index-preserved : goal.loop-index-preserved
loop-index-preserved g c =
    let within : c.loop-index.index < length (readers_of c.args.self.now.flow c.args.seat) = omega (arith, c.loop-index-test.true, c.count_readers-index-end.ensures) in
    let reader_is =
    subst (λ (f : Flow g.row.O.Denot). c.reader-reader.result ≡ get_or (readers_of f c.args.seat) c.loop-index.index 0) c.loop-index.invariant.flow c.reader-reader.ensures.reader
    in
    looked-next (readers_of c.args.self.now.flow c.args.seat) c.loop-index.index c.reader-reader.result c.args.self.now c.loop-index.self c.look_at.new.self
    (climbs-next (followers_of c.args.self.now.flow.wires c.args.seat) (c.requires.looks.flow.shaped.followers_climb c.args.seat)) within reader_is
    c.loop-index.invariant c.look_at.ensures
