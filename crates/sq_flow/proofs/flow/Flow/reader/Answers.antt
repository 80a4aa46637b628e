use Rattle.std.proofs.Common.{◌<◌, length, arith}
use Rattle.sq_flow.proofs.LookLemmas.{reader-read}
use Rattle.sq_flow.proofs.flow.Flow.reader.Goals as goal

pub overflow_add-result : goal.overflow_add-result
overflow_add-result g c =
    let shaped = c.requires.actor.flow.shaped in
    let low : c.args.seat < length c.args.self.now.wires.followers.items = omega (arith, c.requires.actor.actor_in, shaped.followers_len) in
    let read = reader-read c.args.self.now c.args.seat c.args.index c.index-2.result.now c.index.result.now low c.index.ensures c.requires.within c.index-2.ensures in
    omega (arith, shaped.followers_in c.args.seat c.index-2.result.now read.0, shaped.few)

pub returns-clause-reader : goal.returns-clause-reader
returns-clause-reader g c =
    let low : c.args.seat < length c.args.self.now.wires.followers.items = omega (arith, c.requires.actor.actor_in, c.requires.actor.flow.shaped.followers_len) in
    (reader-read c.args.self.now c.args.seat c.args.index c.index-2.result.now c.index.result.now low c.index.ensures c.requires.within c.index-2.ensures).1

pub returns-clause-low : goal.returns-clause-low
returns-clause-low g c =
    let shaped = c.requires.actor.flow.shaped in
    let low : c.args.seat < length c.args.self.now.wires.followers.items = omega (arith, c.requires.actor.actor_in, shaped.followers_len) in
    let read = reader-read c.args.self.now c.args.seat c.args.index c.index-2.result.now c.index.result.now low c.index.ensures c.requires.within c.index-2.ensures in
    omega (arith, shaped.followers_in c.args.seat c.index-2.result.now read.0)
