use Rattle.std.proofs.Common.{◌≡◌, ◌+◌, ◌-◌, ◌∙◌, true, refl, arith}
use Rattle.std.specs.Prelude.{slice_index}
use Rattle.sq_sched.proofs.ReadyLemmas.{contains-at, next-at, next-is}
use Rattle.sq_sched.proofs.LongestLemmas.{longer-ready, longest-on}
use Rattle.sq_sched.proofs.policy.longest_of.Goals as goal
use Rattle.sq_words.specs.Lists.{contains_number}

pub behind-actor-requires : goal.behind-actor-requires
behind-actor-requires c =
    let next = next-at c.args.ready.now.list (c.loop.counter - 1) c.len-end.ensures.once (omega arith) in
    rw (c.loop.invariant.there, next) refl

pub longer_of-best-requires-clause-actor : goal.longer_of-best-requires-clause-actor
longer_of-best-requires-clause-actor c =
    let list = c.args.ready.now.list in
    let here : c.behind-actor.result ≡ slice_index list c.loop.counter =
    next-is list (c.loop.counter - 1) c.loop.counter c.loop.actor c.behind-actor.result c.len-end.ensures.once c.loop.invariant.there (omega arith) (omega arith) c.behind-actor.ensures in
    c.requires.waits c.behind-actor.result (rw here (contains-at list c.loop.counter (omega arith)))

pub loop-preserved : goal.loop-preserved
loop-preserved c =
    let list = c.args.ready.now.list in
    let here : c.behind-actor.result ≡ slice_index list c.loop.counter =
    next-is list (c.loop.counter - 1) c.loop.counter c.loop.actor c.behind-actor.result c.len-end.ensures.once c.loop.invariant.there (omega arith) (omega arith) c.behind-actor.ensures in
    let listed : contains_number list c.behind-actor.result ≡ true = rw here (contains-at list c.loop.counter (omega arith)) in
    let same : c.loop.counter + 1 - 1 ≡ c.loop.counter = omega arith in
    record {
      there = rw same here;
      ready = rw c.longer_of-best.ensures (longer-ready c.args.waits.now.items list c.loop.best c.behind-actor.result c.loop.invariant.ready listed);
      is = rw c.longer_of-best.ensures (longest-on c.args.waits.now.items list c.loop.counter c.loop.best c.behind-actor.result (omega arith) here) ∙ c.loop.invariant.is;
    }
