use Rattle.sq_start.specs.Numbers.{actor_at}
use Rattle.sq_core.specs.Table.{feeds_row}
use Rattle.sq_core.proofs.TableLemmas.{row-more}
use Rattle.sq_core.proofs.network.feed_table.Goals as goal

pub loop-actor-preserved : goal.loop-actor-preserved
loop-actor-preserved c =
    row-more (λ k. feeds_row c.args.it.now.n.now (actor_at c.args.it.now.n.now k)) c.loop-actor.actor c.in_ok-row_at.field-0 c.loop-actor.table.items c.push.new.self.items c.in_ok-push.ensures.items c.loop-actor.invariant c.in_ok-row_at.ensures
