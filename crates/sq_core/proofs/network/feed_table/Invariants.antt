use Rattle.std.proofs.Common.{◌≡◌, map}
use Rattle.sq_words.specs.Lists.{numbers_to}
use Rattle.sq_start.specs.Numbers.{actor_at}
use Rattle.sq_core.specs.Table.{feeds_row}
use Rattle.sq_core.proofs.network.feed_table.Given as goal

abbrev pub invariant-loop-actor : goal.invariant-loop-actor
invariant-loop-actor l = map (λ f. f.items) l.table.items ≡ map (λ k. feeds_row l.it.n.now (actor_at l.it.n.now k)) (numbers_to l.actor)
