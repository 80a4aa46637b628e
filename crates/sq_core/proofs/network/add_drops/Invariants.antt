use Rattle.std.proofs.Common.{◌≡◌, ◌+◌, drop, length}
use Rattle.sq_core.specs.Table.{turned, drops_from, drops_behind}
use Rattle.sq_core.proofs.network.add_drops.Given as goal

abbrev pub invariant-loop-number : goal.invariant-loop-number
invariant-loop-number l = turned l.all.items (drops_from l.it.n.now l.giver (length l.it.n.now.boxes + l.number) (drop l.number l.it.points.now)) ≡ turned l.initial.all.items (drops_behind l.it.n.now l.giver)
