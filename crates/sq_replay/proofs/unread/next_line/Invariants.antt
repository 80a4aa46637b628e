use Rattle.std.proofs.Common.{◌≡◌, ℕ, List, ◌+◌, ◌-◌, ◌≤◌, length}
use Rattle.sq_value.specs.declared.Kind.{Kind}
use Rattle.sq_replay.specs.RecordedTuples.{tuples_recorded}
use Rattle.sq_replay.proofs.unread.next_line.Given as goal

abbrev pub invariant-loop-next : goal.invariant-loop-next
invariant-loop-next l = record {
  same : (ks : List Kind) (latest : ℕ) → tuples_recorded ks latest l.text l.next ≡ tuples_recorded ks latest l.text l.at;
  further : l.at ≤ l.next;
}

abbrev pub decreases-loop-next : goal.decreases-loop-next
decreases-loop-next l = length l.text + 1 - l.next
