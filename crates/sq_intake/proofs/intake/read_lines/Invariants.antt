use Rattle.std.proofs.Common.{◌≡◌, ◌-◌, ◌≤◌, length, max}
use Rattle.sq_words.specs.Lists.{IsPrefixOf}
use Rattle.sq_intake.specs.Incoming.{NoneAfter}
use Rattle.sq_intake.proofs.IncomingLemmas.{HoldsTo}
use Rattle.sq_intake.proofs.intake.read_lines.Given as goal

abbrev pub invariant-lines : goal.invariant-lines
invariant-lines l = record {
  so_far : HoldsTo l.kinds l.fn.latest l.fn.passed l.text l.fn.from l.fn.tuples.items l.latest l.passed l.at l.tuples.items;
  within : l.at ≤ length l.text;
  behind : IsPrefixOf l.fn.tuples.items l.tuples.items;
  forward : l.fn.from ≤ l.at;
  still : l.at ≡ l.fn.from → l.tuples.items ≡ l.fn.tuples.items;
  few : length l.tuples.items ≤ max l.most (length l.fn.tuples.items);
  ahead : NoneAfter l.fn.latest l.fn.tuples.items → NoneAfter l.latest l.tuples.items;
}

abbrev pub decreases-lines : goal.decreases-lines
decreases-lines l = length l.text - l.at
