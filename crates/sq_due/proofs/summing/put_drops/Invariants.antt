use Rattle.std.proofs.Common.{◌≡◌, ◌++◌, length, take}
use Rattle.std.specs.List.{flat_map, zip}
use Rattle.sq_words.specs.Lists.{numbers_to}
use Rattle.sq_due.specs.Summaries.{drop_count_line}
use Rattle.sq_due.proofs.summing.put_drops.Given as goal

abbrev pub invariant-drops : goal.invariant-drops
invariant-drops l = l.text.items ≡ l.fn.text.items ++ flat_map drop_count_line (take l.w (zip (numbers_to (length l.drops)) l.drops))
