use Rattle.std.proofs.Common.{◌≡◌, ℕ, List}
use Rattle.sq_rules.specs.Streaming.{number_named, told_stream_named}
use Rattle.sq_rules.proofs.NumberLemmas.{numbered}
use Rattle.sq_rules.proofs.streams.numbers_of.Given as goal

abbrev pub invariant-loop-number : goal.invariant-loop-number
invariant-loop-number l = (w : List ℕ) → numbered (number_named l.numbers.entries) l.names l.number w ≡ told_stream_named l.names w
