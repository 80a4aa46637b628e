use Rattle.std.proofs.Common.{◌≡◌, drop, length, map}
use Rattle.std.specs.String.{string_bytes}
use Rattle.sq_keys.specs.Words.{pairs_in}
use Rattle.sq_keys.proofs.WordLemmas.{with_pairs}
use Rattle.sq_keys.proofs.words.pairs_in.Given as goal

abbrev pub invariant-loop-word : goal.invariant-loop-word
invariant-loop-word l =
    (length l.pairs.items ≡ l.word-index)
    × (with_pairs l.pairs.items (pairs_in (map string_bytes (drop l.word-index l.words))) ≡ pairs_in (map string_bytes l.words))
