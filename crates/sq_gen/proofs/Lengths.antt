-- How long what is made is.
use Rattle.std.proofs.Common.{◌≡◌, ℕ, zero, suc, ◌+◌, ◌*◌, ◌≤◌, ◌<◌, ◌++◌, length, ap, sym, ◌∙◌, arith, add-one, length-append}
use Rattle.std.specs.Fmt.{decimal}
use Rattle.std.proofs.lemmas.Fmt.{length-decimal-le}
use Rattle.sq_gen.specs.Files.{at_of, capacities_text, line_at, price_of, stream_text, trade_line, word_of}
use Rattle.sq_gen.proofs.StreamLemmas.{stream_of-more, stream_of-none}

line_short : (i first second : ℕ) → i < 1000000 → length (trade_line i first second) ≤ 23
line_short i first second few =
    let number : length (decimal i) ≤ 6 = length-decimal-le 6 i (omega arith) (omega arith) (omega arith) in
    let time : length (decimal (at_of i first)) ≤ 6 = length-decimal-le 6 (at_of i first) (omega arith) (omega arith) (omega arith) in
    let price : length (decimal (price_of second)) ≤ 4 = length-decimal-le 4 (price_of second) (omega arith) (omega arith) (omega arith) in
    simp length-append (omega (arith, number, time, price))

-- a line has at most 23 bytes
pub stream_short : (number rows : ℕ) → rows ≤ 1000000 → length (stream_text number rows) ≤ 23 * rows
stream_short number zero few = rw (stream_of-none number) (omega arith)
stream_short number (suc i) few =
    let more : stream_text number (suc i) ≡ stream_text number i ++ line_at number i = ap (stream_text number) (sym (add-one i)) ∙ stream_of-more number i in
    let both = length-append (stream_text number i) (line_at number i) in
    let before = stream_short number i (omega (arith, few)) in
    let line = line_short i (word_of number (2 * i)) (word_of number (2 * i + 1)) (omega (arith, few)) in
    rw more (omega (arith, both, before, line))

pub capacities_short : length capacities_text ≤ 23
unfolding capacities_text
capacities_short = omega arith
