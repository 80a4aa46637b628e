-- The files that a number names. The layers above see no further into the three texts than these words.
use Rattle.std.specs.Prelude.{ℕ, ◌+◌, ◌-◌, ◌*◌, ◌/◌, ◌%◌, min, List, [], ◌∷◌, ◌++◌, codes}
use Rattle.std.specs.Fmt.{decimal}
use Rattle.std.specs.List.{flat_map}
use Rattle.rand_pcg.specs.Lcg.{Lcg, advance, started, increment_of}
use Rattle.rand_pcg.specs.Pcg.{multiplier_64, output_xsh_rr}
use Rattle.sq_words.specs.Lists.{numbers_to}
use Rattle.sq_gen.specs.declared.Made.{Made}
use Rattle.sq_gen.specs.Network.{net_text}

-- the generator of a number, before its first word
abbrev pub generator_words : ℕ → Lcg
generator_words number = started 64 multiplier_64 number (increment_of 64 1000001)

-- the generator before word k, from 0
abbrev pub words_at : ℕ → ℕ → Lcg
words_at number k = advance 64 multiplier_64 k (generator_words number)

abbrev pub word_of : ℕ → ℕ → ℕ
word_of number k = output_xsh_rr (words_at number k).state

abbrev pub two_digits : ℕ → List ℕ
two_digits n = (48 + n / 10) ∷ (48 + n % 10) ∷ []

-- the time that the tuple of line i says of itself: at most 7 ticks before it
abbrev pub at_of : ℕ → ℕ → ℕ
at_of i word = i - min i (word % 8)

-- one of 20 symbols
abbrev pub symbol_of : ℕ → List ℕ
symbol_of word = codes "S" ++ two_digits (word / 8 % 20)

abbrev pub price_of : ℕ → ℕ
price_of word = 1000 + word % 100

-- line i by its two words
abbrev pub trade_line : ℕ → ℕ → ℕ → List ℕ
trade_line i first second =
    decimal i ++ codes "," ++ decimal (at_of i first) ++ codes "," ++ symbol_of first ++ codes "," ++ decimal (price_of second) ++ codes "\n"

-- line i of a number's stream
abbrev pub line_at : ℕ → ℕ → List ℕ
line_at number i = trade_line i (word_of number (2 * i)) (word_of number (2 * i + 1))

-- the lines 0, 1, .., rows - 1
unfoldable pub stream_text : ℕ → ℕ → List ℕ
stream_text number rows = flat_map (line_at number) (numbers_to rows)

-- no limit in epoch 0, and one that is too small from epoch 1 on
unfoldable pub capacities_text : List ℕ
capacities_text = codes "1,12000000000\n"

abbrev pub made_of : ℕ → ℕ → Made
made_of number rows = record { net = net_text; stream = stream_text number rows; capacities = capacities_text }
