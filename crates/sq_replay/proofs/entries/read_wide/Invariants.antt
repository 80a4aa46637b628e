use Rattle.std.proofs.Common.{◌≡◌, ◌<◌, ◌^◌, drop}
use Rattle.std.specs.Int.Digits.{number_from_digits_after}
use Rattle.std.specs.List.{list_all}
use Rattle.sq_value.specs.Texts.{digit_values, is_digit, number_in}
use Rattle.sq_replay.proofs.entries.read_wide.Given as goal

abbrev pub invariant-loop-byte : goal.invariant-loop-byte
invariant-loop-byte l = record {
  so_far : number_from_digits_after 10 l.number (digit_values (drop l.byte-index l.text)) ≡ number_in l.text;
  digits : list_all is_digit (drop l.byte-index l.text) ≡ list_all is_digit l.text;
  below : l.number < 10 ^ l.byte-index;
}
