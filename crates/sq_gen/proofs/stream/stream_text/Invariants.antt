use Rattle.std.proofs.Common.{◌≡◌, ◌*◌}
use Rattle.sq_gen.specs.Files.{words_at, stream_text}
use Rattle.sq_gen.proofs.stream.stream_text.Given as goal

abbrev pub invariant-loop-i : goal.invariant-loop-i
invariant-loop-i l =
    record {
      words : l.words ≡ words_at l.number (2 * l.i);
      text : l.text.items ≡ stream_text l.number l.i;
    }
