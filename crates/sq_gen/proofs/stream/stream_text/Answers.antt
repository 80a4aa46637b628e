use Rattle.std.proofs.Common.{◌≡◌, ◌+◌, ◌*◌, ◌∙◌, ap, sym, refl, arith}
use Rattle.sq_gen.specs.Files.{trade_line, line_at, words_at}
use Rattle.sq_gen.proofs.StreamLemmas.{words_at-none, word-drawn, stream_of-none, stream_of-more}
use Rattle.sq_gen.proofs.stream.stream_text.Goals as goal

pub loop-i-init : goal.loop-i-init
loop-i-init c = record {
  words = c.new-words.ensures ∙ sym (words_at-none c.args.number);
  text = c.in_ok-text.ensures.items ∙ sym (stream_of-none c.args.number);
}

pub loop-i-preserved : goal.loop-i-preserved
loop-i-preserved c =
    let number = c.args.number in
    let i = c.loop-i.i in
    let first = word-drawn number (2 * i) _ _ _ c.loop-i.invariant.words c.next_word-first.ensures in
    let second = word-drawn number (2 * i + 1) _ _ _ first.words c.next_word-second.ensures in
    let next : 2 * i + 1 + 1 ≡ 2 * (i + 1) = omega arith in
    let line : trade_line i c.next_word-first.result c.next_word-second.result ≡ line_at number i = rw (first.word, second.word) refl in
    record {
      words = second.words ∙ ap (words_at number) next;
      text = c.in_ok-push_line.ensures ∙ rw (c.loop-i.invariant.text, line) (sym (stream_of-more number i));
    }
