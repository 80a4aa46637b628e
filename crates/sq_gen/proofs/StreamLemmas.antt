-- One word more, and one line more.
use Rattle.std.proofs.Common.{◌≡◌, ℕ, zero, suc, ◌+◌, List, [], ◌++◌, append_assoc, append-nil, refl, sym, ap, ◌∙◌, arith, add-one}
use Rattle.std.specs.List.{flat_map, range_with_len}
use Rattle.rand_pcg.specs.Lcg.{Lcg, advance, next, state_after}
use Rattle.rand_pcg.specs.Pcg.{multiplier_64, output_xsh_rr, pcg32}
use Rattle.sq_gen.specs.Files.{generator_words, words_at, word_of, line_at, stream_text}

next-advance : (w m n : ℕ) (g : Lcg) → next w m (advance w m n g) ≡ advance w m (suc n) g
unfolding state_after
next-advance w m zero g = refl
next-advance w m (suc n) g = next-advance w m n (next w m g)

pub words_at-none : (number : ℕ) → words_at number 0 ≡ generator_words number
unfolding state_after
words_at-none number = refl

words_at-more : (number k : ℕ) → next 64 multiplier_64 (words_at number k) ≡ words_at number (k + 1)
words_at-more number k = rw add-one (next-advance 64 multiplier_64 k (generator_words number))

-- what the next word of a generator is, and what it leaves
pub record Drawn (number k drawn : ℕ) (left : Lcg) : Type 0 where
  pub word : drawn ≡ word_of number k
  pub words : left ≡ words_at number (k + 1)

pub word-drawn : (number k drawn : ℕ) (old left : Lcg) → old ≡ words_at number k → (drawn, left) ≡ pcg32 old → Drawn number k drawn left
word-drawn number k drawn old left at step = record {
  word = ap (λ (p : ℕ × Lcg). p.0) step ∙ ap (λ (g : Lcg). output_xsh_rr g.state) at;
  words = ap (λ (p : ℕ × Lcg). p.1) step ∙ ap (next 64 multiplier_64) at ∙ words_at-more number k;
}

flat_map-more : {A : Type 0} (f : ℕ → List A) (a n j : ℕ) → a + n ≡ j → flat_map f (range_with_len a (suc n)) ≡ flat_map f (range_with_len a n) ++ f j
flat_map-more f a zero j e = append-nil (f a) ∙ ap f (let h : a ≡ j = omega arith in h)
flat_map-more f a (suc n) j e =
    ap (λ l. f a ++ l) (flat_map-more f (a + 1) n j (omega arith))
    ∙ sym (append_assoc (f a) (flat_map f (range_with_len (a + 1) n)) (f j))

pub stream_of-none : (number : ℕ) → stream_text number 0 ≡ []
unfolding stream_text
stream_of-none number = refl

pub stream_of-more : (number i : ℕ) → stream_text number (i + 1) ≡ stream_text number i ++ line_at number i
unfolding stream_text
stream_of-more number i =
    ap (stream_text number) (add-one i) ∙ flat_map-more (line_at number) 0 i i (omega arith)
