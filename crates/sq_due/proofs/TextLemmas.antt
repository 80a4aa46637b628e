-- Text that is put behind text, for one after another of a list with numbers beside it.
use Rattle.std.proofs.Common.{◌≡◌, ℕ, ◌+◌, ◌<◌, ◌≤◌, List, ◌++◌, append_assoc, length, take, get_or, ap, sym, ◌∙◌, arith}
use Rattle.std.specs.List.{flat_map, zip}
use Rattle.std.proofs.lemmas.List.FromFn.{get_or-range_with_len, length-range_with_len}
use Rattle.sq_words.specs.Lists.{numbers_to}
use Rattle.sq_lines.proofs.PairLemmas.{pairs_all, pairs_text-more}

-- what was put so far, and then the next
pub pair_put : {X : Type 0} (f : X × ℕ → List ℕ) (xs : List X) (ks : List ℕ) → length ks ≡ length xs → (i : ℕ) (x : X) → i < length xs → x ≡ get_or xs i x → (old text new : List ℕ)
    → new ≡ text ++ f (x, get_or ks i 0) → text ≡ old ++ flat_map f (take i (zip xs ks)) → new ≡ old ++ flat_map f (take (i + 1) (zip xs ks))
pair_put f xs ks even i x inside at old text new put so_far =
    let line = f (x, get_or ks i 0) in
    put ∙ ap (λ t. t ++ line) so_far ∙ append_assoc old (flat_map f (take i (zip xs ks))) line ∙ ap (λ t. old ++ t) (sym (pairs_text-more xs ks even i x inside at f))

module _ (ks : List ℕ) (i : ℕ) where
  even : length ks ≡ length (numbers_to (length ks))
  even = sym (length-range_with_len 0 (length ks))

  pub numbers_all : length ks ≤ i → take i (zip (numbers_to (length ks)) ks) ≡ zip (numbers_to (length ks)) ks
  numbers_all past = pairs_all (numbers_to (length ks)) ks even i (omega (arith, even, past))

  pub number_put : (f : ℕ × ℕ → List ℕ) → i < length ks → (old text new : List ℕ) → new ≡ text ++ f (i, get_or ks i 0)
      → text ≡ old ++ flat_map f (take i (zip (numbers_to (length ks)) ks)) → new ≡ old ++ flat_map f (take (i + 1) (zip (numbers_to (length ks)) ks))
  number_put f inside =
      let here : get_or (numbers_to (length ks)) i i ≡ i = get_or-range_with_len 0 (length ks) i i inside ∙ omega arith in
      pair_put f (numbers_to (length ks)) ks even i i (omega (arith, even, inside)) (sym here)
