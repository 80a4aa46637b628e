-- Words as they are read.
use Rattle.std.proofs.Common.{◌≡◌, ◌+◌, List, [], ◌∷◌, ◌++◌, length, append_assoc, refl, ap, sym, Option, None, Some}
use Rattle.std.specs.List.{position_or_len}
use Rattle.std.specs.Option.{option_map}
use Rattle.sq_keys.specs.declared.Pair.{Pair}
use Rattle.sq_keys.specs.Words.{pair_in, pairs_in}
use Rattle.sq_value.specs.CommandWords.{Word, is_equals}
use Rattle.sq_words.proofs.Lists.{none_first}

pub no_pair : (w : Word) → position_or_len is_equals w ≡ length w → pair_in w ≡ None
no_pair w e = rw (none_first is_equals w e) refl

-- the pairs so far, and what more words give
abbrev pub with_pairs : List Pair → Option (List Pair) → Option (List Pair)
with_pairs front more = option_map (λ ps. front ++ ps) more

pairs_cons : (front : List Pair) (p : Pair) (more : Option (List Pair)) → with_pairs front (option_map (λ ps. p ∷ ps) more) ≡ with_pairs (front ++ p ∷ []) more
pairs_cons front p None = refl
pairs_cons front p (Some ps) = ap (λ x. Some x) (sym (append_assoc front (p ∷ []) ps))

pub pairs_more : (front : List Pair) (w : Word) (ws : List Word) (p : Pair) → pair_in w ≡ Some p
    → with_pairs front (pairs_in (w ∷ ws)) ≡ with_pairs (front ++ p ∷ []) (pairs_in ws)
pairs_more front w ws p e = rw e (pairs_cons front p (pairs_in ws))

pub pairs_none : (front : List Pair) (w : Word) (ws : List Word) → pair_in w ≡ None → with_pairs front (pairs_in (w ∷ ws)) ≡ None
pairs_none front w ws e = rw e refl
