-- A list that begins another.
use Rattle.sq_words.specs.Lists.{IsPrefixOf}
use Rattle.std.proofs.Common.{List, append-nil, sym, [], ap, append_assoc, ◌++◌, ◌∙◌}

pub prefix_itself : {A : Type 0} (xs : List A) → IsPrefixOf xs xs
prefix_itself xs = ([], sym (append-nil xs))

pub prefix_along : {A : Type 0} (xs ys zs : List A) → IsPrefixOf xs ys → IsPrefixOf ys zs → IsPrefixOf xs zs
prefix_along xs ys zs (m, e) (n, f) = (m ++ n, f ∙ ap (λ l. l ++ n) e ∙ append_assoc xs m n)
