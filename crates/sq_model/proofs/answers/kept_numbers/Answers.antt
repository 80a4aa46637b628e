use Rattle.std.proofs.Common.{◌∙◌, ◌++◌, ◌∷◌, [], length, map, ap, sym, length-append, arith, ℕ, List}
use Rattle.sq_words.specs.Lists.{numbers_to}
use Rattle.sq_model.specs.KeptTuples.{kept_of}
use Rattle.sq_model.proofs.answers.kept_numbers.Goals as goal
use Rattle.sq_words.proofs.Ranges.{map_more}

pub loop-arc-preserved : goal.loop-arc-preserved
loop-arc-preserved c =
    let pushed = c.in_ok-push.ensures.items in
    let longer = ap (λ (xs : List ℕ). length xs) pushed in
    let count = length-append c.loop-arc.all.items (c.kept_in.result ∷ []) in
    let many = c.loop-arc.invariant.many in
    record {
      kept = λ r known.
          pushed
          ∙ ap (λ xs. xs ++ c.kept_in.result ∷ []) (c.loop-arc.invariant.kept r known)
          ∙ ap (λ z. map (λ a. length (kept_of r a)) (numbers_to c.loop-arc.arc) ++ z ∷ []) (c.kept_in.ensures r known)
          ∙ sym (map_more (λ a. length (kept_of r a)) c.loop-arc.arc);
      many = omega (arith, longer, count, many);
    }
