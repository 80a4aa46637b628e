use Rattle.std.proofs.Common.{◌≡◌, ℕ, List, [], ◌∷◌, ◌++◌, refl, ap, sym, ◌∙◌, append_assoc}
use Rattle.sq_item.specs.Things.{Thing}
use Rattle.sq_oper.specs.Entries.{Entry}
use Rattle.sq_words.specs.Lists.{IsPrefixOf}
use Rattle.sq_oper.specs.Machine.{run_of, next_all, gives_all}
use Rattle.sq_oper.proofs.GivenLemmas.{IsPrefixOf-longer}

module _ {S : Type 0} (next : S → Entry → S) (gives : S → Entry → ℕ → List Thing) (flush : S → ℕ → List Thing) where
  pub run_of-append : (s : S) (xs ys : List Entry) (q : ℕ)
      → run_of next gives flush s (xs ++ ys) q ≡ gives_all next gives s xs q ++ run_of next gives flush (next_all next s xs) ys q
  run_of-append s [] ys q = refl
  run_of-append s (x ∷ xs) ys q =
      ap (λ z. gives s x q ++ z) (run_of-append (next s x) xs ys q)
      ∙ sym (append_assoc (gives s x q) (gives_all next gives (next s x) xs q) (run_of next gives flush (next_all next (next s x) xs) ys q))

  -- the law of a feed, from what it gave and the state after it
  pub machine_law : (s s' : S) (xs future : List Entry) (q : ℕ) (before after : List Thing) → s' ≡ next_all next s xs → after ≡ before ++ gives_all next gives s xs q
      → before ++ run_of next gives flush s (xs ++ future) q ≡ after ++ run_of next gives flush s' future q
  machine_law s s' xs future q before after is given =
      ap (λ z. before ++ z) (run_of-append s xs future q)
      ∙ sym (append_assoc before (gives_all next gives s xs q) (run_of next gives flush (next_all next s xs) future q))
      ∙ ap (λ z. z ++ run_of next gives flush (next_all next s xs) future q) (sym given)
      ∙ ap (λ z. after ++ run_of next gives flush z future q) (sym is)

  -- what a failed feed gave is a prefix of what it would give
  pub machine_prefix : (s : S) (xs future : List Entry) (q : ℕ) (before after : List Thing) → IsPrefixOf after (before ++ gives_all next gives s xs q)
      → IsPrefixOf after (before ++ run_of next gives flush s (xs ++ future) q)
  machine_prefix s xs future q before after h =
      rw (run_of-append s xs future q) (IsPrefixOf-longer after before (gives_all next gives s xs q) (run_of next gives flush (next_all next s xs) future q) h)
