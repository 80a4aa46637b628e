-- Values that are read are as many as are asked for.
use Rattle.std.proofs.Common.{◌≡◌, ℕ, zero, suc, List, [], ◌∷◌, length, Option, Some, subst, ap, refl}
use Rattle.sq_page.specs.Reading.{take_many}
use Rattle.sq_page.proofs.Takes.{bind_some, some_is}
use Rattle.sq_words.specs.Options.{◌>>=◌}

pub many_counts : {X : Type 0} (one : List ℕ → Option (X × List ℕ)) (n : ℕ) (bytes : List ℕ) (xs : List X × List ℕ) → take_many one n bytes ≡ Some xs → length xs.0 ≡ n
unfolding take_many
many_counts {X} one zero bytes xs e = subst (λ (y : List X × List ℕ). length y.0 ≡ 0) (some_is ([], bytes) xs e) refl
many_counts {X} one (suc n) bytes xs e =
    let a = bind_some (one bytes) (λ x. take_many one n x.1 >>= λ ys. Some (x.0 ∷ ys.0, ys.1)) xs e in
    let b = bind_some (take_many one n a.0.1) (λ ys. Some (a.0.0 ∷ ys.0, ys.1)) xs a.2 in
    subst (λ (y : List X × List ℕ). length y.0 ≡ suc n) (some_is _ xs b.2) (ap suc (many_counts one n a.0.1 b.0 b.1))
