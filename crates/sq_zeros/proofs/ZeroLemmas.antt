-- Bytes are zeros exactly where they are so many zeros.
use Rattle.std.proofs.Common.{◌≡◌, ℕ, zero, suc, Bool, true, false, eqb, List, [], ◌∷◌, length, refl}
use Rattle.std.specs.Prelude.{◌&&◌, replicate}
use Rattle.std.proofs.lemmas.Bool.{eqb-true}
use Rattle.sq_zeros.specs.Zeros.{are_zeros}

zeros_go : (b : ℕ) (bytes : List ℕ) (t : Bool) → eqb b 0 ≡ t → (are_zeros bytes ≡ true → bytes ≡ replicate (length bytes) 0) → (t && are_zeros bytes) ≡ true → b ∷ bytes ≡ 0 ∷ replicate (length bytes) 0
zeros_go b bytes true is rest h = λ i. eqb-true b 0 is i ∷ rest h i
zeros_go b bytes false is rest h = absurd cc

pub zeros_are : (bytes : List ℕ) → are_zeros bytes ≡ true → bytes ≡ replicate (length bytes) 0
zeros_are [] h = refl
zeros_are (b ∷ bytes) h = zeros_go b bytes (eqb b 0) refl (zeros_are bytes) h

pub are_zeros-replicate : (n : ℕ) → are_zeros (replicate n 0) ≡ true
are_zeros-replicate zero = refl
are_zeros-replicate (suc n) = are_zeros-replicate n
