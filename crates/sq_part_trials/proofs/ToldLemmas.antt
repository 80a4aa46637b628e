-- A folder of one file, and a file of bytes into which some were put.
use Rattle.std.proofs.Common.{◌≡◌, ◌⊎◌, inl, inr, ◌≤◌, ◌+◌, ◌++◌, ◌∷◌, [], ℕ, List, None, Some, length, cond, refl, sym, subst, ◌∙◌, ap, rules, arith}
use Rattle.std.specs.Prelude.{take, drop, IsSome}
use Rattle.std.specs.List.{splice}
use Rattle.std.specs.Ordering.{nat_cmp}
use Rattle.std.specs.Cmp.Lexicographic.{slice_cmp}
use Rattle.std.specs.Cmp.{eq_by_cmp_equiv}
use Rattle.std.specs.FinMap as finite
use Rattle.std.proofs.lemmas.Cmp.{nat_list_cmp_total}
use Rattle.std.proofs.lemmas.List.{drop-take, drop-drop}
use Rattle.std.proofs.lemmas.Slice.{take-put_mid_below, drop-put_mid}
use borrow.Rule.Slice.PartMut.{put_mid}
use Rattle.sq_outside.specs.Folders.{Files, file}
use Rattle.sq_system.specs.ByteFiles.{KeepsBeside}

file-one : (name bytes : List ℕ) → file (finite.from_entries ((name, bytes) ∷ [])) name ≡ Some bytes
file-one name bytes = finite.get-from_entries nat_list_cmp_total ((name, bytes) ∷ []) name
    ∙ ap (λ b. cond b (Some bytes) None) ((eq_by_cmp_equiv nat_list_cmp_total).refl name)

pub one-file : (own name bytes : List ℕ) → name ≡ own
    → IsSome (file (finite.from_entries ((own, bytes) ∷ [])) name) × (Some bytes ≡ file (finite.from_entries ((own, bytes) ∷ [])) name)
one-file own name bytes same = rw (same, file-one own bytes) (refl, refl)

seam : (xs ys : List ℕ) (at : ℕ) → splice xs at (at + length ys) ys ≡ put_mid at (length ys) xs ys
seam xs ys at = ap (λ rest. take at xs ++ (ys ++ rest)) (sym (drop-drop (length ys) at xs))

below : (xs ys : List ℕ) (at n : ℕ) → at + length ys ≤ length xs → n ≤ at → take n (splice xs at (at + length ys) ys) ≡ take n xs
below xs ys at n fits is = rw (seam xs ys at) (take-put_mid_below at (length ys) xs ys n is (omega (arith, fits)))

behind : (xs ys : List ℕ) (at n : ℕ) → at + length ys ≤ length xs → at + length ys ≤ n → drop n (splice xs at (at + length ys) ys) ≡ drop n xs
behind xs ys at n fits is = rw (seam xs ys at) (drop-put_mid at (length ys) xs ys n is (omega (arith, fits)) refl)

pub splice-keeps : (xs ys : List ℕ) (at : ℕ) → at + length ys ≤ length xs → KeepsBeside xs (splice xs at (at + length ys) ys) at (length ys)
splice-keeps xs ys at fits other bytes (inl is) stands = rw (behind xs ys at other fits is) stands
splice-keeps xs ys at fits other bytes (inr is) stands =
    sym (drop-take other (length bytes) (splice xs at (at + length ys) ys)) ∙ ap (drop other) (below xs ys at (other + length bytes) fits is)
    ∙ drop-take other (length bytes) xs ∙ stands
