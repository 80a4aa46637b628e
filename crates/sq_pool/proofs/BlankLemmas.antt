-- Frames that are written for the first time.
use Rattle.std.proofs.Common.{◌≡◌, ℕ, zero, suc, ◌-◌, ◌<◌, List, [], ◌∷◌, ◌++◌, length, replicate, slice_index_or, slice_set, refl, ap, sym, ◌∙◌, append_assoc, arith}
use Rattle.std.proofs.lemmas.List.{length-append}
use Rattle.sq_pool.specs.Blanks.{with_blanks}

blanks-less : (n : ℕ) (blank : List ℕ) → 0 < n → replicate n blank ≡ blank ∷ replicate (n - 1) blank
blanks-less zero blank h = absurd (omega (arith, h))
blanks-less (suc n) blank h = ap (λ m. blank ∷ replicate m blank) (sym (omega arith))

-- the first of the frames that weren't written is written with zeros
pub blank-written : (many : ℕ) (written : List (List ℕ)) → length written < many → with_blanks many (written ++ replicate 8192 0 ∷ []) ≡ with_blanks many written
blank-written many written h =
    let less : many - length (written ++ replicate 8192 0 ∷ []) ≡ many - length written - 1 = omega (arith, length-append written (replicate 8192 0 ∷ [])) in
    ap (λ n. (written ++ replicate 8192 0 ∷ []) ++ replicate n (replicate 8192 0)) less
    ∙ append_assoc written (replicate 8192 0 ∷ []) (replicate (many - length written - 1) (replicate 8192 0))
    ∙ ap (λ l. written ++ l) (sym (blanks-less (many - length written) (replicate 8192 0) (omega (arith, h))))

-- a frame that was written, read or written again
pub written-at : (written blanks : List (List ℕ)) (f : ℕ) → f < length written → slice_index_or (written ++ blanks) f [] ≡ slice_index_or written f []
written-at [] blanks f h = absurd (omega (arith, h))
written-at (x ∷ xs) blanks zero h = refl
written-at (x ∷ xs) blanks (suc f) h = written-at xs blanks f (omega (arith, h))

pub written-again : (written blanks : List (List ℕ)) (f : ℕ) (bytes : List ℕ) → f < length written → slice_set (written ++ blanks) f bytes ≡ slice_set written f bytes ++ blanks
written-again [] blanks f bytes h = absurd (omega (arith, h))
written-again (x ∷ xs) blanks zero bytes h = refl
written-again (x ∷ xs) blanks (suc f) bytes h = ap (λ l. x ∷ l) (written-again xs blanks f bytes (omega (arith, h)))

pub length-set : (written : List (List ℕ)) (f : ℕ) (bytes : List ℕ) → length (slice_set written f bytes) ≡ length written
length-set [] f bytes = refl
length-set (x ∷ xs) zero bytes = refl
length-set (x ∷ xs) (suc f) bytes = ap suc (length-set xs f bytes)

-- an index within a list needs no default
pub within-at : (written : List (List ℕ)) (f : ℕ) (a b : List ℕ) → f < length written → slice_index_or written f a ≡ slice_index_or written f b
within-at [] f a b h = absurd (omega (arith, h))
within-at (x ∷ xs) zero a b h = refl
within-at (x ∷ xs) (suc f) a b h = within-at xs f a b (omega (arith, h))
