-- Names of which none is one of those in front of it.
use Rattle.std.proofs.Common.{◌≡◌, ◌∙◌, sym, refl, ℕ, ◌+◌, Bool, true, false, List, [], ◌∷◌, ◌++◌, Some, None, cond}
use Rattle.std.specs.List.{list_any, AllByRecursion}
use Rattle.std.specs.Str.{bytes_eq}
use Rattle.std.proofs.lemmas.List.Folds.{list_any-append}
use Rattle.std.proofs.lemmas.Map.Text.{is_eq-slice_cmp}
use Rattle.sq_words.specs.Lists.{same_bytes, contains_bytes, are_distinct}
use Rattle.sq_rules.specs.Naming.{repeat_after}
use Rattle.std.proofs.lemmas.Bool.{or_parts}
use Rattle.sq_words.proofs.Lists.{same_bytes_turned}

-- each name is none of these, and none of those in front of it
abbrev pub IsNew : List (List ℕ) → List (List ℕ) → Type 0
IsNew before [] = Unit {0}
IsNew before (x ∷ xs) = (contains_bytes x before ≡ false) × IsNew (before ++ x ∷ []) xs

-- none is these or x
split_out : (before : List (List ℕ)) (x : List ℕ) (ys : List (List ℕ)) → AllByRecursion (λ y. contains_bytes y (before ++ x ∷ []) ≡ false) ys
    → AllByRecursion (λ y. contains_bytes y before ≡ false) ys × (contains_bytes x ys ≡ false)
split_out before x [] h = (tt, refl)
split_out before x (y ∷ ys) h =
    let more = split_out before x ys h.1 in
    let parts = or_parts (contains_bytes y before) (contains_bytes y (x ∷ [])) (sym (list_any-append (same_bytes y) before (x ∷ [])) ∙ h.0) in
    let here = or_parts (same_bytes y x) false parts.1 in
    let apart = same_bytes_turned y x here.0 in
    ((parts.0, more.0), rw (apart, more.1) refl)

pub new_out : (before xs : List (List ℕ)) → IsNew before xs → AllByRecursion (λ y. contains_bytes y before ≡ false) xs
new_out before [] h = tt
new_out before (x ∷ xs) h = (h.0, (split_out before x xs (new_out (before ++ x ∷ []) xs h.1)).0)

pub new_distinct : (before xs : List (List ℕ)) → IsNew before xs → are_distinct xs ≡ true
new_distinct before [] h = refl
new_distinct before (x ∷ xs) h =
    let apart = (split_out before x xs (new_out (before ++ x ∷ []) xs h.1)).1 in
    let more = new_distinct (before ++ x ∷ []) xs h.1 in
    rw (apart, more) refl

seen_is : (x : List ℕ) (seen : List (List ℕ)) → contains_bytes x seen ≡ list_any (bytes_eq x) seen
seen_is x [] = refl
seen_is x (y ∷ ys) = rw (is_eq-slice_cmp x y, seen_is x ys) refl

pub none_repeated : (seen : List (List ℕ)) (n : ℕ) (xs : List (List ℕ)) → repeat_after seen n xs ≡ None → IsNew seen xs
none_repeated seen n [] e = tt
none_repeated seen n (x ∷ xs) e = by_test (list_any (bytes_eq x) seen) refl (none_repeated (seen ++ x ∷ []) (n + 1) xs) e
  where
    by_test : (b : Bool) → list_any (bytes_eq x) seen ≡ b → (repeat_after (seen ++ x ∷ []) (n + 1) xs ≡ None → IsNew (seen ++ x ∷ []) xs)
        → cond b (Some n) (repeat_after (seen ++ x ∷ []) (n + 1) xs) ≡ None → (contains_bytes x seen ≡ false) × IsNew (seen ++ x ∷ []) xs
    by_test true is more e = cc
    by_test false is more e = (seen_is x seen ∙ is, more e)
