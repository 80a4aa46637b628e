-- Names that are new after others, in two parts or as a file says them.
use Rattle.std.proofs.Common.{◌≡◌, sym, subst, append-nil, append_assoc, refl, ℕ, ◌+◌, Bool, true, false, not, ◌&&◌, List, [], ◌∷◌, ◌++◌, Some, None, cond}
use Rattle.std.specs.List.{AllByRecursion}
use Rattle.std.proofs.lemmas.List.Folds.{list_any-append}
use Rattle.sq_words.specs.Lists.{same_bytes, contains_bytes, are_distinct}
use Rattle.sq_net.specs.Names.{is_name}
use Rattle.sq_rules.proofs.DistinctLemmas.{IsNew}
use Rattle.sq_reader.specs.Columns.{bad_name_from}
use Rattle.std.proofs.lemmas.Bool.{or_parts}
use Rattle.sq_words.proofs.Lists.{same_bytes_turned}

-- none is x or one of these
split_front : (x : List ℕ) (before ys : List (List ℕ)) → AllByRecursion (λ y. contains_bytes y (x ∷ before) ≡ false) ys
    → AllByRecursion (λ y. contains_bytes y before ≡ false) ys × (contains_bytes x ys ≡ false)
split_front x before [] h = (tt, refl)
split_front x before (y ∷ ys) h =
    let more = split_front x before ys h.1 in
    let parts = or_parts (same_bytes y x) (contains_bytes y before) h.0 in
    let apart = same_bytes_turned y x parts.0 in
    ((parts.1, more.0), rw (apart, more.1) refl)

and_each : (b c : Bool) → (not b && c) ≡ true → (b ≡ false) × (c ≡ true)
and_each true c h = cc
and_each false c h = (refl, h)

-- names that differ, and then others that do and are none of them
pub distinct_both : (xs ys : List (List ℕ)) → are_distinct xs ≡ true → AllByRecursion (λ y. contains_bytes y xs ≡ false) ys → are_distinct ys ≡ true → are_distinct (xs ++ ys) ≡ true
distinct_both [] ys h new g = g
distinct_both (x ∷ xs) ys h new g =
    let here = and_each (contains_bytes x xs) (are_distinct xs) h in
    let apart = split_front x xs ys new in
    let more = distinct_both xs ys here.1 apart.0 g in
    rw (list_any-append (same_bytes x) xs ys, here.0, apart.1, more) refl

-- these, and then those that are new after them
pub new_both : (before xs ys : List (List ℕ)) → IsNew before xs → IsNew (before ++ xs) ys → IsNew before (xs ++ ys)
new_both before [] ys h g = subst (λ (ws : List (List ℕ)). IsNew ws ys) (append-nil before) g
new_both before (x ∷ xs) ys h g =
    let there : IsNew ((before ++ x ∷ []) ++ xs) ys = subst (λ (ws : List (List ℕ)). IsNew ws ys) (sym (append_assoc before (x ∷ []) xs)) g in
    (h.0, new_both (before ++ x ∷ []) xs ys h.1 there)

pub fresh_name : (named seen : Bool) → (named && not seen) ≡ true → (named ≡ true) × (seen ≡ false)
fresh_name true true h = cc
fresh_name true false h = (refl, refl)
fresh_name false seen h = cc

-- where no name is bad, each is a name and new
pub none_bad : (before : List (List ℕ)) (i : ℕ) (ws : List (List ℕ)) → bad_name_from before i ws ≡ None → AllByRecursion (λ w. is_name w ≡ true) ws × IsNew before ws
none_bad before i [] e = (tt, tt)
none_bad before i (w ∷ ws) e = by_test (is_name w && not (contains_bytes w before)) refl (none_bad (before ++ w ∷ []) (i + 1) ws) e
  where
    by_test : (b : Bool) → (is_name w && not (contains_bytes w before)) ≡ b
        → (bad_name_from (before ++ w ∷ []) (i + 1) ws ≡ None → AllByRecursion (λ v. is_name v ≡ true) ws × IsNew (before ++ w ∷ []) ws)
        → cond b (bad_name_from (before ++ w ∷ []) (i + 1) ws) (Some i) ≡ None
        → ((is_name w ≡ true) × AllByRecursion (λ v. is_name v ≡ true) ws) × ((contains_bytes w before ≡ false) × IsNew (before ++ w ∷ []) ws)
    by_test true is more e =
        let here = fresh_name (is_name w) (contains_bytes w before) is in
        let rest = more e in
        ((here.0, rest.0), (here.1, rest.1))
    by_test false is more e = cc
