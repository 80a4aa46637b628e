-- Columns by their names and kinds.
use Rattle.std.proofs.Common.{◌≡◌, ◌∙◌, sym, ap, refl, ℕ, true, List, [], ◌∷◌, ◌++◌, length, Option, Some, None, slice_get, arith}
use Rattle.std.specs.List.{AllByRecursion, cons_option, filter_map, zip}
use Rattle.std.specs.Option.{option_map}
use Rattle.std.proofs.lemmas.Option.{slice_get-map}
use Rattle.sq_words.specs.Lists.{same_bytes}
use Rattle.sq_value.specs.Values.{Columns, kinds_of, names_of}
use Rattle.sq_value.specs.declared.Kind.{Kind}
use Rattle.sq_expr.specs.Kinds.{kind_at, same_kinds}
use Rattle.sq_net.specs.Columns.{columns_at}
use Rattle.sq_reader.specs.Columns.{same_columns, same_names}
use Rattle.sq_words.proofs.Bools.{and_true}
use Rattle.sq_expr.proofs.KindLemmas.{same_kinds_is}
use Rattle.sq_words.proofs.Lists.{same_bytes_true}

pub columns_of_parts : (cs : Columns) → zip (names_of cs) (kinds_of cs) ≡ cs
columns_of_parts [] = refl
columns_of_parts (c ∷ cs) = ap (λ ds. c ∷ ds) (columns_of_parts cs)

pub names_of_zip : (ws : List (List ℕ)) (ks : List Kind) → length ws ≡ length ks → names_of (zip ws ks) ≡ ws
names_of_zip [] ks e = refl
names_of_zip (w ∷ ws) [] e = absurd (omega arith)
names_of_zip (w ∷ ws) (k ∷ ks) e = ap (λ (vs : List (List ℕ)). w ∷ vs) (names_of_zip ws ks (omega arith))

pub kinds_of_zip : (ws : List (List ℕ)) (ks : List Kind) → length ws ≡ length ks → kinds_of (zip ws ks) ≡ ks
kinds_of_zip [] [] e = refl
kinds_of_zip [] (k ∷ ks) e = absurd (omega arith)
kinds_of_zip (w ∷ ws) [] e = absurd (omega arith)
kinds_of_zip (w ∷ ws) (k ∷ ks) e = ap (λ (ls : List Kind). k ∷ ls) (kinds_of_zip ws ks (omega arith))

same_names_is : (xs ys : List (List ℕ)) → same_names xs ys ≡ true → xs ≡ ys
same_names_is [] [] h = refl
same_names_is [] (y ∷ ys) h = cc
same_names_is (x ∷ xs) [] h = cc
same_names_is (x ∷ xs) (y ∷ ys) h =
    let parts = and_true (same_bytes x y) (same_names xs ys) h in
    let here : x ≡ y = same_bytes_true x y parts.0 in
    let more : xs ≡ ys = same_names_is xs ys parts.1 in
    cc

pub same_columns_are : (cs ds : Columns) → same_columns cs ds ≡ true → cs ≡ ds
same_columns_are cs ds h =
    let parts = and_true (same_names (names_of cs) (names_of ds)) (same_kinds (kinds_of cs) (kinds_of ds)) h in
    let names : names_of cs ≡ names_of ds = same_names_is (names_of cs) (names_of ds) parts.0 in
    let kinds : kinds_of cs ≡ kinds_of ds = same_kinds_is (kinds_of cs) (kinds_of ds) parts.1 in
    sym (columns_of_parts cs) ∙ (ap (λ (ws : List (List ℕ)). zip ws (kinds_of cs)) names ∙ (ap (λ (ks : List Kind). zip (names_of ds) ks) kinds ∙ columns_of_parts ds))

pub alike_each : (cs : Columns) (ins : List Columns) → AllByRecursion (λ ds. same_columns ds cs ≡ true) ins → AllByRecursion (λ ds. ds ≡ cs) ins
alike_each cs [] h = tt
alike_each cs (ds ∷ ins) h = (same_columns_are ds cs h.0, alike_each cs ins h.1)

-- ---- in front of others, and at places

pub zip_both : {A B : Type 0} (as' : List A) (bs : List B) (more : List A) (others : List B) → length as' ≡ length bs → zip (as' ++ more) (bs ++ others) ≡ zip as' bs ++ zip more others
zip_both [] [] more others e = refl
zip_both [] (b ∷ bs) more others e = absurd (omega arith)
zip_both (a ∷ as') [] more others e = absurd (omega arith)
zip_both {A} {B} (a ∷ as') (b ∷ bs) more others e = ap (λ (ps : List (A × B)). (a, b) ∷ ps) (zip_both as' bs more others (omega arith))

pub kinds_at_places : (cs : Columns) (ps : List ℕ) → filter_map (kind_at cs) ps ≡ kinds_of (columns_at cs ps)
kinds_at_places cs [] = refl
kinds_at_places cs (p ∷ ps) =
    ap (λ (o : Option Kind). cons_option o (filter_map (kind_at cs) ps)) (slice_get-map (λ (c : List ℕ × Kind). c.1) cs p)
    ∙ by_case (slice_get cs p) (kinds_at_places cs ps)
  where
    by_case : (o : Option (List ℕ × Kind)) → filter_map (kind_at cs) ps ≡ kinds_of (columns_at cs ps)
        → cons_option (option_map (λ (c : List ℕ × Kind). c.1) o) (filter_map (kind_at cs) ps) ≡ kinds_of (cons_option o (columns_at cs ps))
    by_case None more = more
    by_case (Some c) more = ap (λ (ks : List Kind). c.1 ∷ ks) more
