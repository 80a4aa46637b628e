-- The columns of pairs: their names differ where those of each side do.
use Rattle.std.proofs.Common.{◌≡◌, ◌∙◌, sym, ap, refl, ℕ, ◌+◌, ◌≤◌, Bool, true, false, not, ◌&&◌, ◌||◌, List, [], ◌∷◌, ◌++◌, map, length, None, arith, length-append}
use Rattle.std.specs.Prelude.{codes}
use Rattle.std.specs.List.{zip}
use Rattle.std.proofs.lemmas.List.{length-map}
use Rattle.std.proofs.lemmas.List.Folds.{list_any-append}
use Rattle.sq_words.specs.Lists.{same_bytes, are_distinct, contains_bytes}
use Rattle.sq_value.specs.Schemas.{schema_error, AreColumns}
use Rattle.sq_value.specs.Values.{Columns, kinds_of, names_of}
use Rattle.sq_value.specs.declared.Kind.{Kind}
use Rattle.sq_net.specs.Columns.{pair_columns, prefixed}
use Rattle.sq_reader.proofs.SchemaLemmas.{schema_none}
use Rattle.sq_reader.proofs.ColumnLemmas.{zip_both}
use Rattle.sq_words.proofs.Bools.{or_false}

abbrev pub left_names : List (List ℕ) → List (List ℕ)
left_names ws = map (λ w. codes "l_" ++ w) ws

abbrev pub right_names : List (List ℕ) → List (List ℕ)
right_names ws = map (λ w. codes "r_" ++ w) ws

-- ---- names that differ

left_contained : (x : List ℕ) (ws : List (List ℕ)) → contains_bytes (codes "l_" ++ x) (left_names ws) ≡ contains_bytes x ws
left_contained x [] = refl
left_contained x (w ∷ ws) = ap (λ (b : Bool). same_bytes x w || b) (left_contained x ws)

right_contained : (x : List ℕ) (ws : List (List ℕ)) → contains_bytes (codes "r_" ++ x) (right_names ws) ≡ contains_bytes x ws
right_contained x [] = refl
right_contained x (w ∷ ws) = ap (λ (b : Bool). same_bytes x w || b) (right_contained x ws)

left_apart : (x : List ℕ) (ws : List (List ℕ)) → contains_bytes (codes "l_" ++ x) (right_names ws) ≡ false
left_apart x [] = refl
left_apart x (w ∷ ws) = left_apart x ws

pub left_distinct : (ws : List (List ℕ)) → are_distinct (left_names ws) ≡ are_distinct ws
left_distinct [] = refl
left_distinct (w ∷ ws) = rw (left_contained w ws, left_distinct ws) refl

right_distinct : (ws : List (List ℕ)) → are_distinct (right_names ws) ≡ are_distinct ws
right_distinct [] = refl
right_distinct (w ∷ ws) = rw (right_contained w ws, right_distinct ws) refl

pub pair_distinct : (ws vs : List (List ℕ)) → are_distinct ws ≡ true → are_distinct vs ≡ true → are_distinct (left_names ws ++ right_names vs) ≡ true
pair_distinct [] vs h g = right_distinct vs ∙ g
pair_distinct (w ∷ ws) vs h g = by_test (contains_bytes w ws) refl (λ e. pair_distinct ws vs e g) h
  where
    outside : contains_bytes (codes "l_" ++ w) (left_names ws ++ right_names vs) ≡ contains_bytes w ws
    outside = list_any-append (same_bytes (codes "l_" ++ w)) (left_names ws) (right_names vs) ∙ rw (left_contained w ws, left_apart w vs) (or_false (contains_bytes w ws))

    by_test : (b : Bool) → contains_bytes w ws ≡ b → (are_distinct ws ≡ true → are_distinct (left_names ws ++ right_names vs) ≡ true) → (not b && are_distinct ws) ≡ true → (not (contains_bytes (codes "l_" ++ w) (left_names ws ++ right_names vs)) && are_distinct (left_names ws ++ right_names vs)) ≡ true
    by_test true is rest e = cc
    by_test false is rest e = let more = rest e in rw (outside, is, more) refl

-- ---- the columns

pub prefixed_zip : (letters : List ℕ) (cs : Columns) → zip (map (λ w. letters ++ w) (names_of cs)) (kinds_of cs) ≡ prefixed letters cs
prefixed_zip letters [] = refl
prefixed_zip letters (c ∷ cs) = ap (λ (ds : Columns). (letters ++ c.0, c.1) ∷ ds) (prefixed_zip letters cs)

pub left_length : (cs : Columns) → length (left_names (names_of cs)) ≡ length cs
left_length cs = length-map (names_of cs) (λ (w : List ℕ). codes "l_" ++ w) ∙ length-map cs (λ (c : List ℕ × Kind). c.0)

right_length : (cs : Columns) → length (right_names (names_of cs)) ≡ length cs
right_length cs = length-map (names_of cs) (λ (w : List ℕ). codes "r_" ++ w) ∙ length-map cs (λ (c : List ℕ × Kind). c.0)

pub kinds_length : (cs : Columns) → length (kinds_of cs) ≡ length cs
kinds_length cs = length-map cs (λ (c : List ℕ × Kind). c.1)

-- the names of prefixed columns
pub prefixed_names : (letters : List ℕ) (cs : Columns) → map (λ w. letters ++ w) (names_of cs) ≡ names_of (prefixed letters cs)
prefixed_names letters [] = refl
prefixed_names letters (c ∷ cs) = ap (λ (ws : List (List ℕ)). (letters ++ c.0) ∷ ws) (prefixed_names letters cs)

pub pair_zip : (left right : Columns) → zip (left_names (names_of left) ++ right_names (names_of right)) (kinds_of left ++ kinds_of right) ≡ pair_columns (left ∷ right ∷ [])
pair_zip left right =
    let even : length (left_names (names_of left)) ≡ length (kinds_of left) = left_length left ∙ sym (kinds_length left) in
    zip_both (left_names (names_of left)) (kinds_of left) (right_names (names_of right)) (kinds_of right) even
    ∙ (ap (λ (ds : Columns). ds ++ zip (right_names (names_of right)) (kinds_of right)) (prefixed_zip (codes "l_") left) ∙ ap (λ (ds : Columns). prefixed (codes "l_") left ++ ds) (prefixed_zip (codes "r_") right))

-- 16 columns at most are a schema
pub pair_schema : (left right : Columns) → AreColumns left → AreColumns right → length left + length right ≤ 16
    → schema_error (left_names (names_of left) ++ right_names (names_of right)) (kinds_of left ++ kinds_of right) ≡ None
pair_schema left right is_left is_right few =
    let names = length-append (left_names (names_of left)) (right_names (names_of right)) in
    let kinds = length-append (kinds_of left) (kinds_of right) in
    let one = left_length left in
    let two = right_length right in
    let three = kinds_length left in
    let four = kinds_length right in
    let some = is_left.some in
    schema_none (left_names (names_of left) ++ right_names (names_of right)) (kinds_of left ++ kinds_of right)
    (omega (arith, names, kinds, one, two, three, four)) (omega (arith, names, one, some)) (omega (arith, names, one, two, few))
    (pair_distinct (names_of left) (names_of right) is_left.distinct is_right.distinct)
