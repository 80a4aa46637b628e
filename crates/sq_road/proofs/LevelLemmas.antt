-- Rows of levels, ascending by epoch.
use Rattle.std.proofs.Common.{◌≡◌, ◌∙◌, ℕ, zero, suc, ◌+◌, ◌<◌, ◌≤◌, ◌==◌, List, [], ◌∷◌, ◌++◌, Bool, true, false, cond, Greater, nat_cmp, refl, ap, arith, unwrap_or, Some}
use Rattle.std.proofs.lemmas.Bool.Decides.{nat_tests}
use Rattle.std.specs.Ordering.{is_eq}
use Rattle.std.specs.BTreeMap.{is_at, insert_entry}
use Rattle.std.specs.Map.{lookup}
use Rattle.std.specs.List.{list_all}
use Rattle.std.specs.Prelude.{slice_index}
use Rattle.sq_road.specs.Levels.{Rows, AreBelow, row_at}

at_number : (e x : ℕ) → is_eq (nat_cmp e x) ≡ (x == e)
at_number e x = grind (arith, nat_tests)

-- a map's look-up is the table's
pub lookup-at_number : (e : ℕ) (rows : Rows) → lookup (is_at (nat_cmp e)) rows ≡ lookup (λ x. x == e) rows
lookup-at_number e [] = refl
lookup-at_number e (r ∷ rows) = rw (at_number e r.0, lookup-at_number e rows) refl

-- a map puts a row of a later epoch last
pub insert_entry-later : (e : ℕ) (row : List ℕ) (rows : Rows) → AreBelow e rows → insert_entry nat_cmp rows e row ≡ rows ++ (e, row) ∷ []
insert_entry-later e row [] below = refl
insert_entry-later e row (r ∷ rows) below =
    let above : nat_cmp e r.0 ≡ Greater = (let h = below.0 in grind (arith, nat_tests)) in
    rw (above, insert_entry-later e row rows below.1) refl

-- rows below an epoch are below a later one
pub are_below-later : (e x : ℕ) (rows : Rows) → e ≤ x → AreBelow e rows → AreBelow x rows
are_below-later e x [] h below = tt
are_below-later e x (r ∷ rows) h below = (let here = below.0 in omega arith, are_below-later e x rows h below.1)

pub are_below-push : (e : ℕ) (row : List ℕ) (rows : Rows) → AreBelow e rows → AreBelow (e + 1) (rows ++ (e, row) ∷ [])
are_below-push e row [] below = (omega arith, tt)
are_below-push e row (r ∷ rows) below = (let here = below.0 in omega arith, are_below-push e row rows below.1)

-- no row of a later epoch
pub row_at-later : (e x : ℕ) (rows : Rows) → AreBelow e rows → e ≤ x → row_at rows x ≡ []
row_at-later e x [] below h = refl
row_at-later e x (r ∷ rows) below h =
    let other : (r.0 == x) ≡ false = (let here = below.0 in grind (arith, nat_tests)) in
    rw other (row_at-later e x rows below.1 h)

-- the row that is put last, and those before it
pub row_at-push : (e : ℕ) (row : List ℕ) (rows : Rows) → AreBelow e rows → row_at (rows ++ (e, row) ∷ []) e ≡ row
row_at-push e row [] below =
    let here : (e == e) ≡ true = grind (arith, nat_tests) in
    rw here refl
row_at-push e row (r ∷ rows) below =
    let other : (r.0 == e) ≡ false = (let here = below.0 in grind (arith, nat_tests)) in
    rw other (row_at-push e row rows below.1)

pub row_at-before : (e x : ℕ) (row : List ℕ) (rows : Rows) → x < e → row_at (rows ++ (e, row) ∷ []) x ≡ row_at rows x
row_at-before e x row [] h =
    let other : (e == x) ≡ false = grind (arith, nat_tests) in
    rw other refl
row_at-before e x row (r ∷ rows) h = either_way (r.0 == x) (row_at-before e x row rows h)
  where
    either_way : (b : Bool) → row_at (rows ++ (e, row) ∷ []) x ≡ row_at rows x → unwrap_or (cond b (Some r.1) (lookup (λ y. y == x) (rows ++ (e, row) ∷ []))) [] ≡ unwrap_or (cond b (Some r.1) (lookup (λ y. y == x) rows)) []
    either_way true same = refl
    either_way false same = same

-- what a map holds once the row of the first epoch that isn't closed was put in
pub inserted : (e closed : ℕ) (row of : List ℕ) (was is : Rows) → e ≡ closed → row ≡ of → AreBelow closed was → is ≡ insert_entry nat_cmp was e row → is ≡ was ++ (e, of) ∷ []
inserted e closed row of was is next same below entries =
    entries ∙ (insert_entry-later e row was (rw next below) ∙ ap (λ r. was ++ (e, r) ∷ []) same)

-- where all levels are 0, the level of each drop is
pub none-at : (of : List ℕ) (w : ℕ) → list_all (λ level. level == 0) of ≡ true → slice_index of w ≡ 0
none-at [] w h = refl
none-at (x ∷ xs) zero h = grind (arith, nat_tests)
none-at (x ∷ xs) (suc w) h = none-at xs w (grind (arith, nat_tests))
