-- What is near a time in a stream.
use Rattle.std.proofs.Common.{◌≡◌, ℕ, ◌+◌, ◌-◌, ◌≤◌, Bool, true, false, cond, List, [], ◌∷◌, ◌++◌, refl, ap, ap₂, sym, ◌∙◌, arith, tests}
use Rattle.std.specs.Prelude.{if◌then◌else◌, nat_lt, nat_le}
use Rattle.std.specs.Int.{abs_diff}
use Rattle.std.specs.List.{AllByRecursion}
use Rattle.std.proofs.lemmas.List.Elements.{filter-append}
use Rattle.sq_value.specs.declared.Value.{Value}
use Rattle.sq_value.specs.declared.Tuple.{Tuple}
use Rattle.sq_value.specs.Values.{IsStream}
use Rattle.sq_aggfn.specs.declared.Func.{Func}
use Rattle.sq_lists.specs.Sides.{recent}
use Rattle.sq_lists.specs.WindowParts.{TimesNotFalling}
use Rattle.sq_lists.proofs.WindowLemmas.{lower}
use Rattle.sq_lists.specs.Nearness.{reaching}
use Rattle.sq_lists.specs.Resamples.{near, resample_of, resample_list_of}

-- ---- one time and another

-- what is more than the size before a time is so before each later time
before : (size t u x : ℕ) → nat_lt size (t - x) ≡ true → t ≤ u → nat_le (abs_diff u x) size ≡ false
before size t u x h le = grind (arith, tests)

after : (size t x : ℕ) → nat_lt size (x - t) ≡ true → nat_le (abs_diff t x) size ≡ false
after size t x h = grind (arith, tests)

between : (size t x : ℕ) → nat_lt size (t - x) ≡ false → nat_lt size (x - t) ≡ false → nat_le (abs_diff t x) size ≡ true
between size t x h k = grind (arith, tests)

not-before : (size t x y : ℕ) → nat_lt size (t - x) ≡ false → x ≤ y → nat_lt size (t - y) ≡ false
not-before size t x y h le = grind (arith, tests)

still-after : (size t x y : ℕ) → nat_lt size (x - t) ≡ true → x ≤ y → nat_lt size (y - t) ≡ true
still-after size t x y h le = grind (arith, tests)

past-later : (size t u x : ℕ) → nat_lt size (t - x) ≡ true → t ≤ u → nat_lt size (u - x) ≡ true
past-later size t u x h le = grind (arith, tests)

in-reach : (size t x : ℕ) → x ≤ t + size → nat_lt size (x - t) ≡ false
in-reach size t x h = grind (arith, tests)

-- ---- lists

-- nothing of a stream that begins after the reach
none-near : (size t a : ℕ) (xs : List Tuple) → nat_lt size (a - t) ≡ true → TimesNotFalling a xs → near size t xs ≡ []
none-near size t a [] far up = refl
none-near size t a (x ∷ xs) far up =
    let next = still-after size t a x.time far up.0 in
    ap (λ b. cond b (x ∷ near size t xs) (near size t xs)) (after size t x.time next) ∙ none-near size t x.time xs next up.1

-- of a stream of which nothing is past, what reaches
near-reaching : (size t a : ℕ) (xs : List Tuple) → nat_lt size (t - a) ≡ false → TimesNotFalling a xs → near size t xs ≡ reaching size t xs
near-reaching size t a [] live up = refl
near-reaching size t a (x ∷ xs) live up =
    by (nat_lt size (x.time - t)) refl (near-reaching size t x.time xs (not-before size t a x.time live up.0) up.1)
  where
    by : (b : Bool) → nat_lt size (x.time - t) ≡ b → near size t xs ≡ reaching size t xs → near size t (x ∷ xs) ≡ (if b then [] else x ∷ reaching size t xs)
    by true e ih = ap (λ b. cond b (x ∷ near size t xs) (near size t xs)) (after size t x.time e) ∙ none-near size t x.time xs e up.1
    by false e ih =
        ap (λ b. cond b (x ∷ near size t xs) (near size t xs)) (between size t x.time (not-before size t a x.time live up.0) e) ∙ ap (λ l. x ∷ l) ih

-- those that are past are near no later time
pub near-let_go : (size t u : ℕ) (xs : List Tuple) → t ≤ u → near size u (recent size t xs) ≡ near size u xs
near-let_go size t u [] le = refl
near-let_go size t u (x ∷ xs) le = by (nat_lt size (t - x.time)) refl (near-let_go size t u xs le)
  where
    by : (b : Bool) → nat_lt size (t - x.time) ≡ b → near size u (recent size t xs) ≡ near size u xs → near size u (if b then recent size t xs else x ∷ xs) ≡ near size u (x ∷ xs)
    by true e ih = ih ∙ ap (λ b. cond b (x ∷ near size u xs) (near size u xs)) (sym (before size t u x.time e le))
    by false e ih = refl

recent-reaching : (size t a : ℕ) (xs : List Tuple) → TimesNotFalling a xs → near size t (recent size t xs) ≡ reaching size t (recent size t xs)
recent-reaching size t a [] up = refl
recent-reaching size t a (x ∷ xs) up = by (nat_lt size (t - x.time)) refl (recent-reaching size t x.time xs up.1)
  where
    by : (b : Bool) → nat_lt size (t - x.time) ≡ b → near size t (recent size t xs) ≡ reaching size t (recent size t xs) → near size t (if b then recent size t xs else x ∷ xs) ≡ reaching size t (if b then recent size t xs else x ∷ xs)
    by true e ih = ih
    by false e ih = let le : x.time ≤ x.time = omega arith in near-reaching size t x.time (x ∷ xs) e (le, up.1)

-- what is near a time in a stream
pub near-is : (size t a : ℕ) (xs : List Tuple) → TimesNotFalling a xs → near size t xs ≡ reaching size t (recent size t xs)
near-is size t a xs up = sym (near-let_go size t t xs (omega arith)) ∙ recent-reaching size t a xs up

-- where each reaches
pub reaching-all : (size t : ℕ) (xs : List Tuple) → AllByRecursion (λ x. x.time ≤ t + size) xs → reaching size t xs ≡ xs
reaching-all size t [] all = refl
reaching-all size t (x ∷ xs) all =
    ap (λ b. if b then [] else x ∷ reaching size t xs) (in-reach size t x.time all.0) ∙ ap (λ l. x ∷ l) (reaching-all size t xs all.1)

-- what is past at a time is past at each later time
pub recent-again : (size t u : ℕ) (xs : List Tuple) → t ≤ u → recent size u (recent size t xs) ≡ recent size u xs
recent-again size t u [] le = refl
recent-again size t u (x ∷ xs) le = by (nat_lt size (t - x.time)) refl (recent-again size t u xs le)
  where
    by : (b : Bool) → nat_lt size (t - x.time) ≡ b → recent size u (recent size t xs) ≡ recent size u xs → recent size u (if b then recent size t xs else x ∷ xs) ≡ (if nat_lt size (u - x.time) then recent size u xs else x ∷ xs)
    by true e ih = ih ∙ ap (λ b. if b then recent size u xs else x ∷ xs) (sym (past-later size t u x.time e le))
    by false e ih = refl

pub recent-rises : (size t a : ℕ) (xs : List Tuple) → TimesNotFalling a xs → TimesNotFalling a (recent size t xs)
recent-rises size t a [] up = tt
recent-rises size t a (x ∷ xs) up =
    elim (nat_lt size (t - x.time)) as (λ b. TimesNotFalling a (if b then recent size t xs else x ∷ xs)) [ true ↦ recent-rises size t a xs (lower a x.time xs up.0 up.1) | false ↦ up ]

-- ---- a Resample

-- right tuples that are alike near each left time
pub resample-alike : (answers : List Tuple → List Value) (size t : ℕ) (left xs ys : List Tuple) → TimesNotFalling t left
    → ((u : ℕ) → t ≤ u → near size u xs ≡ near size u ys) → resample_of answers size left xs ≡ resample_of answers size left ys
resample-alike answers size t [] xs ys up alike = refl
resample-alike answers size t (x ∷ left) xs ys up alike =
    let first = up.0 in
    ap₂ (λ l more. record { time = x.time; fields = x.fields ++ answers l } ∷ more) (alike x.time first)
    (resample-alike answers size x.time left xs ys up.1 (λ u le. alike u (omega (arith, le, first))))

-- without those that are past at the first left time
pub resample-recent : (answers : List Tuple → List Value) (size t : ℕ) (left right more : List Tuple) → TimesNotFalling t left
    → resample_of answers size left (recent size t right ++ more) ≡ resample_of answers size left (right ++ more)
resample-recent answers size t left right more up =
    resample-alike answers size t left (recent size t right ++ more) (right ++ more) up (λ u le.
    filter-append (λ x. nat_le (abs_diff u x.time) size) (recent size t right) more
    ∙ ap (λ l. l ++ near size u more) (near-let_go size t u right le)
    ∙ sym (filter-append (λ x. nat_le (abs_diff u x.time) size) right more))

pub resample-let_go : (answers : List Tuple → List Value) (size t : ℕ) (left right : List Tuple) → TimesNotFalling t left
    → resample_of answers size left (recent size t right) ≡ resample_of answers size left right
resample-let_go answers size t left right up = resample-alike answers size t left (recent size t right) right up (λ u le. near-let_go size t u right le)

pub resample_keeps : (fs : List Func) (size : ℕ) (left right : List Tuple) → IsStream left → IsStream (resample_list_of fs size left right)
resample_keeps fs size [] right h = tt
resample_keeps fs size (x ∷ []) right h = h
resample_keeps fs size (x ∷ y ∷ rest) right h = (h.0, resample_keeps fs size (y ∷ rest) right h.1)
