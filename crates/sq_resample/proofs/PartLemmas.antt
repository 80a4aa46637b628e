-- What a Resample gives once an item came, and what it gives later.
use Rattle.std.proofs.Common.{◌≡◌, ℕ, ◌-◌, ◌≤◌, Bool, true, false, cond, List, [], ◌∷◌, ◌++◌, refl, ap, ap₂, sym, ◌∙◌, append-nil, append_assoc, arith, tests}
use Rattle.std.specs.Prelude.{if◌then◌else◌, nat_lt, nat_le}
use Rattle.std.specs.Int.{abs_diff}
use Rattle.std.specs.List.{AllByRecursion}
use Rattle.std.proofs.lemmas.List.{map-append}
use Rattle.std.proofs.lemmas.List.Elements.{filter-append}
use Rattle.sq_value.specs.declared.Value.{Value}
use Rattle.sq_value.specs.declared.Tuple.{Tuple}
use Rattle.sq_lists.specs.Sides.{recent}
use Rattle.sq_lists.specs.WindowParts.{TimesNotFalling}
use Rattle.sq_lists.proofs.SideLemmas.{All-recent, rises-recent}
use Rattle.sq_lists.proofs.WindowLemmas.{lower}
use Rattle.sq_lists.specs.Resamples.{near, resampled, resample_of}
use Rattle.sq_lists.proofs.NearLemmas.{resample-recent}
use Rattle.sq_rounds.specs.Rounds.{first_time_from, passed}
use Rattle.sq_rounds.proofs.RoundLemmas.{passed-recent}

-- what comes after a stream
rises-append : (a now : ℕ) (xs ys : List Tuple) → TimesNotFalling a xs → AllByRecursion (λ x. x.time ≤ now) xs → a ≤ now → TimesNotFalling now ys → TimesNotFalling a (xs ++ ys)
rises-append a now [] ys up all le more = lower a now ys le more
rises-append a now (x ∷ xs) ys up all le more = (up.0, rises-append x.time now xs ys up.1 all.1 all.0 more)

first-rises : (now : ℕ) (xs ys : List Tuple) → TimesNotFalling 0 xs → AllByRecursion (λ x. x.time ≤ now) xs → TimesNotFalling now ys → TimesNotFalling (first_time_from now xs) (xs ++ ys)
first-rises now [] ys up all more = more
first-rises now (x ∷ xs) ys up all more = (omega arith, rises-append x.time now xs ys up.1 all.1 all.0 more)

-- ---- what is given

too-late : (size now x y : ℕ) → nat_lt size (now - x) ≡ true → now ≤ y → nat_le (abs_diff x y) size ≡ false
too-late size now x y h le = grind (arith, tests)

-- none of those that come is near what has passed
none-come : (size now t : ℕ) (ys : List Tuple) → nat_lt size (now - t) ≡ true → AllByRecursion (λ y. now ≤ y.time) ys → near size t ys ≡ []
none-come size now t [] far all = refl
none-come size now t (y ∷ ys) far all =
    ap (λ b. cond b (y ∷ near size t ys) (near size t ys)) (too-late size now t y.time far all.0) ∙ none-come size now t ys far all.1

module _ (answers : List Tuple → List Value) (size : ℕ) where
  passed-ready : (now : ℕ) (xs held more : List Tuple) → AllByRecursion (λ y. now ≤ y.time) more
      → resample_of answers size (passed size now xs) (held ++ more) ≡ resample_of answers size (passed size now xs) held
  passed-ready now [] held more all = refl
  passed-ready now (x ∷ xs) held more all = by (nat_lt size (now - x.time)) refl (passed-ready now xs held more all)
    where
      by : (b : Bool) → nat_lt size (now - x.time) ≡ b
          → resample_of answers size (passed size now xs) (held ++ more) ≡ resample_of answers size (passed size now xs) held
          → resample_of answers size (if b then x ∷ passed size now xs else []) (held ++ more) ≡ resample_of answers size (if b then x ∷ passed size now xs else []) held
      by false e ih = refl
      by true e ih =
          let same : near size x.time (held ++ more) ≡ near size x.time held =
          filter-append (λ y. nat_le (abs_diff x.time y.time) size) held more
          ∙ ap (λ l. near size x.time held ++ l) (none-come size now x.time more e all)
          ∙ append-nil (near size x.time held) in
          ap₂ (λ l rest. record { time = x.time; fields = x.fields ++ answers l } ∷ rest) same ih

  -- what a Resample gives once an item came, and what it gives later
  pub resample-parts : (now : ℕ) (waiting held lefts rights : List Tuple) → TimesNotFalling 0 waiting → AllByRecursion (λ x. x.time ≤ now) waiting
      → TimesNotFalling now lefts → AllByRecursion (λ y. now ≤ y.time) rights
      → resample_of answers size (waiting ++ lefts) (held ++ rights)
      ≡ resample_of answers size (passed size now waiting) held
      ++ resample_of answers size (recent size now waiting ++ lefts) (recent size (first_time_from now (recent size now waiting)) held ++ rights)
  resample-parts now waiting held lefts rights up early more later =
      let gone = passed size now waiting in
      let on = recent size now waiting in
      let rises = first-rises now on lefts (rises-recent size now waiting up) (All-recent (λ x. x.time ≤ now) size now waiting early) more in
      ap (λ l. resample_of answers size (l ++ lefts) (held ++ rights)) (sym (passed-recent size now waiting))
      ∙ ap (λ l. resample_of answers size l (held ++ rights)) (append_assoc gone on lefts)
      ∙ map-append (resampled answers size (held ++ rights)) gone (on ++ lefts)
      ∙ ap₂ (λ a b. a ++ b) (passed-ready now waiting held rights later) (sym (resample-recent answers size (first_time_from now on) (on ++ lefts) held rights rises))
