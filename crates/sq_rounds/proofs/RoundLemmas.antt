-- What a Resample gives for the left tuples that wait, one after another.
use Rattle.std.proofs.Common.{◌≡◌, ℕ, ◌+◌, ◌-◌, ◌≤◌, Bool, true, false, List, [], ◌∷◌, ◌++◌, refl, ap, sym, ◌∙◌, append_assoc, zero-le, arith, tests}
use Rattle.std.specs.Prelude.{if◌then◌else◌, nat_lt}
use Rattle.std.specs.List.{AllByRecursion}
use Rattle.sq_value.specs.declared.Value.{Value}
use Rattle.sq_value.specs.declared.Tuple.{Tuple}
use Rattle.sq_item.specs.Things.{Thing}
use Rattle.sq_lists.specs.Sides.{recent}
use Rattle.sq_lists.specs.WindowParts.{TimesNotFalling}
use Rattle.sq_lists.proofs.SideLemmas.{All-recent, rises-recent}
use Rattle.sq_lists.proofs.WindowLemmas.{lower}
use Rattle.sq_lists.specs.Resamples.{near, resampled, resample_of}
use Rattle.sq_lists.proofs.NearLemmas.{near-is, reaching-all, resample-let_go}
use Rattle.sq_oper.specs.Streams.{things, at_zero}
use Rattle.sq_oper.proofs.StreamLemmas.{at_zero-append}
use Rattle.sq_rounds.specs.Rounds.{CanGive, first_time_from, passed}
use Rattle.sq_words.proofs.Alls.{all_weaker}

-- ---- those that pass, and those that wait on

pub passed-recent : (size now : ℕ) (xs : List Tuple) → passed size now xs ++ recent size now xs ≡ xs
passed-recent size now [] = refl
passed-recent size now (x ∷ xs) =
    let ih = passed-recent size now xs in
    elim (nat_lt size (now - x.time)) as (λ b. (if b then x ∷ passed size now xs else []) ++ (if b then recent size now xs else x ∷ xs) ≡ x ∷ xs) [ true ↦ ap (λ l. x ∷ l) ih | false ↦ refl ]

pub passed-rises : (size now a : ℕ) (xs : List Tuple) → TimesNotFalling a xs → TimesNotFalling a (passed size now xs)
passed-rises size now a [] up = tt
passed-rises size now a (x ∷ xs) up =
    let ih = passed-rises size now x.time xs up.1 in
    elim (nat_lt size (now - x.time)) as (λ b. TimesNotFalling a (if b then x ∷ passed size now xs else [])) [ true ↦ (up.0, ih) | false ↦ tt ]

pub All-passed : (P : Tuple → Type 0) (size now : ℕ) (xs : List Tuple) → AllByRecursion P xs → AllByRecursion P (passed size now xs)
All-passed P size now [] all = tt
All-passed P size now (x ∷ xs) all =
    let ih = All-passed P size now xs all.1 in
    elim (nat_lt size (now - x.time)) as (λ b. AllByRecursion P (if b then x ∷ passed size now xs else [])) [ true ↦ (all.0, ih) | false ↦ tt ]

-- the first that waits on is no earlier than what is before all of them
pub first-later : (size now a : ℕ) (xs : List Tuple) → TimesNotFalling a xs → a ≤ now → a ≤ first_time_from now (recent size now xs)
first-later size now a [] up le = le
first-later size now a (x ∷ xs) up le =
    let first = up.0 in by (nat_lt size (now - x.time)) refl (λ at. first-later size now x.time xs up.1 at) first
  where
    by : (b : Bool) → nat_lt size (now - x.time) ≡ b → (x.time ≤ now → x.time ≤ first_time_from now (recent size now xs)) → a ≤ x.time → a ≤ first_time_from now (if b then recent size now xs else x ∷ xs)
    by true e ih first = let at : x.time ≤ now = grind (arith, tests) in let k = ih at in omega (arith, k, first)
    by false e ih first = first

module _ (answers : List Tuple → List Value) (size : ℕ) where
  -- near a left tuple that goes out is all that is held and isn't past
  pub round-near : (t : ℕ) (held : List Tuple) → TimesNotFalling 0 held → AllByRecursion (λ y. y.time ≤ t + size) held → near size t held ≡ recent size t held
  round-near t held up all = near-is size t 0 held up ∙ reaching-all size t (recent size t held) (All-recent (λ y. y.time ≤ t + size) size t held all)

  -- one is given, and then the others
  one-given : (q : ℕ) (x : Tuple) (xs : List Tuple) (before after : List Thing) → after ≡ before ++ at_zero q (things (x ∷ []))
      → after ++ at_zero q (things xs) ≡ before ++ at_zero q (things (x ∷ xs))
  one-given q x xs before after gave =
      ap (λ l. l ++ at_zero q (things xs)) gave
      ∙ append_assoc before (at_zero q (things (x ∷ []))) (at_zero q (things xs))
      ∙ ap (λ l. before ++ l) (sym (at_zero-append q (things (x ∷ [])) (things xs)))

  pub round-step : (q now : ℕ) (x : Tuple) (xs held : List Tuple) (before after : List Thing) → nat_lt size (now - x.time) ≡ true → TimesNotFalling x.time xs
      → after ≡ before ++ at_zero q (things (resampled answers size held x ∷ []))
      → after ++ at_zero q (things (resample_of answers size (passed size now xs) (recent size x.time held)))
      ≡ before ++ at_zero q (things (resample_of answers size (passed size now (x ∷ xs)) held))
  round-step q now x xs held before after past up gave =
      ap (λ l. after ++ at_zero q (things l)) (resample-let_go answers size x.time (passed size now xs) held (passed-rises size now x.time xs up))
      ∙ one-given q (resampled answers size held x) (resample_of answers size (passed size now xs) held) before after gave
      ∙ ap (λ (b : Bool). before ++ at_zero q (things (resample_of answers size (if b then x ∷ passed size now xs else []) held))) (sym past)

  pub all-step : (q : ℕ) (x : Tuple) (xs held : List Tuple) (before after : List Thing) → TimesNotFalling x.time xs
      → after ≡ before ++ at_zero q (things (resampled answers size held x ∷ []))
      → after ++ at_zero q (things (resample_of answers size xs (recent size x.time held))) ≡ before ++ at_zero q (things (resample_of answers size (x ∷ xs) held))
  all-step q x xs held before after up gave =
      ap (λ l. after ++ at_zero q (things l)) (resample-let_go answers size x.time xs held up)
      ∙ one-given q (resampled answers size held x) (resample_of answers size xs held) before after gave

-- what has to hold of the others
pub can-step : (width size : ℕ) (x : Tuple) (xs held : List Tuple) → CanGive width size (x ∷ xs) held → CanGive width size xs (recent size x.time held)
can-step width size x xs held can = record {
  waits = lower 0 x.time xs zero-le can.waits.1;
  room = can.room.1;
  rises = rises-recent size x.time held can.rises;
  reaches = all_weaker (λ w. AllByRecursion (λ y. y.time ≤ w.time + size) held) (λ w. AllByRecursion (λ y. y.time ≤ w.time + size) (recent size x.time held))
      (λ w h. All-recent (λ y. y.time ≤ w.time + size) size x.time held h) xs can.reaches.1;
}
