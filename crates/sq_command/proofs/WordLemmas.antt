-- Words as they are read.
use Rattle.std.proofs.Common.{◌≡◌, ◌≢◌, ℕ, ◌+◌, ◌^◌, ◌<◌, ◌≤◌, ◌==◌, Bool, true, false, ◌&&◌, List, [], ◌∷◌, ◌++◌, length, append_assoc, refl, ap, sym, ◌∙◌, subst, arith, inl, inr, Option, None, Some, Ok, Err}
use Rattle.std.specs.Prelude.{nat_lt, OkIff, Result, if◌then◌else◌}
use Rattle.std.specs.List.{list_all, list_any, position_or_len}
use Rattle.std.specs.Borrow.{Bor}
use Rattle.std.specs.Option.{option_map}
use Rattle.std.specs.Str.Parse.{ParsesUnsigned}
use Rattle.std.proofs.lemmas.Bool.{cases_Bool}
use Rattle.std.proofs.lemmas.Bool.Decides.{nat_tests}
use Rattle.std.proofs.lemmas.Str.Parse.{parse_digits}
use Rattle.sq_value.specs.Texts.{are_digits, is_digit, number_in, read_number}
use Rattle.sq_value.proofs.ReadBack.{own}
use Rattle.sq_command.specs.Commands.{Bad, Plain, Whole, Opens, Given, dashed_piece, given_from, named_piece, piece_of}
use Rattle.sq_value.specs.CommandWords.{Word, is_equals}
use Rattle.sq_words.proofs.Lists.{none_first}

-- a byte that begins no word with a dash
no_dash : (b : ℕ) (bs : Word) → ((rest : Word) → b ∷ bs ≢ 45 ∷ rest) → (b == 45) ≡ false
no_dash b bs none = elim (cases_Bool (b == 45)) [
  | inl dash ↦ let is : b ≡ 45 = grind (arith, nat_tests) in absurd (none bs (ap (λ x. x ∷ bs) is))
  | inr other ↦ other
]

pub plain_piece : (w : Word) → (length w == 0) ≡ false → ((rest : Word) → w ≢ 45 ∷ rest) → Plain w ≡ piece_of w
plain_piece [] some none = cc
plain_piece (b ∷ bs) some none = rw (no_dash b bs none) refl

pub bad_piece : (w : Word) → ((rest : Word) → w ≢ 45 ∷ rest) → Bad ≡ dashed_piece w
bad_piece [] none = refl
bad_piece (b ∷ bs) none = rw (no_dash b bs none) refl

pub opens_piece : (w : Word) → position_or_len is_equals w ≡ length w → Opens w ≡ named_piece w
opens_piece w e = rw (none_first is_equals w e) refl

number_read : (text : Word) (n : ℕ) → length text ≤ 20 → list_all is_digit text ≡ true → 0 < length text → number_in text < 2 ^ 64 → n ≡ number_in text
    → Some n ≡ read_number 20 (2 ^ 64) text
number_read text n few digits some small is =
    let are : (are_digits 20 text && nat_lt (number_in text) (2 ^ 64)) ≡ true = grind (arith, nat_tests) in
    ap (λ k. Some k) is ∙ sym (ap (λ t. if t then Some (number_in text) else None) are)

no_number : (text : Word) → ((0 < length text) × (number_in text < 2 ^ 64) → ⊥) → (are_digits 20 text && nat_lt (number_in text) (2 ^ 64)) ≡ false
no_number text none = elim (cases_Bool (are_digits 20 text && nat_lt (number_in text) (2 ^ 64))) [
  | inl number ↦ absurd (none (grind (arith, nat_tests), grind (arith, nat_tests)))
  | inr other ↦ other
]

-- a text of 1 to 20 digits, as std reads it
module _ {E : Type 0} (text : Word) (few : length text ≤ 20) (digits : list_all is_digit text ≡ true) where
  pub parsed_ok : (r : Result ℕ E) (n : ℕ) → ParsesUnsigned 64 10 text r → r ≡ Ok n → Some n ≡ read_number 20 (2 ^ 64) text
  parsed_ok r n parses is =
      let ok : ((0 < length text) × (number_in text < 2 ^ 64)) × (n ≡ number_in text) = subst (λ x. OkIff x ((0 < length text) × (number_in text < 2 ^ 64)) (number_in text)) is (parse_digits own 64 text r parses digits) in
      number_read text n few digits ok.0.0 ok.0.1 ok.1

  pub parsed_err : (r : Result ℕ E) (e : E) → ParsesUnsigned 64 10 text r → r ≡ Err e → None ≡ read_number 20 (2 ^ 64) text
  parsed_err r e parses is =
      let none : (0 < length text) × (number_in text < 2 ^ 64) → ⊥ = subst (λ x. OkIff x ((0 < length text) × (number_in text < 2 ^ 64)) (number_in text)) is (parse_digits own 64 text r parses digits) in
      sym (ap (λ t. if t then Some (number_in text) else None) (no_number text none))

some_first : {X : Type 0} (p : X → Bool) (xs : List X) → position_or_len p xs < length xs → list_any p xs ≡ true
some_first p [] e = absurd (omega arith)
some_first p (x ∷ xs) e = elim (cases_Bool (p x)) [
  | inl passes ↦ rw passes refl
  | inr fails ↦ let more : 1 + position_or_len p xs < length (x ∷ xs) = rw fails at e in rw (fails, some_first p xs (omega (arith, more))) refl
]

pub has_equals : (w : Word) → position_or_len is_equals w < length w → list_any is_equals w ≡ true
has_equals w h = some_first is_equals w h

-- what is given so far, and what more words give
abbrev pub with_given : List Given → Option (List Given) → Option (List Given)
with_given front more = option_map (λ gs. front ++ gs) more

given_cons : (front : List Given) (g : Given) (more : Option (List Given)) → with_given front (option_map (λ gs. g ∷ gs) more) ≡ with_given (front ++ g ∷ []) more
given_cons front g None = refl
given_cons front g (Some gs) = ap (λ x. Some x) (sym (append_assoc front (g ∷ []) gs))

pub given_plain : (front : List Given) (w v : Word) (ws : List Word) (pending : Option Word) → Plain v ≡ piece_of w
    → with_given front (given_from (w ∷ ws) pending) ≡ with_given (front ++ (pending, v) ∷ []) (given_from ws None)
given_plain front w v ws pending e = rw (sym e) (given_cons front (pending, v) (given_from ws None))

pub given_whole : (front : List Given) (w n v : Word) (ws : List Word) → Whole n v ≡ piece_of w
    → with_given front (given_from (w ∷ ws) None) ≡ with_given (front ++ (Some n, v) ∷ []) (given_from ws None)
given_whole front w n v ws e = rw (sym e) (given_cons front (Some n, v) (given_from ws None))

pub given_opens : (front : List Given) (w n : Word) (ws : List Word) → Opens n ≡ piece_of w → with_given front (given_from (w ∷ ws) None) ≡ with_given front (given_from ws (Some n))
given_opens front w n ws e = rw (sym e) refl

-- the first value of an option, where there is one, and then others
abbrev pub with_found : Option (Bor Word) → List Word → List Word
with_found None vs = vs
with_found (Some v) vs = v.now ∷ vs
