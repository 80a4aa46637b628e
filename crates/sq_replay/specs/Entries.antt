-- The entries of a capacity file and the numbers of a picks file, or the first bad line.
use Rattle.std.specs.Prelude.{◌≡◌, ⊤, ℕ, ◌^◌, Bool, true, nat_lt, ◌==◌, if◌then◌else◌, List, [], ◌∷◌, Option, Some, None, option_map, Result, Ok, Err}
use Rattle.std.specs.List.{slice_split}
use Rattle.std.specs.Borrow.{Bor}
use Rattle.sq_value.specs.Texts.{read_number, are_digits, number_in}
use Rattle.sq_plan.specs.Plans.{Entries}
use Rattle.sq_replay.specs.declared.entries.LineErr.{LineErr}
use Rattle.sq_replay.specs.declared.entries.LineErr.TheVariants as error
use Rattle.sq_replay.specs.FileLines.{Line, file_lines}
use Rattle.sq_words.specs.Results.{◌>>=◌}

-- this is the first bad line
abbrev pub IsBadLine : {A : Type 0} → LineErr → Result A ℕ → Type 0
IsBadLine (error.Bad line) r = r ≡ Err line
IsBadLine error.Memory r = ⊤

-- a line as it is lent
abbrev pub line_view : ℕ × Bor (List ℕ) → Line
line_view l = (l.0, l.1.now)

-- what a line gives, or its number
abbrev pub good_or : {A : Type 0} → ℕ → Option A → Result A ℕ
good_or n None = Err n
good_or n (Some x) = Ok x

-- 1 to 24 digits
abbrev pub wide_number : List ℕ → Option ℕ
wide_number bs = if are_digits 24 bs then Some (number_in bs) else None

-- `-` is unlimited
abbrev pub capacity_text : List ℕ → Option (Option ℕ)
capacity_text [] = None
capacity_text (b ∷ []) = if b == 45 then Some None else option_map Some (wide_number (b ∷ []))
capacity_text (b ∷ c ∷ bs) = option_map Some (wide_number (b ∷ c ∷ bs))

abbrev pub is_later : Option ℕ → ℕ → Bool
is_later None e = true
is_later (Some a) e = nat_lt a e

abbrev pub with_capacity : ℕ → Option (Option ℕ) → Option (ℕ × Option ℕ)
with_capacity e None = None
with_capacity e (Some c) = Some (e, c)

abbrev pub entry_of : Option ℕ → Option ℕ → List ℕ → Option (ℕ × Option ℕ)
entry_of after None c = None
entry_of after (Some e) c = if is_later after e then with_capacity e (capacity_text c) else None

-- two fields: an epoch later than the one before, and a capacity
abbrev pub entry_fields : Option ℕ → List (List ℕ) → Option (ℕ × Option ℕ)
entry_fields after [] = None
entry_fields after (e ∷ []) = None
entry_fields after (e ∷ c ∷ []) = entry_of after (read_number 13 (2 ^ 40) e) c
entry_fields after (e ∷ c ∷ d ∷ ds) = None

abbrev pub entry_in : Option ℕ → List ℕ → Option (ℕ × Option ℕ)
entry_in after line = entry_fields after (slice_split (λ b. b == 44) line)

abbrev pub entries_from : Option ℕ → List Line → Result Entries ℕ
entries_from after [] = Ok []
entries_from after (l ∷ ls) = do
  x ← good_or l.0 (entry_in after l.1)
  xs ← entries_from (Some x.0) ls
  Ok (x ∷ xs)

-- the entries of a capacity file, or the number of the first bad line
abbrev pub capacities_in : List ℕ → Result Entries ℕ
capacities_in bytes = entries_from None (file_lines bytes)

-- 1 to 10 digits of a number below 2^32
abbrev pub pick_in : List ℕ → Option ℕ
pick_in line = read_number 10 (2 ^ 32) line

abbrev pub picks_from : List Line → Result (List ℕ) ℕ
picks_from [] = Ok []
picks_from (l ∷ ls) = do
  x ← good_or l.0 (pick_in l.1)
  xs ← picks_from ls
  Ok (x ∷ xs)

-- the numbers of a picks file, or the number of the first bad line
abbrev pub picks_in : List ℕ → Result (List ℕ) ℕ
picks_in bytes = picks_from (file_lines bytes)
