-- What a sorter holds: entries in two lists, which together are one list in order of time, and then of number.
use Rattle.std.specs.Prelude.{◌≡◌, ℕ, Bool, true, false, if◌then◌else◌, ◌==◌, nat_lt, List, [], ◌∷◌, map}
use Rattle.std.specs.List.{AllByRecursion}
use Rattle.sq_value.specs.declared.Value.{Value}
use Rattle.sq_lists.specs.Sorting.{Numbered}

-- a time and the number of an entry, and the values of its tuple
abbrev pub Held : Type 0
Held = (ℕ × ℕ) × List Value

abbrev pub numbered_tuple : Held → Numbered
numbered_tuple e = (e.0.1, record { time = e.0.0; fields = e.1 })

abbrev pub held_of : List Held → List Numbered
held_of es = map numbered_tuple es

-- by time, and then by number
abbrev pub comes_before : (ℕ × ℕ) → (ℕ × ℕ) → Bool
comes_before a b = if nat_lt a.0 b.0 then true else if a.0 == b.0 then nat_lt a.1 b.1 else false

-- the time and the number
abbrev pub key_of : Numbered → ℕ × ℕ
key_of a = ((a.1).time, a.0)

-- one tuple more, before the first that it comes before
abbrev pub with_held : Numbered → List Numbered → List Numbered
with_held x [] = x ∷ []
with_held x (y ∷ ys) = if comes_before (key_of x) (key_of y) then x ∷ y ∷ ys else y ∷ with_held x ys

-- the near entries among the far ones
abbrev pub both_of : List Held → List Held → List Numbered
both_of [] far = held_of far
both_of (e ∷ es) far = with_held (numbered_tuple e) (both_of es far)

-- each entry comes before those behind it
abbrev pub AreInOrder : List Held → Type 0
AreInOrder [] = Unit {0}
AreInOrder (e ∷ es) = AllByRecursion (λ f. comes_before e.0 f.0 ≡ true) es × AreInOrder es
