-- An insertion into a sorter's map, as the sorter says it.
use Rattle.std.proofs.Common.{◌≡◌, ℕ, ◌<◌, Bool, true, false, List, [], ◌∷◌, refl, ap, ◌∙◌, arith, tests, Ordering, Less, Greater, nat_cmp}
use Rattle.std.specs.Prelude.{if◌then◌else◌, nat_lt, ◌==◌}
use Rattle.std.specs.Ordering.{ordering_then, match_ordering}
use Rattle.std.specs.BTreeMap.{insert_entry}
use Rattle.std.specs.List.{AllByRecursion}
use Rattle.sq_value.specs.declared.Value.{Value}
use Rattle.sq_lists.specs.Buffers.{Held, numbered_tuple, held_of}
use Rattle.sq_lists.specs.Sorters.{put_in}

abbrev pub key_cmp : (ℕ × ℕ) → (ℕ × ℕ) → Ordering
key_cmp x y = ordering_then (nat_cmp x.0 y.0) (nat_cmp x.1 y.1)

-- a key with a greater number is either less by its time, or greater
newer : (t n : ℕ) (k : ℕ × ℕ) → k.1 < n → key_cmp (t, n) k ≡ (if nat_lt t k.0 then Less else Greater)
newer t n k h = newer-by t n k h (nat_lt t k.0) (t == k.0) refl refl
  where
    newer-by : (t n : ℕ) (k : ℕ × ℕ) → k.1 < n → (a b : Bool) → nat_lt t k.0 ≡ a → (t == k.0) ≡ b → key_cmp (t, n) k ≡ (if nat_lt t k.0 then Less else Greater)
    newer-by t n k h true b ea eb = simp ea
    newer-by t n k h false true ea eb =
        let l : nat_lt n k.1 ≡ false = grind (arith, tests) in
        let e : (n == k.1) ≡ false = grind (arith, tests) in
        simp (ea, eb, l, e)
    newer-by t n k h false false ea eb = simp (ea, eb)

pub held-insert : (t n : ℕ) (fields : List Value) (es : List Held) → AllByRecursion (λ a. a.0 < n) (held_of es)
    → held_of (insert_entry key_cmp es (t, n) fields) ≡ put_in (n, record { time = t; fields = fields }) (held_of es)
held-insert t n fields [] below = refl
held-insert t n fields (e ∷ es) below =
    ap (λ o. held_of (match_ordering o (((t, n), fields) ∷ e ∷ es) ((e.0, fields) ∷ es) (e ∷ insert_entry key_cmp es (t, n) fields))) (newer t n e.0 below.0)
    ∙ (elim (nat_lt t e.0.0) as (λ b. held_of (match_ordering (if b then Less else Greater) (((t, n), fields) ∷ e ∷ es) ((e.0, fields) ∷ es) (e ∷ insert_entry key_cmp es (t, n) fields))
    ≡ (if b then (n, record { time = t; fields = fields }) ∷ numbered_tuple e ∷ held_of es else numbered_tuple e ∷ put_in (n, record { time = t; fields = fields }) (held_of es))) [
      | true ↦ refl
      | false ↦ ap (λ l. numbered_tuple e ∷ l) (held-insert t n fields es below.1)
    ])
