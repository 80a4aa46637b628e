-- What comes at the two ports of a merge: the two streams that were merged.
use Rattle.std.proofs.Common.{◌≡◌, ℕ, Bool, true, false, cond, List, [], ◌∷◌, refl, ap, ◌∙◌, length, suc}
use Rattle.std.specs.Prelude.{if◌then◌else◌, ◌==◌}
use Rattle.std.specs.List.{AllByRecursion, filter}
use Rattle.sq_value.specs.declared.Tuple.{Tuple}
use Rattle.sq_item.specs.Things.{Thing}
use Rattle.sq_oper.specs.Entries.{Entry, at_port}
use Rattle.sq_oper.specs.Order.{earlier, merge, merge_two, merge_under}
use Rattle.sq_oper.specs.Streams.{things, tuples_at, tuples_of}

module _ (p : Entry → Bool) where
  abbrev Passes : Bool → List Entry → Type 0
  Passes b es = AllByRecursion (λ e. p e ≡ b) es

  all-kept : (es : List Entry) → Passes true es → filter p es ≡ es
  all-kept [] all = refl
  all-kept (e ∷ es) all = ap (λ b. cond b (e ∷ filter p es) (filter p es)) all.0 ∙ ap (λ l. e ∷ l) (all-kept es all.1)

  none-kept : (es : List Entry) → Passes false es → filter p es ≡ []
  none-kept [] all = refl
  none-kept (e ∷ es) all = ap (λ b. cond b (e ∷ filter p es) (filter p es)) all.0 ∙ none-kept es all.1

  keep-one : (e : Entry) (es rest : List Entry) → p e ≡ true → filter p es ≡ rest → filter p (e ∷ es) ≡ e ∷ rest
  keep-one e es rest is same = ap (λ b. cond b (e ∷ filter p es) (filter p es)) is ∙ ap (λ l. e ∷ l) same

  skip-one : (e : Entry) (es rest : List Entry) → p e ≡ false → filter p es ≡ rest → filter p (e ∷ es) ≡ rest
  skip-one e es rest is same = ap (λ b. cond b (e ∷ filter p es) (filter p es)) is ∙ same

  first-under : (x : Entry) (more : List Entry → List Entry) (xs ys : List Entry) → p x ≡ true → Passes false ys
      → ((zs : List Entry) → Passes false zs → filter p (more zs) ≡ xs) → filter p (merge_under x more ys) ≡ x ∷ xs
  first-under x more xs [] is none ih = keep-one x (more []) xs is (ih [] none)
  first-under x more xs (y ∷ ys) is none ih = by (earlier y x) (first-under x more xs ys is none.1 ih)
    where
      by : (b : Bool) → filter p (merge_under x more ys) ≡ x ∷ xs → filter p (if b then y ∷ merge_under x more ys else x ∷ more (y ∷ ys)) ≡ x ∷ xs
      by true h = skip-one y (merge_under x more ys) (x ∷ xs) none.0 h
      by false h = keep-one x (more (y ∷ ys)) xs is (ih (y ∷ ys) none)

  -- the first list of two
  first-of-two : (xs ys : List Entry) → Passes true xs → Passes false ys → filter p (merge_two xs ys) ≡ xs
  first-of-two [] ys all none = none-kept ys none
  first-of-two (x ∷ xs) ys all none = first-under x (merge_two xs) xs ys all.0 none (λ zs h. first-of-two xs zs all.1 h)

  second-under : (x : Entry) (more : List Entry → List Entry) (ys : List Entry) → p x ≡ false → Passes true ys
      → ((zs : List Entry) → Passes true zs → filter p (more zs) ≡ zs) → filter p (merge_under x more ys) ≡ ys
  second-under x more [] is all ih = skip-one x (more []) [] is (ih [] all)
  second-under x more (y ∷ ys) is all ih = by (earlier y x) (second-under x more ys is all.1 ih)
    where
      by : (b : Bool) → filter p (merge_under x more ys) ≡ ys → filter p (if b then y ∷ merge_under x more ys else x ∷ more (y ∷ ys)) ≡ y ∷ ys
      by true h = keep-one y (merge_under x more ys) ys all.0 h
      by false h = skip-one x (more (y ∷ ys)) (y ∷ ys) is (ih (y ∷ ys) all)

  -- the second list of two
  second-of-two : (xs ys : List Entry) → Passes false xs → Passes true ys → filter p (merge_two xs ys) ≡ ys
  second-of-two [] ys none all = all-kept ys all
  second-of-two (x ∷ xs) ys none all = second-under x (merge_two xs) ys none.0 all (λ zs h. second-of-two xs zs none.1 h)

alone : (xs : List Entry) → merge_two xs [] ≡ xs
alone [] = refl
alone (x ∷ xs) = ap (λ l. x ∷ l) (alone xs)

at-its-port : (port q : ℕ) (b : Bool) (xs : List Thing) → (port == q) ≡ b → Passes (λ e. e.port == q) b (at_port port xs)
at-its-port port q b [] is = tt
at-its-port port q b (x ∷ xs) is = (is, at-its-port port q b xs is)

pub of-port : (port : ℕ) (xs : List Tuple) → tuples_of (at_port port (things xs)) ≡ xs
of-port port [] = refl
of-port port (x ∷ xs) = ap (λ l. x ∷ l) (of-port port xs)

-- the left stream and the right one
pub at-left : (left right : List Tuple) → tuples_at 0 (merge (things left ∷ things right ∷ [])) ≡ left
at-left left right =
    ap (λ l. tuples_of (filter (λ e. e.port == 0) (merge_two (at_port 0 (things left)) l))) (alone (at_port 1 (things right)))
    ∙ ap tuples_of (first-of-two (λ e. e.port == 0) (at_port 0 (things left)) (at_port 1 (things right)) (at-its-port 0 0 true (things left) refl) (at-its-port 1 0 false (things right) refl))
    ∙ of-port 0 left

pub at-right : (left right : List Tuple) → tuples_at 1 (merge (things left ∷ things right ∷ [])) ≡ right
at-right left right =
    ap (λ l. tuples_of (filter (λ e. e.port == 1) (merge_two (at_port 0 (things left)) l))) (alone (at_port 1 (things right)))
    ∙ ap tuples_of (second-of-two (λ e. e.port == 1) (at_port 0 (things left)) (at_port 1 (things right)) (at-its-port 0 1 false (things left) refl) (at-its-port 1 1 true (things right) refl))
    ∙ of-port 1 right

pub entries_length : (port : ℕ) (xs : List Thing) → length (at_port port xs) ≡ length xs
entries_length port [] = refl
entries_length port (x ∷ xs) = ap suc (entries_length port xs)
