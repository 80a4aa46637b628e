-- The page that a disk in memory answers in place of another.
use Rattle.std.proofs.Common.{◌≡◌, ℕ, Bool, true, false, cond, T, List, [], ◌∷◌, Option, None, Some, Vec, length, refl, sym, ap, ◌∙◌, subst, Ordering, Less, Equal, Greater}
use Rattle.std.specs.Prelude.{map, find, not, ◌&&◌, option_map, unwrap_or, IfSome}
use Rattle.std.specs.Ordering.{nat_cmp, is_lt, is_eq}
use Rattle.std.specs.Cmp.{nat_cmp_total, tied_itself}
use Rattle.std.specs.List.{AllByRecursion}
use Rattle.std.specs.List.Sorted.{IsStrictlySortedBy}
use Rattle.std.specs.Str.{bytes_eq}
use Rattle.std.specs.FinMap as finite
use Rattle.std.specs.FinMap.Entries.{below_all, is_sorted, same_entries}
use Rattle.sq_outside.specs.declared.TheConstants.{PAGE}
use Rattle.sq_outside.specs.declared.mem_disk.Swap.{Swap}
use Rattle.sq_outside.specs.Disks.{Pages}
use Rattle.sq_outside.specs.MemDisks.{pages_of, AllWhole, is_swapped, another, swapped}

option_map-cond : {X Y : Type 0} (f : X → Y) (b : Bool) (x : X) (rest : Option X) → option_map f (cond b (Some x) rest) ≡ cond b (Some (f x)) (option_map f rest)
option_map-cond f true x rest = refl
option_map-cond f false x rest = refl

both : (a b : Bool) → T a → T b → T (a && b)
both true b p q = q
both false b p q = p

first : (a b : Bool) → T (a && b) → T a
first true b p = tt
first false b p = p

second : (a b : Bool) → T (a && b) → T b
second true b p = p
second false b p = absurd p

less : (o : Ordering) → T (is_lt o) → o ≡ Less
less Less p = refl
less Equal p = absurd p
less Greater p = absurd p

-- a map's entries are those that its pages are made of
module _ {A : Type 0} where
  below-all : (page : ℕ) (pages : List (ℕ × Vec ℕ A)) → AllByRecursion (λ q. nat_cmp page q ≡ Less) (map (λ p. p.0) pages)
      → T (below_all nat_cmp page (map (λ p. (p.0, p.1.items)) pages))
  below-all page [] all = tt
  below-all page (p ∷ pages) all = both _ _ (subst (λ o. T (is_lt o)) (sym all.0) tt) (below-all page pages all.1)

  sorted-pages : (pages : List (ℕ × Vec ℕ A)) → IsStrictlySortedBy nat_cmp (map (λ p. p.0) pages) → T (is_sorted nat_cmp (map (λ p. (p.0, p.1.items)) pages))
  unfolding IsStrictlySortedBy
  sorted-pages [] up = tt
  sorted-pages (p ∷ pages) up = both _ _ (below-all p.0 pages up.0) (sorted-pages pages up.1)

  entries-pages_of : (pages : List (ℕ × Vec ℕ A)) → IsStrictlySortedBy nat_cmp (map (λ p. p.0) pages)
      → finite.entries (pages_of pages) ≡ map (λ p. (p.0, p.1.items)) pages
  entries-pages_of pages up =
      same_entries nat_cmp nat_cmp_total finite.nat_cmp-IsAntisymmetric _ _ (finite.entries_sorted (pages_of pages)) (sorted-pages pages up)
      (λ q. sym (finite.get-entries (pages_of pages) q) ∙ finite.get-from_entries nat_cmp_total _ q)

  find-items : (test : List ℕ → Bool) (pages : List (ℕ × Vec ℕ A))
      → find test (map (λ (e : ℕ × List ℕ). e.1) (map (λ p. (p.0, p.1.items)) pages)) ≡ option_map (λ bytes. bytes.items) (find (λ bytes. test bytes.items) (map (λ p. p.1) pages))
  find-items test [] = refl
  find-items test (p ∷ pages) = ap (cond (test p.1.items) (Some p.1.items)) (find-items test pages) ∙ sym (option_map-cond (λ bytes. bytes.items) (test p.1.items) p.1 _)

  pub another-found : (pages : List (ℕ × Vec ℕ A)) (bytes : List ℕ) (found : Option (Vec ℕ A)) → IsStrictlySortedBy nat_cmp (map (λ p. p.0) pages)
      → found ≡ find (λ other. not (bytes_eq other.items bytes)) (map (λ p. p.1) pages)
      → another (pages_of pages) bytes ≡ unwrap_or (option_map (λ other. other.items) found) bytes
  another-found pages bytes found up is =
      ap (λ (es : List (ℕ × List ℕ)). unwrap_or (find (λ other. not (bytes_eq other bytes)) (map (λ (e : ℕ × List ℕ). e.1) es)) bytes) (entries-pages_of pages up)
      ∙ ap (λ (o : Option (List ℕ)). unwrap_or o bytes) (find-items (λ other. not (bytes_eq other bytes)) pages ∙ ap (option_map (λ other. other.items)) (sym is))

find-below : {X : Type 0} (q : ℕ) (es : List (ℕ × X)) → T (below_all nat_cmp q es) → finite.find nat_cmp q es ≡ None
find-below q [] below = refl
find-below q (e ∷ es) below = ap (λ r. cond (is_eq r) (Some e.1) (finite.find nat_cmp q es)) (less _ (first _ _ below)) ∙ find-below q es (second _ _ below)

-- what holds of whatever is found at a key holds of every value
module _ {X : Type 0} (P : X → Type 0) where
  found-later : (q : ℕ) (e : ℕ × X) (es : List (ℕ × X)) → T (below_all nat_cmp e.0 es) → IfSome (finite.find nat_cmp q (e ∷ es)) P → IfSome (finite.find nat_cmp q es) P
  found-later q e es below found =
      elim (nat_cmp q e.0) as (λ o. nat_cmp q e.0 ≡ o → IfSome (cond (is_eq o) (Some e.1) (finite.find nat_cmp q es)) P → IfSome (finite.find nat_cmp q es) P) [
        | Less ↦ λ _ later. later
        | Equal ↦ λ same _.
            let at : T (below_all nat_cmp q es) = subst (λ k. T (below_all nat_cmp k es)) (sym (finite.nat_cmp-IsAntisymmetric q e.0 same)) below in
            subst (λ o. IfSome o P) (sym (find-below q es at)) tt
        | Greater ↦ λ _ later. later
      ] refl found

  all-found : (es : List (ℕ × X)) → T (is_sorted nat_cmp es) → ((q : ℕ) → IfSome (finite.find nat_cmp q es) P) → AllByRecursion (λ e. P e.1) es
  all-found [] sorted found = tt
  all-found (e ∷ es) sorted found = (
    subst (λ o. IfSome (cond (is_eq o) (Some e.1) (finite.find nat_cmp e.0 es)) P) (tied_itself nat_cmp_total e.0) (found e.0),
    all-found es (second _ _ sorted) (λ q. found-later q e es (first _ _ sorted) (found q)),
  )

  one-of : (test : X → Bool) (es : List (ℕ × X)) (x : X) → AllByRecursion (λ e. P e.1) es → P x → P (unwrap_or (find test (map (λ e. e.1) es)) x)
  one-of test [] x all it = it
  one-of test (e ∷ es) x all it =
      elim (test e.1) as (λ b. P (unwrap_or (cond b (Some e.1) (find test (map (λ e. e.1) es))) x)) [ true ↦ all.0 | false ↦ one-of test es x all.1 it ]

pub another-whole : (pages : Pages) (bytes : List ℕ) → AllWhole pages → length bytes ≡ PAGE → length (another pages bytes) ≡ PAGE
another-whole pages bytes all whole =
    one-of (λ bs. length bs ≡ PAGE) (λ other. not (bytes_eq other bytes)) (finite.entries pages) bytes
    (all-found (λ bs. length bs ≡ PAGE) (finite.entries pages) (finite.entries_sorted pages) (λ q. subst (λ o. IfSome o (λ bs. length bs ≡ PAGE)) (finite.get-entries pages q) (all q)))
    whole

pub swapped-whole : (swaps : List Swap) (get : ℕ) (pages : Pages) (bytes : List ℕ) → AllWhole pages → length bytes ≡ PAGE → length (swapped swaps get pages bytes) ≡ PAGE
swapped-whole swaps get pages bytes all whole =
    elim (is_swapped swaps get) as (λ b. length (cond b (another pages bytes) bytes) ≡ PAGE) [ true ↦ another-whole pages bytes all whole | false ↦ whole ]
