-- Lists of lines, sorted out by a test.
use Rattle.std.proofs.Common.{◌≡◌, ◌⊎◌, inl, inr, Bool, true, false, List, [], ◌∷◌, ◌++◌, refl, ap, sym, ◌∙◌}
use Rattle.std.specs.Prelude.{if◌then◌else◌}
use Rattle.std.specs.List.{AllByRecursion, filter, list_all}
use Rattle.sq_words.proofs.Bools.{and_true}
use Rattle.sq_words.proofs.Lists.{cons_parts}

-- a test that answers t for each element keeps all or none
pub filter_same : {X : Type 0} (p : X → Bool) (t : Bool) (xs : List X) → AllByRecursion (λ x. p x ≡ t) xs → filter p xs ≡ (if t then xs else [])
filter_same p true [] all = refl
filter_same p false [] all = refl
filter_same p true (x ∷ xs) all = rw (all.0, filter_same p true xs all.1) refl
filter_same p false (x ∷ xs) all = rw (all.0, filter_same p false xs all.1) refl

pub list_all-back : {X : Type 0} (p : X → Bool) (xs ys : List X) → list_all p (xs ++ ys) ≡ true → list_all p ys ≡ true
list_all-back p [] ys h = h
list_all-back p (x ∷ xs) ys h = list_all-back p xs ys (and_true (p x) (list_all p (xs ++ ys)) h).1

-- two ways to cut one list: the second cut lies in the back part or in the front part
pub record InBack {X : Type 0} (front back done rest : List X) : Type 0 where
  pub more : List X
  pub done_is : done ≡ front ++ more
  pub back_is : back ≡ more ++ rest

pub record InFront {X : Type 0} (front back done rest : List X) : Type 0 where
  pub next : X
  pub more : List X
  pub front_is : front ≡ done ++ (next ∷ more)
  pub rest_is : rest ≡ next ∷ (more ++ back)

cut_after : {X : Type 0} (x y : X) (front back done rest : List X) → x ≡ y → InBack front back done rest ⊎ InFront front back done rest
    → InBack (x ∷ front) back (y ∷ done) rest ⊎ InFront (x ∷ front) back (y ∷ done) rest
cut_after x y front back done rest same (inl b) = inl (record { more = b.more; done_is = ap (λ l. y ∷ l) b.done_is ∙ ap (λ z. z ∷ (front ++ b.more)) (sym same); back_is = b.back_is })
cut_after x y front back done rest same (inr f) =
    inr (record { next = f.next; more = f.more; front_is = ap (λ l. x ∷ l) f.front_is ∙ ap (λ z. z ∷ (done ++ (f.next ∷ f.more))) same; rest_is = f.rest_is })

pub cut_twice : {X : Type 0} (front back done rest : List X) → front ++ back ≡ done ++ rest → InBack front back done rest ⊎ InFront front back done rest
cut_twice [] back done rest e = inl (record { more = done; done_is = refl; back_is = e })
cut_twice (x ∷ front) back [] rest e = inr (record { next = x; more = front; front_is = refl; rest_is = sym e })
cut_twice (x ∷ front) back (y ∷ done) rest e =
    let same = cons_parts x y (front ++ back) (done ++ rest) e in cut_after x y front back done rest same.0 (cut_twice front back done rest same.1)
