-- Tables read one after another: those so far, joined with the rest, are all.
use Rattle.std.proofs.Common.{◌≡◌, ◌∙◌, ap, refl, ℕ, ◌+◌, ◌<◌, ◌≤◌, List, [], ◌∷◌, ◌++◌, map, drop, length, get_or, Option, Some, None, append_assoc, append-nil, sym, arith}
use Rattle.std.specs.Prelude.{Result, Ok, Err}
use Rattle.std.specs.List.{zip}
use Rattle.std.proofs.lemmas.List.{drop_all, drop_more}
use Rattle.toml.specs.Data.{Members}
use Rattle.sq_net.specs.declared.Part.{Part}
use Rattle.sq_net.specs.declared.NetErr.{NetErr}
use Rattle.sq_net.specs.declared.NetErr.TheVariants as broken
use Rattle.sq_tables.specs.Places.{part_place}
use Rattle.sq_tables.specs.Tables.{shaped_from}
use Rattle.sq_words.specs.Results.{◌>>=◌}

-- where two steps succeed, each does
pub first_step : {A B : Type 0} (r : Result A NetErr) (f : A → Result B NetErr) (y : B) → (r >>= f) ≡ Ok y → (x : A) × ((r ≡ Ok x) × (f x ≡ Ok y))
first_step (Ok x) f y e = (x, (refl, e))
first_step (Err b) f y e = cc

-- these items, and then the others, where there are others
abbrev pub joined : {A : Type 0} → List A → Result (List A) NetErr → Result (List A) NetErr
joined front (Ok xs) = Ok (front ++ xs)
joined front (Err e) = Err e

pub joined-nil : {A : Type 0} (r : Result (List A) NetErr) → joined [] r ≡ r
joined-nil (Ok xs) = refl
joined-nil (Err e) = refl

pub joined-cons : {A : Type 0} (front : List A) (x : A) (r : Result (List A) NetErr) → joined front (r >>= λ xs. Ok (x ∷ xs)) ≡ joined (front ++ x ∷ []) r
joined-cons front x (Ok xs) = ap (λ ys. Ok ys) (sym (append_assoc front (x ∷ []) xs))
joined-cons front x (Err e) = refl

-- a view of the items from place i on begins with that of the item there
pub map-drop : {X Y : Type 0} (f : X → Y) (xs : List X) (i : ℕ) (x : X) → i < length xs → x ≡ get_or xs i x → map f (drop i xs) ≡ f x ∷ map f (drop (i + 1) xs)
map-drop f xs i x low is = ap (map f) (drop_more xs i x low ∙ ap (λ y. y ∷ drop (i + 1) xs) (sym is))

pub shaped_more : {A : Type 0} (p : Part) (f : Members → Option A) (n : ℕ) (front : List A) (t : Members) (ts : List Members) (x : A) → f t ≡ Some x
    → joined (front ++ x ∷ []) (shaped_from p f (n + 1) ts) ≡ joined front (shaped_from p f n (t ∷ ts))
shaped_more p f n front t ts x e = rw e (sym (joined-cons front x (shaped_from p f (n + 1) ts)))

pub shaped_stop : {A : Type 0} (p : Part) (f : Members → Option A) (n : ℕ) (front : List A) (t : Members) (ts : List Members) → f t ≡ None
    → joined front (shaped_from p f n (t ∷ ts)) ≡ Err (broken.Shape (part_place p n))
shaped_stop p f n front t ts e = rw e refl

-- behind the last table nothing is left
pub shaped_all : {A X : Type 0} (p : Part) (f : Members → Option A) (seen : X → Members) (xs : List X) (i : ℕ) (front : List A) → length xs ≤ i → joined front (shaped_from p f i (map seen (drop i xs))) ≡ Ok front
shaped_all p f seen xs i front end = ap (λ ys. joined front (shaped_from p f i (map seen ys))) (drop_all i xs end) ∙ ap (λ ys. Ok ys) (append-nil front)

-- one pair more
pub zip-push : {A B : Type 0} (xs : List A) (ys : List B) (x : A) (y : B) → length xs ≡ length ys → zip (xs ++ x ∷ []) (ys ++ y ∷ []) ≡ zip xs ys ++ (x, y) ∷ []
zip-push [] [] x y e = refl
zip-push [] (b ∷ ys) x y e = absurd (omega arith)
zip-push (a ∷ xs) [] x y e = absurd (omega arith)
zip-push (a ∷ xs) (b ∷ ys) x y e = ap (λ r. (a, b) ∷ r) (zip-push xs ys x y (omega arith))

-- a list from place i on begins with the item there
pub drop-at : {X : Type 0} (xs : List X) (i : ℕ) (x : X) → i < length xs → x ≡ get_or xs i x → drop i xs ≡ x ∷ drop (i + 1) xs
drop-at xs i x low is = drop_more xs i x low ∙ ap (λ y. y ∷ drop (i + 1) xs) (sym is)
