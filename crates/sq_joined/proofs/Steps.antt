-- Steps of the loops.
use Rattle.std.proofs.Common.{◌≡◌, ◌≢◌, ◌∙◌, ap, sym, refl, ℕ, zero, suc, ◌+◌, ◌<◌, ◌≤◌, Bool, true, false, cond, List, [], ◌∷◌, ◌++◌, map, length, take, drop, get_or, slice_get, arith, append_assoc}
use Rattle.std.proofs.lemmas.List.{map-append}
use Rattle.sq_graph.specs.declared.BoxWires.{BoxWires}
use Rattle.sq_graph.specs.declared.Wiring.{Wiring}
use Rattle.std.specs.List.{filter}
use Rattle.sq_joined.specs.Staying.{staying, stays, box_moved, stream_moved, streams_staying, passes}
use Rattle.sq_joined.specs.Joining.{query_moved, rewired, tap_wires, joined_wires}

pub moved_later : (tap stream : ℕ) → stream ≢ 0 → query_moved tap stream ≡ tap + 1 + stream
moved_later tap zero h = absurd (h refl)
moved_later tap (suc stream) h = omega arith

-- ---- counting

count_next : {X : Type 0} (t : X → Bool) (xs : List X) (i : ℕ) → length (filter t (take (suc i) xs)) ≡ length (filter t (take i xs)) + cond (passes t (slice_get xs i)) 1 0
count_next t [] zero = refl
count_next t [] (suc i) = refl
count_next t (x ∷ xs) zero = by (t x)
  where
    by : (b : Bool) → length (cond b (x ∷ []) []) ≡ 0 + cond b 1 0
    by true = refl
    by false = refl
count_next t (x ∷ xs) (suc i) = by (t x) (count_next t xs i)
  where
    by : (b : Bool) → length (filter t (take (suc i) xs)) ≡ length (filter t (take i xs)) + cond (passes t (slice_get xs i)) 1 0
        → length (cond b (x ∷ filter t (take (suc i) xs)) (filter t (take (suc i) xs))) ≡ length (cond b (x ∷ filter t (take i xs)) (filter t (take i xs))) + cond (passes t (slice_get xs i)) 1 0
    by true h = omega (arith, h)
    by false h = h

pub count_more : {X : Type 0} (t : X → Bool) (xs : List X) (i : ℕ) → length (filter t (take (i + 1) xs)) ≡ length (filter t (take i xs)) + cond (passes t (slice_get xs i)) 1 0
count_more t xs i = (let e : i + 1 ≡ suc i = omega arith in ap (λ k. length (filter t (take k xs))) e) ∙ count_next t xs i

set_is : (keep : List Bool) (i : ℕ) → passes (λ k. k) (slice_get keep i) ≡ stays keep i
set_is [] i = refl
set_is (k ∷ keep) zero = refl
set_is (k ∷ keep) (suc i) = set_is keep i

pub moved_more : (keep : List Bool) (i : ℕ) → box_moved keep (i + 1) ≡ box_moved keep i + cond (stays keep i) 1 0
moved_more keep i = count_more (λ k. k) keep i ∙ ap (λ b. box_moved keep i + cond b 1 0) (set_is keep i)

pub count_staying : {X : Type 0} (keep : List Bool) (xs : List X) → length keep ≡ length xs → box_moved keep (length keep) ≡ length (staying keep xs)
count_staying [] xs h = refl
count_staying (k ∷ keep) [] h = absurd (omega arith)
count_staying (true ∷ keep) (x ∷ xs) h = ap suc (count_staying keep xs (omega arith))
count_staying (false ∷ keep) (x ∷ xs) h = count_staying keep xs (omega arith)

-- ---- what stays, step by step

staying_next : {X : Type 0} (keep : List Bool) (xs : List X) (i : ℕ) (d : X) → i < length xs
    → staying (take (suc i) keep) (take (suc i) xs) ≡ staying (take i keep) (take i xs) ++ cond (stays keep i) (get_or xs i d ∷ []) []
staying_next [] xs zero d low = refl
staying_next [] xs (suc i) d low = refl
staying_next (k ∷ keep) [] i d low = absurd (omega arith)
staying_next (true ∷ keep) (x ∷ xs) zero d low = none keep
  where
    none : (keep : List Bool) → x ∷ staying (take 0 keep) (take 0 xs) ≡ x ∷ []
    none keep = refl
staying_next (false ∷ keep) (x ∷ xs) zero d low = refl
staying_next (true ∷ keep) (x ∷ xs) (suc i) d low = ap (λ ys. x ∷ ys) (staying_next keep xs i d (omega arith))
staying_next (false ∷ keep) (x ∷ xs) (suc i) d low = staying_next keep xs i d (omega arith)

pub staying_more : {X : Type 0} (keep : List Bool) (xs : List X) (i : ℕ) (d : X) → i < length xs
    → staying (take (i + 1) keep) (take (i + 1) xs) ≡ staying (take i keep) (take i xs) ++ cond (stays keep i) (get_or xs i d ∷ []) []
staying_more keep xs i d low = (let e : i + 1 ≡ suc i = omega arith in ap (λ k. staying (take k keep) (take k xs)) e) ∙ staying_next keep xs i d low

rest_next : {X : Type 0} (keep : List Bool) (i : ℕ) (x : X) (xs : List X) → staying (drop i keep) (x ∷ xs) ≡ cond (stays keep i) (x ∷ []) [] ++ staying (drop (suc i) keep) xs
rest_next [] zero x xs = refl
rest_next [] (suc i) x xs = refl
rest_next (true ∷ keep) zero x xs = refl
rest_next (false ∷ keep) zero x xs = refl
rest_next (k ∷ keep) (suc i) x xs = rest_next keep i x xs

pub rest_more : {X : Type 0} (keep : List Bool) (i : ℕ) (x : X) (xs : List X) → staying (drop i keep) (x ∷ xs) ≡ cond (stays keep i) (x ∷ []) [] ++ staying (drop (i + 1) keep) xs
rest_more keep i x xs = rest_next keep i x xs ∙ (let e : suc i ≡ i + 1 = omega arith in ap (λ k. cond (stays keep i) (x ∷ []) [] ++ staying (drop k keep) xs) e)

pub staying_none : {X : Type 0} (keep : List Bool) (xs : List X) → length xs ≡ 0 → staying keep xs ≡ []
staying_none [] xs h = refl
staying_none (k ∷ keep) [] h = refl
staying_none (k ∷ keep) (x ∷ xs) h = absurd (omega arith)

pub one_at_most : (b : Bool) → cond b 1 0 ≤ 1
one_at_most true = omega arith
one_at_most false = omega arith

map_one : {X Y : Type 0} (f : X → Y) (b : Bool) (x : X) → map f (cond b (x ∷ []) []) ≡ cond b (f x ∷ []) []
map_one f true x = refl
map_one f false x = refl

pub staying_pushed : {X Y : Type 0} (f : X → Y) (keep : List Bool) (xs : List X) (i : ℕ) (x : X) (olds news : List Y) → i < length xs → x ≡ get_or xs i x
    → olds ≡ map f (staying (take i keep) (take i xs)) → news ≡ olds ++ cond (stays keep i) (f x ∷ []) []
    → news ≡ map f (staying (take (i + 1) keep) (take (i + 1) xs))
staying_pushed f keep xs i x olds news low is before pushed =
    pushed
    ∙ ap (λ ys. ys ++ cond (stays keep i) (f x ∷ []) []) before
    ∙ ap (λ ys. map f (staying (take i keep) (take i xs)) ++ ys) (sym (map_one f (stays keep i) x))
    ∙ sym (map-append f (staying (take i keep) (take i xs)) (cond (stays keep i) (x ∷ []) []))
    ∙ ap (map f)
    (ap (λ y. staying (take i keep) (take i xs) ++ cond (stays keep i) (y ∷ []) []) is
    ∙ sym (staying_more keep xs i x low))

pub wiring_is : (w : Wiring) (keep : List Bool) (stream : ℕ) (q : Wiring) (tap : ℕ) (stayed more all : List BoxWires) (one : BoxWires) (outs : List ℕ)
    → tap ≡ streams_staying w keep → stayed ≡ map (rewired (stream_moved w keep)) (staying keep w.boxes) → one ≡ tap_wires (stream_moved w keep stream)
    → more ≡ stayed ++ one ∷ [] → all ≡ more ++ map (rewired (query_moved tap)) q.boxes → outs ≡ map (query_moved tap) q.outputs
    → record { sources = w.sources; boxes = all; outputs = outs } ≡ joined_wires w keep stream q
wiring_is w keep stream q tap stayed more all one outs at stay is pushed appended shown =
    ap (λ (bs : List BoxWires). wiring bs outs) boxes_are ∙ ap (wiring joined) outs_are
  where
    wiring : List BoxWires → List ℕ → Wiring
    wiring bs os = record { sources = w.sources; boxes = bs; outputs = os }

    joined : List BoxWires
    joined = map (rewired (stream_moved w keep)) (staying keep w.boxes) ++ tap_wires (stream_moved w keep stream) ∷ map (rewired (query_moved (streams_staying w keep))) q.boxes

    boxes_are : all ≡ joined
    boxes_are =
        appended
        ∙ ap (λ bs. bs ++ map (rewired (query_moved tap)) q.boxes) (pushed ∙ ap (λ bs. bs ++ one ∷ []) stay ∙ ap (λ b. map (rewired (stream_moved w keep)) (staying keep w.boxes) ++ b ∷ []) is)
        ∙ append_assoc (map (rewired (stream_moved w keep)) (staying keep w.boxes)) (tap_wires (stream_moved w keep stream) ∷ []) (map (rewired (query_moved tap)) q.boxes)
        ∙ ap (λ k. map (rewired (stream_moved w keep)) (staying keep w.boxes) ++ tap_wires (stream_moved w keep stream) ∷ map (rewired (query_moved k)) q.boxes) at

    outs_are : outs ≡ map (query_moved (streams_staying w keep)) q.outputs
    outs_are = shown ∙ ap (λ k. map (query_moved k) q.outputs) at
