-- Names and their numbers in a table.
use Rattle.std.proofs.Common.{◌≡◌, ◌∙◌, sym, ap, refl, ℕ, ◌+◌, ◌<◌, ◌≤◌, Bool, true, false, List, [], ◌∷◌, ◌++◌, length, drop, get_or, Bor, Option, Some, None, cond}
use Rattle.std.proofs.Math.Path.{fun_ext}
use Rattle.std.specs.Prelude.{is_some}
use Rattle.std.specs.List.{position_from}
use Rattle.std.specs.Str.{bytes_eq}
use Rattle.std.proofs.lemmas.List.{drop_all}
use Rattle.std.proofs.lemmas.Map.Text.{is_eq-slice_cmp}
use Rattle.sq_words.specs.Lists.{same_bytes}
use Rattle.sq_tables.specs.Places.{or_else}
use Rattle.sq_rules.specs.Streaming.{Numbers, also_numbered, number_named, told_stream_named}
use Rattle.sq_tables.proofs.ShapedLemmas.{drop-at}
use Rattle.sq_words.proofs.Lists.{same_bytes_true}

alone : (o : Option ℕ) → o ≡ or_else o None
alone None = refl
alone (Some n) = refl

number_push : (es : List (Bor (List ℕ) × ℕ)) (key : Bor (List ℕ)) (n : ℕ) (w : List ℕ) → number_named (es ++ (key, n) ∷ []) w ≡ or_else (number_named es w) (number_named ((key, n) ∷ []) w)
number_push [] key n w = refl
number_push (e ∷ es) key n w = by_test (bytes_eq w (e.0).now) (number_push es key n w)
  where
    by_test : (b : Bool) → number_named (es ++ (key, n) ∷ []) w ≡ or_else (number_named es w) (number_named ((key, n) ∷ []) w)
        → cond b (Some e.1) (number_named (es ++ (key, n) ∷ []) w) ≡ or_else (cond b (Some e.1) (number_named es w)) (number_named ((key, n) ∷ []) w)
    by_test true more = refl
    by_test false more = more

-- a text more
pub number_new : (es : List (Bor (List ℕ) × ℕ)) (key : Bor (List ℕ)) (n : ℕ) (w : List ℕ) → number_named (es ++ (key, n) ∷ []) w ≡ also_numbered (number_named es) key.now n w
number_new es key n w = number_push es key n w ∙ ap (λ (b : Bool). or_else (number_named es w) (cond b (Some n) None)) (sym (is_eq-slice_cmp w key.now))

-- a text that has a number keeps it
pub number_old : (number_of : Numbers) (x : List ℕ) (n : ℕ) (w : List ℕ) → is_some (number_of x) ≡ true → number_of w ≡ also_numbered number_of x n w
number_old number_of x n w there = by_test (same_bytes w x) refl
  where
    kept : (o more : Option ℕ) → is_some o ≡ true → o ≡ or_else o more
    kept None more h = cc
    kept (Some m) more h = refl

    by_test : (b : Bool) → same_bytes w x ≡ b → number_of w ≡ or_else (number_of w) (cond b (Some n) None)
    by_test true is = kept (number_of w) (Some n) (ap (λ (v : List ℕ). is_some (number_of v)) (same_bytes_true w x is) ∙ there)
    by_test false is = alone (number_of w)

-- the numbers so far, and then those of the names from place i on
abbrev pub numbered : Numbers → List (List ℕ) → ℕ → Numbers
numbered number_of names i w = or_else (number_of w) (position_from (same_bytes w) i (drop i names))

pub numbers_more : (old new : Numbers) (names : List (List ℕ)) (i : ℕ) (x : List ℕ) → i < length names → x ≡ get_or names i x → ((w : List ℕ) → new w ≡ also_numbered old x i w)
    → (w : List ℕ) → numbered new names (i + 1) w ≡ numbered old names i w
numbers_more old new names i x low is step w =
    ap (λ (o : Option ℕ). or_else o (position_from (same_bytes w) (i + 1) (drop (i + 1) names))) (step w)
    ∙ (first (old w) (same_bytes w x) (position_from (same_bytes w) (i + 1) (drop (i + 1) names))
    ∙ ap (λ (ns : List (List ℕ)). or_else (old w) (position_from (same_bytes w) i ns)) (sym (drop-at names i x low is)))
  where
    first : (o : Option ℕ) (b : Bool) (more : Option ℕ) → or_else (or_else o (cond b (Some i) None)) more ≡ or_else o (cond b (Some i) more)
    first (Some n) b more = refl
    first None true more = refl
    first None false more = refl

pub numbers_all : (number_of : Numbers) (names : List (List ℕ)) (i : ℕ) → length names ≤ i → ((w : List ℕ) → numbered number_of names i w ≡ told_stream_named names w) → number_of ≡ told_stream_named names
numbers_all number_of names i all h =
    fun_ext (λ w. alone (number_of w) ∙ (ap (λ (ns : List (List ℕ)). or_else (number_of w) (position_from (same_bytes w) i ns)) (sym (drop_all i names all)) ∙ h w))
