-- One name of a loop that looks for a repeat.
use Rattle.std.proofs.Common.{◌≡◌, ℕ, ◌+◌, ◌<◌, true, false, ◌||◌, List, [], ◌∷◌, ◌++◌, length, get_or, drop, map, Some, Bor, refl, sym, ap, ◌∙◌}
use Rattle.std.proofs.lemmas.List.{drop_more, map-append}
use Rattle.std.specs.List.{list_any}
use Rattle.std.specs.Str.{bytes_eq}
use Rattle.sq_rules.specs.Naming.{repeat_after}

abbrev pub texts : List (Bor (List ℕ)) → List (List ℕ)
texts ks = map (λ s. s.now) ks

list_any-texts : (x : List ℕ) (ks : List (Bor (List ℕ))) → list_any (bytes_eq x) (texts ks) ≡ list_any (λ k. bytes_eq x k.now) ks
list_any-texts x [] = refl
list_any-texts x (k ∷ ks) = ap (λ b. bytes_eq x k.now || b) (list_any-texts x ks)

-- the names from place i on begin with the one there
names-drop : (names : List (List ℕ)) (i : ℕ) (name text : List ℕ) → i < length names → name ≡ get_or names i name → text ≡ name → drop i names ≡ text ∷ drop (i + 1) names
names-drop names i name text low is same = drop_more names i name low ∙ ap (λ t. t ∷ drop (i + 1) names) (sym is ∙ sym same)

pub repeat_after-found : (ks : List (Bor (List ℕ))) (key : Bor (List ℕ)) (names : List (List ℕ)) (i : ℕ) (name : List ℕ) → i < length names → name ≡ get_or names i name → key.now ≡ name
    → list_any (λ k. bytes_eq key.now k.now) ks ≡ true → repeat_after (texts ks) i (drop i names) ≡ Some i
repeat_after-found ks key names i name low is same found = rw (names-drop names i name key.now low is same, list_any-texts key.now ks, found) refl

pub repeat_after-new : (ks : List (Bor (List ℕ))) (key : Bor (List ℕ)) (names : List (List ℕ)) (i : ℕ) (name : List ℕ) → i < length names → name ≡ get_or names i name → key.now ≡ name
    → list_any (λ k. bytes_eq key.now k.now) ks ≡ false
    → repeat_after (texts ks) i (drop i names) ≡ repeat_after (texts (ks ++ key ∷ [])) (i + 1) (drop (i + 1) names)
repeat_after-new ks key names i name low is same fresh =
    rw (names-drop names i name key.now low is same, list_any-texts key.now ks, fresh, map-append (λ (s : Bor (List ℕ)). s.now) ks (key ∷ [])) refl
