-- The text of a list, up to an element and from there on, and of a list with numbers beside it.
use Rattle.std.proofs.Common.{◌≡◌, ℕ, ◌+◌, ◌<◌, ◌≤◌, List, [], ◌∷◌, ◌++◌, length, take, drop, get_or, ap, sym, ◌∙◌, arith, append-nil}
use Rattle.std.specs.List.{flat_map, zip}
use Rattle.std.proofs.lemmas.List.{get_or_default, length-map, take_all, take-append-drop, take_more}
use Rattle.std.proofs.lemmas.Slice.Zip.{firsts-zip, get_or-zip}
use Rattle.std.proofs.lemmas.Grind.{flat_map-append}
use Rattle.sq_lines.specs.RunLines.{AppendsPart}

module _ {X : Type 0} where
  pub text-more : (f : X → List ℕ) (xs : List X) (i : ℕ) (x : X) → i < length xs → x ≡ get_or xs i x → flat_map f (take (i + 1) xs) ≡ flat_map f (take i xs) ++ f x
  text-more f xs i x inside at =
      ap (flat_map f) (take_more xs i x inside)
      ∙ flat_map-append f (take i xs) (get_or xs i x ∷ [])
      ∙ ap (λ y. flat_map f (take i xs) ++ (f y ++ [])) (sym at)
      ∙ ap (λ y. flat_map f (take i xs) ++ y) (append-nil (f x))

  pub text-rest : (f : X → List ℕ) (xs : List X) (i : ℕ) → flat_map f xs ≡ flat_map f (take i xs) ++ flat_map f (drop i xs)
  text-rest f xs i = ap (flat_map f) (sym (take-append-drop i xs)) ∙ flat_map-append f (take i xs) (drop i xs)

  -- the elements so far are a part
  pub part_so_far : (f : X → List ℕ) (xs : List X) (i : ℕ) (before mid now : List ℕ) → mid ≡ before ++ flat_map f (take i xs) → now ≡ mid → AppendsPart before now (flat_map f xs)
  part_so_far f xs i before mid now a b = (flat_map f (take i xs), (flat_map f (drop i xs), text-rest f xs i), b ∙ a)

-- a list and one of numbers beside it
module _ {A : Type 0} (xs : List A) (ks : List ℕ) (even : length ks ≡ length xs) (i : ℕ) where
  zip_length : length (zip xs ks) ≡ length xs
  zip_length = sym (length-map (zip xs ks) (λ p. p.0)) ∙ ap (λ (zs : List A). length zs) (firsts-zip xs ks even)

  pub pairs_all : length xs ≤ i → take i (zip xs ks) ≡ zip xs ks
  pairs_all past = take_all i (zip xs ks) (omega (arith, zip_length, past))

  -- one pair more
  module _ (x : A) (inside : i < length xs) (at : x ≡ get_or xs i x) where
    abbrev pub pair : A × ℕ
    pair = (x, get_or ks i 0)

    pub pair_at : pair ≡ get_or (zip xs ks) i pair
    pair_at =
        let second : i < length ks = omega (arith, even, inside) in
        ap (λ (a : A). (a, get_or ks i 0)) at
        ∙ ap (λ (k : ℕ). (get_or xs i x, k)) (get_or_default ks i 0 (get_or ks i 0) second)
        ∙ sym (get_or-zip xs ks i pair inside second)

    pub pair_inside : i < length (zip xs ks)
    pair_inside = omega (arith, zip_length, inside)

    pub pairs_text-more : (f : A × ℕ → List ℕ) → flat_map f (take (i + 1) (zip xs ks)) ≡ flat_map f (take i (zip xs ks)) ++ f pair
    pairs_text-more f = text-more f (zip xs ks) i pair pair_inside pair_at
