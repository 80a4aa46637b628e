-- What was given, and prefixes of it.
use Rattle.std.proofs.Common.{◌≡◌, ℕ, ◌≤◌, eqb, cond, List, [], ◌∷◌, ◌++◌, refl, ap, sym, ◌∙◌, append_assoc, append-nil, arith}
use Rattle.sq_words.specs.Lists.{IsPrefixOf}
use Rattle.sq_item.specs.declared.Item.{Item}
use Rattle.sq_item.specs.Things.{Thing, spread}
use Rattle.sq_item.specs.SoundItems.{IsSoundItem}
use Rattle.sq_oper.specs.Outflow.{given, ItemsSound, ThingsUpTo}
use Rattle.sq_words.proofs.Prefixes.{prefix_itself}

pub given-append : (q : ℕ) (xs ys : List (ℕ × Item)) → given q (xs ++ ys) ≡ given q xs ++ given q ys
given-append q [] ys = refl
given-append q (x ∷ xs) ys =
    ap (λ zs. cond (eqb x.0 q) (spread x.1) [] ++ zs) (given-append q xs ys) ∙ sym (append_assoc (cond (eqb x.0 q) (spread x.1) []) (given q xs) (given q ys))

pub given-push : (q p : ℕ) (xs : List (ℕ × Item)) (i : Item) → given q (xs ++ (p, i) ∷ []) ≡ given q xs ++ cond (eqb p q) (spread i) []
given-push q p xs i = given-append q xs ((p, i) ∷ []) ∙ ap (λ zs. given q xs ++ zs) (append-nil (cond (eqb p q) (spread i) []))

pub IsPrefixOf-append : {A : Type 0} (xs ys : List A) → IsPrefixOf xs (xs ++ ys)
IsPrefixOf-append xs ys = (ys, refl)

pub IsPrefixOf-longer : {A : Type 0} (xs ys zs ws : List A) → IsPrefixOf xs (ys ++ zs) → IsPrefixOf xs (ys ++ (zs ++ ws))
IsPrefixOf-longer xs ys zs ws (more, same) = (more ++ ws, sym (append_assoc ys zs ws) ∙ ap (λ l. l ++ ws) same ∙ append_assoc xs more ws)

pub ItemsSound-push : (p : ℕ) (xs : List (ℕ × Item)) (i : Item) → IsSoundItem i → ItemsSound xs → ItemsSound (xs ++ (p, i) ∷ [])
ItemsSound-push p [] i h k = (h, tt)
ItemsSound-push p (x ∷ xs) i h k = (k.0, ItemsSound-push p xs i h k.1)

pub ThingsUpTo-append : (t : ℕ) (xs ys : List Thing) → ThingsUpTo t xs → ThingsUpTo t ys → ThingsUpTo t (xs ++ ys)
ThingsUpTo-append t [] ys h k = k
ThingsUpTo-append t (x ∷ xs) ys h k = (h.0, ThingsUpTo-append t xs ys h.1 k)

pub ThingsUpTo-split : (t : ℕ) (xs ys : List Thing) → ThingsUpTo t (xs ++ ys) → ThingsUpTo t xs × ThingsUpTo t ys
ThingsUpTo-split t [] ys h = (tt, h)
ThingsUpTo-split t (x ∷ xs) ys h = let r = ThingsUpTo-split t xs ys h.1 in ((h.0, r.0), r.1)

pub ThingsUpTo-later : (t u : ℕ) (xs : List Thing) → t ≤ u → ThingsUpTo t xs → ThingsUpTo u xs
ThingsUpTo-later t u [] le h = tt
ThingsUpTo-later t u (x ∷ xs) le h = (omega (arith, h.0), ThingsUpTo-later t u xs le h.1)

pub ruleset given_lemmas = (given-push, ItemsSound-push, prefix_itself, IsPrefixOf-append)
