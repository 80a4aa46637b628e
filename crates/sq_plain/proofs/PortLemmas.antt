-- The predicate that is guessed is the only one that may be true.
use Rattle.std.proofs.Common.{◌≡◌, ℕ, zero, suc, ◌+◌, ◌<◌, ◌≤◌, true, false, List, [], ◌∷◌, length, Some, refl, ap, sym, ◌∙◌, arith}
use Rattle.std.specs.Prelude.{slice_get}
use Rattle.std.proofs.lemmas.Bool.{false_from_ne_true}
use Rattle.sq_value.specs.declared.Value.{Value}
use Rattle.sq_value.specs.declared.Tuple.{Tuple}
use Rattle.sq_value.specs.Values.{field}
use Rattle.sq_expr.specs.Apart.{Fixes}
use Rattle.sq_expr.specs.Trees.{Expr, Checked}
use Rattle.sq_expr.specs.Checking.{trees}
use Rattle.sq_expr.specs.Expressions.{holds_of}
use Rattle.sq_lists.specs.Boxes.{port_taken}
use Rattle.sq_plain.specs.declared.ports.Ports.{Ports}
use Rattle.sq_plain.specs.Ports.{guess_of, IsGuessed, AreGuessed}

-- a predicate that asks for a value by which its number is guessed
pub guessed-fixed : (ports : Ports) (number place : ℕ) (e : Expr) (v : Value) → Fixes e place v → place ≡ ports.place → guess_of ports v ≡ number → IsGuessed ports number e
guessed-fixed ports number place e v fixes here guess t holds =
    ap (guess_of ports) (ap (field t.fields) (sym here) ∙ (fixes t holds).0) ∙ guess

get-below : (ps : List Checked) (k : ℕ) (p : Checked) → slice_get ps k ≡ Some p → k < length ps
get-below [] k p at = absurd (cc at)
get-below (q ∷ ps) zero p at = omega arith
get-below (q ∷ ps) (suc k) p at = let more = get-below ps k p at in omega (arith, more)

module _ (ports : Ports) (t : Tuple) where
  abbrev guess : ℕ
  guess = guess_of ports (field t.fields ports.place)

  -- one that is true is the first that is, and the one that is guessed
  found-from : (first : ℕ) (ps : List Checked) (k : ℕ) (p : Checked) → AreGuessed ports first (trees ps) → slice_get ps k ≡ Some p → holds_of p.tree t ≡ true
      → (port_taken (trees ps) t ≡ k) × (guess ≡ first + k)
  found-from first [] k p all at holds = absurd (cc at)
  found-from first (q ∷ ps) zero p all at holds =
      let same : q ≡ p = cc at in
      let is-true : holds_of q.tree t ≡ true = rw same holds in
      let here = all.0 t is-true in
      (rw is-true refl, omega (arith, here))
  found-from first (q ∷ ps) (suc k) p all at holds =
      let more = found-from (suc first) ps k p all.1 at holds in
      let other : holds_of q.tree t ≡ false = false_from_ne_true (holds_of q.tree t) (λ h. let here = all.0 t h in omega (arith, here, more.1)) in
      (rw other (ap suc more.0), omega (arith, more.1))

  -- where the guessed one isn't, none is
  none-from : (first : ℕ) (ps : List Checked) → AreGuessed ports first (trees ps) → ((k : ℕ) (p : Checked) → slice_get ps k ≡ Some p → guess ≡ first + k → holds_of p.tree t ≡ false)
      → port_taken (trees ps) t ≡ length ps
  none-from first [] all fails = refl
  none-from first (q ∷ ps) all fails =
      let other : holds_of q.tree t ≡ false = false_from_ne_true (holds_of q.tree t) (λ h.
      let here = all.0 t h in let fail = fails 0 q refl (omega (arith, here)) in cc (h, fail)) in
      rw other (ap suc (none-from (suc first) ps all.1 (λ k p at guessed. fails (suc k) p at (omega (arith, guessed)))))

  pub guess_found : (ps : List Checked) (p : Checked) → AreGuessed ports 0 (trees ps) → slice_get ps guess ≡ Some p → holds_of p.tree t ≡ true → port_taken (trees ps) t ≡ guess
  guess_found ps p all at holds = (found-from 0 ps guess p all at holds).0

  pub guess_fails : (ps : List Checked) (p : Checked) → AreGuessed ports 0 (trees ps) → slice_get ps guess ≡ Some p → holds_of p.tree t ≡ false → port_taken (trees ps) t ≡ length ps
  guess_fails ps p all at fails =
      none-from 0 ps all (λ k q here guessed.
      let is : guess ≡ k = omega (arith, guessed) in
      let same : p ≡ q = cc (rw is at at, here) in
      rw same at fails)

  pub guess_beyond : (ps : List Checked) → AreGuessed ports 0 (trees ps) → length ps ≤ guess → port_taken (trees ps) t ≡ length ps
  guess_beyond ps all beyond = none-from 0 ps all (λ k q here guessed. absurd (let below = get-below ps k q here in omega (arith, below, guessed, beyond)))
