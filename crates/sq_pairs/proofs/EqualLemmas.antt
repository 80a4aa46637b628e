-- What a predicate asks to be equal.
use Rattle.std.proofs.Common.{◌≡◌, ℕ, Vec, List, [], ◌∷◌, subst}
use Rattle.std.specs.Prelude.{Some, slice_get, Result, Ok, Err, IfOk}
use Rattle.std.specs.declared.alloc.Global.{Global}
use Rattle.std.specs.List.{AllByRecursion}
use Rattle.sq_value.specs.Values.{field}
use Rattle.sq_expr.specs.Keys.{equated}
use Rattle.sq_expr.specs.Trees.{Expr, Field, Compare, Logic}
use Rattle.sq_expr.specs.declared.CompareOp.TheVariants as compare
use Rattle.sq_expr.specs.declared.LogicOp.TheVariants as logic
use Rattle.sq_expr.specs.Expressions.{value_of}
use Rattle.sq_pairs.specs.EqualPlaces.{Equates}
use Rattle.sq_words.proofs.Alls.{all_append, all_weaker}
use Rattle.sq_expr.proofs.EqualLemmas.{compared-equal, both-true}
use Rattle.sq_expr.proofs.ApartLemmas.{compared-some}

-- each two places that a predicate equates
pub equates-all : (e : Expr) → AllByRecursion (Equates e) (equated e)
equates-all (Compare compare.Equal (Field a) (Field b)) =
    ((λ t h. (compared-equal (field t.fields a) (field t.fields b) h, compared-some (field t.fields a) (field t.fields b) h)), tt)
equates-all (Logic logic.And p q) =
    all_append (Equates (Logic logic.And p q)) (equated p) (equated q)
    (all_weaker (Equates p) (Equates (Logic logic.And p q)) (λ places same t h. same t (both-true (value_of p t) (value_of q t) h).0) (equated p) (equates-all p))
    (all_weaker (Equates q) (Equates (Logic logic.And p q)) (λ places same t h. same t (both-true (value_of p t) (value_of q t) h).1) (equated q) (equates-all q))
equates-all e = tt

pub first-of : {A : Type 0} (P : A → Type 0) (xs : List A) (x : A) → Some x ≡ slice_get xs 0 → AllByRecursion P xs → P x
first-of P [] x h all = absurd (cc h)
first-of P (y ∷ ys) x h all =
    let same : y ≡ x = cc h in
    subst P same all.0

-- the places that were found, if there was memory
pub IfOk-equates : {E : Type 0} (e : Expr) (r : Result (Vec (ℕ × ℕ) Global) E) → IfOk r (λ pairs. pairs.items ≡ equated e) → IfOk r (λ pairs. AllByRecursion (Equates e) pairs.items)
IfOk-equates e (Ok pairs) is = rw is (equates-all e)
IfOk-equates e (Err why) is = tt
