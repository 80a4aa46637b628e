-- Keys that a predicate equates, and their codes.
use Rattle.std.proofs.Common.{◌≡◌, ℕ, ◌-◌, ◌<◌, ◌≤◌, ◌||◌, Bool, true, false, List, [], ◌∷◌, ◌++◌, ap, ap₂, sym, refl, ◌∙◌, Option, None, Some, arith}
use Rattle.std.specs.Prelude.{ℤ}
use Rattle.std.proofs.lemmas.List.{get_or_append_left}
use Rattle.std.proofs.Math.Seq.{get_or-append_right}
use Rattle.sq_words.proofs.Lists.{map_append}
use Rattle.sq_value.specs.declared.Value.{Value}
use Rattle.sq_value.specs.declared.Value.TheVariants as value
use Rattle.sq_value.specs.Values.{field, is_null}
use Rattle.sq_expr.specs.Trees.{Expr}
use Rattle.sq_expr.specs.Expressions.{pair_of}
use Rattle.sq_aggfn.specs.Groups.{group_of}
use Rattle.sq_expr.specs.Apart.{lacks_one, numbers_for, PartsAgree}
use Rattle.sq_join.specs.EqualFields.{EquatesCodes, EquatesKeys}
use Rattle.sq_pairs.specs.EqualPlaces.{Equates}
use Rattle.sq_join.specs.Codes.{code_by, code_with, code_with_all, key_code, has_null, lone_number}

code-by-some : (o : Option ℤ) (key : List Value) → has_null key ≡ false → code_by o key ≡ None → ⊥
code-by-some (Some number) key none h = cc h
code-by-some None key none h = cc (rw none at h)

-- a key with no Null has a code
pub code-some : (key : List Value) → has_null key ≡ false → key_code key ≡ None → ⊥
code-some key none h = code-by-some (lone_number key) key none h

-- a key that has no code has none with more numbers
pub none_with_all : (ns : List (Option ℤ)) → code_with_all None ns ≡ None
none_with_all [] = refl
none_with_all (n ∷ ns) = refl

with-all-some : (o : Option ℕ) (ns : List (Option ℤ)) → (o ≡ None → ⊥) → lacks_one ns ≡ false → code_with_all o ns ≡ None → ⊥
with-all-some o [] some all h = some h
with-all-some None (n ∷ ns) some all h = some refl
with-all-some (Some code) (None ∷ ns) some all h = cc all
with-all-some (Some code) (Some n ∷ ns) some all h = with-all-some (Some (code_with code n)) ns (λ e. cc e) all h

-- what a predicate equates has the same code on both sides, and has one
pub equates-codes : (on : Expr) (width : ℕ) (lefts rights : List ℕ) (left-parts right-parts : List Expr) → EquatesKeys on width lefts rights → PartsAgree on width left-parts right-parts
    → EquatesCodes on width lefts left-parts rights right-parts
equates-codes on width lefts rights left-parts right-parts keys parts l r wide holds =
    let same = keys l r wide holds in
    let agree = parts l r wide holds in (
      ap₂ code_with_all (ap key_code same.0) agree.0,
      with-all-some (key_code (group_of lefts l)) (numbers_for left-parts l) (code-some (group_of lefts l) same.1) agree.1,
    )

or-false : (b c d : Bool) → (c ≡ false → d ≡ false) → b || c ≡ false → b || d ≡ false
or-false true c d more h = h
or-false false c d more h = more h

has_null-push : (vs : List Value) (v : Value) → has_null vs ≡ false → is_null v ≡ false → has_null (vs ++ v ∷ []) ≡ false
has_null-push [] v none here = rw here refl
has_null-push (w ∷ vs) v none here =
    let more : has_null vs ≡ false → has_null (vs ++ v ∷ []) ≡ false = λ h. has_null-push vs v h here in
    or-false (is_null w) (has_null vs) (has_null (vs ++ v ∷ [])) more none

pub equates-turned : (on : Expr) (one other : ℕ) → Equates on (one, other) → Equates on (other, one)
equates-turned on one other equates t holds =
    let same = equates t holds in
    (sym same.0, rw same.0 at same.1)

-- two places more
pub equates-push : (on : Expr) (width first second : ℕ) (lefts rights : List ℕ) → Equates on (first, second) → first < width → width ≤ second
    → EquatesKeys on width lefts rights → EquatesKeys on width (lefts ++ first ∷ []) (rights ++ (second - width) ∷ [])
equates-push on width first second lefts rights equates low high keys l r wide holds =
    let was = keys l r wide holds in
    let now = equates (pair_of l r) holds in
    let one : field (l.fields ++ r.fields) first ≡ field l.fields first = get_or_append_left l.fields r.fields value.Null first (omega (arith, low, wide)) in
    let other : field (l.fields ++ r.fields) second ≡ field r.fields (second - width) =
    get_or-append_right l.fields r.fields second value.Null (omega (arith, high, wide)) ∙ ap (λ n. field r.fields (second - n)) wide in
    let same : field l.fields first ≡ field r.fields (second - width) = sym one ∙ now.0 ∙ other in
    let some : is_null (field l.fields first) ≡ false = rw one at now.1 in
    let left : group_of (lefts ++ first ∷ []) l ≡ group_of lefts l ++ field l.fields first ∷ [] = map_append (field l.fields) lefts (first ∷ []) in
    let right : group_of (rights ++ (second - width) ∷ []) r ≡ group_of rights r ++ field r.fields (second - width) ∷ [] = map_append (field r.fields) rights ((second - width) ∷ []) in
    (left ∙ ap₂ (λ vs v. vs ++ v ∷ []) was.0 same ∙ sym right, ap has_null left ∙ has_null-push (group_of lefts l) (field l.fields first) was.1 some)
