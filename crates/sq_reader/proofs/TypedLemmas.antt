-- What is known of expressions that are checked.
use Rattle.std.proofs.Common.{◌≡◌, ◌∙◌, subst, refl, ℕ, suc, ◌+◌, Bool, true, false, List, [], ◌∷◌, map, length, ap, Option, Some, None, cond}
use Rattle.std.specs.Prelude.{Ok, Err, is_some}
use Rattle.std.specs.List.{AllByRecursion, cons_option}
use Rattle.sq_value.specs.Values.{Columns}
use Rattle.sq_value.specs.declared.Kind.{Kind}
use Rattle.sq_expr.specs.Trees.{Expr, Checked}
use Rattle.sq_expr.specs.Asts.{Ast}
use Rattle.sq_expr.specs.Kinds.{kind_in, kinds_agree}
use Rattle.sq_expr.specs.Grammar.{parse_in}
use Rattle.sq_expr.specs.Checking.{check_in, kinded, resolved}
use Rattle.sq_expr.specs.declared.TypeErr.TheVariants as error
use Rattle.sq_net.specs.declared.NetErr.{NetErr}
use Rattle.sq_net.specs.declared.NetErr.TheVariants as broken
use Rattle.sq_net.specs.declared.Part.TheVariants as part
use Rattle.sq_net.specs.SoundNetworks.{IsOver, IsPredicate}
use Rattle.sq_tables.specs.Places.{place_at}
use Rattle.sq_reader.specs.Expressions.{allowed, may_be_predicate, may_be_set, or_no_expression, parsed_from, predicate_of, typed_from, typed_in}
use Rattle.sq_reader.specs.Columns.{kinds_set}
use Rattle.sq_tables.proofs.ShapedLemmas.{first_step}
use Rattle.sq_words.specs.Results.{◌>>=◌}

-- an expression that was checked over these columns, of an allowed kind
abbrev pub IsAllowed : (Option Kind → Bool) → Columns → Checked → Type 0
IsAllowed may cs x = IsOver cs x × (may (kind_in x.scope x.tree) ≡ true)

allowed_is : (b : NetErr) (may : Option Kind → Bool) (cs : Columns) (o : Option Expr) (x : Checked) → allowed b may cs (kinded cs o) ≡ Ok x → IsAllowed may cs x
allowed_is b may cs None x h = cc
allowed_is b may cs (Some e) x h = by_kinds (kinds_agree cs e) refl h
  where
    built : Checked
    built = record { scope = cs; tree = e }

    by_kind : (t : Bool) → may (kind_in cs e) ≡ t → kinds_agree cs e ≡ true → cond t (Ok (record { scope = cs; tree = e })) (Err b) ≡ Ok x → IsAllowed may cs x
    by_kind true is agree h =
        let same : record { scope = cs; tree = e } ≡ x = cc in
        let P : Checked → Type 0 = IsAllowed may cs in
        subst P same ((refl, agree), is)
    by_kind false is agree h = cc

    by_kinds : (t : Bool) → kinds_agree cs e ≡ t → allowed b may cs (cond t (Ok (e, kind_in cs e)) (Err error.Mismatch)) ≡ Ok x → IsAllowed may cs x
    by_kinds true agree h = by_kind (may (kind_in cs e)) refl agree h
    by_kinds false agree h = cc

pub parsed_length : (n i : ℕ) (ws : List (List ℕ)) (asts : List Ast) → parsed_from n i ws ≡ Ok asts → length asts ≡ length ws
parsed_length n i [] asts h = let same : [] ≡ asts = cc in rw (← same) refl
parsed_length n i (w ∷ ws) asts h =
    let one = first_step (or_no_expression n i (parse_in w)) (λ a. parsed_from n (i + 1) ws >>= λ rest. Ok (a ∷ rest)) asts h in
    let two = first_step (parsed_from n (i + 1) ws) (λ rest. Ok (one.0 ∷ rest)) asts one.1.1 in
    let same : one.0 ∷ two.0 ≡ asts = (let last = two.1.1 in cc) in
    rw (← same) (ap suc (parsed_length n (i + 1) ws two.0 two.1.0))

pub typed_each : (n i : ℕ) (may : Option Kind → Bool) (cs : Columns) (asts : List Ast) (es : List Checked) → typed_from n i may cs asts ≡ Ok es
    → AllByRecursion (IsAllowed may cs) es × (length es ≡ length asts)
typed_each n i may cs [] es h =
    let same : [] ≡ es = cc in
    let P : List Checked → Type 0 = λ xs. AllByRecursion (IsAllowed may cs) xs × (length xs ≡ 0) in
    subst P same (tt, refl)
typed_each n i may cs (a ∷ as') es h =
    let fault : NetErr = broken.Typing (place_at part.Box n i) in
    let one = first_step (allowed fault may cs (check_in cs a)) (λ e. typed_from n (i + 1) may cs as' >>= λ rest. Ok (e ∷ rest)) es h in
    let two = first_step (typed_from n (i + 1) may cs as') (λ rest. Ok (one.0 ∷ rest)) es one.1.1 in
    let same : one.0 ∷ two.0 ≡ es = (let last = two.1.1 in cc) in
    let more = typed_each n (i + 1) may cs as' two.0 two.1.0 in
    let P : List Checked → Type 0 = λ xs. AllByRecursion (IsAllowed may cs) xs × (length xs ≡ suc (length as')) in
    subst P same ((allowed_is fault may cs (resolved cs a) one.0 one.1.0, more.0), ap suc more.1)

pub typed_all : (n : ℕ) (may : Option Kind → Bool) (cs : Columns) (texts : List (List ℕ)) (es : List Checked) → typed_in n may cs texts ≡ Ok es
    → AllByRecursion (IsAllowed may cs) es × (length es ≡ length texts)
typed_all n may cs texts es h =
    let one = first_step (parsed_from n 0 texts) (λ asts. typed_from n 0 may cs asts) es h in
    let each = typed_each n 0 may cs one.0 es one.1.1 in
    (each.0, each.1 ∙ parsed_length n 0 texts one.0 one.1.0)

pub over_each : (may : Option Kind → Bool) (cs : Columns) (es : List Checked) → AllByRecursion (IsAllowed may cs) es → AllByRecursion (IsOver cs) es
over_each may cs [] h = tt
over_each may cs (e ∷ es) h = (h.0.0, over_each may cs es h.1)

-- each expression of a Map has a kind
pub kinds_are_set : (cs : Columns) (es : List Checked) → AllByRecursion (IsAllowed may_be_set cs) es → map (λ e. kind_in e.scope e.tree) es ≡ map Some (kinds_set es)
kinds_are_set cs [] h = refl
kinds_are_set cs (e ∷ es) h = by_case (kind_in e.scope e.tree) h.0.1 (kinds_are_set cs es h.1)
  where
    by_case : (o : Option Kind) → is_some o ≡ true → map (λ (x : Checked). kind_in x.scope x.tree) es ≡ map Some (kinds_set es)
        → (o ∷ map (λ (x : Checked). kind_in x.scope x.tree) es) ≡ map Some (cons_option o (kinds_set es))
    by_case None is more = cc
    by_case (Some k) is more = ap (λ (os : List (Option Kind)). Some k ∷ os) more

pub predicate_is : (n : ℕ) (cs : Columns) (text : List ℕ) (e : Checked) → predicate_of n cs text ≡ Ok e → IsPredicate cs e
predicate_is n cs text e h =
    let fault : NetErr = broken.Typing (place_at part.Box n 0) in
    let one = first_step (or_no_expression n 0 (parse_in text)) (λ a. allowed fault may_be_predicate cs (check_in cs a)) e h in
    allowed_is fault may_be_predicate cs (resolved cs one.0) e one.1.1
