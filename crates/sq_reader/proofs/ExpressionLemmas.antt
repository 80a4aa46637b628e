-- One expression more.
use Rattle.std.proofs.Common.{◌≡◌, ◌∙◌, sym, refl, ℕ, ◌+◌, ◌<◌, List, [], ◌∷◌, ◌++◌, length, drop, get_or, Option, Bool}
use Rattle.std.specs.Prelude.{Ok, Err}
use Rattle.sq_value.specs.Values.{Columns}
use Rattle.sq_value.specs.declared.Kind.{Kind}
use Rattle.sq_expr.specs.Trees.{Checked}
use Rattle.sq_expr.specs.Checking.{check_in}
use Rattle.sq_expr.specs.Asts.{Ast}
use Rattle.sq_net.specs.declared.NetErr.{NetErr}
use Rattle.sq_net.specs.declared.NetErr.TheVariants as broken
use Rattle.sq_net.specs.declared.Part.TheVariants as part
use Rattle.sq_tables.specs.Places.{place_at}
use Rattle.sq_expr.specs.Grammar.{parse_in}
use Rattle.sq_reader.specs.Expressions.{allowed, or_no_expression, parsed_from, typed_from}
use Rattle.sq_tables.proofs.ShapedLemmas.{joined, joined-cons, drop-at}

pub parsed_more : (n i : ℕ) (front : List Ast) (ws : List (List ℕ)) (w : List ℕ) (a : Ast) → i < length ws → w ≡ get_or ws i w → or_no_expression n i (parse_in w) ≡ Ok a
    → joined (front ++ a ∷ []) (parsed_from n (i + 1) (drop (i + 1) ws)) ≡ joined front (parsed_from n i (drop i ws))
parsed_more n i front ws w a low is e =
    sym (joined-cons front a (parsed_from n (i + 1) (drop (i + 1) ws))) ∙ rw (drop-at ws i w low is, e) refl

pub typed_more : (n i : ℕ) (may : Option Kind → Bool) (cs : Columns) (front : List Checked) (as' : List Ast) (a : Ast) (e : Checked) → i < length as' → a ≡ get_or as' i a
    → allowed (broken.Typing (place_at part.Box n i)) may cs (check_in cs a) ≡ Ok e
    → joined (front ++ e ∷ []) (typed_from n (i + 1) may cs (drop (i + 1) as')) ≡ joined front (typed_from n i may cs (drop i as'))
typed_more n i may cs front as' a e low is checked =
    sym (joined-cons front e (typed_from n (i + 1) may cs (drop (i + 1) as'))) ∙ rw (drop-at as' i a low is, checked) refl

pub typed_stop : (n i : ℕ) (may : Option Kind → Bool) (cs : Columns) (front : List Checked) (as' : List Ast) (a : Ast) (f : NetErr) → i < length as' → a ≡ get_or as' i a
    → allowed (broken.Typing (place_at part.Box n i)) may cs (check_in cs a) ≡ Err f
    → joined front (typed_from n i may cs (drop i as')) ≡ Err f
typed_stop n i may cs front as' a f low is checked = rw (drop-at as' i a low is, checked) refl
