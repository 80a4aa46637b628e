-- The expressions of a box: all are read, then all are checked in the scope that its input gives.
use Rattle.std.specs.Prelude.{ℕ, ◌+◌, Bool, is_some, if◌then◌else◌, List, [], ◌∷◌, Option, Result, Ok, Err}
use Rattle.sq_value.specs.Values.{Columns}
use Rattle.sq_value.specs.declared.Kind.{Kind}
use Rattle.sq_value.specs.declared.Kind.TheVariants as kind
use Rattle.sq_expr.specs.declared.ParseErr.{ParseErr}
use Rattle.sq_expr.specs.declared.TypeErr.{TypeErr}
use Rattle.sq_expr.specs.Trees.{Checked}
use Rattle.sq_expr.specs.Asts.{Ast}
use Rattle.sq_expr.specs.Kinds.{fits}
use Rattle.sq_expr.specs.Grammar.{parse_in}
use Rattle.sq_expr.specs.Checking.{Kinded, check_in}
use Rattle.sq_net.specs.declared.NetErr.{NetErr}
use Rattle.sq_net.specs.declared.NetErr.TheVariants as broken
use Rattle.sq_net.specs.declared.Part.TheVariants as part
use Rattle.sq_tables.specs.Places.{place_at}
use Rattle.sq_words.specs.Results.{◌>>=◌}

abbrev pub or_no_expression : ℕ → ℕ → Result Ast ParseErr → Result Ast NetErr
or_no_expression n i (Ok a) = Ok a
or_no_expression n i (Err e) = Err (broken.Expr (place_at part.Box n i) e)

abbrev pub parsed_from : ℕ → ℕ → List (List ℕ) → Result (List Ast) NetErr
parsed_from n i [] = Ok []
parsed_from n i (w ∷ ws) = do
  a ← or_no_expression n i (parse_in w)
  rest ← parsed_from n (i + 1) ws
  Ok (a ∷ rest)

-- a predicate is a boolean, or `null`
abbrev pub may_be_predicate : Option Kind → Bool
may_be_predicate k = fits kind.Bool k

-- what a Map sets has a kind
abbrev pub may_be_set : Option Kind → Bool
may_be_set k = is_some k

-- a checked expression, where its kind is allowed
abbrev pub allowed : NetErr → (Option Kind → Bool) → Columns → Result Kinded TypeErr → Result Checked NetErr
allowed e may cs (Err t) = Err e
allowed e may cs (Ok k) = if may k.1 then Ok (record { scope = cs; tree = k.0 }) else Err e

abbrev pub typed_from : ℕ → ℕ → (Option Kind → Bool) → Columns → List Ast → Result (List Checked) NetErr
typed_from n i may cs [] = Ok []
typed_from n i may cs (a ∷ as') = do
  e ← allowed (broken.Typing (place_at part.Box n i)) may cs (check_in cs a)
  es ← typed_from n (i + 1) may cs as'
  Ok (e ∷ es)

abbrev pub typed_in : ℕ → (Option Kind → Bool) → Columns → List (List ℕ) → Result (List Checked) NetErr
typed_in n may cs texts = parsed_from n 0 texts >>= λ asts. typed_from n 0 may cs asts

-- one predicate
abbrev pub predicate_of : ℕ → Columns → List ℕ → Result Checked NetErr
predicate_of n cs text =
    or_no_expression n 0 (parse_in text) >>= λ a. allowed (broken.Typing (place_at part.Box n 0)) may_be_predicate cs (check_in cs a)
