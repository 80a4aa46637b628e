-- The text `time >= from` is read as the comparison that it says.
use Rattle.std.proofs.Common.{◌≡◌, ◌∙◌, ap, sym, refl, ℕ, suc, ◌+◌, ◌-◌, ◌<◌, ◌≤◌, ◌^◌, Bool, true, false, cond, ◌&&◌, ◌||◌, ◌==◌, List, [], ◌∷◌, ◌++◌, map, length, take, Option, Some, subst, arith}
use Rattle.std.specs.Prelude.{pos, codes, Ok, Result, nat_lt, take_while}
use Rattle.std.specs.Fmt.{decimal}
use Rattle.std.specs.List.{list_all, prefix_len}
use Rattle.std.proofs.lemmas.Option.{cond_some}
use Rattle.std.proofs.lemmas.Bool.Decides.{nat_tests}
use Rattle.std.proofs.lemmas.List.{take_all}
use Rattle.std.proofs.lemmas.Fmt.{length-decimal-le}
use Rattle.sq_value.specs.Values.{Columns}
use Rattle.sq_value.specs.Texts.{is_digit, are_digits, number_in}
use Rattle.sq_value.specs.declared.Value.TheVariants as value
use Rattle.sq_value.specs.Laws.{AreReadBack}
use Rattle.sq_expr.specs.Tokens.{Placed, Cut, token_cut, number_token, symbol_cut, word_token, token_then, tokens_from, tokens_of, unless_passed, length_left}
use Rattle.sq_expr.specs.declared.CompareOp.TheVariants as compare
use Rattle.sq_expr.specs.Grammar.{parse_in}
use Rattle.sq_expr.specs.Syntax.{IsExpr, IsGrammar, tighter, comparison, time, literal}
use Rattle.sq_expr.specs.Asts as ast
use Rattle.sq_expr.specs.Trees.{Checked, Expr}
use Rattle.sq_expr.specs.Checking.{check_in}
use Rattle.sq_value.specs.declared.Kind.{Kind}
use Rattle.sq_value.specs.declared.Kind.TheVariants as kind
use Rattle.sq_joined.specs.Joining.{not_before}
use Rattle.sq_words.proofs.Bools.{and_true}

-- ---- digits

all_counted : (bs : List ℕ) → list_all is_digit bs ≡ true → prefix_len is_digit bs ≡ length bs
all_counted [] h = refl
all_counted (b ∷ bs) h =
    let parts = and_true (is_digit b) (list_all is_digit bs) h in
    ap (λ t. cond t (1 + prefix_len is_digit bs) 0) parts.0 ∙ (let more = all_counted bs parts.1 in omega (arith, more))

all_taken : (bs : List ℕ) → list_all is_digit bs ≡ true → take_while is_digit bs ≡ bs
all_taken bs h = ap (λ k. take k bs) (all_counted bs h) ∙ take_all (length bs) bs (omega arith)

-- the bytes of a token before begin none
passed_over : (bs : List ℕ) (at : ℕ) → tokens_from at (length bs) bs ≡ []
passed_over [] at = refl
passed_over (b ∷ bs) at = by (nat_lt 0 (suc (length bs))) (yes (length bs)) (passed_over bs (at + 1))
  where
    yes : (n : ℕ) → nat_lt 0 (suc n) ≡ true
    yes n = grind (arith, nat_tests)

    by : (t : Bool) → t ≡ true → tokens_from (at + 1) (length bs) bs ≡ []
        → unless_passed (t || (b == 32)) at (token_cut (b ∷ bs)).0 (tokens_from (at + 1) (length_left (t || (b == 32)) (suc (length bs)) (token_cut (b ∷ bs)).1) bs) ≡ []
    by true e more = (let less : suc (length bs) - 1 ≡ length bs = omega arith in ap (λ k. tokens_from (at + 1) k bs) less ∙ more)
    by false e more = cc

abbrev digits_cut : List ℕ → ℕ → Cut
digits_cut xs k = (number_token xs, k)

chosen : (t : Bool) (a b : Cut) → t ≡ true → cond t a b ≡ a
chosen true a b h = refl
chosen false a b h = cc

cut_is : (d : ℕ) (ds : List ℕ) → list_all is_digit (d ∷ ds) ≡ true → token_cut (d ∷ ds) ≡ (number_token (d ∷ ds), suc (length ds))
cut_is d ds h =
    chosen (is_digit d) (digits_cut (take_while is_digit (d ∷ ds)) (prefix_len is_digit (d ∷ ds))) _ (and_true (is_digit d) (list_all is_digit ds) h).0
    ∙ ap (λ (xs : List ℕ). digits_cut xs (prefix_len is_digit (d ∷ ds))) (all_taken (d ∷ ds) h)
    ∙ ap (digits_cut (d ∷ ds)) (all_counted (d ∷ ds) h)

no_space : (d : ℕ) → is_digit d ≡ true → (d == 32) ≡ false
no_space d h = grind (arith, nat_tests)

digits_tokens : (at d : ℕ) (ds : List ℕ) → list_all is_digit (d ∷ ds) ≡ true → tokens_from at 0 (d ∷ ds) ≡ token_then at (number_token (d ∷ ds)) []
digits_tokens at d ds h =
    ap (λ (c : Cut). unless_passed (d == 32) at c.0 (tokens_from (at + 1) (length_left (d == 32) 0 c.1) ds)) (cut_is d ds h)
    ∙ ap (λ t. unless_passed t at (number_token (d ∷ ds)) (tokens_from (at + 1) (length_left t 0 (suc (length ds))) ds)) (no_space d (and_true (is_digit d) (list_all is_digit ds) h).0)
    ∙ (let less : suc (length ds) - 1 ≡ length ds = omega arith in
    ap (λ k. token_then at (number_token (d ∷ ds)) (tokens_from (at + 1) k ds)) less)
    ∙ ap (token_then at (number_token (d ∷ ds))) (passed_over ds (at + 1))

narrow : (n : ℕ) → n < 2 ^ 40 → nat_lt 9223372036854775807 n ≡ false
narrow n low = grind (arith, nat_tests)

small : (ds : List ℕ) (n : ℕ) → number_in ds ≡ n → n < 2 ^ 40 → nat_lt 9223372036854775807 (number_in ds) ≡ false
small ds n is low = ap (nat_lt 9223372036854775807) is ∙ narrow n low

one_token : (at : ℕ) (ds : List ℕ) → nat_lt 9223372036854775807 (number_in ds) ≡ false → token_then at (number_token ds) [] ≡ (at, number_token ds) ∷ []
one_token at ds h = rw h refl

text_tokens : (bs : List ℕ) → tokens_of (codes "time >= " ++ bs) ≡ (0, word_token (codes "time")) ∷ (5, (symbol_cut 62 61).0) ∷ tokens_from 8 0 bs
text_tokens bs = refl

number_derived : (ds : List ℕ) → nat_lt 9223372036854775807 (number_in ds) ≡ false → IsExpr 8 64 (number_token ds ∷ []) (ast.Literal (value.Int (pos (number_in ds))))
number_derived ds h = rw h (literal 64 (value.Int (pos (number_in ds))))

abbrev time_from : ℕ → ast.Ast
time_from n = ast.Compare compare.AtLeast ast.Time (ast.Literal (value.Int (pos n)))

compared : (ds : List ℕ) → nat_lt 9223372036854775807 (number_in ds) ≡ false
    → IsExpr 1 64 (word_token (codes "time") ∷ (symbol_cut 62 61).0 ∷ number_token ds ∷ []) (ast.Compare compare.AtLeast ast.Time (ast.Literal (value.Int (pos (number_in ds)))))
compared ds h =
    tighter 1 64 _ _ (tighter 2 64 _ _ (tighter 3 64 _ _
    (comparison compare.AtLeast 64 (word_token (codes "time") ∷ []) (number_token ds ∷ []) ast.Time (ast.Literal (value.Int (pos (number_in ds))))
    (tighter 5 64 _ _ (tighter 6 64 _ _ (tighter 7 64 _ _ (time 64))))
    (tighter 5 64 _ _ (tighter 6 64 _ _ (tighter 7 64 _ _ (number_derived ds h)))))))

read_digits : IsGrammar → (ds : List ℕ) (n : ℕ) → nat_lt 0 (length ds) ≡ true → list_all is_digit ds ≡ true → number_in ds ≡ n → n < 2 ^ 40
    → parse_in (codes "time >= " ++ ds) ≡ Ok (ast.Compare compare.AtLeast ast.Time (ast.Literal (value.Int (pos n))))
read_digits grammar [] n some digits is low = cc
read_digits grammar (d ∷ ds) n some digits is low =
    let h = small (d ∷ ds) n is low in
    let tokens : tokens_of (codes "time >= " ++ d ∷ ds) ≡ (0, word_token (codes "time")) ∷ (5, (symbol_cut 62 61).0) ∷ (8, number_token (d ∷ ds)) ∷ [] =
    text_tokens (d ∷ ds) ∙ ap (λ (ts : List Placed). (0, word_token (codes "time")) ∷ (5, (symbol_cut 62 61).0) ∷ ts) (digits_tokens 8 d ds digits ∙ one_token 8 (d ∷ ds) h) in
    grammar.derived_is_read (codes "time >= " ++ d ∷ ds) (time_from (number_in (d ∷ ds)))
    (subst (λ (ts : List Placed). IsExpr 1 64 (map (λ t. t.1) ts) (time_from (number_in (d ∷ ds)))) (sym tokens) (compared (d ∷ ds) h))
    ∙ ap (λ k. Ok (time_from k)) is

pub time_is_read : IsGrammar → AreReadBack → (from : ℕ) → from < 2 ^ 40 → parse_in (codes "time >= " ++ decimal from) ≡ Ok (ast.Compare compare.AtLeast ast.Time (ast.Literal (value.Int (pos from))))
time_is_read grammar back from low =
    let read = back.numbers 13 (2 ^ 40) from (omega arith) (omega arith) low (omega arith) in
    let found = cond_some (are_digits 13 (decimal from) && nat_lt (number_in (decimal from)) (2 ^ 40)) (number_in (decimal from)) from read in
    let shape = and_true _ _ (and_true (are_digits 13 (decimal from)) (nat_lt (number_in (decimal from)) (2 ^ 40)) found.0).0 in
    read_digits grammar (decimal from) from (and_true _ _ shape.0).0 shape.1 found.1 low

-- ---- checked in a scope

pub time_is_checked : (cs : Columns) (from : ℕ) → check_in cs (ast.Compare compare.AtLeast ast.Time (ast.Literal (value.Int (pos from)))) ≡ Ok ((not_before cs from).tree, Some kind.Bool)
time_is_checked cs from = refl

same_ast : {E : Type 0} (a b : ast.Ast) → ◌≡◌ {A = Result ast.Ast E} (Ok a) (Ok b) → a ≡ b
same_ast a b e = cc

same_Ok : {A E : Type 0} (a b : A) → ◌≡◌ {A = Result A E} (Ok a) (Ok b) → a ≡ b
same_Ok a b e = cc

same_tree : {E : Type 0} (a b : Expr) (k l : Option Kind) → ◌≡◌ {A = Result (Expr × Option Kind) E} (Ok (a, k)) (Ok (b, l)) → a ≡ b
same_tree a b k l e =
    let pairs : ◌≡◌ {A = Expr × Option Kind} (a, k) (b, l) = same_Ok (a, k) (b, l) e in
    ap (λ (p : Expr × Option Kind). p.0) pairs

pub checked_is : IsGrammar → AreReadBack → (text : List ℕ) (a : ast.Ast) (cs : Columns) (from : ℕ) (e : Checked) (k : Option Kind) → text ≡ codes "time >= " ++ decimal from → from < 2 ^ 40 → parse_in text ≡ Ok a
    → check_in cs a ≡ Ok (e.tree, k) → e.scope ≡ cs → e ≡ not_before cs from
checked_is grammar back text a cs from e k is low read checked scope =
    let ast_is : a ≡ time_from from = same_ast a (time_from from) (sym read ∙ ap parse_in is ∙ time_is_read grammar back from low) in
    let tree_is : e.tree ≡ (not_before cs from).tree = same_tree e.tree (not_before cs from).tree k (Some kind.Bool) (sym checked ∙ ap (check_in cs) ast_is ∙ time_is_checked cs from) in
    ap (λ (s : Columns). make s e.tree) scope ∙ ap (make cs) tree_is
  where
    make : Columns → Expr → Checked
    make s t = record { scope = s; tree = t }

pub text_short : (text : List ℕ) (from : ℕ) → text ≡ codes "time >= " ++ decimal from → from < 2 ^ 40 → length text ≤ 4096
text_short text from is low =
    let few = length-decimal-le 13 from (omega arith) (omega arith) (omega arith) in
    let long : length text ≡ length (codes "time >= " ++ decimal from) = ap (λ (t : List ℕ). length t) is in
    omega (arith, few, long)
