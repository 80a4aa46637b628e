-- One field, and one source, more.
use Rattle.std.proofs.Common.{◌≡◌, ◌∙◌, ap, sym, refl, ℕ, ◌+◌, ◌<◌, ◌≤◌, List, [], ◌∷◌, ◌++◌, length, drop, get_or, Some, append-nil}
use Rattle.std.specs.Prelude.{Ok}
use Rattle.std.specs.List.{zip}
use Rattle.std.proofs.lemmas.List.{drop_all}
use Rattle.sq_value.specs.Values.{Columns}
use Rattle.sq_value.specs.declared.Kind.{Kind}
use Rattle.sq_net.specs.declared.Source.{Source}
use Rattle.sq_tables.specs.declared.tables.SourceTable.{SourceTable}
use Rattle.sq_reader.specs.Sources.{column_in, columns_from, told_source, sources_from}
use Rattle.sq_tables.proofs.ShapedLemmas.{joined, joined-cons, zip-push, drop-at}

pub columns_more : (n i : ℕ) (before : List (List ℕ)) (kinds : List Kind) (fields : List (List ℕ)) (w name : List ℕ) (k : Kind)
    → i < length fields → w ≡ get_or fields i w → length before ≡ length kinds → column_in before w ≡ Some (name, k)
    → joined (zip (before ++ name ∷ []) (kinds ++ k ∷ [])) (columns_from n (i + 1) (before ++ name ∷ []) (drop (i + 1) fields)) ≡ joined (zip before kinds) (columns_from n i before (drop i fields))
columns_more n i before kinds fields w name k low is even e =
    ap (λ cs. joined cs (columns_from n (i + 1) (before ++ name ∷ []) (drop (i + 1) fields))) (zip-push before kinds name k even)
    ∙ (sym (joined-cons (zip before kinds) (name, k) (columns_from n (i + 1) (before ++ name ∷ []) (drop (i + 1) fields)))
    ∙ rw (drop-at fields i w low is, e) refl)

pub columns_done : (n i : ℕ) (names : List (List ℕ)) (kinds : List Kind) (fields : List (List ℕ)) → length fields ≤ i
    → joined (zip names kinds) (columns_from n i names (drop i fields)) ≡ columns_from n 0 [] fields → columns_from n 0 [] fields ≡ Ok (zip names kinds)
columns_done n i names kinds fields all h = sym h ∙ rw (drop_all i fields all) (ap (λ (cs : Columns). Ok cs) (append-nil (zip names kinds)))

pub sources_more : (i : ℕ) (front : List Source) (ss : List SourceTable) (s : SourceTable) (cs : Columns)
    → i < length ss → s ≡ get_or ss i s → columns_from i 0 [] s.fields ≡ Ok cs
    → joined (front ++ told_source s cs ∷ []) (sources_from (i + 1) (drop (i + 1) ss)) ≡ joined front (sources_from i (drop i ss))
sources_more i front ss s cs low is e =
    sym (joined-cons front (told_source s cs) (sources_from (i + 1) (drop (i + 1) ss))) ∙ rw (drop-at ss i s low is, e) refl
