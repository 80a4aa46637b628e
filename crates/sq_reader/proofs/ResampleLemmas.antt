-- What a Resample gives: the left columns, then one for each function, whose names are new.
use Rattle.std.proofs.Common.{◌≡◌, ◌∙◌, sym, ap, refl, ℕ, false, List, [], ◌∷◌, ◌++◌, length, Some, None, arith, length-append}
use Rattle.std.specs.Prelude.{Ok, Err, codes}
use Rattle.std.specs.List.{zip}
use Rattle.std.proofs.lemmas.List.{length-map}
use Rattle.std.proofs.lemmas.List.Elements.{All-from_recursion}
use Rattle.sq_words.specs.Lists.{contains_bytes}
use Rattle.sq_value.specs.Schemas.{schema_error, AreColumns}
use Rattle.sq_value.specs.Values.{Columns, kinds_of, names_of}
use Rattle.sq_value.specs.declared.Kind.{Kind}
use Rattle.sq_aggfn.specs.declared.Func.{Func}
use Rattle.sq_net.specs.Columns.{first_columns, left_columns, prefixed, second_columns}
use Rattle.sq_net.specs.SoundNetworks.{AreNew}
use Rattle.sq_net.specs.declared.Body.TheVariants as body
use Rattle.sq_net.specs.declared.NetErr.{NetErr}
use Rattle.sq_net.specs.declared.NetErr.TheVariants as broken
use Rattle.sq_net.specs.declared.Part.TheVariants as part
use Rattle.sq_tables.specs.declared.tables.AnswerColumn.{AnswerColumn}
use Rattle.sq_tables.specs.Places.{place_at}
use Rattle.sq_reader.specs.Columns.{bad_given, give_names, typed_resample}
use Rattle.sq_reader.specs.Functions.{funcs_from, kinds_answered}
use Rattle.sq_reader.proofs.ColumnLemmas.{zip_both}
use Rattle.sq_rules.proofs.DistinctLemmas.{new_distinct, new_out}
use Rattle.sq_reader.proofs.DistinctLemmas.{distinct_both}
use Rattle.sq_reader.proofs.FunctionLemmas.{AreGiven, funcs_kinded, good_given, told_count}
use Rattle.sq_reader.proofs.PairLemmas.{kinds_length, left_distinct, left_length, left_names, prefixed_names, prefixed_zip}
use Rattle.sq_reader.proofs.SchemaLemmas.{schema_none}

pub given_new : (before given : List (List ℕ)) → AreGiven before given → AreNew before given
given_new before given are =
    (new_distinct before given are.new, All-from_recursion (λ w. contains_bytes w before ≡ false) given (new_out before given are.new))

-- as many names as columns
pub left_width : (ins : List Columns) → length (names_of (left_columns ins)) ≡ length (first_columns ins)
left_width ins =
    length-map (left_columns ins) (λ (c : List ℕ × Kind). c.0) ∙ length-map (first_columns ins) (λ (c : List ℕ × Kind). (codes "l_" ++ c.0, c.1))

-- what it gives is a schema
pub resampled_schema : (n : ℕ) (left right : Columns) (give : List AnswerColumn) (fs : List Func) → AreColumns left → bad_given (left_names (names_of left)) (give_names give) ≡ None
    → funcs_from n 0 right give ≡ Ok fs → schema_error (left_names (names_of left) ++ give_names give) (kinds_of left ++ kinds_answered right fs) ≡ None
resampled_schema n left right give fs are good funcs =
    let given = good_given (left_names (names_of left)) (give_names give) good in
    let told = told_count right give fs (funcs_kinded n 0 right give fs funcs) in
    let names = length-append (left_names (names_of left)) (give_names give) in
    let kinds = length-append (kinds_of left) (kinds_answered right fs) in
    let one = left_length left in
    let two = kinds_length left in
    let some = are.some in
    let few = given.few in
    schema_none (left_names (names_of left) ++ give_names give) (kinds_of left ++ kinds_answered right fs)
    (omega (arith, names, kinds, one, two, told)) (omega (arith, names, one, some)) (omega (arith, names, few))
    (distinct_both (left_names (names_of left)) (give_names give) (left_distinct (names_of left) ∙ are.distinct)
    (new_out (left_names (names_of left)) (give_names give) given.new) (new_distinct (left_names (names_of left)) (give_names give) given.new))

resampled_zip : (left : Columns) (given : List (List ℕ)) (kinds : List Kind) → zip (left_names (names_of left) ++ given) (kinds_of left ++ kinds) ≡ prefixed (codes "l_") left ++ zip given kinds
resampled_zip left given kinds =
    let even : length (left_names (names_of left)) ≡ length (kinds_of left) = left_length left ∙ sym (kinds_length left) in
    zip_both (left_names (names_of left)) (kinds_of left) given kinds even ∙ ap (λ (ds : Columns). ds ++ zip given kinds) (prefixed_zip (codes "l_") left)

-- the left names as the program makes them
pub as_left : (left : Columns) (given : List (List ℕ)) → bad_given (left_names (names_of left)) given ≡ bad_given (names_of (prefixed (codes "l_") left)) given
as_left left given = ap (λ (ws : List (List ℕ)). bad_given ws given) (prefixed_names (codes "l_") left)

-- what is given breaks a rule on names
pub names_at_fault : (n : ℕ) (size : ℕ) (give : List AnswerColumn) (ins : List Columns) (i : ℕ) → bad_given (left_names (names_of (first_columns ins))) (give_names give) ≡ Some i
    → typed_resample n size give ins ≡ Err (broken.Schema (place_at part.Box n i))
names_at_fault n size give ins i bad = rw (sym (as_left (first_columns ins) (give_names give)) ∙ bad) refl

-- a function is at fault
pub funcs_at_fault : (n : ℕ) (size : ℕ) (give : List AnswerColumn) (ins : List Columns) (e : NetErr) → bad_given (left_names (names_of (first_columns ins))) (give_names give) ≡ None
    → funcs_from n 0 (second_columns ins) give ≡ Err e → typed_resample n size give ins ≡ Err e
funcs_at_fault n size give ins e good funcs = rw (sym (as_left (first_columns ins) (give_names give)) ∙ good, funcs) refl

pub resampled : (n : ℕ) (size : ℕ) (give : List AnswerColumn) (ins : List Columns) (fs : List Func) → bad_given (left_names (names_of (first_columns ins))) (give_names give) ≡ None
    → funcs_from n 0 (second_columns ins) give ≡ Ok fs
    → typed_resample n size give ins
    ≡ Ok (body.Resample size fs, zip (left_names (names_of (first_columns ins)) ++ give_names give) (kinds_of (first_columns ins) ++ kinds_answered (second_columns ins) fs) ∷ [])
resampled n size give ins fs good funcs =
    rw (sym (as_left (first_columns ins) (give_names give)) ∙ good, funcs, resampled_zip (first_columns ins) (give_names give) (kinds_answered (second_columns ins) fs)) refl
