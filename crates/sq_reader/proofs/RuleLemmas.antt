-- What the limits and the fields of sources say of a file that keeps them.
use Rattle.std.proofs.Common.{◌≡◌, ◌∙◌, sym, ap, subst, refl, ℕ, suc, ◌+◌, ◌≤◌, Bool, true, false, not, ◌&&◌, List, [], ◌∷◌, ◌++◌, map, length, Option, Some, None, ℤ, cond, arith}
use Rattle.std.specs.Prelude.{Ok}
use Rattle.std.specs.List.{after_first, before_first, list_all, list_any, zip}
use Rattle.std.proofs.lemmas.List.{length-map}
use Rattle.sq_words.specs.Lists.{are_distinct, contains_bytes}
use Rattle.sq_value.specs.Schemas.{schema_error}
use Rattle.sq_value.specs.Values.{Columns, names_of}
use Rattle.sq_value.specs.declared.Kind.{Kind}
use Rattle.sq_net.specs.declared.Source.{Source}
use Rattle.sq_net.specs.declared.NetErr.{NetErr}
use Rattle.sq_net.specs.declared.NetErr.TheVariants as broken
use Rattle.sq_net.specs.declared.Part.TheVariants as part
use Rattle.sq_net.specs.Names.{is_name}
use Rattle.sq_net.specs.SoundNetworks.{is_between, source_within}
use Rattle.sq_tables.specs.declared.tables.SourceTable.{SourceTable}
use Rattle.sq_tables.specs.Places.{place_at}
use Rattle.sq_tables.specs.Tables.{or_broken}
use Rattle.sq_rules.specs.Limits as limits
use Rattle.sq_rules.specs.Limits.{has_between}
use Rattle.sq_reader.specs.Sources.{column_in, column_with, columns_from, is_colon, kind_named, told_source, sources_from}
use Rattle.sq_reader.specs.Columns.{nat_of}
use Rattle.sq_reader.proofs.LimitLemmas.{number_within}
use Rattle.sq_rules.proofs.DistinctLemmas.{IsNew, new_distinct}
use Rattle.sq_reader.proofs.DistinctLemmas.{fresh_name}
use Rattle.sq_reader.proofs.SchemaLemmas.{schema_none}
use Rattle.sq_tables.proofs.ShapedLemmas.{first_step}
use Rattle.sq_reader.proofs.ColumnLemmas.{names_of_zip}
use Rattle.sq_words.specs.Results.{◌>>=◌}
use Rattle.sq_words.proofs.Bools.{and_true}
use Rattle.std.proofs.lemmas.Bool.{and_from}
use Rattle.sq_tables.proofs.EvenLemmas.{read_as}

-- ---- limits

pub numbers_within : (low high : ℕ) (zs : List ℤ) → list_all (limits.is_int_between low high) zs ≡ true → list_all (is_between low high) (map nat_of zs) ≡ true
numbers_within low high [] h = refl
numbers_within low high (z ∷ zs) h =
    let parts = and_true (limits.is_int_between low high z) (list_all (limits.is_int_between low high) zs) h in
    and_from (is_between low high (nat_of z)) (list_all (is_between low high) (map nat_of zs)) (number_within low high z parts.0) (numbers_within low high zs parts.1)

columns_length : (n i : ℕ) (before ws : List (List ℕ)) (cs : Columns) → columns_from n i before ws ≡ Ok cs → length cs ≡ length ws
columns_length n i before [] cs h = let same : [] ≡ cs = cc in rw (← same) refl
columns_length n i before (w ∷ ws) cs h =
    let fault : NetErr = broken.Schema (place_at part.Source n i) in
    let one = first_step (or_broken fault (column_in before w)) (λ c. columns_from n (i + 1) (before ++ c.0 ∷ []) ws >>= λ rest. Ok (c ∷ rest)) cs h in
    let two = first_step (columns_from n (i + 1) (before ++ one.0.0 ∷ []) ws) (λ rest. Ok (one.0 ∷ rest)) cs one.1.1 in
    let same : one.0 ∷ two.0 ≡ cs = (let last = two.1.1 in cc) in
    rw (← same) (ap suc (columns_length n (i + 1) (before ++ one.0.0 ∷ []) ws two.0 two.1.0))

-- the names of columns are none of those in front, and differ
columns_new : (n i : ℕ) (before ws : List (List ℕ)) (cs : Columns) → columns_from n i before ws ≡ Ok cs → IsNew before (names_of cs)
columns_new n i before [] cs h = let same : [] ≡ cs = cc in subst (λ (ds : Columns). IsNew before (names_of ds)) same tt
columns_new n i before (w ∷ ws) cs h =
    let fault : NetErr = broken.Schema (place_at part.Source n i) in
    let one = first_step (or_broken fault (column_in before w)) (λ c. columns_from n (i + 1) (before ++ c.0 ∷ []) ws >>= λ rest. Ok (c ∷ rest)) cs h in
    let two = first_step (columns_from n (i + 1) (before ++ one.0.0 ∷ []) ws) (λ rest. Ok (one.0 ∷ rest)) cs one.1.1 in
    let same : one.0 ∷ two.0 ≡ cs = (let last = two.1.1 in cc) in
    let here : contains_bytes one.0.0 before ≡ false = column_new before w one.0 (read_as fault (column_in before w) one.0 one.1.0) in
    subst (λ (ds : Columns). IsNew before (names_of ds)) same (here, columns_new n (i + 1) (before ++ one.0.0 ∷ []) ws two.0 two.1.0)
  where
    by_name : (name : List ℕ) (before : List (List ℕ)) (k : Kind) (b : Bool) (c : List ℕ × Kind) → (is_name name && not (contains_bytes name before)) ≡ b → cond b (Some (name, k)) None ≡ Some c → contains_bytes c.0 before ≡ false
    by_name name before k true c is e = let same : name ≡ c.0 = cc in subst (λ (v : List ℕ). contains_bytes v before ≡ false) same (fresh_name (is_name name) (contains_bytes name before) is).1
    by_name name before k false c is e = cc

    by_kind : (name : List ℕ) (before : List (List ℕ)) (o : Option Kind) (c : List ℕ × Kind) → column_with name before o ≡ Some c → contains_bytes c.0 before ≡ false
    by_kind name before None c e = cc
    by_kind name before (Some k) c e = by_name name before k (is_name name && not (contains_bytes name before)) c refl e

    by_colon : (before : List (List ℕ)) (w : List ℕ) (b : Bool) (c : List ℕ × Kind) → cond b (column_with (before_first is_colon w) before (kind_named (after_first is_colon w))) None ≡ Some c → contains_bytes c.0 before ≡ false
    by_colon before w true c e = by_kind (before_first is_colon w) before (kind_named (after_first is_colon w)) c e
    by_colon before w false c e = cc

    column_new : (before : List (List ℕ)) (w : List ℕ) (c : List ℕ × Kind) → column_in before w ≡ Some c → contains_bytes c.0 before ≡ false
    column_new before w c e = by_colon before w (list_any is_colon w) c e

-- so the columns that fields are have a schema
pub fields_schema : (n : ℕ) (fields names : List (List ℕ)) (kinds : List Kind) → 1 ≤ length fields → length fields ≤ 16 → length names ≡ length kinds
    → columns_from n 0 [] fields ≡ Ok (zip names kinds) → schema_error names kinds ≡ None
fields_schema n fields names kinds some few even h =
    let named : names_of (zip names kinds) ≡ names = names_of_zip names kinds even in
    let count : length (zip names kinds) ≡ length fields = columns_length n 0 [] fields (zip names kinds) h in
    let long : length names ≡ length fields = ap (λ (ws : List (List ℕ)). length ws) (sym named) ∙ (length-map (zip names kinds) (λ (c : List ℕ × Kind). c.0) ∙ count) in
    let distinct : are_distinct names ≡ true = ap are_distinct (sym named) ∙ new_distinct [] (names_of (zip names kinds)) (columns_new n 0 [] fields (zip names kinds) h) in
    schema_none names kinds even (omega (arith, long, some)) (omega (arith, long, few)) distinct

pub sources_within : (n : ℕ) (raws : List SourceTable) (ss : List Source) → sources_from n raws ≡ Ok ss → list_all limits.told_source_within raws ≡ true
    → (list_all source_within ss ≡ true) × (length ss ≡ length raws)
sources_within n [] ss h w = let same : [] ≡ ss = cc in subst (λ (xs : List Source). (list_all source_within xs ≡ true) × (length xs ≡ 0)) same (refl, refl)
sources_within n (raw ∷ raws) ss h w =
    let parts = and_true (limits.told_source_within raw) (list_all limits.told_source_within raws) w in
    let here = and_true (has_between 1 255 raw.file) (has_between 1 16 raw.fields) parts.0 in
    let one = first_step (columns_from n 0 [] raw.fields) (λ cs. sources_from (n + 1) raws >>= λ rest. Ok (told_source raw cs ∷ rest)) ss h in
    let two = first_step (sources_from (n + 1) raws) (λ rest. Ok (told_source raw one.0 ∷ rest)) ss one.1.1 in
    let same : told_source raw one.0 ∷ two.0 ≡ ss = (let last = two.1.1 in cc) in
    let more = sources_within (n + 1) raws two.0 two.1.0 parts.1 in
    let long : length one.0 ≡ length raw.fields = columns_length n 0 [] raw.fields one.0 one.1.0 in
    let fields : is_between 1 16 (length one.0) ≡ true = ap (λ (k : ℕ). is_between 1 16 k) long ∙ here.1 in
    subst (λ (xs : List Source). (list_all source_within xs ≡ true) × (length xs ≡ suc (length raws))) same
    (and_from (source_within (told_source raw one.0)) (list_all source_within two.0) (and_from (is_between 1 255 (length raw.file)) (is_between 1 16 (length one.0)) here.0 fields) more.0, ap suc more.1)
