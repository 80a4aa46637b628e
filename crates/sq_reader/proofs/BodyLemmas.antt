-- What is known of a box that is typed.
use Rattle.std.proofs.Common.{◌≡◌, ◌∙◌, sym, ap, subst, refl, ℕ, ◌+◌, ◌<◌, ◌^◌, true, List, [], ◌∷◌, ◌++◌, map, length, replicate, Option, Some, None, ℤ, arith}
use Rattle.std.proofs.lemmas.List.{length-map, length-replicate, map-append}
use Rattle.std.specs.Prelude.{Result, Ok, nat_le}
use Rattle.std.specs.List.{All, AllByRecursion, list_all, zip}
use Rattle.std.specs.Option.{option_and_then}
use Rattle.std.proofs.lemmas.List.Elements.{All-from_recursion, All-replicate}
use Rattle.sq_words.specs.Lists.{are_distinct}
use Rattle.sq_value.specs.Values.{Columns, kinds_of, names_of}
use Rattle.sq_value.specs.declared.Kind.{Kind}
use Rattle.sq_value.specs.declared.Kind.TheVariants as kind
use Rattle.sq_value.specs.Schemas.{schema_error}
use Rattle.sq_expr.specs.Trees.{Checked}
use Rattle.sq_expr.specs.Kinds.{kind_at, kind_in}
use Rattle.sq_expr.specs.Checking.{column_of}
use Rattle.sq_aggfn.specs.declared.WindowSpec.{WindowSpec}
use Rattle.sq_net.specs.Columns.{columns_at, first_columns, if_int, left_columns, pair_columns, second_columns}
use Rattle.sq_net.specs.declared.Body.TheVariants as body
use Rattle.sq_net.specs.declared.Node.{Node}
use Rattle.sq_net.specs.declared.NetErr.{NetErr}
use Rattle.sq_net.specs.declared.NetErr.TheVariants as broken
use Rattle.sq_net.specs.declared.Part.TheVariants as part
use Rattle.sq_net.specs.Names.{is_name}
use Rattle.sq_net.specs.SoundNetworks.{AreNew, HasWindow, IsOver, IsPredicate, IsTypedBody, kind_of_body}
use Rattle.sq_net.specs.SoundNetworks as sound
use Rattle.sq_tables.specs.declared.tables.AnswerColumn.{AnswerColumn}
use Rattle.sq_tables.specs.declared.tables.Setting.{Setting}
use Rattle.sq_tables.specs.declared.tables.BodyTable.{BodyTable}
use Rattle.sq_tables.specs.declared.tables.BodyTable.TheVariants.{Filter, Map, Union, BSort, Aggregate, Join, Resample}
use Rattle.sq_tables.specs.declared.tables.BoxTable.{BoxTable}
use Rattle.sq_tables.specs.Places.{place_at}
use Rattle.sq_tables.specs.Tables.{or_broken}
use Rattle.sq_tables.specs.Shapes.{port_count}
use Rattle.sq_rules.specs.Limits.{told_body_within, first_failing, has_between, is_int_between, is_expression_long}
use Rattle.sq_rules.specs.Windows.{has_window}
use Rattle.sq_rules.specs.Streaming as wires
use Rattle.sq_reader.specs.Expressions.{may_be_predicate, may_be_set, predicate_of, typed_in}
use Rattle.sq_reader.specs.Functions.{funcs_from, group_from, kinds_answered}
use Rattle.sq_reader.specs.Columns.{TypedBody, typed_aggregate, bad_given, bad_name, typed_body, bsort_of, filter_of, give_names, int_place, join_of, kinds_set, map_of, nat_of, node_in, node_of, place_if, typed_resample, same_columns, set_names, set_texts, too_many, union_of, unless_schema, window_read}
use Rattle.sq_tables.proofs.ShapedLemmas.{first_step}
use Rattle.sq_rules.proofs.ListLemmas.{each_passes, none_failing}
use Rattle.sq_reader.proofs.LimitLemmas.{given_length, answer_columns_of, number_within, settings_of, slack_of}
use Rattle.sq_rules.proofs.DistinctLemmas.{new_distinct}
use Rattle.sq_reader.proofs.DistinctLemmas.{new_both, none_bad}
use Rattle.sq_reader.proofs.SchemaLemmas.{schema_none}
use Rattle.sq_reader.proofs.ColumnLemmas.{alike_each, kinds_of_zip, names_of_zip}
use Rattle.sq_reader.proofs.TypedLemmas.{IsAllowed, kinds_are_set, over_each, predicate_is, typed_all}
use Rattle.sq_reader.proofs.FunctionLemmas.{few_enough, funcs_kinded, good_given, group_fields, told_count}
use Rattle.sq_reader.proofs.ResampleLemmas.{given_new, left_width}
use Rattle.sq_reader.proofs.WindowLemmas.{window_is}
use Rattle.sq_words.specs.Results.{◌>>=◌}
use Rattle.sq_words.proofs.Bools.{and_true}
use Rattle.std.proofs.lemmas.Bool.{and_from}
use Rattle.sq_words.proofs.Numbers.{nat_le_true}
use Rattle.sq_tables.proofs.EvenLemmas.{read_as}

-- a box of the file, and what it was typed as on these columns
pub record IsBodyOf (raw : BodyTable) (ins : List Columns) (t : TypedBody) : Type 0 where
  pub typed : IsTypedBody ins t.0 t.1
  pub kind : wires.kind_of_told_body raw ≡ kind_of_body t.0
  pub ports : port_count raw ≡ length t.1
  pub within : told_body_within raw ≡ true → sound.body_within t.0 ≡ true
  pub window : has_window raw ≡ true → HasWindow t.0

filter_is : (n : ℕ) (preds : List (List ℕ)) (ins : List Columns) (t : TypedBody) → filter_of n preds (first_columns ins) ≡ Ok t → IsBodyOf (Filter preds) ins t
filter_is n preds ins t h =
    let cs : Columns = first_columns ins in
    let one = first_step (typed_in n may_be_predicate cs preds) (λ es. Ok (body.Filter es, replicate (length preds + 1) cs)) t h in
    let each = typed_all n may_be_predicate cs preds one.0 one.1.0 in
    let long = length-replicate (length preds + 1) cs in
    let count = each.1 in
    let built : IsBodyOf (Filter preds) ins (body.Filter one.0, replicate (length preds + 1) cs) = record {
      typed = (
        All-from_recursion (IsPredicate cs) one.0 each.0,
        omega (arith, long, count),
        All-replicate (λ ds. kinds_of ds ≡ kinds_of cs) (length preds + 1) cs refl,
      );
      kind = refl;
      ports = omega (arith, long);
      within = λ w. (let parts = and_true (has_between 1 15 preds) (list_all is_expression_long preds) w in rw count parts.0);
      window = λ w. tt;
    } in
    let same : (body.Filter one.0, replicate (length preds + 1) cs) ≡ t = (let last = one.1.1 in cc) in
    let P : TypedBody → Type 0 = IsBodyOf (Filter preds) ins in
    subst P same built

set_lengths : (set : List Setting) → (length (set_names set) ≡ length set) × (length (set_texts set) ≡ length set)
set_lengths set = (length-map set (λ e. e.name), length-map set (λ e. e.text))

-- as many kinds as expressions that are set
kinds_count : (cs : Columns) (set : List Setting) (es : List Checked) → AllByRecursion (IsAllowed may_be_set cs) es → length es ≡ length (set_texts set) → length (kinds_set es) ≡ length set
kinds_count cs set es each count =
    sym (length-map (kinds_set es) (λ (k : Kind). Some k))
    ∙ (ap (λ (os : List (Option Kind)). length os) (sym (kinds_are_set cs es each)) ∙ (length-map es (λ (e : Checked). kind_in e.scope e.tree) ∙ (count ∙ length-map set (λ e. e.text))))

-- names that are good, and the kinds of the expressions, are a schema
pub map_schema : (n : ℕ) (cs : Columns) (set : List Setting) (es : List Checked) → told_body_within (Map set) ≡ true → bad_name [] (set_names set) ≡ None
    → typed_in n may_be_set cs (set_texts set) ≡ Ok es → schema_error (set_names set) (kinds_set es) ≡ None
map_schema n cs set es within good typed =
    let limits = settings_of set within in
    let each = typed_all n may_be_set cs (set_texts set) es typed in
    let kinds = kinds_count cs set es each.0 each.1 in
    let names = limits.names in
    let some = limits.some in
    let few = limits.few in
    schema_none (set_names set) (kinds_set es) (omega (arith, names, kinds)) (omega (arith, names, some)) (omega (arith, names, few))
    (new_distinct [] (set_names set) (none_bad [] 0 (set_names set) good).1)

unless_none : {A : Type 0} (n : ℕ) (o : Option ℕ) (more : Result A NetErr) (x : A) → unless_schema n o more ≡ Ok x → (o ≡ None) × (more ≡ Ok x)
unless_none n None more x h = (refl, h)
unless_none n (Some i) more x h = cc

map_is : (n : ℕ) (set : List Setting) (ins : List Columns) (t : TypedBody) → map_of n set (first_columns ins) ≡ Ok t → IsBodyOf (Map set) ins t
map_is n set ins t h =
    let cs : Columns = first_columns ins in
    let zero_step = unless_none n (bad_name [] (set_names set)) (typed_in n may_be_set cs (set_texts set) >>= λ es. Ok (body.Map es, zip (set_names set) (kinds_set es) ∷ [])) t h in
    let one = first_step (typed_in n may_be_set cs (set_texts set)) (λ es. Ok (body.Map es, zip (set_names set) (kinds_set es) ∷ [])) t zero_step.1 in
    let each = typed_all n may_be_set cs (set_texts set) one.0 one.1.0 in
    let good = none_bad [] 0 (set_names set) zero_step.0 in
    let kinds = kinds_are_set cs one.0 each.0 in
    let lengths = set_lengths set in
    let long : length (set_names set) ≡ length (kinds_set one.0) = lengths.0 ∙ sym (kinds_count cs set one.0 each.0 each.1) in
    let count : length one.0 ≡ length set = each.1 ∙ lengths.1 in
    let ports : Columns = zip (set_names set) (kinds_set one.0) in
    let names : names_of ports ≡ set_names set = names_of_zip (set_names set) (kinds_set one.0) long in
    let built : IsBodyOf (Map set) ins (body.Map one.0, ports ∷ []) = record {
      typed = (
        ports,
        refl,
        All-from_recursion (IsOver cs) one.0 (over_each may_be_set cs one.0 each.0),
        kinds ∙ ap (λ (ks : List Kind). map Some ks) (sym (kinds_of_zip (set_names set) (kinds_set one.0) long)),
        (let P : List (List ℕ) → Type 0 = λ ws. All (λ w. is_name w ≡ true) ws in subst P (sym names) (All-from_recursion (λ w. is_name w ≡ true) (set_names set) good.0)),
        ap are_distinct names ∙ new_distinct [] (set_names set) good.1,
      );
      kind = refl;
      ports = refl;
      within = λ w. (let parts = and_true (has_between 1 16 set) (list_all (λ e. is_expression_long e.text) set) w in rw count parts.0);
      window = λ w. tt;
    } in
    let same : (body.Map one.0, ports ∷ []) ≡ t = (let last = one.1.1 in cc) in
    let P : TypedBody → Type 0 = IsBodyOf (Map set) ins in
    subst P same built

union_is : (n : ℕ) (ins : List Columns) (t : TypedBody) → union_of n ins ≡ Ok t → IsBodyOf Union ins t
union_is n ins t h =
    let cs : Columns = first_columns ins in
    let one = unless_none n (first_failing (λ ds. same_columns ds cs) ins) (Ok (body.Union, cs ∷ [])) t h in
    let alike = alike_each cs ins (each_passes (λ ds. same_columns ds cs) ins (none_failing (λ ds. same_columns ds cs) ins one.0)) in
    let built : IsBodyOf Union ins (body.Union, cs ∷ []) = record {
      typed = (All-from_recursion (λ ds. ds ≡ cs) ins alike, refl);
      kind = refl;
      ports = refl;
      within = λ w. refl;
      window = λ w. tt;
    } in
    let same : (body.Union, cs ∷ []) ≡ t = (let last = one.1 in cc) in
    let P : TypedBody → Type 0 = IsBodyOf Union ins in
    subst P same built

-- a place of numbers
int_there : (cs : Columns) (by : List ℕ) (i : ℕ) → int_place cs by ≡ Some i → kind_at cs i ≡ Some kind.Int
int_there cs by i h = by_column (column_of by cs) h
  where
    by_kind : (j : ℕ) (o : Option Kind) → kind_at cs j ≡ o → place_if j (if_int o) ≡ Some i → kind_at cs i ≡ Some kind.Int
    by_kind j None is e = cc
    by_kind j (Some kind.Int) is e = let same : j ≡ i = cc in ap (kind_at cs) (sym same) ∙ is
    by_kind j (Some kind.Bool) is e = cc
    by_kind j (Some kind.Text) is e = cc

    by_column : (o : Option ℕ) → option_and_then (λ j. place_if j (if_int (kind_at cs j))) o ≡ Some i → kind_at cs i ≡ Some kind.Int
    by_column None e = cc
    by_column (Some j) e = by_kind j (kind_at cs j) refl e

bsort_is : (n : ℕ) (by : List ℕ) (slack : ℤ) (ins : List Columns) (t : TypedBody) → bsort_of n by slack (first_columns ins) ≡ Ok t → IsBodyOf (BSort by slack) ins t
bsort_is n by slack ins t h =
    let cs : Columns = first_columns ins in
    let fault : NetErr = broken.Typing (place_at part.Box n 0) in
    let one = first_step (or_broken fault (int_place cs by)) (λ i. Ok (body.BSort i (nat_of slack), cs ∷ [])) t h in
    let built : IsBodyOf (BSort by slack) ins (body.BSort one.0 (nat_of slack), cs ∷ []) = record {
      typed = (int_there cs by one.0 (read_as fault (int_place cs by) one.0 one.1.0), refl);
      kind = refl;
      ports = refl;
      within = λ w. (let low = slack_of by slack w in nat_le_true (nat_of slack) 10000 low);
      window = λ w. tt;
    } in
    let same : (body.BSort one.0 (nat_of slack), cs ∷ []) ≡ t = (let last = one.1.1 in cc) in
    let P : TypedBody → Type 0 = IsBodyOf (BSort by slack) ins in
    subst P same built

aggregate_is : (n : ℕ) (size advance phase : ℤ) (group : List (List ℕ)) (give : List AnswerColumn) (ins : List Columns) (t : TypedBody)
    → typed_aggregate n (window_read size advance phase) group give (first_columns ins) ≡ Ok t → IsBodyOf (Aggregate size advance phase group give) ins t
aggregate_is n size advance phase group give ins t h =
    let cs : Columns = first_columns ins in
    let window : WindowSpec = window_read size advance phase in
    let zero_step = unless_none n (bad_given group (give_names give)) (funcs_from n 0 cs give >>= λ fs. group_from n 0 cs [] group >>= λ ps.
    Ok (body.Aggregate fs ps window, (columns_at cs ps ++ zip (give_names give) (kinds_answered cs fs)) ∷ [])) t h in
    let one = first_step (funcs_from n 0 cs give) (λ fs. group_from n 0 cs [] group >>= λ ps.
    Ok (body.Aggregate fs ps window, (columns_at cs ps ++ zip (give_names give) (kinds_answered cs fs)) ∷ [])) t zero_step.1 in
    let two = first_step (group_from n 0 cs [] group) (λ ps. Ok (body.Aggregate one.0 ps window, (columns_at cs ps ++ zip (give_names give) (kinds_answered cs one.0)) ∷ [])) t one.1.1 in
    let good = good_given group (give_names give) zero_step.0 in
    let funcs = funcs_kinded n 0 cs give one.0 one.1.0 in
    let fields = group_fields n 0 cs [] group two.0 two.1.0 in
    let kinds : length (kinds_answered cs one.0) ≡ length (give_names give) = told_count cs give one.0 funcs in
    let given : Columns = zip (give_names give) (kinds_answered cs one.0) in
    let names : names_of given ≡ give_names give = names_of_zip (give_names give) (kinds_answered cs one.0) (sym kinds) in
    let shown : names_of (columns_at cs two.0 ++ given) ≡ group ++ give_names give =
    map-append (λ (c : List ℕ × Kind). c.0) (columns_at cs two.0) given
    ∙ (ap (λ (ws : List (List ℕ)). ws ++ names_of given) fields.names ∙ ap (λ (ws : List (List ℕ)). group ++ ws) names) in
    let places = fields.count in
    let count = funcs.count in
    let few = good.few in
    let long = given_length give in
    let built : IsBodyOf (Aggregate size advance phase group give) ins (body.Aggregate one.0 two.0 window, (columns_at cs two.0 ++ given) ∷ []) = record {
      typed = (
        given,
        refl,
        funcs.kinds ∙ ap (λ (ks : List Kind). map Some ks) (sym (kinds_of_zip (give_names give) (kinds_answered cs one.0) (sym kinds))),
        (let P : List (List ℕ) → Type 0 = λ ws. All (λ w. is_name w ≡ true) ws in subst P (sym names) (All-from_recursion (λ w. is_name w ≡ true) (give_names give) good.names)),
        All-from_recursion (λ i. i < length cs) two.0 fields.below,
        ap are_distinct shown ∙ new_distinct [] (group ++ give_names give) (new_both [] group (give_names give) fields.new good.new),
        nat_le_true (length two.0 + length one.0) 16 (omega (arith, places, count, few, long)),
      );
      kind = refl;
      ports = refl;
      within = λ w. (let parts = and_true (has_between 0 16 group) (has_between 1 16 give) w in
          let low = answer_columns_of size advance phase group give w in
          let most = low.few_groups in
          and_from (sound.is_between 1 16 (length one.0)) (nat_le (length two.0) 16) (rw count parts.1) (nat_le_true (length two.0) 16 (omega (arith, places, most))));
      window = λ w. window_is size advance phase w;
    } in
    let same : (body.Aggregate one.0 two.0 window, (columns_at cs two.0 ++ given) ∷ []) ≡ t = (let last = two.1.1 in cc) in
    let P : TypedBody → Type 0 = IsBodyOf (Aggregate size advance phase group give) ins in
    subst P same built

join_is : (n : ℕ) (size : ℤ) (on : List ℕ) (ins : List Columns) (t : TypedBody) → join_of n size on ins ≡ Ok t → IsBodyOf (Join size on) ins t
join_is n size on ins t h =
    let cs : Columns = pair_columns ins in
    let zero_step = unless_none n (too_many (length cs)) (predicate_of n cs on >>= λ e. Ok (body.Join (nat_of size) e, cs ∷ [])) t h in
    let one = first_step (predicate_of n cs on) (λ e. Ok (body.Join (nat_of size) e, cs ∷ [])) t zero_step.1 in
    let built : IsBodyOf (Join size on) ins (body.Join (nat_of size) one.0, cs ∷ []) = record {
      typed = (predicate_is n cs on one.0 one.1.0, refl, nat_le_true (length cs) 16 (few_enough (length cs) zero_step.0));
      kind = refl;
      ports = refl;
      within = λ w. (let parts = and_true (is_int_between 0 (2 ^ 32) size) (is_expression_long on) w in
          let low = and_true (nat_le 0 (nat_of size)) (nat_le (nat_of size) (2 ^ 32)) (number_within 0 (2 ^ 32) size parts.0) in low.1);
      window = λ w. tt;
    } in
    let same : (body.Join (nat_of size) one.0, cs ∷ []) ≡ t = (let last = one.1.1 in cc) in
    let P : TypedBody → Type 0 = IsBodyOf (Join size on) ins in
    subst P same built

resample_is : (n : ℕ) (size : ℤ) (give : List AnswerColumn) (ins : List Columns) (t : TypedBody) → typed_resample n (nat_of size) give ins ≡ Ok t → IsBodyOf (Resample size give) ins t
resample_is n size give ins t h =
    let left : Columns = left_columns ins in
    let right : Columns = second_columns ins in
    let zero_step = unless_none n (bad_given (names_of left) (give_names give)) (funcs_from n 0 right give >>= λ fs.
    Ok (body.Resample (nat_of size) fs, (left ++ zip (give_names give) (kinds_answered right fs)) ∷ [])) t h in
    let one = first_step (funcs_from n 0 right give) (λ fs. Ok (body.Resample (nat_of size) fs, (left ++ zip (give_names give) (kinds_answered right fs)) ∷ [])) t zero_step.1 in
    let good = good_given (names_of left) (give_names give) zero_step.0 in
    let funcs = funcs_kinded n 0 right give one.0 one.1.0 in
    let kinds : length (kinds_answered right one.0) ≡ length (give_names give) = told_count right give one.0 funcs in
    let given : Columns = zip (give_names give) (kinds_answered right one.0) in
    let names : names_of given ≡ give_names give = names_of_zip (give_names give) (kinds_answered right one.0) (sym kinds) in
    let count = funcs.count in
    let few = good.few in
    let long = given_length give in
    let width = left_width ins in
    let built : IsBodyOf (Resample size give) ins (body.Resample (nat_of size) one.0, (left ++ given) ∷ []) = record {
      typed = (
        given,
        refl,
        funcs.kinds ∙ ap (λ (ks : List Kind). map Some ks) (sym (kinds_of_zip (give_names give) (kinds_answered right one.0) (sym kinds))),
        (let P : List (List ℕ) → Type 0 = λ ws. All (λ w. is_name w ≡ true) ws in subst P (sym names) (All-from_recursion (λ w. is_name w ≡ true) (give_names give) good.names)),
        subst (AreNew (names_of left)) (sym names) (given_new (names_of left) (give_names give) good),
        nat_le_true (length (first_columns ins) + length one.0) 16 (omega (arith, width, count, few, long)),
      );
      kind = refl;
      ports = refl;
      within = λ w. (let parts = and_true (is_int_between 0 (2 ^ 32) size) (has_between 1 16 give) w in
          let low = and_true (nat_le 0 (nat_of size)) (nat_le (nat_of size) (2 ^ 32)) (number_within 0 (2 ^ 32) size parts.0) in
          and_from (nat_le (nat_of size) (2 ^ 32)) (sound.is_between 1 16 (length one.0)) low.1 (rw count parts.1));
      window = λ w. tt;
    } in
    let same : (body.Resample (nat_of size) one.0, (left ++ given) ∷ []) ≡ t = (let last = one.1.1 in cc) in
    let P : TypedBody → Type 0 = IsBodyOf (Resample size give) ins in
    subst P same built

pub body_is : (n : ℕ) (raw : BodyTable) (ins : List Columns) (t : TypedBody) → typed_body n raw ins ≡ Ok t → IsBodyOf raw ins t
body_is n (Filter preds) ins t h = filter_is n preds ins t h
body_is n (Map set) ins t h = map_is n set ins t h
body_is n Union ins t h = union_is n ins t h
body_is n (BSort by slack) ins t h = bsort_is n by slack ins t h
body_is n (Aggregate size advance phase group give) ins t h = aggregate_is n size advance phase group give ins t h
body_is n (Join size on) ins t h = join_is n size on ins t h
body_is n (Resample size give) ins t h = resample_is n size give ins t h

-- a box of the file, and the node that it was typed as on these columns
pub record IsNodeOf (raw : BoxTable) (ins : List Columns) (b : Node) : Type 0 where
  pub body : IsBodyOf raw.body ins (b.body, b.schemas)
  pub cost : b.cost ≡ nat_of raw.cost
  pub selectivity : b.selectivity ≡ map nat_of raw.selectivity

pub node_is : (n : ℕ) (raw : BoxTable) (ins : List Columns) (b : Node) → node_in n raw ins ≡ Ok b → IsNodeOf raw ins b
node_is n raw ins b h =
    let one = first_step (typed_body n raw.body ins) (λ t. Ok (node_of raw t)) b h in
    let same : node_of raw one.0 ≡ b = (let last = one.1.1 in cc) in
    let P : Node → Type 0 = IsNodeOf raw ins in
    subst P same (record { body = body_is n raw.body ins one.0 one.1.0; cost = refl; selectivity = refl })
