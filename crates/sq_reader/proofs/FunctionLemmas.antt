-- What is known of the functions of an Aggregate or a Resample, and of the places that an Aggregate groups by.
use Rattle.std.proofs.Common.{◌≡◌, ◌∙◌, sym, ap, subst, refl, ℕ, suc, ◌+◌, ◌<◌, ◌≤◌, Bool, true, false, List, [], ◌∷◌, ◌++◌, map, length, get_or, Option, Some, None, slice_get, cond, arith, length-append}
use Rattle.std.specs.Prelude.{Ok, is_some, nat_le}
use Rattle.std.specs.List.{AllByRecursion, cons_option, filter_map, zip}
use Rattle.std.specs.Option.{option_and_then, option_map}
use Rattle.std.proofs.lemmas.Bool.Decides.{nat_tests}
use Rattle.std.proofs.lemmas.List.{length-map}
use Rattle.std.proofs.lemmas.List.Quantifiers.{position-Some}
use Rattle.std.proofs.lemmas.Option.{slice_get-get_or, slice_get-map, slice_get_within}
use Rattle.sq_words.specs.Lists.{same_bytes, contains_bytes}
use Rattle.sq_value.specs.Schemas.{schema_error}
use Rattle.sq_value.specs.Values.{Columns, kinds_of, names_of}
use Rattle.sq_value.specs.declared.Kind.{Kind}
use Rattle.sq_expr.specs.Checking.{column_of}
use Rattle.sq_expr.specs.Kinds.{kind_at}
use Rattle.sq_aggfn.specs.declared.Func.{Func}
use Rattle.sq_net.specs.Columns.{columns_at, kind_of_func}
use Rattle.sq_net.specs.Names.{is_name}
use Rattle.sq_net.specs.declared.NetErr.{NetErr}
use Rattle.sq_net.specs.declared.NetErr.TheVariants as broken
use Rattle.sq_net.specs.declared.Part.TheVariants as part
use Rattle.sq_tables.specs.declared.tables.Answer.{Answer}
use Rattle.sq_tables.specs.declared.tables.AnswerColumn.{AnswerColumn}
use Rattle.sq_tables.specs.Places.{place_at}
use Rattle.sq_tables.specs.Tables.{or_broken}
use Rattle.sq_reader.specs.Columns.{bad_given, bad_name, give_names, too_many}
use Rattle.sq_reader.specs.Functions.{func_in, func_for, funcs_from, group_from, group_place, if_kinded, kinds_answered}
use Rattle.sq_tables.proofs.ShapedLemmas.{first_step}
use Rattle.sq_rules.proofs.LimitLemmas.{neither}
use Rattle.sq_rules.proofs.DistinctLemmas.{IsNew, new_distinct}
use Rattle.sq_reader.proofs.DistinctLemmas.{new_both, none_bad}
use Rattle.sq_reader.proofs.SchemaLemmas.{schema_none}
use Rattle.sq_reader.proofs.ColumnLemmas.{columns_of_parts, kinds_at_places, zip_both}
use Rattle.sq_words.specs.Results.{◌>>=◌}
use Rattle.sq_words.proofs.Lists.{same_bytes_true}
use Rattle.sq_tables.proofs.EvenLemmas.{read_as}

-- ---- the functions

func_kinded : (cs : Columns) (t : Answer) (f : Func) → func_in cs t ≡ Some f → is_some (kind_of_func cs f) ≡ true
func_kinded cs t f h = by_told (func_for cs t) h
  where
    by_test : (g : Func) (b : Bool) → is_some (kind_of_func cs g) ≡ b → cond b (Some g) None ≡ Some f → is_some (kind_of_func cs f) ≡ true
    by_test g true is e = let same : g ≡ f = cc in subst (λ (x : Func). is_some (kind_of_func cs x) ≡ true) same is
    by_test g false is e = cc

    by_told : (o : Option Func) → option_and_then (if_kinded cs) o ≡ Some f → is_some (kind_of_func cs f) ≡ true
    by_told None e = cc
    by_told (Some g) e = by_test g (is_some (kind_of_func cs g)) refl e

-- each function has a kind
pub record AreKinded (cs : Columns) (gs : List AnswerColumn) (fs : List Func) : Type 0 where
  pub kinds : map (kind_of_func cs) fs ≡ map Some (kinds_answered cs fs)
  pub count : length fs ≡ length gs

pub funcs_kinded : (n i : ℕ) (cs : Columns) (gs : List AnswerColumn) (fs : List Func) → funcs_from n i cs gs ≡ Ok fs → AreKinded cs gs fs
funcs_kinded n i cs [] fs h =
    let same : [] ≡ fs = cc in
    let P : List Func → Type 0 = AreKinded cs [] in
    subst P same (record { kinds = refl; count = refl })
funcs_kinded n i cs (g ∷ gs) fs h =
    let fault : NetErr = broken.Typing (place_at part.Box n i) in
    let one = first_step (or_broken fault (func_in cs g.answer)) (λ f. funcs_from n (i + 1) cs gs >>= λ rest. Ok (f ∷ rest)) fs h in
    let two = first_step (funcs_from n (i + 1) cs gs) (λ rest. Ok (one.0 ∷ rest)) fs one.1.1 in
    let same : one.0 ∷ two.0 ≡ fs = (let last = two.1.1 in cc) in
    let more = funcs_kinded n (i + 1) cs gs two.0 two.1.0 in
    let kinded = func_kinded cs g.answer one.0 (read_as fault (func_in cs g.answer) one.0 one.1.0) in
    let P : List Func → Type 0 = AreKinded cs (g ∷ gs) in
    subst P same (record { kinds = by_kind (kind_of_func cs one.0) two.0 kinded more.kinds; count = ap suc more.count })
  where
    by_kind : (o : Option Kind) (rest : List Func) → is_some o ≡ true → map (kind_of_func cs) rest ≡ map Some (kinds_answered cs rest)
        → (o ∷ map (kind_of_func cs) rest) ≡ map Some (cons_option o (kinds_answered cs rest))
    by_kind None rest is more = cc
    by_kind (Some k) rest is more = ap (λ (os : List (Option Kind)). Some k ∷ os) more

pub told_count : (cs : Columns) (gs : List AnswerColumn) (fs : List Func) → AreKinded cs gs fs → length (kinds_answered cs fs) ≡ length (give_names gs)
told_count cs gs fs are =
    sym (length-map (kinds_answered cs fs) (λ (k : Kind). Some k))
    ∙ (ap (λ (os : List (Option Kind)). length os) (sym are.kinds) ∙ (length-map fs (kind_of_func cs) ∙ (are.count ∙ sym (length-map gs (λ (g : AnswerColumn). g.name)))))

-- ---- the places

pub record IsFieldAt (cs : Columns) (before : List (List ℕ)) (w : List ℕ) (p : ℕ) : Type 0 where
  pub column : List ℕ × Kind
  pub there : slice_get cs p ≡ Some column
  pub named : column.0 ≡ w
  pub fresh : contains_bytes w before ≡ false

column_there : (cs : Columns) (w : List ℕ) (p : ℕ) → column_of w cs ≡ Some p → (c : List ℕ × Kind) × ((slice_get cs p ≡ Some c) × (c.0 ≡ w))
column_there cs w p h = by_column (slice_get cs p) refl
  where
    low : p < length (names_of cs)
    low = (position-Some (same_bytes w) (names_of cs) p w h).0

    same : w ≡ get_or (names_of cs) p w
    same = same_bytes_true w (get_or (names_of cs) p w) (let is = position-Some (same_bytes w) (names_of cs) p w h in is.1)

    by_column : (o : Option (List ℕ × Kind)) → slice_get cs p ≡ o → (c : List ℕ × Kind) × ((slice_get cs p ≡ Some c) × (c.0 ≡ w))
    by_column None e =
        let found : slice_get (names_of cs) p ≡ Some (get_or (names_of cs) p w) = slice_get-get_or (names_of cs) p w low in
        let none : slice_get (names_of cs) p ≡ None = slice_get-map (λ (c : List ℕ × Kind). c.0) cs p ∙ ap (λ (o : Option (List ℕ × Kind)). option_map (λ (c : List ℕ × Kind). c.0) o) e in
        cc
    by_column (Some c) e =
        let found : slice_get (names_of cs) p ≡ Some (get_or (names_of cs) p w) = slice_get-get_or (names_of cs) p w low in
        let here : slice_get (names_of cs) p ≡ Some c.0 = slice_get-map (λ (c : List ℕ × Kind). c.0) cs p ∙ ap (λ (o : Option (List ℕ × Kind)). option_map (λ (c : List ℕ × Kind). c.0) o) e in
        (c, (e, (let is = same in cc)))

field_at : (cs : Columns) (before : List (List ℕ)) (w : List ℕ) (p : ℕ) → group_place cs before w ≡ Some p → IsFieldAt cs before w p
field_at cs before w p h = by_test (contains_bytes w before) refl h
  where
    by_test : (b : Bool) → contains_bytes w before ≡ b → cond b None (column_of w cs) ≡ Some p → IsFieldAt cs before w p
    by_test true is e = cc
    by_test false is e = let found = column_there cs w p e in record { column = found.0; there = found.1.0; named = found.1.1; fresh = is }

-- the columns at the places have the names to group by, which differ
pub record AreFields (cs : Columns) (before ws : List (List ℕ)) (ps : List ℕ) : Type 0 where
  pub names : names_of (columns_at cs ps) ≡ ws
  pub new : IsNew before ws
  pub below : AllByRecursion (λ p. p < length cs) ps
  pub count : length ps ≡ length ws

pub group_fields : (n i : ℕ) (cs : Columns) (before ws : List (List ℕ)) (ps : List ℕ) → group_from n i cs before ws ≡ Ok ps → AreFields cs before ws ps
group_fields n i cs before [] ps h =
    let same : [] ≡ ps = cc in
    let P : List ℕ → Type 0 = AreFields cs before [] in
    subst P same (record { names = refl; new = tt; below = tt; count = refl })
group_fields n i cs before (w ∷ ws) ps h =
    let fault : NetErr = broken.Group (place_at part.Box n i) in
    let one = first_step (or_broken fault (group_place cs before w)) (λ p. group_from n (i + 1) cs (before ++ w ∷ []) ws >>= λ rest. Ok (p ∷ rest)) ps h in
    let two = first_step (group_from n (i + 1) cs (before ++ w ∷ []) ws) (λ rest. Ok (one.0 ∷ rest)) ps one.1.1 in
    let same : one.0 ∷ two.0 ≡ ps = (let last = two.1.1 in cc) in
    let more = group_fields n (i + 1) cs (before ++ w ∷ []) ws two.0 two.1.0 in
    let here = field_at cs before w one.0 (read_as fault (group_place cs before w) one.0 one.1.0) in
    let front : names_of (columns_at cs (one.0 ∷ two.0)) ≡ w ∷ ws =
    ap (λ (o : Option (List ℕ × Kind)). names_of (cons_option o (columns_at cs two.0))) here.there
    ∙ (ap (λ (v : List ℕ). v ∷ names_of (columns_at cs two.0)) here.named ∙ ap (λ (vs : List (List ℕ)). w ∷ vs) more.names) in
    let P : List ℕ → Type 0 = AreFields cs before (w ∷ ws) in
    subst P same (record {
      names = front;
      new = (here.fresh, more.new);
      below = (slice_get_within cs one.0 here.column here.there, more.below);
      count = ap suc more.count;
    })

-- ---- the columns that are shown

pub few_enough : (n : ℕ) → too_many n ≡ None → n ≤ 16
few_enough n h = by_test (nat_le n 16) refl h
  where
    by_test : (b : Bool) → nat_le n 16 ≡ b → cond {A = Option ℕ} b None (Some 0) ≡ None → n ≤ 16
    by_test true is e = grind (arith, nat_tests)
    by_test false is e = cc

-- names to group by, and good names of what is given
pub record AreGiven (group given : List (List ℕ)) : Type 0 where
  pub few : length group + length given ≤ 16
  pub names : AllByRecursion (λ w. is_name w ≡ true) given
  pub new : IsNew group given

pub good_given : (group given : List (List ℕ)) → bad_given group given ≡ None → AreGiven group given
good_given group given h =
    let parts = neither (too_many (length group + length given)) (bad_name group given) h in
    let good = none_bad group 0 given parts.1 in
    record { few = few_enough (length group + length given) parts.0; names = good.0; new = good.1 }

-- what an Aggregate shows is a schema
pub shown_schema : (n : ℕ) (cs : Columns) (group : List (List ℕ)) (give : List AnswerColumn) (fs : List Func) (ps : List ℕ) → 1 ≤ length give → bad_given group (give_names give) ≡ None
    → funcs_from n 0 cs give ≡ Ok fs → group_from n 0 cs [] group ≡ Ok ps
    → schema_error (group ++ give_names give) (filter_map (kind_at cs) ps ++ kinds_answered cs fs) ≡ None
shown_schema n cs group give fs ps some good funcs places =
    let given = good_given group (give_names give) good in
    let fields = group_fields n 0 cs [] group ps places in
    let kinds = told_count cs give fs (funcs_kinded n 0 cs give fs funcs) in
    let names : length (give_names give) ≡ length give = length-map give (λ (g : AnswerColumn). g.name) in
    let front : length (filter_map (kind_at cs) ps) ≡ length group =
    ap (λ (ks : List Kind). length ks) (kinds_at_places cs ps) ∙ (length-map (columns_at cs ps) (λ (c : List ℕ × Kind). c.1)
    ∙ (sym (length-map (columns_at cs ps) (λ (c : List ℕ × Kind). c.0)) ∙ ap (λ (ws : List (List ℕ)). length ws) fields.names)) in
    let left = length-append group (give_names give) in
    let right = length-append (filter_map (kind_at cs) ps) (kinds_answered cs fs) in
    let few = given.few in
    schema_none (group ++ give_names give) (filter_map (kind_at cs) ps ++ kinds_answered cs fs)
    (omega (arith, left, right, front, kinds)) (omega (arith, left, names, some)) (omega (arith, left, few))
    (new_distinct [] (group ++ give_names give) (new_both [] group (give_names give) fields.new given.new))

-- it is the columns to group by, then those of the functions
pub shown_columns : (n : ℕ) (cs : Columns) (group : List (List ℕ)) (ps : List ℕ) (given : List (List ℕ)) (kinds : List Kind) → group_from n 0 cs [] group ≡ Ok ps
    → zip (group ++ given) (filter_map (kind_at cs) ps ++ kinds) ≡ columns_at cs ps ++ zip given kinds
shown_columns n cs group ps given kinds places =
    let fields = group_fields n 0 cs [] group ps places in
    let even : length (names_of (columns_at cs ps)) ≡ length (kinds_of (columns_at cs ps)) =
    length-map (columns_at cs ps) (λ (c : List ℕ × Kind). c.0) ∙ sym (length-map (columns_at cs ps) (λ (c : List ℕ × Kind). c.1)) in
    ap (λ (ws : List (List ℕ)). zip (ws ++ given) (filter_map (kind_at cs) ps ++ kinds)) (sym fields.names)
    ∙ (ap (λ (ks : List Kind). zip (names_of (columns_at cs ps) ++ given) (ks ++ kinds)) (kinds_at_places cs ps)
    ∙ (zip_both (names_of (columns_at cs ps)) (kinds_of (columns_at cs ps)) given kinds even
    ∙ ap (λ (ds : Columns). ds ++ zip given kinds) (columns_of_parts (columns_at cs ps))))
