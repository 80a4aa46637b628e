-- What the limits say of the parts of a box and a source that are typed.
use Rattle.std.proofs.Common.{◌≡◌, ◌∙◌, ap, refl, ℕ, ◌≤◌, Bool, true, ◌&&◌, List, [], ◌∷◌, length, ℤ, pos, negsuc, arith}
use Rattle.std.specs.List.{list_all}
use Rattle.std.proofs.lemmas.Bool.Decides.{nat_tests}
use Rattle.std.proofs.lemmas.List.{length-map}
use Rattle.sq_tables.specs.declared.tables.SourceTable.{SourceTable}
use Rattle.sq_tables.specs.declared.tables.AnswerColumn.{AnswerColumn}
use Rattle.sq_tables.specs.declared.tables.Setting.{Setting}
use Rattle.sq_tables.specs.declared.tables.BodyTable.{BodyTable}
use Rattle.sq_tables.specs.declared.tables.BodyTable.TheVariants.{Filter, Map, Union, BSort, Aggregate, Join, Resample}
use Rattle.sq_tables.specs.declared.tables.OutputTable.{OutputTable}
use Rattle.sq_rules.specs.Limits.{told_body_within, has_between, is_int_between, is_expression_long, told_output_within, told_source_within}
use Rattle.sq_graph.specs.declared.BoxKind.{BoxKind}
use Rattle.sq_graph.specs.declared.BoxKind.TheVariants as boxes
use Rattle.sq_net.specs.SoundNetworks as sound
use Rattle.sq_net.specs.SoundNetworks.{takes_within}
use Rattle.sq_reader.specs.Columns.{give_names, nat_of, set_names, set_texts}
use Rattle.sq_rules.specs.Streaming.{kind_of_told_body}
use Rattle.sq_rules.proofs.LimitLemmas.{few, some}
use Rattle.sq_words.proofs.Bools.{and_true}

pub number_within : (low high : ℕ) (z : ℤ) → is_int_between low high z ≡ true → sound.is_between low high (nat_of z) ≡ true
number_within low high (pos n) h = h
number_within low high (negsuc n) h = cc

-- ---- the parts

pub record OutputWithin (o : OutputTable) : Type 0 where
  pub light : nat_of o.weight ≤ 1000
  pub few : length o.graph ≤ 1000

pub output_of : (o : OutputTable) → told_output_within o ≡ true → OutputWithin o
output_of o h =
    let parts = and_true (is_int_between 0 1000 o.weight) (has_between 0 1000 o.graph) h in
    record { light = number_few o.weight parts.0; few = few 0 1000 o.graph parts.1 }
  where
    number_few : (z : ℤ) → is_int_between 0 1000 z ≡ true → nat_of z ≤ 1000
    number_few (pos n) h = grind (arith, nat_tests)
    number_few (negsuc n) h = omega arith

pub expression_few : (text : List ℕ) → is_expression_long text ≡ true → length text ≤ 4096
expression_few text h = few 1 4096 text h

pub record FieldsWithin (s : SourceTable) : Type 0 where
  pub some : 1 ≤ length s.fields
  pub few : length s.fields ≤ 16

pub fields_of : (s : SourceTable) → told_source_within s ≡ true → FieldsWithin s
fields_of s h =
    let parts = and_true (has_between 1 255 s.file) (has_between 1 16 s.fields) h in
    record { some = some 1 16 s.fields parts.1; few = few 1 16 s.fields parts.1 }

texts_long : (set : List Setting) → list_all is_expression_long (set_texts set) ≡ list_all (λ e. is_expression_long e.text) set
texts_long [] = refl
texts_long (e ∷ es) = ap (λ (b : Bool). is_expression_long e.text && b) (texts_long es)

pub record SettingsWithin (set : List Setting) : Type 0 where
  pub some : 1 ≤ length set
  pub few : length set ≤ 16
  pub long : list_all is_expression_long (set_texts set) ≡ true
  pub names : length (set_names set) ≡ length set
  pub texts : length (set_texts set) ≡ length set

pub settings_of : (set : List Setting) → told_body_within (Map set) ≡ true → SettingsWithin set
settings_of set h =
    let parts = and_true (has_between 1 16 set) (list_all (λ e. is_expression_long e.text) set) h in
    record {
      some = some 1 16 set parts.0;
      few = few 1 16 set parts.0;
      long = texts_long set ∙ parts.1;
      names = length-map set (λ e. e.name);
      texts = length-map set (λ e. e.text);
    }

pub slack_of : (by : List ℕ) (slack : ℤ) → told_body_within (BSort by slack) ≡ true → nat_of slack ≤ 10000
slack_of by (pos n) h = grind (arith, nat_tests)
slack_of by (negsuc n) h = omega arith

pub record AnswerColumnsWithin (group : List (List ℕ)) (give : List AnswerColumn) : Type 0 where
  pub few_groups : length group ≤ 16
  pub some : 1 ≤ length give
  pub few : length give ≤ 16

pub answer_columns_of : (size advance phase : ℤ) (group : List (List ℕ)) (give : List AnswerColumn) → told_body_within (Aggregate size advance phase group give) ≡ true → AnswerColumnsWithin group give
answer_columns_of size advance phase group give h =
    let parts = and_true (has_between 0 16 group) (has_between 1 16 give) h in
    record { few_groups = few 0 16 group parts.0; some = some 1 16 give parts.1; few = few 1 16 give parts.1 }

pub given_length : (give : List AnswerColumn) → length (give_names give) ≡ length give
given_length give = length-map give (λ g. g.name)

-- how many streams a box takes
pub record TakesWithin (n : ℕ) : Type 0 where
  pub some : 1 ≤ n
  pub few : n ≤ 8

pub takes_few : (k : BoxKind) (n : ℕ) → takes_within k n ≡ true → TakesWithin n
takes_few boxes.Filter n h = grind (arith, nat_tests)
takes_few boxes.Map n h = grind (arith, nat_tests)
takes_few boxes.Union n h = grind (arith, nat_tests)
takes_few boxes.BSort n h = grind (arith, nat_tests)
takes_few boxes.Aggregate n h = grind (arith, nat_tests)
takes_few boxes.Join n h = grind (arith, nat_tests)
takes_few boxes.Resample n h = grind (arith, nat_tests)

pub takes_of : (b : BodyTable) (n : ℕ) → takes_within (kind_of_told_body b) n ≡ true → TakesWithin n
takes_of b n h = takes_few (kind_of_told_body b) n h
