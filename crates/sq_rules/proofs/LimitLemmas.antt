-- What the limits say of a file that keeps them.
use Rattle.std.proofs.Common.{◌≡◌, refl, ℕ, ◌≤◌, Bool, true, false, ◌&&◌, List, length, Option, Some, None, cond, arith}
use Rattle.std.specs.List.{list_all}
use Rattle.std.specs.Option.{option_map}
use Rattle.std.proofs.lemmas.Bool.Decides.{nat_tests}
use Rattle.sq_net.specs.declared.Part.TheVariants as part
use Rattle.sq_net.specs.declared.Place.{Place}
use Rattle.sq_tables.specs.declared.tables.BodyTable.{BodyTable}
use Rattle.sq_tables.specs.declared.tables.BodyTable.TheVariants.{Filter, Map, Union, BSort, Aggregate, Join, Resample}
use Rattle.sq_tables.specs.declared.tables.BoxTable.{BoxTable}
use Rattle.sq_tables.specs.declared.tables.NetworkTable.{NetworkTable}
use Rattle.sq_tables.specs.Places.{or_else, part_place}
use Rattle.sq_rules.specs.Limits as limits
use Rattle.sq_rules.specs.Limits.{told_body_within, box_within, first_failing, has_between, inputs_within, is_int_between, is_expression_long, limit_place, told_output_within, told_source_within, top_within}
use Rattle.sq_tables.specs.Shapes.{port_count}
use Rattle.sq_rules.proofs.ListLemmas.{none_failing, nothing_mapped}
use Rattle.sq_words.proofs.Bools.{and_true}

pub neither : {A : Type 0} (a b : Option A) → or_else a b ≡ None → (a ≡ None) × (b ≡ None)
neither None b h = (refl, h)
neither (Some x) b h = cc

pub few : {A : Type 0} (low high : ℕ) (xs : List A) → has_between low high xs ≡ true → length xs ≤ high
few low high xs h = grind (arith, nat_tests)

pub some : {A : Type 0} (low high : ℕ) (xs : List A) → has_between low high xs ≡ true → low ≤ length xs
some low high xs h = grind (arith, nat_tests)

pub record IsWithin (r : NetworkTable) : Type 0 where
  pub top : top_within r ≡ true
  pub sources : list_all limits.told_source_within r.sources ≡ true
  pub boxes : list_all box_within r.boxes ≡ true
  pub outputs : list_all told_output_within r.outputs ≡ true

pub is_within : (r : NetworkTable) → limit_place r ≡ None → IsWithin r
is_within r h = by_test (top_within r) refl h
  where
    wide_source : Option Place
    wide_source = option_map (part_place part.Source) (first_failing limits.told_source_within r.sources)

    wide_box : Option Place
    wide_box = option_map (part_place part.Box) (first_failing box_within r.boxes)

    wide_output : Option Place
    wide_output = option_map (part_place part.Output) (first_failing told_output_within r.outputs)

    by_test : (b : Bool) → top_within r ≡ b → cond b (or_else wide_source (or_else wide_box wide_output)) (Some (part_place part.Top 0)) ≡ None → IsWithin r
    by_test true is e =
        let parts = neither wide_source (or_else wide_box wide_output) e in
        let more = neither wide_box wide_output parts.1 in
        record {
          top = is;
          sources = none_failing limits.told_source_within r.sources (nothing_mapped (part_place part.Source) (first_failing limits.told_source_within r.sources) parts.0);
          boxes = none_failing box_within r.boxes (nothing_mapped (part_place part.Box) (first_failing box_within r.boxes) more.0);
          outputs = none_failing told_output_within r.outputs (nothing_mapped (part_place part.Output) (first_failing told_output_within r.outputs) more.1);
        }
    by_test false is e = cc

-- the counts of a file within its limits, and that its parts are within theirs
pub record Counts (r : NetworkTable) : Type 0 where
  pub sources : length r.sources ≤ 8
  pub boxes : length r.boxes ≤ 128
  pub outputs : length r.outputs ≤ 32
  pub each_source : list_all told_source_within r.sources ≡ true
  pub each_box : list_all box_within r.boxes ≡ true
  pub each_output : list_all told_output_within r.outputs ≡ true

pub counts_of : (r : NetworkTable) → limit_place r ≡ None → Counts r
counts_of r h =
    let w = is_within r h in
    let a = and_true _ _ w.top in
    let b = and_true _ _ a.0 in
    let d = and_true _ _ b.0 in
    let e = and_true _ _ d.0 in
    record {
      sources = few 1 8 r.sources e.0;
      boxes = few 0 128 r.boxes e.1;
      outputs = few 1 32 r.outputs d.1;
      each_source = w.sources;
      each_box = w.boxes;
      each_output = w.outputs;
    }

-- ---- the parts

pub record PredicatesWithin (preds : List (List ℕ)) : Type 0 where
  pub few : length preds ≤ 15
  pub long : list_all is_expression_long preds ≡ true

pub predicates_of : (preds : List (List ℕ)) → told_body_within (Filter preds) ≡ true → PredicatesWithin preds
predicates_of preds h =
    let parts = and_true (has_between 1 15 preds) (list_all is_expression_long preds) h in
    record { few = few 1 15 preds parts.0; long = parts.1 }

pub ports_few : (b : BodyTable) → told_body_within b ≡ true → port_count b ≤ 16
ports_few (Filter preds) h = let low = (predicates_of preds h).few in omega (arith, low)
ports_few (Map set) h = omega arith
ports_few Union h = omega arith
ports_few (BSort by slack) h = omega arith
ports_few (Aggregate size advance phase group give) h = omega arith
ports_few (Join size on) h = omega arith
ports_few (Resample size give) h = omega arith

pub record BoxWithin (b : BoxTable) : Type 0 where
  pub body : told_body_within b.body ≡ true
  pub some : 1 ≤ length b.ins
  pub few : length b.ins ≤ 8

pub box_of : (b : BoxTable) → box_within b ≡ true → BoxWithin b
box_of b h =
    let front = and_true (told_body_within b.body && inputs_within b.body b.ins && is_int_between 0 1000 b.cost) (list_all (is_int_between 0 1000000) b.selectivity) h in
    let middle = and_true (told_body_within b.body && inputs_within b.body b.ins) (is_int_between 0 1000 b.cost) front.0 in
    let parts = and_true (told_body_within b.body) (inputs_within b.body b.ins) middle.0 in
    record { body = parts.0; some = (inputs b.body parts.1).0; few = (inputs b.body parts.1).1 }
  where
    inputs : (raw : BodyTable) → inputs_within raw b.ins ≡ true → (1 ≤ length b.ins) × (length b.ins ≤ 8)
    inputs (Filter preds) g = (some 1 1 b.ins g, (let low = few 1 1 b.ins g in omega (arith, low)))
    inputs (Map set) g = (some 1 1 b.ins g, (let low = few 1 1 b.ins g in omega (arith, low)))
    inputs Union g = (some 1 8 b.ins g, few 1 8 b.ins g)
    inputs (BSort by slack) g = (some 1 1 b.ins g, (let low = few 1 1 b.ins g in omega (arith, low)))
    inputs (Aggregate size advance phase group give) g = (some 1 1 b.ins g, (let low = few 1 1 b.ins g in omega (arith, low)))
    inputs (Join size on) g = ((let least = some 2 2 b.ins g in omega (arith, least)), (let low = few 2 2 b.ins g in omega (arith, low)))
    inputs (Resample size give) g = ((let least = some 2 2 b.ins g in omega (arith, least)), (let low = few 2 2 b.ins g in omega (arith, low)))
