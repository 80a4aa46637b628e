-- The limits of numbers and lengths.
use Rattle.std.specs.Prelude.{ℕ, ◌^◌, Bool, true, not, ◌&&◌, nat_le, if◌then◌else◌, List, length, position, ℤ, pos, int_le, Option, Some, option_map}
use Rattle.std.specs.List.{list_all}
use Rattle.sq_net.specs.declared.Part.TheVariants as part
use Rattle.sq_net.specs.declared.Place.{Place}
use Rattle.sq_tables.specs.declared.tables.SourceTable.{SourceTable}
use Rattle.sq_tables.specs.declared.tables.BodyTable.{BodyTable}
use Rattle.sq_tables.specs.declared.tables.BodyTable.TheVariants.{Filter, Map, Union, BSort, Aggregate, Join, Resample}
use Rattle.sq_tables.specs.declared.tables.BoxTable.{BoxTable}
use Rattle.sq_tables.specs.declared.tables.OutputTable.{OutputTable}
use Rattle.sq_tables.specs.declared.tables.NetworkTable.{NetworkTable}
use Rattle.sq_tables.specs.Places.{part_place, or_else}

abbrev pub is_int_between : ℕ → ℕ → ℤ → Bool
is_int_between low high z = int_le (pos low) z && int_le z (pos high)

abbrev pub has_between : {A : Type 0} → ℕ → ℕ → List A → Bool
has_between low high xs = nat_le low (length xs) && nat_le (length xs) high

abbrev pub is_expression_long : List ℕ → Bool
is_expression_long e = has_between 1 4096 e

abbrev pub top_within : NetworkTable → Bool
top_within r =
    has_between 1 8 r.sources && has_between 0 128 r.boxes && has_between 1 32 r.outputs
    && is_int_between 1 (2 ^ 34) r.epoch && is_int_between 1 1000000 r.batch

abbrev pub told_source_within : SourceTable → Bool
told_source_within s = has_between 1 255 s.file && has_between 1 16 s.fields

abbrev pub told_body_within : BodyTable → Bool
told_body_within (Filter preds) = has_between 1 15 preds && list_all is_expression_long preds
told_body_within (Map set) = has_between 1 16 set && list_all (λ e. is_expression_long e.text) set
told_body_within Union = true
told_body_within (BSort by slack) = is_int_between 0 10000 slack
told_body_within (Aggregate size advance phase group give) = has_between 0 16 group && has_between 1 16 give
told_body_within (Join size on) = is_int_between 0 (2 ^ 32) size && is_expression_long on
told_body_within (Resample size give) = is_int_between 0 (2 ^ 32) size && has_between 1 16 give

-- a Union takes 1 to 8 streams, a Join and a Resample two, and each other box one
abbrev pub inputs_within : BodyTable → List (List ℕ) → Bool
inputs_within Union ins = has_between 1 8 ins
inputs_within (Join size on) ins = has_between 2 2 ins
inputs_within (Resample size give) ins = has_between 2 2 ins
inputs_within b ins = has_between 1 1 ins

abbrev pub box_within : BoxTable → Bool
box_within b =
    told_body_within b.body && inputs_within b.body b.ins && is_int_between 0 1000 b.cost && list_all (is_int_between 0 1000000) b.selectivity

abbrev pub told_output_within : OutputTable → Bool
told_output_within o = is_int_between 0 1000 o.weight && has_between 0 1000 o.graph

-- the number of the first item that fails a test
abbrev pub first_failing : {A : Type 0} → (A → Bool) → List A → Option ℕ
first_failing test xs = position (λ x. not (test x)) xs

-- the file as a whole, then its sources, then its boxes, then its outputs
abbrev pub limit_place : NetworkTable → Option Place
limit_place r =
    if top_within r then or_else
    (option_map (part_place part.Source) (first_failing told_source_within r.sources))
    (or_else
    (option_map (part_place part.Box) (first_failing box_within r.boxes))
    (option_map (part_place part.Output) (first_failing told_output_within r.outputs)))
    else Some (part_place part.Top 0)
