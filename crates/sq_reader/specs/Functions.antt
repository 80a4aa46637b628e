-- What an Aggregate or a Resample answers, and what an Aggregate groups by, over columns that it takes.
use Rattle.std.specs.Prelude.{ℕ, ◌+◌, is_some, if◌then◌else◌, List, [], ◌∷◌, ◌++◌, Option, Some, None, Result, Ok, option_map}
use Rattle.std.specs.List.{filter_map}
use Rattle.std.specs.Option.{option_and_then}
use Rattle.sq_words.specs.Lists.{contains_bytes}
use Rattle.sq_value.specs.Values.{Columns}
use Rattle.sq_value.specs.declared.Kind.{Kind}
use Rattle.sq_expr.specs.Checking.{column_of}
use Rattle.sq_aggfn.specs.declared.Func.{Func}
use Rattle.sq_aggfn.specs.declared.Func.TheVariants as func
use Rattle.sq_net.specs.Columns.{kind_of_func}
use Rattle.sq_net.specs.declared.NetErr.{NetErr}
use Rattle.sq_net.specs.declared.NetErr.TheVariants as broken
use Rattle.sq_net.specs.declared.Part.TheVariants as part
use Rattle.sq_tables.specs.declared.tables.Over.{Over}
use Rattle.sq_tables.specs.declared.tables.Over.TheVariants as over
use Rattle.sq_tables.specs.declared.tables.Answer.{Answer}
use Rattle.sq_tables.specs.declared.tables.Answer.TheVariants as answer
use Rattle.sq_tables.specs.declared.tables.AnswerColumn.{AnswerColumn}
use Rattle.sq_tables.specs.Places.{place_at}
use Rattle.sq_tables.specs.Tables.{or_broken}
use Rattle.sq_words.specs.Results.{◌>>=◌}

-- a function over the field at a place
abbrev pub func_over : Over → ℕ → Func
func_over over.Sum i = func.Sum i
func_over over.Avg i = func.Avg i
func_over over.Min i = func.Min i
func_over over.Max i = func.Max i
func_over over.First i = func.First i
func_over over.Last i = func.Last i

-- the function of an answer, by the place of its field
abbrev pub func_for : Columns → Answer → Option Func
func_for cs answer.Count = Some func.Count
func_for cs (answer.Field o field) = option_map (func_over o) (column_of field cs)

-- a function that has a kind over these columns
abbrev pub if_kinded : Columns → Func → Option Func
if_kinded cs f = if is_some (kind_of_func cs f) then Some f else None

abbrev pub func_in : Columns → Answer → Option Func
func_in cs t = option_and_then (if_kinded cs) (func_for cs t)

abbrev pub funcs_from : ℕ → ℕ → Columns → List AnswerColumn → Result (List Func) NetErr
funcs_from n i cs [] = Ok []
funcs_from n i cs (g ∷ gs) = do
  f ← or_broken (broken.Typing (place_at part.Box n i)) (func_in cs g.answer)
  fs ← funcs_from n (i + 1) cs gs
  Ok (f ∷ fs)

abbrev pub kinds_answered : Columns → List Func → List Kind
kinds_answered cs fs = filter_map (kind_of_func cs) fs

-- the place of a field, unless it is one of those before
abbrev pub group_place : Columns → List (List ℕ) → List ℕ → Option ℕ
group_place cs before w = if contains_bytes w before then None else column_of w cs

abbrev pub group_from : ℕ → ℕ → Columns → List (List ℕ) → List (List ℕ) → Result (List ℕ) NetErr
group_from n i cs before [] = Ok []
group_from n i cs before (w ∷ ws) = do
  p ← or_broken (broken.Group (place_at part.Box n i)) (group_place cs before w)
  ps ← group_from n (i + 1) cs (before ++ w ∷ []) ws
  Ok (p ∷ ps)
