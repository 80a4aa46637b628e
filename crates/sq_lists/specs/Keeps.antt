-- What a box gives for streams is a stream.
use Rattle.std.specs.Prelude.{ℕ, List}
use Rattle.std.specs.List.{AllByRecursion}
use Rattle.sq_value.specs.declared.Tuple.{Tuple}
use Rattle.sq_value.specs.Values.{IsStream}
use Rattle.sq_expr.specs.Trees.{Expr}
use Rattle.sq_aggfn.specs.declared.Func.{Func}
use Rattle.sq_aggfn.specs.declared.WindowSpec.{WindowSpec}
use Rattle.sq_lists.specs.Boxes.{filter_list_of, map_list_of}
use Rattle.sq_lists.specs.Merge as merges
use Rattle.sq_lists.specs.Sorting.{bsort_list_of}
use Rattle.sq_lists.specs.Windows.{aggregate_list_of}
use Rattle.sq_lists.specs.Pairs.{join_list_of}
use Rattle.sq_lists.specs.Resamples.{resample_list_of}

-- box by box, at each port and for all parameters
pub record KeepStreams : Type 0 where
  pub filter : (ps : List Expr) (port : ℕ) (xs : List Tuple) → IsStream xs → IsStream (filter_list_of ps port xs)
  pub map : (es : List Expr) (xs : List Tuple) → IsStream xs → IsStream (map_list_of es xs)
  pub union : (ins : List (List Tuple)) → AllByRecursion IsStream ins → IsStream (merges.union ins)
  pub bsort : (by slack : ℕ) (xs : List Tuple) → IsStream xs → IsStream (bsort_list_of by slack xs)
  pub aggregate : (fs : List Func) (by : List ℕ) (w : WindowSpec) (xs : List Tuple) → IsStream xs → IsStream (aggregate_list_of fs by w xs)
  pub join : (size : ℕ) (on : Expr) (left right : List Tuple) → IsStream left → IsStream right → IsStream (join_list_of size on left right)
  pub resample : (fs : List Func) (size : ℕ) (left right : List Tuple) → IsStream left → IsStream (resample_list_of fs size left right)
