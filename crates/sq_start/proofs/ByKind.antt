-- New boxes by kind: by the clauses of each box, what it does for all that it is fed.
use Rattle.std.proofs.Common.{◌≡◌, ℕ, ◌+◌, Bool, true, false, ◌&&◌, List, [], ◌∷◌, ◌++◌, map, length, refl, ap, sym, ◌∙◌}
use Rattle.std.specs.Prelude.{◌==◌, ◌-◌, nat_lt}
use Rattle.std.specs.List.{flat_map}
use Rattle.sq_value.specs.declared.Value.{Value}
use Rattle.sq_value.specs.declared.Tuple.{Tuple}
use Rattle.sq_aggfn.specs.declared.Func.{Func}
use Rattle.sq_aggfn.specs.declared.WindowSpec.{WindowSpec}
use Rattle.sq_aggfn.specs.Functions.{answers_of}
use Rattle.sq_expr.specs.Trees.{Checked}
use Rattle.sq_item.specs.Things.{Thing}
use Rattle.sq_lists.specs.Boxes.{filter_list_of, map_list_of}
use Rattle.sq_lists.specs.Sorting.{bsort_list_of}
use Rattle.sq_lists.specs.Windows.{aggregate_of, window_results, in_window, starts_of}
use Rattle.sq_lists.specs.Pairs.{join_list_of, pairs_from}
use Rattle.sq_lists.specs.Resamples.{resample_list_of}
use Rattle.sq_oper.specs.declared.tally.Position.TheVariants.{Start}
use Rattle.sq_oper.specs.Entries.{Entry}
use Rattle.sq_oper.specs.Order.{IsFuture, unmarked}
use Rattle.sq_oper.specs.Streams.{tuple_in, tuples_at, tuples_of, things, at_zero, at_ports_below}
use Rattle.sq_tagged.specs.TaggedStreams.{HasNoMarks, spread_of, tagged_of, below_bounds}
use Rattle.sq_tagged.specs.Boxes.{filter_tagged, map_tagged, united_tagged, aggregate_tagged}
use Rattle.sq_plain.specs.Maps.{makes_tuple}
use Rattle.sq_agg.specs.Holdings.{makes_result}
use Rattle.sq_join.specs.Elements.{elements_of, side_of}
use Rattle.sq_join.specs.Sides.{join_fits}
use Rattle.sq_join.proofs.JoinLemmas.{join_new}
use Rattle.sq_resample.specs.Resampling.{resample_fits}
use Rattle.sq_net.specs.declared.Body.{Body}
use Rattle.sq_net.specs.declared.Body.TheVariants.{Filter, Map, Union, BSort, Aggregate, Join, Resample}
use Rattle.sq_model.specs.FullCounts.{late_at, late_by, late_of, full_fed_of}
use Rattle.sq_model.specs.FullStreams.{full_streams}
use Rattle.sq_graph.specs.Wires.{stream_at}
use Rattle.sq_model.specs.Shedding.{Replay, batch_level}
use Rattle.sq_below.specs.ArcContents.{port_tuples, box_fed}
use Rattle.sq_below.specs.Ports.{FuturesWiden}
use Rattle.sq_start.specs.Starts.{IsBox, BoxStarts}
use Rattle.sq_start.proofs.BoxFacts.{Ready, box-future, box-stream, not-marked}
use Rattle.sq_start.proofs.Late.{late-sorted}
use Rattle.sq_words.specs.Lists.{nth}
use Rattle.sq_expr.specs.Checking.{trees}
use Rattle.sq_oper.proofs.StreamLemmas.{at_zero-nil}

-- a box that loses nothing has no late tuples
none-late : (r : Replay) (b : ℕ) (kind : Body) (lags : List ℕ) (marked : Bool) → IsBox r b kind lags marked → ((taken given : ℕ) → late_by kind taken given ≡ 0) → (n : ℕ) → n ≡ 0 → n ≡ late_of r.network r.sources b
none-late r b kind lags marked h none n zero =
    let taken = full_fed_of r.network r.sources b in
    let given = length (nth (full_streams r.network r.sources) (stream_at r.network.wires b 0)) in
    zero ∙ sym (ap (λ o. late_at o taken given) h.there ∙ ap (λ k. late_by k taken given) h.is ∙ none taken given)

same-pairs : (es : List Entry) → elements_of es ≡ port_tuples es
same-pairs [] = refl
same-pairs (e ∷ es) = ap (λ l. map (λ x. (e.port, x)) (tuple_in e.thing.time e.thing.content) ++ l) (same-pairs es)

module _ (readies : Ready) (widen : FuturesWiden) (lags : List ℕ) (marked : Bool) (marks : ℕ → Bool) (fits : ℕ → List Value → Bool)
    (rest : (ℕ → ℕ → ℕ) → List Entry → ℕ → List Thing) (lost : List Entry → ℕ) where
  pub filter-starts : (preds : List Checked)
      → ((table : ℕ → ℕ → ℕ) (future : List Entry) (q : ℕ) → HasNoMarks future → rest table future q ≡ things (filter_list_of (trees preds) q (tuples_of future)))
      → ((table : ℕ → ℕ → ℕ) (future : List Entry) (q : ℕ) → IsFuture marks fits Start future → rest table future q ≡ at_ports_below (length preds + 1) q (spread_of (filter_tagged (trees preds) q (tagged_of future))))
      → ((port : ℕ) → marks port ≡ (port == 0)) → ((port : ℕ) (fields : List Value) → fits port fields ≡ true) → ((future : List Entry) → lost future ≡ 0)
      → BoxStarts (Filter preds) lags marked marks fits rest lost
  filter-starts preds plain below m f none =
      record {
        future = may;
        gives = λ r b h q. box-stream readies widen r b (Filter preds) lags marked h q (rest (batch_level r) (box_fed r b) q) (λ no free. plain (batch_level r) (box_fed r b) q free) (λ below_drop. below (batch_level r) (box_fed r b) q (may r b h));
        loses = λ r b h. none-late r b (Filter preds) lags marked h (λ t g. refl) (lost (box_fed r b)) (none (box_fed r b));
      }
    where
      may : (r : Replay) (b : ℕ) → IsBox r b (Filter preds) lags marked → IsFuture marks fits Start (box_fed r b)
      may r b h = box-future readies widen r b (Filter preds) lags marked h marks fits (λ port below_drop e. m port ∙ e) (λ port fields e. f port fields)

  pub map-starts : (exprs : List Checked)
      → ((table : ℕ → ℕ → ℕ) (future : List Entry) (q : ℕ) → HasNoMarks future → rest table future q ≡ at_zero q (things (map_list_of (trees exprs) (tuples_of future))))
      → ((table : ℕ → ℕ → ℕ) (future : List Entry) (q : ℕ) → IsFuture marks fits Start future → rest table future q ≡ at_zero q (spread_of (map_tagged (trees exprs) (tagged_of future))))
      → ((port : ℕ) → marks port ≡ (port == 0)) → ((port : ℕ) (fields : List Value) → fits port fields ≡ makes_tuple exprs) → ((future : List Entry) → lost future ≡ 0)
      → BoxStarts (Map exprs) lags marked marks fits rest lost
  map-starts exprs plain below m f none =
      record {
        future = may;
        gives = λ r b h q. box-stream readies widen r b (Map exprs) lags marked h q (rest (batch_level r) (box_fed r b) q) (λ no free. plain (batch_level r) (box_fed r b) q free) (λ below_drop. below (batch_level r) (box_fed r b) q (may r b h));
        loses = λ r b h. none-late r b (Map exprs) lags marked h (λ t g. refl) (lost (box_fed r b)) (none (box_fed r b));
      }
    where
      may : (r : Replay) (b : ℕ) → IsBox r b (Map exprs) lags marked → IsFuture marks fits Start (box_fed r b)
      may r b h = box-future readies widen r b (Map exprs) lags marked h marks fits (λ port below_drop e. m port ∙ e) (λ port fields e. f port fields ∙ e)

  pub union-starts :
      ((table : ℕ → ℕ → ℕ) (future : List Entry) (q : ℕ) → marked ≡ false → HasNoMarks future → rest table future q ≡ at_zero q (things (tuples_of future)))
      → ((table : ℕ → ℕ → ℕ) (future : List Entry) (q : ℕ) → marked ≡ true → IsFuture marks fits Start future → rest table future q ≡ at_zero q (spread_of (united_tagged lags future)))
      → ((port : ℕ) → marks port ≡ (marked && nat_lt port (length lags))) → ((port : ℕ) (fields : List Value) → fits port fields ≡ nat_lt port (length lags)) → ((future : List Entry) → lost future ≡ 0)
      → BoxStarts Union lags marked marks fits rest lost
  union-starts plain below m f none =
      record {
        future = may;
        gives = λ r b h q. box-stream readies widen r b Union lags marked h q (rest (batch_level r) (box_fed r b) q) (λ no free. plain (batch_level r) (box_fed r b) q no free) (λ below_drop. below (batch_level r) (box_fed r b) q below_drop (may r b h));
        loses = λ r b h. none-late r b Union lags marked h (λ t g. refl) (lost (box_fed r b)) (none (box_fed r b));
      }
    where
      may : (r : Replay) (b : ℕ) → IsBox r b Union lags marked → IsFuture marks fits Start (box_fed r b)
      may r b h = box-future readies widen r b Union lags marked h marks fits (λ port below_drop e. m port ∙ ap (λ z. z && nat_lt port (length lags)) below_drop ∙ e) (λ port fields e. f port fields ∙ e)

  pub bsort-starts : (by slack : ℕ)
      → ((table : ℕ → ℕ → ℕ) (future : List Entry) (q : ℕ) → rest table future q ≡ at_zero q (things (bsort_list_of by slack (tuples_of future))))
      → ((port : ℕ) (fields : List Value) → fits port fields ≡ true)
      → ((future : List Entry) → lost future ≡ length (tuples_of future) - length (bsort_list_of by slack (tuples_of future)))
      → BoxStarts (BSort by slack) lags marked marks fits rest lost
  bsort-starts by slack plain f late =
      record {
        future = λ r b h. box-future readies widen r b (BSort by slack) lags marked h marks fits (λ port below_drop e. absurd (cc e)) (λ port fields e. f port fields);
        gives = λ r b h q. box-stream readies widen r b (BSort by slack) lags marked h q (rest (batch_level r) (box_fed r b) q) (λ no free. plain (batch_level r) (box_fed r b) q)
            (λ below_drop. absurd (never r b h below_drop));
        loses = λ r b h. late (box_fed r b) ∙ late-sorted readies widen r b by slack lags marked h;
      }
    where
      never : (r : Replay) (b : ℕ) → IsBox r b (BSort by slack) lags marked → marked ≡ true → ⊥
      never r b h below_drop = let bad : true ≡ false = sym below_drop ∙ not-marked readies widen r b (BSort by slack) lags marked h refl in cc bad

  pub aggregate-starts : (funcs : List Func) (group : List ℕ) (window : WindowSpec)
      → ((table : ℕ → ℕ → ℕ) (future : List Entry) (q : ℕ) → marked ≡ false → IsFuture marks fits Start future → rest table future q ≡ at_zero q (things (aggregate_of (answers_of funcs) group window (tuples_of future))))
      → ((table : ℕ → ℕ → ℕ) (future : List Entry) (q : ℕ) → marked ≡ true → IsFuture marks fits Start future → rest table future q ≡ at_zero q (spread_of (aggregate_tagged (answers_of funcs) group window (tagged_of future))))
      → ((port : ℕ) → marks port ≡ (marked && (port == 0))) → ((port : ℕ) (fields : List Value) → fits port fields ≡ ((port == 0) && makes_result (length group) (length funcs))) → ((future : List Entry) → lost future ≡ 0)
      → BoxStarts (Aggregate funcs group window) lags marked marks fits rest lost
  aggregate-starts funcs group window plain below m f none =
      record {
        future = may;
        gives = λ r b h q. box-stream readies widen r b (Aggregate funcs group window) lags marked h q (rest (batch_level r) (box_fed r b) q) (λ no free. plain (batch_level r) (box_fed r b) q no (may r b h)) (λ below_drop. below (batch_level r) (box_fed r b) q below_drop (may r b h));
        loses = λ r b h. none-late r b (Aggregate funcs group window) lags marked h (λ t g. refl) (lost (box_fed r b)) (none (box_fed r b));
      }
    where
      may : (r : Replay) (b : ℕ) → IsBox r b (Aggregate funcs group window) lags marked → IsFuture marks fits Start (box_fed r b)
      may r b h = box-future readies widen r b (Aggregate funcs group window) lags marked h marks fits (λ port below_drop e. m port ∙ ap (λ z. z && (port == 0)) below_drop ∙ e) (λ port fields e. f port fields ∙ e)

  pub join-starts : (size : ℕ) (on : Checked)
      → ((table : ℕ → ℕ → ℕ) (future : List Entry) (q : ℕ) → IsFuture marks fits Start future
      → rest table future q ≡ at_zero q (things (join_list_of size on.tree (side_of 0 (elements_of future)) (side_of 1 (elements_of future)))))
      → ((port : ℕ) (fields : List Value) → fits port fields ≡ join_fits on.scope port fields) → ((future : List Entry) → lost future ≡ 0)
      → BoxStarts (Join size on) lags marked marks fits rest lost
  join-starts size on plain f none =
      record {
        future = may;
        gives = λ r b h q. box-stream readies widen r b (Join size on) lags marked h q (rest (batch_level r) (box_fed r b) q)
            (λ no free.
            plain (batch_level r) (box_fed r b) q (may r b h)
            ∙ sym (join_new size on.tree on.scope (box_fed r b) q (box-future readies widen r b (Join size on) lags marked h unmarked (join_fits on.scope) (λ port below_drop e. absurd (cc e)) (λ port fields e. e)))
            ∙ ap (λ es. at_zero q (things (pairs_from size on.tree [] es))) (same-pairs (box_fed r b)))
            (λ below_drop. absurd (never r b h below_drop));
        loses = λ r b h. none-late r b (Join size on) lags marked h (λ t g. refl) (lost (box_fed r b)) (none (box_fed r b));
      }
    where
      may : (r : Replay) (b : ℕ) → IsBox r b (Join size on) lags marked → IsFuture marks fits Start (box_fed r b)
      may r b h = box-future readies widen r b (Join size on) lags marked h marks fits (λ port below_drop e. absurd (cc e)) (λ port fields e. f port fields ∙ e)

      never : (r : Replay) (b : ℕ) → IsBox r b (Join size on) lags marked → marked ≡ true → ⊥
      never r b h below_drop = let bad : true ≡ false = sym below_drop ∙ not-marked readies widen r b (Join size on) lags marked h refl in cc bad

  pub resample-starts : (size : ℕ) (funcs : List Func)
      → ((table : ℕ → ℕ → ℕ) (future : List Entry) (q : ℕ) → rest table future q ≡ at_zero q (things (resample_list_of funcs size (tuples_at 0 future) (tuples_at 1 future))))
      → ((port : ℕ) (fields : List Value) → fits port fields ≡ resample_fits (length funcs) port fields) → ((future : List Entry) → lost future ≡ 0)
      → BoxStarts (Resample size funcs) lags marked marks fits rest lost
  resample-starts size funcs plain f none =
      record {
        future = λ r b h. box-future readies widen r b (Resample size funcs) lags marked h marks fits (λ port below_drop e. absurd (cc e)) (λ port fields e. f port fields ∙ e);
        gives = λ r b h q. box-stream readies widen r b (Resample size funcs) lags marked h q (rest (batch_level r) (box_fed r b) q) (λ no free. plain (batch_level r) (box_fed r b) q)
            (λ below_drop. absurd (never r b h below_drop));
        loses = λ r b h. none-late r b (Resample size funcs) lags marked h (λ t g. refl) (lost (box_fed r b)) (none (box_fed r b));
      }
    where
      never : (r : Replay) (b : ℕ) → IsBox r b (Resample size funcs) lags marked → marked ≡ true → ⊥
      never r b h below_drop = let bad : true ≡ false = sym below_drop ∙ not-marked readies widen r b (Resample size funcs) lags marked h refl in cc bad

-- ---- an Aggregate that is fed nothing

flat-none : (f : ℕ → List Tuple) → ((s : ℕ) → f s ≡ []) → (ss : List ℕ) → flat_map f ss ≡ []
flat-none f h [] = refl
flat-none f h (s ∷ ss) = ap (λ xs. xs ++ flat_map f ss) (h s) ∙ flat-none f h ss

aggregate-none : (answers : List Tuple → List Value) (group : List ℕ) (w : WindowSpec) → aggregate_of answers group w [] ≡ []
aggregate-none answers group w = flat-none (λ s. window_results answers group s (in_window w s [])) (λ s. refl) (starts_of w [])

pub none-by : (answers : List Tuple → List Value) (group : List ℕ) (w : WindowSpec) (marked : Bool) (port : ℕ) (xs : List Thing)
    → (marked ≡ false → xs ≡ at_zero port (things (aggregate_of answers group w []))) → (marked ≡ true → xs ≡ at_zero port (spread_of (aggregate_tagged answers group w (tagged_of [])))) → xs ≡ []
none-by answers group w false port xs plain below = plain refl ∙ ap (λ l. at_zero port (things l)) (aggregate-none answers group w) ∙ at_zero-nil port
none-by answers group w true port xs plain below =
    below refl ∙ ap (λ l. at_zero port (spread_of (record { marks = []; tuples = below_bounds [] l }))) (aggregate-none answers group w) ∙ at_zero-nil port
