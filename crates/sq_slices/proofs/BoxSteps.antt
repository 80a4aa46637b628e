-- Box by box: where a part agrees with what a box takes, as far as it reaches, it agrees with what the box gives.
use Rattle.std.proofs.Common.{◌≡◌, ℕ, ◌+◌, ◌-◌, eqb, List, [], ◌∷◌, map, Option, Some, None, refl, ap, sym, ◌∙◌, arith}
use Rattle.std.specs.Prelude.{⊤}
use Rattle.std.specs.Option.{option_map}
use Rattle.sq_words.proofs.Alls.{all_weaker}
use Rattle.std.specs.List.{flat_map, AllByRecursion}
use Rattle.sq_value.specs.declared.Tuple.{Tuple}
use Rattle.sq_words.specs.Lists.{nth, sort_by}
use Rattle.sq_expr.specs.Trees.{Expr}
use Rattle.sq_aggfn.specs.declared.Func.{Func}
use Rattle.sq_aggfn.specs.declared.WindowSpec.{WindowSpec}
use Rattle.sq_aggfn.specs.Windows.{IsWindow}
use Rattle.sq_aggfn.specs.Functions.{answers_of}
use Rattle.sq_lists.specs.Boxes.{filter_list_of, map_list_of, mapped, port_taken}
use Rattle.sq_lists.specs.Merge.{union}
use Rattle.sq_lists.specs.Sorting.{bsort_list_of}
use Rattle.sq_lists.specs.Windows.{aggregate_list_of}
use Rattle.sq_lists.specs.Pairs.{join_list_of}
use Rattle.sq_lists.specs.Resamples.{resample_list_of}
use Rattle.sq_road.proofs.Parts.{filter_sort}
use Rattle.sq_place.proofs.Deciding.{filter-mapped}
use Rattle.sq_net.specs.SoundNetworks.{HasWindow}
use Rattle.sq_net.specs.declared.Body.{Body}
use Rattle.sq_net.specs.declared.Body.TheVariants.{Filter, Map, Union, BSort, Aggregate, Join, Resample}
use Rattle.sq_model.specs.FullStreams.{box_list}
use Rattle.sq_model.specs.Unions.{tuple_sooner}
use Rattle.sq_model.proofs.UnionLemmas.{sooner_orders, union_is_sorted}
use Rattle.sq_shard.proofs.Lists.{filter-swap, filter-flat_map}
use Rattle.sq_shard.proofs.Parts.{GivesAll}
use Rattle.sq_slices.specs.declared.Reach.{Reach}
use Rattle.sq_slices.specs.Slices.{in_slice, slice, AgreeIn}
use Rattle.sq_slices.specs.Reaches.{earlier_reach, later_reach, both_reaches, starts, windowed, both_if, union_reach, reach_numbered, box_reach}
use Rattle.sq_slices.specs.Laws.{FedWithin}
use Rattle.sq_slices.proofs.SliceLemmas.{narrower, through}
use Rattle.sq_slices.proofs.ReachLemmas.{HoldsFor, Agreed, AgreedIf, AllAgreed, Narrows, wide, same-reach, first-of-both, second-of-both, both-agreed, mapped-holds, agree-narrows, union-agreed}
use Rattle.sq_slices.proofs.WindowSteps.{ends-within, aggregate-sliced, resample-sliced}
use Rattle.sq_slices.proofs.PairSteps.{join-sliced}
use Rattle.sq_slices.proofs.SortSteps.{bsort-agrees}

-- what is asked of what a box is fed, where BSorts are followed
abbrev pub IsFedInTime : Option ℕ → Body → List Tuple → Type 0
IsFedInTime None b xs = ⊤
IsFedInTime (Some delay) b xs = GivesAll b xs × FedWithin delay b xs

filter-step : (ps : List Expr) (port a b : ℕ) (xs ys : List Tuple) → AgreeIn a b xs ys → AgreeIn a b (filter_list_of ps port xs) (filter_list_of ps port ys)
filter-step ps port a b = through a b a b (filter_list_of ps port) (filter_list_of ps port) (λ xs. filter-swap (in_slice a b) (λ x. eqb (port_taken ps x) port) xs)

map-step : (es : List Expr) (a b : ℕ) (xs ys : List Tuple) → AgreeIn a b xs ys → AgreeIn a b (map_list_of es xs) (map_list_of es ys)
map-step es a b = through a b a b (map_list_of es) (map_list_of es) (λ xs. filter-mapped (in_slice a b) (mapped es) xs)

module _ (full part : ℕ → List Tuple) (a b : ℕ) where
  all-same : (inputs : List ℕ) → AllByRecursion (λ s. AgreeIn a b (full s) (part s)) inputs → flat_map (λ s. slice a b (full s)) inputs ≡ flat_map (λ s. slice a b (part s)) inputs
  all-same [] all = refl
  all-same (s ∷ inputs) all = rw (all.0, all-same inputs all.1) refl

  union-sliced : (stream : ℕ → List Tuple) (inputs : List ℕ) → slice a b (union (map stream inputs)) ≡ sort_by tuple_sooner (flat_map (λ s. slice a b (stream s)) inputs)
  union-sliced stream inputs =
      ap (slice a b) (sym (union_is_sorted stream inputs))
      ∙ filter_sort tuple_sooner sooner_orders (in_slice a b) (flat_map stream inputs)
      ∙ ap (sort_by tuple_sooner) (filter-flat_map (in_slice a b) stream inputs)

  union-step : (inputs : List ℕ) → AllByRecursion (λ s. AgreeIn a b (full s) (part s)) inputs → AgreeIn a b (union (map full inputs)) (union (map part inputs))
  union-step inputs all = union-sliced full inputs ∙ ap (sort_by tuple_sooner) (all-same inputs all) ∙ sym (union-sliced part inputs)

module _ (lo hi : ℕ) where
  aggregate-step : (fs : List Func) (group : List ℕ) (w : WindowSpec) → IsWindow w → (r : Reach) (xs ys : List Tuple) → Agreed lo hi r xs ys
      → Agreed lo hi (windowed w r) (aggregate_list_of fs group w xs) (aggregate_list_of fs group w ys)
  aggregate-step fs group w window r xs ys good = (
    record { moves = window.moves; begins = window.begins },
    λ a b cut low high. (
        let wider = wide lo hi (starts w) 0 (w.size - w.advance) r xs ys good a b cut (omega (arith, low)) high in
        let f = aggregate_list_of fs group w in
        through (a - 0) (b + (w.size - w.advance)) a b f (λ zs. slice a b (f zs))
        (aggregate-sliced (answers_of fs) group w window.moves a b (a - 0) (b + (w.size - w.advance)) (omega arith) (ends-within w b cut window.covers))
        xs ys wider),
  )

  join-step : (size : ℕ) (on : Expr) (r : Reach) (xl yl xr yr : List Tuple) → Agreed lo hi r xl yl → Agreed lo hi r xr yr
      → Agreed lo hi (earlier_reach size r) (join_list_of size on xl xr) (join_list_of size on yl yr)
  join-step size on r xl yl xr yr left right = (
    left.0,
    λ a b cut low high. (
        let l = left.1 (a - size) b cut (omega (arith, low)) high in
        let q = right.1 (a - size) b cut (omega (arith, low)) high in
        join-sliced size on a b (a - size) b (omega arith) (omega arith) xl xr
        ∙ ap (λ zs. slice a b (join_list_of size on zs (slice (a - size) b xr))) l ∙ ap (λ zs. slice a b (join_list_of size on (slice (a - size) b yl) zs)) q
        ∙ sym (join-sliced size on a b (a - size) b (omega arith) (omega arith) yl yr)),
  )

  -- the right side of a Resample is needed in slices that are wider by the size at both ends
  abbrev Near : ℕ → List Tuple → List Tuple → ℕ → ℕ → Type 0
  Near size xs ys a b = AgreeIn (a - size) (b + size) xs ys

  near-narrows : (size : ℕ) (xs ys : List Tuple) → Narrows lo hi (Near size xs ys)
  near-narrows size xs ys a b c le e = narrower (a - size) (c + size) (a - size) (b + size) (omega arith) (omega (arith, le)) xs ys e

  near-of : (size : ℕ) (r : Reach) (xs ys : List Tuple) → Agreed lo hi r xs ys → HoldsFor lo hi (Near size xs ys) (earlier_reach size (later_reach size r))
  near-of size r xs ys good = (good.0, λ a b cut low high. wide lo hi r.cuts size size r xs ys good a b cut low high)

  resample-step : (fs : List Func) (size : ℕ) (r : Reach) (xl yl xr yr : List Tuple) → Agreed lo hi r xl yl → HoldsFor lo hi (Near size xr yr) r
      → Agreed lo hi r (resample_list_of fs size xl xr) (resample_list_of fs size yl yr)
  resample-step fs size r xl yl xr yr left right = (
    left.0,
    λ a b cut low high. (
        let l = left.1 a b cut low high in
        let q = right.1 a b cut low high in
        resample-sliced (answers_of fs) size a b (a - size) (b + size) (omega arith) (omega arith) xl xr
        ∙ ap (λ zs. resample_list_of fs size zs (slice (a - size) (b + size) xr)) l ∙ ap (λ zs. resample_list_of fs size (slice a b yl) zs) q
        ∙ sym (resample-sliced (answers_of fs) size a b (a - size) (b + size) (omega arith) (omega arith) yl yr)),
  )

  sort-step : (by slack delay : ℕ) (r : Reach) (xs ys : List Tuple) → GivesAll (BSort by slack) xs × FedWithin delay (BSort by slack) xs → GivesAll (BSort by slack) ys × FedWithin delay (BSort by slack) ys
      → Agreed lo hi r xs ys → Agreed lo hi (later_reach delay r) (bsort_list_of by slack xs) (bsort_list_of by slack ys)
  sort-step by slack delay r xs ys whole part good = (
    good.0,
    λ a b cut low high. (
        let wider = wide lo hi r.cuts 0 delay r xs ys good a b cut (omega (arith, low)) high in
        bsort-agrees by delay a b (b + delay) (omega arith) slack xs ys whole.0 part.0 whole.1 part.1
        (narrower (a - 0) (b + delay) a (b + delay) (omega arith) (omega arith) xs ys wider)),
  )

  -- ---- all kinds

  module _ (reaches : ℕ → Option Reach) (full part : ℕ → List Tuple) where
    abbrev pub Law : ℕ → Type 0
    Law s = AgreedIf lo hi (reaches s) (full s) (part s)

    first : (inputs : List ℕ) → AllByRecursion Law inputs → AgreedIf lo hi (reach_numbered (map reaches inputs) 0) (nth (map full inputs) 0) (nth (map part inputs) 0)
    first [] all = tt
    first (s ∷ inputs) all = all.0

    second : (inputs : List ℕ) → AllByRecursion Law inputs → AgreedIf lo hi (reach_numbered (map reaches inputs) 1) (nth (map full inputs) 1) (nth (map part inputs) 1)
    second [] all = tt
    second (s ∷ inputs) all = first inputs all.1

    same-if : (o : Option Reach) (xs ys vs ws : List Tuple) → ((a b : ℕ) → AgreeIn a b xs ys → AgreeIn a b vs ws) → AgreedIf lo hi o xs ys → AgreedIf lo hi o vs ws
    same-if None xs ys vs ws h good = tt
    same-if (Some r) xs ys vs ws h good = same-reach lo hi r xs ys vs ws h good

    union-if : (o : Option Reach) (inputs : List ℕ) → AllAgreed lo hi full part o inputs → AgreedIf lo hi o (union (map full inputs)) (union (map part inputs))
    union-if None inputs all = tt
    union-if (Some r) inputs all = (
      all.0,
      λ a b cut low high. union-step full part a b inputs
          (all_weaker (λ s. Agreed lo hi r (full s) (part s)) (λ s. AgreeIn a b (full s) (part s)) (λ s good. good.1 a b cut low high) inputs all.1),
    )

    pub box-step : (delay : Option ℕ) (b : Body) (port : ℕ) (inputs : List ℕ) → HasWindow b → AllByRecursion Law inputs
        → IsFedInTime delay b (nth (map full inputs) 0) → IsFedInTime delay b (nth (map part inputs) 0)
        → AgreedIf lo hi (box_reach delay b (map reaches inputs)) (box_list b port (map full inputs)) (box_list b port (map part inputs))
    box-step delay (Filter preds) port inputs window all whole mine =
        same-if (reach_numbered (map reaches inputs) 0) (nth (map full inputs) 0) (nth (map part inputs) 0) _ _
        (λ a b. filter-step (map (λ e. e.tree) preds) port a b (nth (map full inputs) 0) (nth (map part inputs) 0)) (first inputs all)
    box-step delay (Map exprs) port inputs window all whole mine =
        same-if (reach_numbered (map reaches inputs) 0) (nth (map full inputs) 0) (nth (map part inputs) 0) _ _
        (λ a b. map-step (map (λ e. e.tree) exprs) a b (nth (map full inputs) 0) (nth (map part inputs) 0)) (first inputs all)
    box-step delay Union port inputs window all whole mine = union-if (union_reach (map reaches inputs)) inputs (union-agreed lo hi full part reaches inputs all)
    box-step None (BSort by slack) port inputs window all whole mine = tt
    box-step (Some delay) (BSort by slack) port inputs window all whole mine =
        let xs = nth (map full inputs) 0 in
        let ys = nth (map part inputs) 0 in
        mapped-holds lo hi (λ a b. AgreeIn a b xs ys) (λ a b. AgreeIn a b (bsort_list_of by slack xs) (bsort_list_of by slack ys)) (later_reach delay) (reach_numbered (map reaches inputs) 0)
        (λ r good. sort-step by slack delay r xs ys whole mine good) (first inputs all)
    box-step delay (Aggregate funcs group w) port inputs window all whole mine =
        let xs = nth (map full inputs) 0 in
        let ys = nth (map part inputs) 0 in
        mapped-holds lo hi (λ a b. AgreeIn a b xs ys) (λ a b. AgreeIn a b (aggregate_list_of funcs group w xs) (aggregate_list_of funcs group w ys)) (windowed w) (reach_numbered (map reaches inputs) 0)
        (λ r good. aggregate-step funcs group w window r xs ys good) (first inputs all)
    box-step delay (Join size on) port inputs window all whole mine =
        let xl = nth (map full inputs) 0 in
        let yl = nth (map part inputs) 0 in
        let xr = nth (map full inputs) 1 in
        let yr = nth (map part inputs) 1 in
        joined (reach_numbered (map reaches inputs) 0) (reach_numbered (map reaches inputs) 1) xl yl xr yr (first inputs all) (second inputs all)
      where
        joined : (o p : Option Reach) (xl yl xr yr : List Tuple) → AgreedIf lo hi o xl yl → AgreedIf lo hi p xr yr
            → AgreedIf lo hi (option_map (earlier_reach size) (both_if o p)) (join_list_of size on.tree xl xr) (join_list_of size on.tree yl yr)
        joined None p xl yl xr yr l r = tt
        joined (Some q) None xl yl xr yr l r = tt
        joined (Some q) (Some s) xl yl xr yr l r =
            join-step size on.tree (both_reaches q s) xl yl xr yr
            (first-of-both lo hi (λ a b. AgreeIn a b xl yl) (agree-narrows lo hi xl yl) q s r.0 l)
            (second-of-both lo hi (λ a b. AgreeIn a b xr yr) (agree-narrows lo hi xr yr) q s l.0 r)
    box-step delay (Resample size funcs) port inputs window all whole mine =
        let xl = nth (map full inputs) 0 in
        let yl = nth (map part inputs) 0 in
        let xr = nth (map full inputs) 1 in
        let yr = nth (map part inputs) 1 in
        both-agreed lo hi (λ a b. AgreeIn a b xl yl) (Near size xr yr) (agree-narrows lo hi xl yl) (near-narrows size xr yr)
        (reach_numbered (map reaches inputs) 0) (option_map (λ r. earlier_reach size (later_reach size r)) (reach_numbered (map reaches inputs) 1)) _ _
        (λ r left right. resample-step funcs size r xl yl xr yr left right) (first inputs all)
        (mapped-holds lo hi (λ a b. AgreeIn a b xr yr) (Near size xr yr) (λ r. earlier_reach size (later_reach size r)) (reach_numbered (map reaches inputs) 1)
        (λ r good. near-of size r xr yr good) (second inputs all))
