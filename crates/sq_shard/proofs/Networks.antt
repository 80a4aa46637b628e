-- Box after box, in the order in which each stands behind what it takes.
use Rattle.std.proofs.Common.{◌≡◌, ℕ, Bool, true, List, [], ◌∷◌, map, length, slice_get, Option, Some, None, refl, ap, sym, ◌∙◌, subst, arith}
use Rattle.std.specs.List.{sum_by, AllByRecursion}
use Rattle.std.proofs.lemmas.List.Elements.{recursion_from_All}
use Rattle.sq_value.specs.declared.Tuple.{Tuple}
use Rattle.sq_value.specs.Values.{Columns, fields_fit}
use Rattle.sq_graph.specs.declared.Wiring.{Wiring}
use Rattle.sq_graph.specs.Wires.{producer_of, inputs_of, stream_at}
use Rattle.sq_graph.specs.declared.Producer.TheVariants.{Source, Port}
use Rattle.sq_lists.specs.Sorting.{bsort_list_of}
use Rattle.sq_net.specs.declared.Network.{Network}
use Rattle.sq_net.specs.declared.Node.{Node}
use Rattle.sq_net.specs.declared.Body.{Body}
use Rattle.sq_net.specs.declared.Body.TheVariants.{Filter, Map, Union, BSort, Aggregate, Join, Resample}
use Rattle.sq_net.specs.SoundNetworks.{IsSound, HasWindow}
use Rattle.sq_net.specs.Streams.{columns_of_stream}
use Rattle.sq_model.specs.FittingStreams.{FitsOption, SourcesFit}
use Rattle.sq_model.specs.FullCounts.{full_fed_of}
use Rattle.sq_model.specs.FullStreams.{box_list, produced, full_stream, full_streams, box_list_at}
use Rattle.sq_model.specs.Laws.{FollowsBoxes}
use Rattle.sq_model.proofs.FullLemmas.{full_follows, full_listed}
use Rattle.sq_model.proofs.LateLemmas.{late_are_the_rest, bsort_few, first_few, same_sum}
use Rattle.sq_model.proofs.PlacedLemmas.{placed_of}
use Rattle.sq_model.proofs.StreamTypes.{streams-fit}
use Rattle.sq_shard.specs.declared.Cut.{Cut}
use Rattle.sq_shard.specs.Cuts.{KeyClass, IsShardOf, AreParts, kept, column_at}
use Rattle.sq_shard.specs.Keys.{FollowsCuts, cut_given, box_cut_at, source_cut, input_widths, width_of}
use Rattle.sq_shard.specs.Laws.{NoneLate, SameBody, SameNode, AreAlike}
use Rattle.sq_shard.proofs.InOrder.{by-order}
use Rattle.sq_model.proofs.LateLemmas.{bsort_gives}
use Rattle.sq_shard.proofs.Parts.{Law, GivesAll, moved, box-part}
use Rattle.sq_words.specs.Lists.{nth}
use Rattle.sq_value.proofs.FitLemmas.{fields_count}
use Rattle.sq_words.proofs.Alls.{all_at, all_weaker}

wide-option : (o : Option Columns) (xs : List Tuple) → FitsOption o xs → AllByRecursion (λ (x : Tuple). length x.fields ≡ width_of o) xs
wide-option None xs h = subst (AllByRecursion (λ (x : Tuple). length x.fields ≡ 0)) (sym h) tt
wide-option (Some cs) xs h = all_weaker (λ (x : Tuple). fields_fit cs x.fields ≡ true) (λ (x : Tuple). length x.fields ≡ length cs) (λ x k. fields_count cs x.fields k) xs h

source-part : (in_class : KeyClass) (o : Option ℕ) (xs : List Tuple) → IsShardOf in_class (source_cut o) xs (kept in_class o xs)
source-part in_class None xs = refl
source-part in_class (Some c) xs = (refl, tt)

-- where no BSort leaves out a tuple
pub gives-all : (n : Network) (sound : IsSound n) (sources : List (List Tuple)) → NoneLate n sources → (at : ℕ) (b : Node) → slice_get n.boxes at ≡ Some b
    → (c : Body) → b.body ≡ c → GivesAll c (nth (map (full_stream n sources) (inputs_of n.wires at)) 0)
gives-all n sound sources none at b there (Filter preds) is = tt
gives-all n sound sources none at b there (Map exprs) is = tt
gives-all n sound sources none at b there Union is = tt
gives-all n sound sources none at b there (BSort by slack) is =
    let placed = placed_of n sound in
    let stream = full_stream n sources in
    let s = stream_at n.wires at 0 in
    let inputs = inputs_of n.wires at in
    let first = nth (map stream inputs) 0 in
    let gives : stream s ≡ bsort_list_of by slack first =
    full_follows n sources placed s
    ∙ ap (produced n sources stream) (bsort_gives n sound at by slack b there is)
    ∙ ap (λ o. box_list_at o 0 (map stream inputs)) there
    ∙ ap (λ body. box_list body 0 (map stream inputs)) is in
    let given = ap (λ (xs : List Tuple). length xs) gives in
    let rest = late_are_the_rest n sources sound at by slack b there is in
    let late = none at in
    let fed : full_fed_of n sources at ≡ sum_by (λ s. length (stream s)) inputs = same_sum (nth (full_streams n sources)) stream (full_listed n sources placed) inputs in
    let few = first_few stream inputs in
    let most = bsort_few by slack first in
    omega (arith, given, rest, late, fed, few, most)
gives-all n sound sources none at b there (Aggregate funcs group window) is = tt
gives-all n sound sources none at b there (Join size on) is = tt
gives-all n sound sources none at b there (Resample size funcs) is = tt

module _ (n whole : Network) (sound : IsSound n) (sure : IsSound whole) (by : List (Option ℕ)) (on_time : Bool) (cuts : ℕ → Cut) (alike : AreAlike on_time n whole) (follows : FollowsCuts n by on_time cuts)
    (in_class : KeyClass) (sources part : List (List Tuple)) (fit : SourcesFit whole sources) (parts : AreParts in_class by sources part)
    (late : on_time ≡ true → NoneLate whole sources × NoneLate n part) where
  abbrev full : ℕ → List Tuple
  full s = full_stream whole sources s

  abbrev answered : ℕ → List Tuple
  answered s = full_stream n part s

  abbrev Holds : ℕ → Type 0
  Holds s = Law in_class cuts full answered s

  full-given : (s : ℕ) → full s ≡ produced whole sources full (producer_of n.wires s)
  full-given s = full_follows whole sources (placed_of whole sure) s ∙ ap (λ (w : Wiring). produced whole sources full (producer_of w s)) alike.wires

  part-given : FollowsBoxes n part answered
  part-given = full_follows n part (placed_of n sound)

  first-wide : (inputs : List ℕ) → AllByRecursion (λ (x : Tuple). length x.fields ≡ (input_widths n inputs).0) (nth (map full inputs) 0)
  first-wide [] = tt
  first-wide (s ∷ inputs) = wide-option (columns_of_stream n s) (full s) (subst (λ o. FitsOption o (full s)) (alike.columns s) (streams-fit whole sure sources fit s))

  box-holds : (at port : ℕ) (o p : Option Node) → slice_get n.boxes at ≡ o → slice_get whole.boxes at ≡ p → AllByRecursion Holds (inputs_of n.wires at)
      → IsShardOf in_class (box_cut_at on_time o (input_widths n (inputs_of n.wires at)) (map cuts (inputs_of n.wires at)))
      (box_list_at p port (map full (inputs_of n.wires at))) (box_list_at o port (map answered (inputs_of n.wires at)))
  box-holds at port None p e f all = tt
  box-holds at port (Some b) None e f all = absurd (subst (λ q. SameNode (Some b) q on_time) f (subst (λ q. SameNode q (slice_get whole.boxes at) on_time) e (alike.boxes at)))
  box-holds at port (Some b) (Some c) e f all =
      let window = all_at (λ (b : Node). HasWindow b.body) n.boxes at b (recursion_from_All (λ (b : Node). HasWindow b.body) n.boxes sound.windows) e in
      let same : SameBody b.body c.body on_time = subst (λ q. SameNode (Some b) q on_time) f (subst (λ q. SameNode q (slice_get whole.boxes at) on_time) e (alike.boxes at)) in
      box-part in_class cuts full answered on_time b.body c.body port (input_widths n (inputs_of n.wires at)) (inputs_of n.wires at) same window (first-wide (inputs_of n.wires at)) all
      (λ on. let none = late on in (
        subst (λ (w : Wiring). GivesAll c.body (nth (map full (inputs_of w at)) 0)) alike.wires (gives-all whole sure sources none.0 at c f c.body refl),
        gives-all n sound part none.1 at b e b.body refl,
      ))

  by-none : (s : ℕ) → producer_of n.wires s ≡ None → Holds s
  by-none s is =
      moved in_class (cuts s) _ (full s) [] (answered s) []
      (follows s ∙ ap (cut_given n by on_time cuts) is) (full-given s ∙ ap (produced whole sources full) is) (part-given s ∙ ap (produced n part answered) is) tt

  by-source : (s k : ℕ) → producer_of n.wires s ≡ Some (Source k) → Holds s
  by-source s k is =
      moved in_class (cuts s) (source_cut (column_at by k)) (full s) (nth sources k) (answered s) (kept in_class (column_at by k) (nth sources k))
      (follows s ∙ ap (cut_given n by on_time cuts) is) (full-given s ∙ ap (produced whole sources full) is)
      (part-given s ∙ ap (produced n part answered) is ∙ parts k)
      (source-part in_class (column_at by k) (nth sources k))

  by-port : (s at port : ℕ) → producer_of n.wires s ≡ Some (Port at port) → AllByRecursion Holds (inputs_of n.wires at) → Holds s
  by-port s at port is all =
      moved in_class (cuts s) _ (full s) (box_list_at (slice_get whole.boxes at) port (map full (inputs_of n.wires at))) (answered s) _
      (follows s ∙ ap (cut_given n by on_time cuts) is)
      (full-given s ∙ ap (produced whole sources full) is ∙ ap (λ (w : Wiring). box_list_at (slice_get whole.boxes at) port (map full (inputs_of w at))) alike.wires)
      (part-given s ∙ ap (produced n part answered) is)
      (box-holds at port (slice_get n.boxes at) (slice_get whole.boxes at) refl refl all)

  pub parts-answer : (s : ℕ) → IsShardOf in_class (cuts s) (full_stream whole sources s) (full_stream n part s)
  parts-answer s = by-order n (placed_of n sound) Holds by-none by-source by-port s
