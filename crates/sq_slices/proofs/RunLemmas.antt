-- Slices that each are in time make the whole, of which nothing is asked.
use Rattle.std.proofs.Common.{◌≡◌, ℕ, ◌+◌, ◌-◌, ◌*◌, ◌<◌, ◌≤◌, ◌^◌, true, false, List, [], ◌∷◌, map, length, slice_get, Option, Some, None, refl, ap, sym, ◌∙◌, subst, arith, inl, inr}
use Rattle.std.proofs.lemmas.Bool.{cases_lt}
use Rattle.std.proofs.lemmas.Option.{slice_get_past}
use Rattle.std.proofs.lemmas.List.Elements.{recursion_from_All}
use Rattle.std.specs.List.{All, AllByRecursion}
use Rattle.std.specs.Option.{IfSome, option_map}
use Rattle.sq_value.specs.declared.Tuple.{Tuple}
use Rattle.sq_value.specs.Values.{IsStream}
use Rattle.sq_words.specs.Lists.{nth}
use Rattle.sq_words.proofs.Alls.{all_at, all_weaker}
use Rattle.sq_graph.specs.Wires.{producers_of, producer_of, inputs_of}
use Rattle.sq_graph.specs.declared.Producer.TheVariants.{Source, Port}
use Rattle.sq_graph.specs.Order.{is_there}
use Rattle.sq_lists.proofs.WindowLemmas.{stream_rises, stream_ticks}
use Rattle.sq_net.specs.declared.Body.{Body}
use Rattle.sq_net.specs.declared.Body.TheVariants.{Filter, Map, Union, BSort, Aggregate, Join, Resample}
use Rattle.sq_net.specs.declared.Network.{Network}
use Rattle.sq_net.specs.declared.Node.{Node}
use Rattle.sq_net.specs.SoundNetworks.{IsSound, HasWindow}
use Rattle.sq_model.specs.FullStreams.{produced, full_stream, box_list_at}
use Rattle.sq_model.proofs.FullLemmas.{full_follows}
use Rattle.sq_model.proofs.PlacedLemmas.{placed_of}
use Rattle.sq_shard.proofs.InOrder.{by-order}
use Rattle.sq_shard.proofs.Reasons.{inputs-there}
use Rattle.sq_slices.specs.declared.Reach.{Reach}
use Rattle.sq_slices.specs.Grids.{IsGrid, may_end}
use Rattle.sq_slices.specs.Bounds.{IsLow}
use Rattle.sq_slices.specs.Slices.{AgreeIn, SourcesAgree}
use Rattle.sq_slices.specs.Reaches.{own_reach, earlier_reach, union_reach, box_reach_at, reach_given, reach_of, reaches_of, FollowsReaches}
use Rattle.sq_slices.specs.Laws.{AreInTime, Slice, last_end, AreSlices, run_reach, SlicesMakeTheRun}
use Rattle.sq_slices.proofs.SliceLemmas.{narrower}
use Rattle.sq_slices.proofs.ReachLemmas.{AgreedIf, HoldsIf, agree-narrows, own-agreed, holds-for-all}
use Rattle.sq_slices.proofs.BoxSteps.{IsFedInTime, Law, box-step}
use Rattle.sq_slices.proofs.NetworkSteps.{fed-in-time, moved}
use Rattle.sq_slices.proofs.FollowLemmas.{reach-of-follows}
use Rattle.sq_slices.proofs.BoundLemmas.{within-low}
use Rattle.sq_slices.proofs.WholeLemmas.{AllAnswer, stream, whole}
use Rattle.sq_slices.proofs.ZoneLemmas.{in-time}

-- a slice that reaches as far as several streams, and so many ticks further back, agrees for so many ticks before it
checked : (lo hi delay : ℕ) (P : ℕ → ℕ → Type 0) (o : Option Reach) (r : Reach) → option_map (earlier_reach delay) o ≡ Some r → HoldsIf lo hi P o
    → (a b : ℕ) → may_end r.cuts b ≡ true → lo ≤ a - r.back → b + r.ahead ≤ hi → P (a - delay) b
checked lo hi delay P None r is good a b cut low high = absurd (cc is)
checked lo hi delay P (Some u) r is good a b cut low high =
    let e : earlier_reach delay u ≡ r = cc in
    let back = ap (λ (q : Reach). q.back) e in
    let ahead = ap (λ (q : Reach). q.ahead) e in
    good.1 (a - delay) b (subst (λ (q : Reach). may_end q.cuts b ≡ true) (sym e) cut) (omega (arith, low, back)) (omega (arith, high, ahead))

module _ (n : Network) (sound : IsSound n) (delay : ℕ) (small : delay < 2 ^ 40) (sources : List (List Tuple)) (streams : All IsStream sources)
    (r : Reach) (is : run_reach n delay ≡ Some r) where
  abbrev full : ℕ → List Tuple
  full s = full_stream n sources s

  abbrev reaches : ℕ → Option Reach
  reaches = reach_of n (Some delay)

  abbrev count : ℕ
  count = length (producers_of n.wires)

  follows : FollowsReaches n (Some delay) reaches
  follows = reach-of-follows n (Some delay) (placed_of n sound)

  -- where a slice begins and ends, and what it has of the sources
  abbrev Zone : ℕ → ℕ → Type 0
  Zone a b = (part : List (List Tuple)) × (may_end r.cuts b ≡ true) × SourcesAgree (a - r.back) (b + r.ahead) sources part × AreInTime n (Some delay) part

  abbrev Covers : Type 0
  Covers = (t : ℕ) → t < 2 ^ 40 → (a : ℕ) × (b : ℕ) × Zone a b × (a ≤ t) × (t < b)

  pub covered : (from : ℕ) (slices : List Slice) → AreSlices n (Some delay) r sources from slices → (t : ℕ) → from ≤ t → t < last_end from slices → (a : ℕ) × (b : ℕ) × Zone a b × (a ≤ t) × (t < b)
  covered from [] all t low high = absurd (omega (arith, low, high))
  covered from (p ∷ ps) all t low high =
      elim (cases_lt t p.end) [
        | inl less ↦ (from, p.end, (p.sources, all.1, all.2, all.3), low, less)
        | inr past ↦ covered p.end ps all.4 t past high
      ]

  grids : (s : ℕ) → IfSome (reaches s) (λ q. IsGrid q.cuts)
  grids s = of (reaches s) (within-low n sound (Some delay) small (length n.boxes + 1) s)
    where
      of : (o : Option Reach) → IfSome o (IsLow ((length n.boxes + 1) * 2 ^ 41)) → IfSome o (λ q. IsGrid q.cuts)
      of None low = tt
      of (Some q) low = low.grid

  module _ (covers : Covers) where
    abbrev Holds : ℕ → Type 0
    Holds s = (a b : ℕ) (z : Zone a b) → Law (a - r.back) (b + r.ahead) reaches full (full_stream n z.0) s

    -- what agrees as far as a stream reaches, agrees in each slice and for the delay before it
    agrees-before : (s : ℕ) → s < count → Holds s → (a b : ℕ) (z : Zone a b) → AgreeIn (a - delay) b (full s) (full_stream n z.0 s)
    agrees-before s low holds a b z =
        let lo = a - r.back in
        let hi = b + r.ahead in
        let P : ℕ → ℕ → Type 0 = λ a b. AgreeIn a b (full s) (full_stream n z.0 s) in
        checked lo hi delay P (union_reach (reaches_of n (Some delay))) r is
        (holds-for-all lo hi P (agree-narrows lo hi (full s) (full_stream n z.0 s)) reaches grids 0 count s (omega arith) (omega (arith, low)) (holds a b z))
        a b z.1 (omega arith) (omega arith)

    there-below : (s : ℕ) → is_there (producer_of n.wires s) ≡ true → s < count
    there-below s there =
        elim (cases_lt s count) [
          | inl low ↦ low
          | inr past ↦ (let no : false ≡ true = sym (ap is_there (slice_get_past (producers_of n.wires) s past)) ∙ there in absurd (cc no))
        ]

    -- a BSort of the whole is in time
    first-in-time : (by slack : ℕ) (inputs : List ℕ) → AllByRecursion Holds inputs → AllByRecursion (λ s. is_there (producer_of n.wires s) ≡ true) inputs
        → ((a b : ℕ) (z : Zone a b) → IsFedInTime (Some delay) (BSort by slack) (nth (map (full_stream n z.0) inputs) 0))
        → IsFedInTime (Some delay) (BSort by slack) (nth (map full inputs) 0)
    first-in-time by slack [] all there mine = (refl, tt)
    first-in-time by slack (s ∷ inputs) all there mine =
        let rises = stream n sound s sources streams in
        in-time by delay Zone covers slack (full s) (stream_rises (full s) rises) (stream_ticks (full s) rises)
        (λ a b z. (full_stream n z.0 s, agrees-before s (there-below s there.0) all.0 a b z, (mine a b z).0, (mine a b z).1))

    fed : (at : ℕ) (b : Node) → slice_get n.boxes at ≡ Some b → AllByRecursion Holds (inputs_of n.wires at)
        → IsFedInTime (Some delay) b.body (nth (map full (inputs_of n.wires at)) 0)
    fed at b there all = by_kind b.body (λ x y z. fed-in-time n sound (Some delay) z.0 z.3 at b there)
      where
        by_kind : (c : Body) → ((x y : ℕ) (z : Zone x y) → IsFedInTime (Some delay) c (nth (map (full_stream n z.0) (inputs_of n.wires at)) 0)) → IsFedInTime (Some delay) c (nth (map full (inputs_of n.wires at)) 0)
        by_kind (Filter preds) mine = (tt, tt)
        by_kind (Map exprs) mine = (tt, tt)
        by_kind Union mine = (tt, tt)
        by_kind (BSort by slack) mine = first-in-time by slack (inputs_of n.wires at) all (inputs-there n (placed_of n sound) at) mine
        by_kind (Aggregate funcs group window) mine = (tt, tt)
        by_kind (Join size on) mine = (tt, tt)
        by_kind (Resample size funcs) mine = (tt, tt)

    box-holds : (at port : ℕ) (o : Option Node) → slice_get n.boxes at ≡ o → AllByRecursion Holds (inputs_of n.wires at) → (x y : ℕ) (z : Zone x y)
        → AgreedIf (x - r.back) (y + r.ahead) (box_reach_at (Some delay) o (map reaches (inputs_of n.wires at))) (box_list_at o port (map full (inputs_of n.wires at))) (box_list_at o port (map (full_stream n z.0) (inputs_of n.wires at)))
    box-holds at port None e all x y z = tt
    box-holds at port (Some b) e all x y z =
        box-step (x - r.back) (y + r.ahead) reaches full (full_stream n z.0) (Some delay) b.body port (inputs_of n.wires at)
        (all_at (λ (b : Node). HasWindow b.body) n.boxes at b (recursion_from_All (λ (b : Node). HasWindow b.body) n.boxes sound.windows) e)
        (all_weaker Holds (Law (x - r.back) (y + r.ahead) reaches full (full_stream n z.0)) (λ s h. h x y z) (inputs_of n.wires at) all)
        (fed at b e all) (fed-in-time n sound (Some delay) z.0 z.3 at b e)

    full-given : (xs : List (List Tuple)) (s : ℕ) → full_stream n xs s ≡ produced n xs (full_stream n xs) (producer_of n.wires s)
    full-given xs = full_follows n xs (placed_of n sound)

    by-none : (s : ℕ) → producer_of n.wires s ≡ None → Holds s
    by-none s e x y z =
        moved (x - r.back) (y + r.ahead) (reaches s) None (full s) [] (full_stream n z.0 s) []
        (follows s ∙ ap (reach_given n (Some delay) reaches) e) (full-given sources s ∙ ap (produced n sources full) e) (full-given z.0 s ∙ ap (produced n z.0 (full_stream n z.0)) e) tt

    by-source : (s k : ℕ) → producer_of n.wires s ≡ Some (Source k) → Holds s
    by-source s k e x y z =
        moved (x - r.back) (y + r.ahead) (reaches s) (Some own_reach) (full s) (nth sources k) (full_stream n z.0 s) (nth z.0 k)
        (follows s ∙ ap (reach_given n (Some delay) reaches) e) (full-given sources s ∙ ap (produced n sources full) e) (full-given z.0 s ∙ ap (produced n z.0 (full_stream n z.0)) e)
        (own-agreed (x - r.back) (y + r.ahead) (nth sources k) (nth z.0 k) (z.2 k))

    by-port : (s at port : ℕ) → producer_of n.wires s ≡ Some (Port at port) → AllByRecursion Holds (inputs_of n.wires at) → Holds s
    by-port s at port e all x y z =
        moved (x - r.back) (y + r.ahead) (reaches s) (box_reach_at (Some delay) (slice_get n.boxes at) (map reaches (inputs_of n.wires at)))
        (full s) (produced n sources full (Some (Port at port))) (full_stream n z.0 s) (produced n z.0 (full_stream n z.0) (Some (Port at port)))
        (follows s ∙ ap (reach_given n (Some delay) reaches) e) (full-given sources s ∙ ap (produced n sources full) e) (full-given z.0 s ∙ ap (produced n z.0 (full_stream n z.0)) e)
        (box-holds at port (slice_get n.boxes at) refl all x y z)

    holds : (s : ℕ) → Holds s
    holds s = by-order n (placed_of n sound) Holds by-none by-source by-port s

    all-answer : (s : ℕ) → s < count → (a : ℕ) (slices : List Slice) → AreSlices n (Some delay) r sources a slices → AllAnswer n s sources a slices
    all-answer s low a [] all = tt
    all-answer s low a (p ∷ ps) all =
        let agree = agrees-before s low (holds s) a p.end (p.sources, all.1, all.2, all.3) in
        (all.0, narrower (a - delay) p.end a p.end (omega arith) (omega arith) (full s) (full_stream n p.sources s) agree, all-answer s low p.end ps all.4)

pub slices-make-run : (n : Network) → IsSound n → (delay : ℕ) → delay < 2 ^ 40 → SlicesMakeTheRun n delay
slices-make-run n sound delay small sources streams r is slices all far s low =
    whole n sound s sources streams slices
    (all-answer n sound delay small sources streams r is (λ t below. covered n sound delay small sources streams r is 0 slices all t (omega arith) (omega (arith, below, far))) s low 0 slices all) far
