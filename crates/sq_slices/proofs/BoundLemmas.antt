-- Behind each box a reach is a little more than those of what the box takes, so all are small enough to be counted with.
use Rattle.std.proofs.Common.{◌≡◌, ℕ, zero, suc, ◌+◌, ◌-◌, ◌*◌, ◌%◌, ◌≤◌, ◌<◌, ◌^◌, leb, Bool, true, false, cond, List, [], ◌∷◌, map, length, drop, length-drop, Option, Some, None, slice_get, refl, ap, arith}
use Rattle.std.specs.Prelude.{◌==◌}
use Rattle.std.specs.Option.{IfSome, option_map}
use Rattle.std.specs.List.{AllByRecursion}
use Rattle.std.proofs.lemmas.List.FromFn.{length-map-range_with_len}
use Rattle.sq_words.specs.Lists.{numbers_to}
use Rattle.std.proofs.lemmas.List.Elements.{recursion_from_All}
use Rattle.sq_words.proofs.Alls.{all_at}
use Rattle.sq_words.proofs.Bools.{and_true}
use Rattle.sq_words.proofs.Lists.{list_all_at}
use Rattle.sq_words.proofs.Numbers.{leb_from}
use Rattle.sq_aggfn.specs.declared.WindowSpec.{WindowSpec}
use Rattle.sq_aggfn.specs.Windows.{IsWindow}
use Rattle.sq_graph.specs.declared.BoxWires.{BoxWires}
use Rattle.sq_graph.specs.declared.Producer.{Producer}
use Rattle.sq_graph.specs.declared.Producer.TheVariants.{Source, Port}
use Rattle.sq_graph.specs.Wires.{producers_of, producer_of, inputs_of, inputs_at}
use Rattle.sq_net.specs.declared.Body.{Body}
use Rattle.sq_net.specs.declared.Body.TheVariants.{Filter, Map, Union, BSort, Aggregate, Join, Resample}
use Rattle.sq_net.specs.declared.Network.{Network}
use Rattle.sq_net.specs.declared.Node.{Node}
use Rattle.sq_net.specs.SoundNetworks.{IsSound, HasWindow, body_within, network_within, node_within, is_between}
use Rattle.sq_points.proofs.Bounds.{few_streams, nodes_within, takes_all, all_take_few, counts, at_most}
use Rattle.sq_slices.specs.declared.Grid.{Grid}
use Rattle.sq_slices.specs.declared.Reach.{Reach}
use Rattle.sq_slices.specs.Grids.{IsGrid, gap, pad, moved, ahead_from}
use Rattle.sq_slices.specs.Bounds.{IsLow, AreLow}
use Rattle.sq_slices.specs.Reaches.{own_reach, earlier_reach, later_reach, beside_reach, both_reaches, starts, windowed, both_if, union_reach, reach_numbered, box_reach, box_reach_at, reach_given, reach_of, reach_within, reaches_of, output_reaches_of}
use Rattle.sq_slices.proofs.GridLemmas.{gap-low}

pad-low : (g h : Grid) → IsGrid h → pad g h < h.step
pad-low g h grid = by (g.step % h.step == 0)
  where
    by : (b : Bool) → cond b (gap h g.phase) (h.step - 1) < h.step
    by true = gap-low h grid g.phase
    by false = let some = grid.moves in omega (arith, some)

pub ahead-low : (g : Grid) (more m : ℕ) (r : Reach) → IsLow m r → ahead_from g more r ≤ more + 2 ^ 32 + m
ahead-low g more m r low =
    let less = pad-low (moved g more) r.cuts low.grid in
    let step = low.step in
    let ahead = low.ahead in
    omega (arith, less, step, ahead)

pub more-low : (m k : ℕ) (r : Reach) → m ≤ k → IsLow m r → IsLow k r
more-low m k r le low = record {
  grid = low.grid;
  step = low.step;
  back = (let h = low.back in omega (arith, le, h));
  ahead = (let h = low.ahead in omega (arith, le, h));
}

pub more-low-if : (m k : ℕ) (o : Option Reach) → m ≤ k → IfSome o (IsLow m) → IfSome o (IsLow k)
more-low-if m k None le low = tt
more-low-if m k (Some r) le low = more-low m k r le low

pub earlier-low : (m before : ℕ) (r : Reach) → IsLow m r → IsLow (m + before) (earlier_reach before r)
earlier-low m before r low = record {
  grid = low.grid;
  step = low.step;
  back = (let h = low.back in omega (arith, h));
  ahead = (let h = low.ahead in omega (arith, h));
}

pub later-low : (m more : ℕ) (r : Reach) → IsLow m r → IsLow (m + (more + 2 ^ 32)) (later_reach more r)
later-low m more r low = record {
  grid = low.grid;
  step = low.step;
  back = (let h = low.back in omega (arith, h));
  ahead = (let h = ahead-low r.cuts more m r low in omega (arith, h));
}

beside-low : (m : ℕ) (r q : Reach) → IsLow m r → IsLow m q → IsLow (m + 2 ^ 32) (beside_reach r q)
beside-low m r q low more = record {
  grid = low.grid;
  step = low.step;
  back = (let a = low.back in let b = more.back in omega (arith, a, b));
  ahead = (let a = low.ahead in let b = ahead-low r.cuts 0 m q more in omega (arith, a, b));
}

pub both-low : (m : ℕ) (r q : Reach) → IsLow m r → IsLow m q → IsLow (m + 2 ^ 32) (both_reaches r q)
both-low m r q low more = by (leb q.cuts.step r.cuts.step)
  where
    by : (c : Bool) → IsLow (m + 2 ^ 32) (cond c (beside_reach r q) (beside_reach q r))
    by true = beside-low m r q low more
    by false = beside-low m q r more low

pub both-low-if : (m : ℕ) (o p : Option Reach) → IfSome o (IsLow m) → IfSome p (IsLow m) → IfSome (both_if o p) (IsLow (m + 2 ^ 32))
both-low-if m None p low more = tt
both-low-if m (Some r) None low more = tt
both-low-if m (Some r) (Some q) low more = both-low m r q low more

pub own-low : (m : ℕ) → IsLow m own_reach
own-low m = record { grid = record { moves = omega arith; begins = omega arith }; step = omega arith; back = omega arith; ahead = omega arith }

pub mapped-low : (m k : ℕ) (f : Reach → Reach) (o : Option Reach) → ((r : Reach) → IsLow m r → IsLow k (f r)) → IfSome o (IsLow m) → IfSome (option_map f o) (IsLow k)
mapped-low m k f None h low = tt
mapped-low m k f (Some r) h low = h r low

pub union-low : (m : ℕ) (rs : List (Option Reach)) → AllByRecursion (λ o. IfSome o (IsLow m)) rs → IfSome (union_reach rs) (IsLow (m + length rs * 2 ^ 32))
union-low m [] all = own-low (m + 0 * 2 ^ 32)
union-low m (r ∷ rs) all =
    let sum = steps (length rs) in
    more-low-if (m + length rs * 2 ^ 32 + 2 ^ 32) (m + suc (length rs) * 2 ^ 32) (both_if r (union_reach rs)) (omega (arith, sum))
    (both-low-if (m + length rs * 2 ^ 32) r (union_reach rs) (more-low-if m (m + length rs * 2 ^ 32) r (omega arith) all.0) (union-low m rs all.1))
  where
    steps : (k : ℕ) → suc k * 2 ^ 32 ≡ k * 2 ^ 32 + 2 ^ 32
    steps k = omega arith

pub windowed-low : (m : ℕ) (w : WindowSpec) (r : Reach) → IsWindow w → IsLow m r → IsLow (m + (2 ^ 32 + 2 ^ 32)) (windowed w r)
windowed-low m w r window low = record {
  grid = record { moves = window.moves; begins = window.begins };
  step = (let a = window.covers in let b = window.bounded in omega (arith, a, b));
  back = (let a = low.back in omega (arith, a));
  ahead = (let a = ahead-low (starts w) (w.size - w.advance) m r low in let b = window.bounded in omega (arith, a, b));
}

pub at-low : (m : ℕ) (rs : List (Option Reach)) → AllByRecursion (λ o. IfSome o (IsLow m)) rs → (i : ℕ) → IfSome (reach_numbered rs i) (IsLow m)
at-low m [] all i = tt
at-low m (r ∷ rs) all zero = all.0
at-low m (r ∷ rs) all (suc i) = at-low m rs all.1 i

from-at : (m : ℕ) (rs : List (Option Reach)) → AreLow m rs → AllByRecursion (λ o. IfSome o (IsLow m)) rs
from-at m [] h = tt
from-at m (r ∷ rs) h = (h 0, from-at m rs (λ i. h (suc i)))

all-drop : (m k : ℕ) (rs : List (Option Reach)) → AllByRecursion (λ o. IfSome o (IsLow m)) rs → AllByRecursion (λ o. IfSome o (IsLow m)) (drop k rs)
all-drop m zero rs all = all
all-drop m (suc k) [] all = tt
all-drop m (suc k) (r ∷ rs) all = all-drop m k rs all.1

-- of few streams, from one of them on
pub union-rest : (k : ℕ) (rs : List (Option Reach)) → length rs ≤ 2 ^ 20 → AreLow (2 ^ 59) rs → IfSome (union_reach (drop k rs)) (IsLow (2 ^ 60))
union-rest k rs few low =
    let count = length-drop k rs in
    more-low-if (2 ^ 59 + length (drop k rs) * 2 ^ 32) (2 ^ 60) (union_reach (drop k rs)) (omega (arith, few, count)) (union-low (2 ^ 59) (drop k rs) (all-drop (2 ^ 59) k rs (from-at (2 ^ 59) rs low)))

box-low : (m : ℕ) (delay : Option ℕ) (b : Body) (rs : List (Option Reach)) → IfSome delay (λ d. d < 2 ^ 40) → HasWindow b → body_within b ≡ true → length rs ≤ 8
    → AllByRecursion (λ o. IfSome o (IsLow m)) rs → IfSome (box_reach delay b rs) (IsLow (m + 2 ^ 41))
box-low m delay (Filter preds) rs small window within few all = more-low-if m (m + 2 ^ 41) (reach_numbered rs 0) (omega arith) (at-low m rs all 0)
box-low m delay (Map exprs) rs small window within few all = more-low-if m (m + 2 ^ 41) (reach_numbered rs 0) (omega arith) (at-low m rs all 0)
box-low m delay Union rs small window within few all = more-low-if (m + length rs * 2 ^ 32) (m + 2 ^ 41) (union_reach rs) (omega (arith, few)) (union-low m rs all)
box-low m None (BSort by slack) rs small window within few all = tt
box-low m (Some d) (BSort by slack) rs small window within few all =
    mapped-low m (m + 2 ^ 41) (later_reach d) (reach_numbered rs 0) (λ r low. more-low (m + (d + 2 ^ 32)) (m + 2 ^ 41) (later_reach d r) (omega (arith, small)) (later-low m d r low)) (at-low m rs all 0)
box-low m delay (Aggregate funcs group w) rs small window within few all =
    mapped-low m (m + 2 ^ 41) (windowed w) (reach_numbered rs 0) (λ r low. more-low (m + (2 ^ 32 + 2 ^ 32)) (m + 2 ^ 41) (windowed w r) (omega arith) (windowed-low m w r window low)) (at-low m rs all 0)
box-low m delay (Join size on) rs small window within few all =
    let low = leb_from size (2 ^ 32) within in
    mapped-low (m + 2 ^ 32) (m + 2 ^ 41) (earlier_reach size) (both_if (reach_numbered rs 0) (reach_numbered rs 1))
    (λ r h. more-low (m + 2 ^ 32 + size) (m + 2 ^ 41) (earlier_reach size r) (omega (arith, low)) (earlier-low (m + 2 ^ 32) size r h))
    (both-low-if m (reach_numbered rs 0) (reach_numbered rs 1) (at-low m rs all 0) (at-low m rs all 1))
box-low m delay (Resample size funcs) rs small window within few all =
    let low = leb_from size (2 ^ 32) (and_true (leb size (2 ^ 32)) (is_between 1 16 (length funcs)) within).0 in
    more-low-if (m + 2 ^ 34 + 2 ^ 32) (m + 2 ^ 41) (both_if (reach_numbered rs 0) (option_map (λ r. earlier_reach size (later_reach size r)) (reach_numbered rs 1))) (omega arith)
    (both-low-if (m + 2 ^ 34) (reach_numbered rs 0) (option_map (λ r. earlier_reach size (later_reach size r)) (reach_numbered rs 1)) (more-low-if m (m + 2 ^ 34) (reach_numbered rs 0) (omega arith) (at-low m rs all 0))
    (mapped-low m (m + 2 ^ 34) (λ r. earlier_reach size (later_reach size r)) (reach_numbered rs 1)
    (λ r h. more-low (m + (size + 2 ^ 32) + size) (m + 2 ^ 34) (earlier_reach size (later_reach size r)) (omega (arith, low)) (earlier-low (m + (size + 2 ^ 32)) size (later_reach size r) (later-low m size r h)))
    (at-low m rs all 1)))

-- ---- networks

pub node-fits : (n : Network) → IsSound n → (at : ℕ) (b : Node) → slice_get n.boxes at ≡ Some b → HasWindow b.body × (body_within b.body ≡ true)
node-fits n sound at b there = (
  all_at (λ (b : Node). HasWindow b.body) n.boxes at b (recursion_from_All (λ (b : Node). HasWindow b.body) n.boxes sound.windows) there,
  (and_true _ _ (and_true _ _ (list_all_at node_within n.boxes at b (nodes_within n sound.within) there)).0).0,
)

pub inputs-few : (n : Network) → IsSound n → (at : ℕ) → length (inputs_of n.wires at) ≤ 8
inputs-few n sound at = by (slice_get n.wires.boxes at) refl
  where
    by : (o : Option BoxWires) → slice_get n.wires.boxes at ≡ o → length (inputs_at o) ≤ 8
    by None e = omega arith
    by (Some b) e = all_at (λ (b : BoxWires). length b.inputs ≤ 8) n.wires.boxes at b (all_take_few n.wires.boxes (takes_all n sound.within)) e

pub length-mapped : (f : ℕ → Option Reach) (xs : List ℕ) → length (map f xs) ≡ length xs
length-mapped f [] = refl
length-mapped f (x ∷ xs) = ap suc (length-mapped f xs)

pub all-mapped : (m : ℕ) (f : ℕ → Option Reach) → ((s : ℕ) → IfSome (f s) (IsLow m)) → (xs : List ℕ) → AllByRecursion (λ o. IfSome o (IsLow m)) (map f xs)
all-mapped m f h [] = tt
all-mapped m f h (x ∷ xs) = (h x, all-mapped m f h xs)

module _ (n : Network) (sound : IsSound n) (delay : Option ℕ) (small : IfSome delay (λ d. d < 2 ^ 40)) where
  given-low : (m : ℕ) (f : ℕ → Option Reach) → ((s : ℕ) → IfSome (f s) (IsLow m)) → (p : Option Producer) → IfSome (reach_given n delay f p) (IsLow (m + 2 ^ 41))
  given-low m f h None = tt
  given-low m f h (Some (Source k)) = own-low (m + 2 ^ 41)
  given-low m f h (Some (Port at port)) = by (slice_get n.boxes at) refl
    where
      by : (o : Option Node) → slice_get n.boxes at ≡ o → IfSome (box_reach_at delay o (map f (inputs_of n.wires at))) (IsLow (m + 2 ^ 41))
      by None e = tt
      by (Some b) e =
          let fits = node-fits n sound at b e in
          let few = inputs-few n sound at in
          let count = length-mapped f (inputs_of n.wires at) in
          box-low m delay b.body (map f (inputs_of n.wires at)) small fits.0 fits.1 (omega (arith, few, count)) (all-mapped m f h (inputs_of n.wires at))

  pub within-low : (k s : ℕ) → IfSome (reach_within n delay k s) (IsLow (k * 2 ^ 41))
  within-low zero s = tt
  within-low (suc k) s =
      let sum = steps k in
      more-low-if (k * 2 ^ 41 + 2 ^ 41) (suc k * 2 ^ 41) (reach_within n delay (suc k) s) (omega (arith, sum)) (given-low (k * 2 ^ 41) (reach_within n delay k) (within-low k) (producer_of n.wires s))
    where
      steps : (k : ℕ) → suc k * 2 ^ 41 ≡ k * 2 ^ 41 + 2 ^ 41
      steps k = omega arith

  pub boxes-low : length n.boxes ≤ 128
  boxes-low = at_most 0 128 (length n.boxes) (counts n sound.within).1

  -- the list of a round
  pub listed-low : (k : ℕ) → k ≤ 129 → (numbers : List ℕ) → AreLow (2 ^ 59) (map (reach_within n delay k) numbers)
  listed-low k few numbers =
      at-low (2 ^ 59) (map (reach_within n delay k) numbers)
      (all-mapped (2 ^ 59) (reach_within n delay k) (λ s. more-low-if (k * 2 ^ 41) (2 ^ 59) (reach_within n delay k s) (omega (arith, few)) (within-low k s)) numbers)

pub all-low : (n : Network) → IsSound n → (delay : Option ℕ) → IfSome delay (λ d. d < 2 ^ 40) → (numbers : List ℕ) → AreLow (2 ^ 59) (map (reach_within n delay (length n.boxes + 1)) numbers)
all-low n sound delay small numbers = listed-low n sound delay small (length n.boxes + 1) (let few = boxes-low n sound delay small in omega (arith, few)) numbers

pub all-few : (n : Network) → IsSound n → (delay : Option ℕ) → length (reaches_of n delay) ≤ 2 ^ 20
all-few n sound delay =
    let many = length-map-range_with_len (reach_of n delay) 0 (length (producers_of n.wires)) in
    let few = few_streams n sound in
    omega (arith, many, few)

pub all-union-low : (n : Network) → IsSound n → (delay : Option ℕ) → IfSome delay (λ d. d < 2 ^ 40) → IfSome (union_reach (reaches_of n delay)) (IsLow (2 ^ 60))
all-union-low n sound delay small = union-rest 0 (reaches_of n delay) (all-few n sound delay) (all-low n sound delay small (numbers_to (length (producers_of n.wires))))

outputs_within : (n : Network) → network_within n ≡ true → is_between 1 32 (length n.outputs) ≡ true
outputs_within n h = (and_true _ _ (and_true _ _ (and_true _ _ (and_true _ _ (and_true _ _ (and_true _ _ (and_true _ _ h).0).0).0).0).0).0).1

pub outputs-few : (n : Network) → IsSound n → (delay : Option ℕ) → length (output_reaches_of n delay) ≤ 2 ^ 20
outputs-few n sound delay =
    let count = length-mapped (reach_numbered (reaches_of n delay)) n.wires.outputs in
    let few = at_most 1 32 (length n.outputs) (outputs_within n sound.within) in
    let same = sound.agrees.outputs in
    omega (arith, count, few, same)

pub outputs-low : (n : Network) → IsSound n → (delay : Option ℕ) → IfSome delay (λ d. d < 2 ^ 40) → AreLow (2 ^ 59) (output_reaches_of n delay)
outputs-low n sound delay small =
    at-low (2 ^ 59) (output_reaches_of n delay)
    (all-mapped (2 ^ 59) (reach_numbered (reaches_of n delay)) (all-low n sound delay small (numbers_to (length (producers_of n.wires)))) n.wires.outputs)
