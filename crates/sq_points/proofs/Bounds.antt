-- What the limits of a sound network bound: inputs, ports, streams, arcs and windows.
use Rattle.std.proofs.Common.{◌≡◌, ap, refl, ℕ, zero, suc, ◌+◌, ◌*◌, ◌<◌, ◌≤◌, ◌^◌, true, List, [], ◌∷◌, map, length, Some, IfSome, slice_get, arith}
use Rattle.std.specs.List.{AllByRecursion, list_all, sum_by}
use Rattle.std.proofs.lemmas.List.{take_all}
use Rattle.std.proofs.lemmas.Bool.Decides.{nat_tests}
use Rattle.std.proofs.lemmas.List.Elements.{recursion_from_All}
use Rattle.std.proofs.lemmas.List.Sums.{sum_by-cons}
use Rattle.sq_value.specs.Values.{Columns}
use Rattle.sq_aggfn.specs.Windows.{IsWindow}
use Rattle.sq_aggfn.specs.declared.WindowSpec.{WindowSpec}
use Rattle.sq_graph.specs.declared.BoxKind.{BoxKind}
use Rattle.sq_graph.specs.declared.BoxKind.TheVariants as boxes
use Rattle.sq_graph.specs.declared.BoxWires.{BoxWires}
use Rattle.sq_graph.specs.Wires.{producers_of, arcs_of}
use Rattle.sq_net.specs.declared.Body.{Body}
use Rattle.sq_net.specs.declared.Body.TheVariants.{Filter, Map, Union, BSort, Aggregate, Join, Resample}
use Rattle.sq_net.specs.declared.Node.{Node}
use Rattle.sq_net.specs.declared.Network.{Network}
use Rattle.sq_net.proofs.StreamLemmas.{boxes_count}
use Rattle.sq_net.specs.SoundNetworks.{IsSound, IsTypedBody, HasWindow, body_within, input_columns, is_between, network_within, node_within, takes_within}
use Rattle.sq_place.specs.Windows.{IsSmallWindow, AreWindows}
use Rattle.sq_place.proofs.Final.{streams_count}
use Rattle.sq_place.proofs.Multiples.{lt-or}
use Rattle.sq_place.proofs.Wires.{outputs-inside}
use Rattle.sq_points.specs.Points.{window_in, windows_of}
use Rattle.sq_words.proofs.Bools.{and_true}
use Rattle.sq_words.proofs.Lists.{list_all_at}

pub at_most : (low high k : ℕ) → is_between low high k ≡ true → k ≤ high
at_most low high k h = grind (arith, nat_tests)

pub at_least : (low high k : ℕ) → is_between low high k ≡ true → low ≤ k
at_least low high k h = grind (arith, nat_tests)

-- ---- inputs

takes_few : (kind : BoxKind) (k : ℕ) → takes_within kind k ≡ true → k ≤ 8
takes_few boxes.Filter k h = grind (arith, nat_tests)
takes_few boxes.Map k h = grind (arith, nat_tests)
takes_few boxes.Union k h = at_most 1 8 k h
takes_few boxes.BSort k h = grind (arith, nat_tests)
takes_few boxes.Aggregate k h = grind (arith, nat_tests)
takes_few boxes.Join k h = grind (arith, nat_tests)
takes_few boxes.Resample k h = grind (arith, nat_tests)

pub all_take_few : (ws : List BoxWires) → list_all (λ b. takes_within b.kind (length b.inputs)) ws ≡ true → AllByRecursion (λ (b : BoxWires). length b.inputs ≤ 8) ws
all_take_few [] h = tt
all_take_few (b ∷ ws) h =
    let parts = and_true (takes_within b.kind (length b.inputs)) (list_all (λ c. takes_within c.kind (length c.inputs)) ws) h in
    (takes_few b.kind (length b.inputs) parts.0, all_take_few ws parts.1)

-- ---- ports

body_gives_few : (ins : List Columns) (body : Body) (ports : List Columns) → body_within body ≡ true → IsTypedBody ins body ports → length ports ≤ 16
body_gives_few ins (Filter preds) ports h typed = (let few = at_most 1 15 (length preds) h in let count = typed.1 in omega (arith, few, count))
body_gives_few ins (Map exprs) ports h typed = (let one = ap (λ (cs : List Columns). length cs) typed.1 in omega (arith, one))
body_gives_few ins Union ports h typed = (let one = ap (λ (cs : List Columns). length cs) typed.1 in omega (arith, one))
body_gives_few ins (BSort by slack) ports h typed = (let one = ap (λ (cs : List Columns). length cs) typed.1 in omega (arith, one))
body_gives_few ins (Aggregate funcs group window) ports h typed = (let one = ap (λ (cs : List Columns). length cs) typed.1 in omega (arith, one))
body_gives_few ins (Join size on) ports h typed = (let one = ap (λ (cs : List Columns). length cs) typed.1 in omega (arith, one))
body_gives_few ins (Resample size funcs) ports h typed = (let one = ap (λ (cs : List Columns). length cs) typed.1 in omega (arith, one))

-- where each box gives at most 16 streams, they are few together
sum_few : (ws : List BoxWires) (ds : List Node) → map (λ b. b.ports) ws ≡ map (λ b. length b.schemas) ds
    → ((i : ℕ) (d : Node) → slice_get ds i ≡ Some d → length d.schemas ≤ 16) → sum_by (λ b. b.ports) ws ≤ 16 * length ds
sum_few [] ds same each = omega arith
sum_few (w ∷ ws) [] same each = cc
sum_few (w ∷ ws) (d ∷ ds) same each =
    let here : w.ports ≡ length d.schemas = cc in
    let later : map (λ b. b.ports) ws ≡ map (λ b. length b.schemas) ds = cc in
    let few = each zero d refl in
    let more = sum_few ws ds later (λ i e there. each (suc i) e there) in
    let sum = sum_by-cons (λ (b : BoxWires). b.ports) w ws in
    omega (arith, here, few, more, sum)

-- ---- the limits

pub nodes_within : (n : Network) → network_within n ≡ true → list_all node_within n.boxes ≡ true
nodes_within n h = (and_true _ _ (and_true _ _ (and_true _ _ h).0).0).1

pub takes_all : (n : Network) → network_within n ≡ true → list_all (λ b. takes_within b.kind (length b.inputs)) n.wires.boxes ≡ true
takes_all n h = (and_true _ _ h).1

pub counts : (n : Network) → network_within n ≡ true → (is_between 1 8 (length n.sources) ≡ true) × (is_between 0 128 (length n.boxes) ≡ true)
counts n h = and_true _ _ (and_true _ _ (and_true _ _ (and_true _ _ (and_true _ _ (and_true _ _ (and_true _ _ (and_true _ _ h).0).0).0).0).0).0).0

gives_few : (n : Network) → IsSound n → (at : ℕ) (d : Node) → slice_get n.boxes at ≡ Some d → length d.schemas ≤ 16
gives_few n sound at d there =
    let within : node_within d ≡ true = list_all_at node_within n.boxes at d (nodes_within n sound.within) there in
    body_gives_few (input_columns n at) d.body d.schemas (and_true _ _ (and_true _ _ within).0).0 (sound.typed at d there)

pub few_streams : (n : Network) → IsSound n → length (producers_of n.wires) < 2 ^ 20
few_streams n sound =
    let count = streams_count n.wires in
    let all = ap (λ (bs : List BoxWires). sum_by (λ b. b.ports) bs) (take_all (length n.wires.boxes) n.wires.boxes (omega arith)) in
    let ports = sum_few n.wires.boxes n.boxes sound.agrees.ports (gives_few n sound) in
    let within = counts n sound.within in
    let sources = at_most 1 8 (length n.sources) within.0 in
    let boxes = at_most 0 128 (length n.boxes) within.1 in
    let wired = sound.agrees.sources in
    omega (arith, count, all, ports, sources, boxes, wired)

-- ---- arcs

inputs_few : (ws : List BoxWires) → AllByRecursion (λ (b : BoxWires). length b.inputs ≤ 8) ws → sum_by (λ b. length b.inputs) ws ≤ 8 * length ws
inputs_few [] h = omega arith
inputs_few (w ∷ ws) h =
    let here = h.0 in
    let more = inputs_few ws h.1 in
    let sum = sum_by-cons (λ (b : BoxWires). length b.inputs) w ws in
    omega (arith, here, more, sum)

pub few_outputs : (n : Network) → IsSound n → length n.outputs ≤ 32
few_outputs n sound = at_most 1 32 (length n.outputs) (and_true _ _ (and_true _ _ (and_true _ _ (and_true _ _ (and_true _ _ (and_true _ _ (and_true _ _ sound.within).0).0).0).0).0).0).1

pub few_arcs : (n : Network) → IsSound n → length (arcs_of n.wires) < 2 ^ 20
few_arcs n sound =
    let outs = few_outputs n sound in
    let same = sound.agrees.outputs in
    let boxes = at_most 0 128 (length n.boxes) (counts n sound.within).1 in
    let many = boxes_count n sound in
    let ins = inputs_few n.wires.boxes (all_take_few n.wires.boxes (takes_all n sound.within)) in
    lt-or (sum_by (λ b. length b.inputs) n.wires.boxes + length n.wires.outputs) (length (arcs_of n.wires)) (length (arcs_of n.wires) < 2 ^ 20)
    (λ lt. (let inside = outputs-inside n.wires (length n.wires.outputs) lt in absurd (omega (arith, inside))))
    (λ le. omega (arith, le, outs, same, boxes, many, ins))

pub few_places : (n : Network) → IsSound n → length (producers_of n.wires) + length (arcs_of n.wires) < 2 ^ 32
few_places n sound =
    let streams = few_streams n sound in
    let arcs = few_arcs n sound in
    omega (arith, streams, arcs)

-- ---- windows

small : (w : WindowSpec) → IsWindow w → IsSmallWindow w
small w is =
    let low = is.moves in
    let covers = is.covers in
    let high = is.bounded in
    record { size = high; advance = (low, omega (arith, covers, high)) }

small_in : (b : Body) → HasWindow b → IfSome (window_in b) IsSmallWindow
small_in (Filter preds) h = tt
small_in (Map exprs) h = tt
small_in Union h = tt
small_in (BSort by slack) h = tt
small_in (Aggregate funcs group window) h = small window h
small_in (Join size on) h = tt
small_in (Resample size funcs) h = tt

small_all : (bs : List Node) → AllByRecursion (λ (b : Node). HasWindow b.body) bs → AreWindows (map (λ b. window_in b.body) bs)
small_all [] h = tt
small_all (b ∷ bs) h = (small_in b.body h.0, small_all bs h.1)

pub small_windows : (n : Network) → IsSound n → AreWindows (windows_of n)
small_windows n sound = small_all n.boxes (recursion_from_All (λ (b : Node). HasWindow b.body) n.boxes sound.windows)

-- ---- the batch

pub batch_low : (n : Network) → IsSound n → (1 ≤ n.batch) × (n.batch ≤ 1000000)
batch_low n sound =
    let within : is_between 1 1000000 n.batch ≡ true = (and_true _ _ (and_true _ _ (and_true _ _ (and_true _ _ (and_true _ _ sound.within).0).0).0).0).1 in
    (at_least 1 1000000 n.batch within, at_most 1 1000000 n.batch within)
