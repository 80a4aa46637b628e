-- A BSort gives no more tuples than it is fed.
use Rattle.std.proofs.Common.{◌≡◌, ◌∙◌, ap, refl, subst, ℕ, zero, suc, ◌+◌, ◌-◌, ◌<◌, ◌≤◌, List, [], ◌∷◌, ◌++◌, map, length, Option, Some, None, slice_get, get_or, arith}
use Rattle.std.specs.Prelude.{if◌then◌else◌, nat_le}
use Rattle.std.specs.Option.{option_map}
use Rattle.std.specs.List.{enumerate_from, filter, sum_by}
use Rattle.std.proofs.lemmas.List.Sums.{sum_by-cons}
use Rattle.std.proofs.lemmas.Option.{slice_get-get_or, slice_get-map, slice_get_within}
use Rattle.sq_value.specs.declared.Tuple.{Tuple}
use Rattle.sq_value.specs.Values.{Columns}
use Rattle.sq_words.specs.Lists.{least_by, nth}
use Rattle.sq_graph.specs.declared.BoxKind.TheVariants as boxes
use Rattle.sq_graph.specs.declared.BoxWires.{BoxWires}
use Rattle.sq_graph.specs.Wires.{producer_of, inputs_of, stream_at}
use Rattle.sq_graph.specs.declared.Producer.TheVariants.{Port}
use Rattle.sq_lists.specs.Sorting.{Numbered, numbered_sooner, retimed, without_number, tuple_if, sorted_within, bsort_list_of}
use Rattle.sq_net.specs.declared.Body.{Body}
use Rattle.sq_net.specs.declared.Body.TheVariants.{Filter, Map, Union, BSort, Aggregate, Join, Resample}
use Rattle.sq_net.specs.declared.Node.{Node}
use Rattle.sq_net.specs.declared.Network.{Network}
use Rattle.sq_net.specs.SoundNetworks.{IsSound, IsTypedBody, input_columns}
use Rattle.sq_net.proofs.StreamLemmas.{boxes_count}
use Rattle.sq_model.specs.FullStreams.{box_list, produced, full_stream, full_streams, box_list_at}
use Rattle.sq_model.specs.FullCounts.{full_fed_of, late_at, late_by, late_of}
use Rattle.sq_model.specs.Laws.{LateAreTheRest}
use Rattle.sq_model.proofs.NumberLemmas.{producer_at}
use Rattle.sq_model.proofs.FullLemmas.{full_follows, full_listed}
use Rattle.sq_model.proofs.PlacedLemmas.{placed_of}
use Rattle.sq_lists.proofs.LateLemmas.{retimed_few, on_time_few}

-- ---- the list

chosen_few : (slack j count : ℕ) (rest : List Numbered) → length (sorted_within slack j count rest) ≤ count
chosen_few slack j zero rest = omega arith
chosen_few slack j (suc count) rest =
    let next = least_by numbered_sooner (filter (λ a. nat_le a.0 (j + slack)) rest) in
    onto next (sorted_within slack (j + 1) count (without_number next rest)) (chosen_few slack (j + 1) count (without_number next rest))
  where
    onto : (o : Option Numbered) (more : List Tuple) → length more ≤ count → length (tuple_if o ++ more) ≤ suc count
    onto None more few = omega (arith, few)
    onto (Some a) more few = omega (arith, few)

pub bsort_few : (by slack : ℕ) (xs : List Tuple) → length (bsort_list_of by slack xs) ≤ length xs
bsort_few by slack xs =
    let found = retimed by xs in
    let given = sorted_within slack 0 (length found) (enumerate_from 0 found) in
    let a = retimed_few by xs in
    let b = chosen_few slack 0 (length found) (enumerate_from 0 found) in
    let c = on_time_few 0 given in
    omega (arith, a, b, c)

-- ---- the network

pub late_other : (b : Body) (taken given : ℕ) → ((by slack : ℕ) → b ≡ BSort by slack → ⊥) → late_by b taken given ≡ 0
late_other (Filter preds) taken given other = refl
late_other (Map exprs) taken given other = refl
late_other Union taken given other = refl
late_other (BSort by slack) taken given other = absurd (other by slack refl)
late_other (Aggregate funcs group window) taken given other = refl
late_other (Join size on) taken given other = refl
late_other (Resample size funcs) taken given other = refl

pub first_few : (stream : ℕ → List Tuple) (inputs : List ℕ) → length (nth (map stream inputs) 0) ≤ sum_by (λ s. length (stream s)) inputs
first_few stream [] = omega arith
first_few stream (s ∷ inputs) = (let sum = sum_by-cons (λ s. length (stream s)) s inputs in omega (arith, sum))

pub same_sum : (f g : ℕ → List Tuple) → ((s : ℕ) → f s ≡ g s) → (inputs : List ℕ) → sum_by (λ s. length (f s)) inputs ≡ sum_by (λ s. length (g s)) inputs
same_sum f g alike [] = refl
same_sum f g alike (s ∷ inputs) =
    let here = ap (λ (xs : List Tuple). length xs) (alike s) in
    let later = same_sum f g alike inputs in
    let a = sum_by-cons (λ s. length (f s)) s inputs in
    let b = sum_by-cons (λ s. length (g s)) s inputs in
    omega (arith, here, later, a, b)

-- a BSort has one port
pub bsort_gives : (n : Network) → IsSound n → (at by slack : ℕ) (b : Node) → slice_get n.boxes at ≡ Some b → b.body ≡ BSort by slack
    → producer_of n.wires (stream_at n.wires at 0) ≡ Some (Port at 0)
bsort_gives n sound at by slack b there is =
    producer_at n.wires at 0 w wired one
  where
    inside : at < length n.wires.boxes
    inside = (let low = slice_get_within n.boxes at b there in let count = boxes_count n sound in omega (arith, low, count))

    none : BoxWires
    none = record { kind = boxes.BSort; inputs = []; ports = 0 }

    w : BoxWires
    w = get_or n.wires.boxes at none

    wired : slice_get n.wires.boxes at ≡ Some w
    wired = slice_get-get_or n.wires.boxes at none inside

    ports : w.ports ≡ length b.schemas
    ports =
        let wire : slice_get (map (λ (b : BoxWires). b.ports) n.wires.boxes) at ≡ Some w.ports =
        slice_get-map (λ (b : BoxWires). b.ports) n.wires.boxes at ∙ ap (λ (o : Option BoxWires). option_map (λ (b : BoxWires). b.ports) o) wired in
        let node : slice_get (map (λ (b : Node). length b.schemas) n.boxes) at ≡ Some (length b.schemas) =
        slice_get-map (λ (b : Node). length b.schemas) n.boxes at ∙ ap (λ (o : Option Node). option_map (λ (b : Node). length b.schemas) o) there in
        let same : slice_get (map (λ (b : BoxWires). b.ports) n.wires.boxes) at ≡ slice_get (map (λ (b : Node). length b.schemas) n.boxes) at =
        ap (λ (ks : List ℕ). slice_get ks at) sound.agrees.ports in
        cc

    typed : IsTypedBody (input_columns n at) (BSort by slack) b.schemas
    typed = subst (λ body. IsTypedBody (input_columns n at) body b.schemas) is (sound.typed at b there)

    one : 0 < w.ports
    one = (let schemas = ap (λ (cs : List Columns). length cs) typed.1 in omega (arith, ports, schemas))

pub late_are_the_rest : (n : Network) (sources : List (List Tuple)) → IsSound n → LateAreTheRest n sources
late_are_the_rest n sources sound at by slack b there is =
    let placed = placed_of n sound in
    let stream = full_stream n sources in
    let s = stream_at n.wires at 0 in
    let listed = full_listed n sources placed in
    let inputs = inputs_of n.wires at in
    let first = nth (map stream inputs) 0 in
    let gives : stream s ≡ bsort_list_of by slack first =
    full_follows n sources placed s
    ∙ ap (produced n sources stream) (bsort_gives n sound at by slack b there is)
    ∙ ap (λ o. box_list_at o 0 (map stream inputs)) there
    ∙ ap (λ body. box_list body 0 (map stream inputs)) is in
    let given = ap (λ (xs : List Tuple). length xs) gives in
    let few = bsort_few by slack first in
    let sum = first_few stream inputs in
    let fed : full_fed_of n sources at ≡ sum_by (λ s. length (stream s)) inputs = same_sum (nth (full_streams n sources)) stream listed inputs in
    let shown = ap (λ (xs : List Tuple). length xs) (listed s) in
    let late : late_of n sources at ≡ full_fed_of n sources at - length (nth (full_streams n sources) s) =
    ap (λ o. late_at o (full_fed_of n sources at) (length (nth (full_streams n sources) s))) there
    ∙ ap (λ body. late_by body (full_fed_of n sources at) (length (nth (full_streams n sources) s))) is in
    omega (arith, given, few, sum, fed, shown, late)
