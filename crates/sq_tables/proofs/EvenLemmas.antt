-- A selectivity for each port: the shape of a box asks for it.
use Rattle.std.proofs.Common.{◌≡◌, ap, subst, refl, ℕ, ◌+◌, Bool, true, false, ◌==◌, List, [], ◌∷◌, length, Option, Some, None, ℤ, pos, arith}
use Rattle.std.specs.Prelude.{Result, Ok, Err, IfOk, codes}
use Rattle.std.specs.List.{AllByRecursion}
use Rattle.std.proofs.lemmas.List.Elements.{All-from_recursion}
use Rattle.std.proofs.lemmas.Bool.Decides.{nat_tests}
use Rattle.toml.specs.Data.{Members, get_member, as_str, as_integer}
use Rattle.sq_net.specs.declared.NetErr.{NetErr}
use Rattle.sq_net.specs.declared.NetErr.TheVariants as broken
use Rattle.sq_net.specs.declared.Part.TheVariants as part
use Rattle.sq_tables.specs.declared.tables.BodyTable.{BodyTable}
use Rattle.sq_tables.specs.declared.tables.BoxTable.{BoxTable}
use Rattle.sq_tables.specs.declared.tables.NetworkTable.{NetworkTable}
use Rattle.sq_tables.specs.declared.tables.Version.{Version}
use Rattle.sq_words.specs.Options as option
use Rattle.sq_tables.specs.Documents.{list_in, optional, required, when}
use Rattle.sq_tables.specs.Places.{part_place}
use Rattle.sq_tables.specs.Shapes.{IsEven, AreEven, body_in, box_in, default_selectivity, output_in, port_count, source_in, top_in}
use Rattle.sq_tables.specs.Refusals.{IsAnswerOf}
use Rattle.sq_tables.specs.Tables.{version_in, or_broken, network_table_from, network_table_in, shaped_from}
use Rattle.sq_tables.proofs.ShapedLemmas.{first_step}
use Rattle.sq_words.specs.Results.{◌>>=◌}

first_part : {A B : Type 0} (o : Option A) (f : A → Option B) (y : B) → option.◌>>=◌ o f ≡ Some y → (x : A) × ((o ≡ Some x) × (f x ≡ Some y))
first_part None f y e = cc
first_part (Some x) f y e = (x, (refl, e))

when_even : (b raw : BoxTable) → when (length b.selectivity == port_count b.body) b ≡ Some raw → IsEven raw
when_even b raw h = by_test (length b.selectivity == port_count b.body) refl h
  where
    by_test : (t : Bool) → (length b.selectivity == port_count b.body) ≡ t → when t b ≡ Some raw → IsEven raw
    by_test true is e =
        let same : b ≡ raw = cc in
        let even : IsEven b = grind (arith, nat_tests) in
        subst IsEven same even
    by_test false is e = cc

abbrev pub boxed : List ℕ → BodyTable → List (List ℕ) → ℤ → List ℤ → BoxTable
boxed name body ins cost selectivity = record { name = name; body = body; ins = ins; cost = cost; selectivity = selectivity }

abbrev pub weighed : Members → List ℕ → BodyTable → List (List ℕ) → ℤ → Option BoxTable
weighed ms name body ins cost =
    option.◌>>=◌ (optional (default_selectivity (port_count body)) (list_in as_integer) (get_member (codes "selectivity") ms))
    (λ selectivity. when (length selectivity == port_count body) (boxed name body ins cost selectivity))

abbrev pub priced : Members → List ℕ → BodyTable → List (List ℕ) → Option BoxTable
priced ms name body ins = option.◌>>=◌ (optional (pos 1) as_integer (get_member (codes "cost") ms)) (weighed ms name body ins)

abbrev pub fed : Members → BodyTable → List ℕ → Option BoxTable
fed ms body name = option.◌>>=◌ (required (list_in as_str) (get_member (codes "in") ms)) (priced ms name body)

abbrev pub called : Members → BodyTable → Option BoxTable
called ms body = option.◌>>=◌ (required as_str (get_member (codes "name") ms)) (fed ms body)

box_even : (v : Version) (ms : Members) (raw : BoxTable) → box_in v ms ≡ Some raw → IsEven raw
box_even v ms raw h =
    let kind = first_part (required as_str (get_member (codes "kind") ms)) (λ k. option.◌>>=◌ (body_in v k ms) (called ms)) raw h in
    let body = first_part (body_in v kind.0 ms) (called ms) raw kind.1.1 in
    let name = first_part (required as_str (get_member (codes "name") ms)) (fed ms body.0) raw body.1.1 in
    let ins = first_part (required (list_in as_str) (get_member (codes "in") ms)) (priced ms name.0 body.0) raw name.1.1 in
    let cost = first_part (optional (pos 1) as_integer (get_member (codes "cost") ms)) (weighed ms name.0 body.0 ins.0) raw ins.1.1 in
    let last = first_part (optional (default_selectivity (port_count body.0)) (list_in as_integer) (get_member (codes "selectivity") ms)) (λ selectivity. when (length selectivity == port_count body.0) (boxed name.0 body.0 ins.0 cost.0 selectivity)) raw cost.1.1 in
    when_even (boxed name.0 body.0 ins.0 cost.0 last.0) raw last.1.1

pub read_as : {A : Type 0} (b : NetErr) (o : Option A) (x : A) → or_broken b o ≡ Ok x → o ≡ Some x
read_as b None x e = cc
read_as b (Some y) x e = let same : y ≡ x = cc in ap Some same

boxes_even : (v : Version) (n : ℕ) (ts : List Members) (boxes : List BoxTable) → shaped_from part.Box (box_in v) n ts ≡ Ok boxes → AllByRecursion IsEven boxes
boxes_even v n [] boxes h = let same : [] ≡ boxes = cc in subst (λ (bs : List BoxTable). AllByRecursion IsEven bs) same tt
boxes_even v n (t ∷ ts) boxes h =
    let fault : NetErr = broken.Shape (part_place part.Box n) in
    let one = first_step (or_broken fault (box_in v t)) (λ b. shaped_from part.Box (box_in v) (n + 1) ts >>= λ bs. Ok (b ∷ bs)) boxes h in
    let two = first_step (shaped_from part.Box (box_in v) (n + 1) ts) (λ bs. Ok (one.0 ∷ bs)) boxes one.1.1 in
    let same : one.0 ∷ two.0 ≡ boxes = (let last = two.1.1 in cc) in
    subst (λ (bs : List BoxTable). AllByRecursion IsEven bs) same (box_even v t one.0 (read_as fault (box_in v t) one.0 one.1.0), boxes_even v (n + 1) ts two.0 two.1.0)

abbrev read : NetworkTable → Result NetworkTable NetErr
read r = Ok r

same_even : (raw r : NetworkTable) → read raw ≡ read r → AllByRecursion IsEven raw.boxes → AllByRecursion IsEven r.boxes
same_even raw r e even = let same : raw ≡ r = cc in subst (λ (x : NetworkTable). AllByRecursion IsEven x.boxes) same even

in_even : (v : Version) (ms : Members) (r : NetworkTable) → network_table_in v ms ≡ Ok r → AllByRecursion IsEven r.boxes
in_even v ms r h =
    let top = first_step (or_broken (broken.Shape (part_place part.Top 0)) (top_in ms)) (λ t.
    shaped_from part.Source source_in 0 t.sources >>= λ sources.
    shaped_from part.Box (box_in v) 0 t.boxes >>= λ boxes.
    shaped_from part.Output output_in 0 t.outputs >>= λ outputs.
    Ok (record { epoch = t.epoch; batch = t.batch; sources = sources; boxes = boxes; outputs = outputs })) r h in
    let sources = first_step (shaped_from part.Source source_in 0 top.0.sources) (λ sources.
    shaped_from part.Box (box_in v) 0 top.0.boxes >>= λ boxes.
    shaped_from part.Output output_in 0 top.0.outputs >>= λ outputs.
    Ok (record { epoch = top.0.epoch; batch = top.0.batch; sources = sources; boxes = boxes; outputs = outputs })) r top.1.1 in
    let boxes = first_step (shaped_from part.Box (box_in v) 0 top.0.boxes) (λ boxes.
    shaped_from part.Output output_in 0 top.0.outputs >>= λ outputs.
    Ok (record { epoch = top.0.epoch; batch = top.0.batch; sources = sources.0; boxes = boxes; outputs = outputs })) r sources.1.1 in
    let outputs = first_step (shaped_from part.Output output_in 0 top.0.outputs) (λ outputs.
    Ok (record { epoch = top.0.epoch; batch = top.0.batch; sources = sources.0; boxes = boxes.0; outputs = outputs })) r boxes.1.1 in
    let raw : NetworkTable = record { epoch = top.0.epoch; batch = top.0.batch; sources = sources.0; boxes = boxes.0; outputs = outputs.0 } in
    same_even raw r outputs.1.1 (boxes_even v 0 top.0.boxes boxes.0 boxes.1.0)

from_even : (ms : Members) (r : NetworkTable) → network_table_from ms ≡ Ok r → AllByRecursion IsEven r.boxes
from_even ms r h = by_version (version_in ms) h
  where
    by_version : (o : Option Version) → (or_broken broken.Version o >>= λ v. network_table_in v ms) ≡ Ok r → AllByRecursion IsEven r.boxes
    by_version (Some v) h = in_even v ms r h
    by_version None h = cc

pub answer_even : (ms : Members) (answer : Result NetworkTable NetErr) → IsAnswerOf answer (network_table_from ms) → IfOk answer AreEven
answer_even ms (Ok r) h = All-from_recursion IsEven r.boxes (from_even ms r h)
answer_even ms (Err e) h = tt
