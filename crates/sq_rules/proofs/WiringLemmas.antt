-- Each stream that is named is there.
use Rattle.std.proofs.Common.{◌≡◌, ◌∙◌, sym, ap, refl, ℕ, ◌+◌, ◌*◌, ◌<◌, ◌≤◌, ◌^◌, true, List, [], ◌∷◌, map, length, Option, Some, None, slice_get, get_or, arith, length-append}
use Rattle.std.specs.List.{All, AllByRecursion, cons_option, filter_map, flat_map, list_all, enumerate_from}
use Rattle.std.proofs.lemmas.List.{length-map}
use Rattle.std.proofs.lemmas.List.Elements.{All-from_recursion}
use Rattle.std.proofs.lemmas.List.FromFn.{length-map-range_with_len}
use Rattle.std.proofs.lemmas.List.Quantifiers.{position-Some}
use Rattle.std.specs.Option.{option_map}
use Rattle.std.proofs.lemmas.Option.{slice_get-get_or, slice_get-map}
use Rattle.sq_words.specs.Lists.{same_bytes, numbers_to}
use Rattle.sq_graph.specs.declared.BoxWires.{BoxWires}
use Rattle.sq_graph.specs.declared.Wiring.{Wiring}
use Rattle.sq_graph.specs.Wires.{producers_of, producer_of}
use Rattle.sq_graph.specs.declared.Producer.TheVariants.{Source, Port}
use Rattle.sq_graph.specs.Order.{is_there, IsWired}
use Rattle.sq_tables.specs.declared.tables.BodyTable.{BodyTable}
use Rattle.sq_tables.specs.declared.tables.BodyTable.TheVariants.{Filter, Map, Union, BSort, Aggregate, Join, Resample}
use Rattle.sq_tables.specs.declared.tables.BoxTable.{BoxTable}
use Rattle.sq_tables.specs.declared.tables.SourceTable.{SourceTable}
use Rattle.sq_tables.specs.declared.tables.NetworkTable.{NetworkTable}
use Rattle.sq_tables.specs.Shapes.{port_count}
use Rattle.sq_rules.specs.Limits.{box_within, limit_place}
use Rattle.sq_rules.specs.Streaming.{box_wires, told_port_names, told_stream_named, told_stream_names, wiring_by, wiring_of}
use Rattle.sq_rules.proofs.LimitLemmas.{box_of, counts_of, ports_few}
use Rattle.sq_rules.proofs.ListLemmas.{item_there}
use Rattle.sq_net.specs.Names.{port_name}
use Rattle.sq_words.proofs.Bools.{and_true}

named_low : (names : List (List ℕ)) (w : List ℕ) (s : ℕ) → told_stream_named names w ≡ Some s → s < length names
named_low [] w s e = cc
named_low (x ∷ xs) w s e = (position-Some (same_bytes w) (x ∷ xs) s x e).0

-- what names say is below their number
low_all : {A : Type 0} (names : List (List ℕ)) (name_of : A → List ℕ) (xs : List A) → AllByRecursion (λ s. s < length names) (filter_map (λ x. told_stream_named names (name_of x)) xs)
low_all names name_of [] = tt
low_all {A} names name_of (x ∷ xs) = by_case (told_stream_named names (name_of x)) refl (low_all names name_of xs)
  where
    by_case : (o : Option ℕ) → told_stream_named names (name_of x) ≡ o → AllByRecursion (λ s. s < length names) (filter_map (λ y. told_stream_named names (name_of y)) xs)
        → AllByRecursion (λ s. s < length names) (cons_option o (filter_map (λ y. told_stream_named names (name_of y)) xs))
    by_case None e h = h
    by_case (Some s) e h = (named_low names (name_of x) s e, h)

there_low : (w : Wiring) (s : ℕ) → s < length (producers_of w) → is_there (producer_of w s) ≡ true
there_low w s low = rw (slice_get-get_or (producers_of w) s (Source 0) low) refl

there_all : (w : Wiring) (n : ℕ) (xs : List ℕ) → n ≡ length (producers_of w) → AllByRecursion (λ s. s < n) xs → AllByRecursion (λ s. is_there (producer_of w s) ≡ true) xs
there_all w n [] e h = tt
there_all w n (s ∷ xs) e h = (there_low w s (let low = h.0 in omega (arith, low, e)), there_all w n xs e h.1)

body_length : (name : List ℕ) (b : BodyTable) → length (told_port_names name b) ≡ port_count b
body_length name (Filter preds) = length-map-range_with_len (λ i. port_name name (i + 1)) 0 (length preds + 1)
body_length name (Map set) = refl
body_length name Union = refl
body_length name (BSort by slack) = refl
body_length name (Aggregate size advance phase group give) = refl
body_length name (Join size on) = refl
body_length name (Resample size give) = refl

ports_length : (names : List (List ℕ)) (k : ℕ) (bs : List BoxTable)
    → length (flat_map (λ b. map (Port b.0) (numbers_to (b.1).ports)) (enumerate_from k (map (box_wires (told_stream_named names)) bs))) ≡ length (flat_map (λ b. told_port_names b.name b.body) bs)
ports_length names k [] = refl
ports_length names k (b ∷ bs) =
    let more = ports_length names (k + 1) bs in
    length-append (map (Port k) (numbers_to (port_count b.body))) (flat_map (λ b. map (Port b.0) (numbers_to (b.1).ports)) (enumerate_from (k + 1) (map (box_wires (told_stream_named names)) bs)))
    ∙ (rw (length-map-range_with_len (Port k) 0 (port_count b.body), more, ← body_length b.name b.body) refl
    ∙ sym (length-append (told_port_names b.name b.body) (flat_map (λ b. told_port_names b.name b.body) bs)))

sources_length : (ss : List SourceTable) → length (map (λ (s : SourceTable). s.name) ss) ≡ length ss
sources_length [] = refl
sources_length (s ∷ ss) = let more = sources_length ss in omega arith

producers_length : (names : List (List ℕ)) (r : NetworkTable) → length (producers_of (wiring_by (told_stream_named names) r)) ≡ length (told_stream_names r)
producers_length names r =
    length-append (map Source (numbers_to (length r.sources))) (flat_map (λ b. map (Port b.0) (numbers_to (b.1).ports)) (enumerate_from 0 (map (box_wires (told_stream_named names)) r.boxes)))
    ∙ (rw (length-map-range_with_len Source 0 (length r.sources), ports_length names 0 r.boxes, ← sources_length r.sources) refl
    ∙ sym (length-append (map (λ (s : SourceTable). s.name) r.sources) (flat_map (λ b. told_port_names b.name b.body) r.boxes)))

wired_boxes : (w : Wiring) (names : List (List ℕ)) (bs : List BoxTable) → length names ≡ length (producers_of w)
    → AllByRecursion (λ (b : BoxWires). All (λ s. is_there (producer_of w s) ≡ true) b.inputs) (map (box_wires (told_stream_named names)) bs)
wired_boxes w names [] e = tt
wired_boxes w names (b ∷ bs) e = (
  All-from_recursion (λ s. is_there (producer_of w s) ≡ true) (filter_map (told_stream_named names) b.ins) (there_all w (length names) (filter_map (told_stream_named names) b.ins) e (low_all names (λ w. w) b.ins)),
  wired_boxes w names bs e,
)

names_count : (names : List (List ℕ)) (r : NetworkTable) → names ≡ told_stream_names r → length names ≡ length (producers_of (wiring_by (told_stream_named names) r))
names_count names r same = ap length same ∙ sym (producers_length names r)

pub is_wired : (names : List (List ℕ)) (r : NetworkTable) → names ≡ told_stream_names r → IsWired (wiring_by (told_stream_named names) r)
is_wired names r same =
    All-from_recursion (λ (b : BoxWires). All (λ s. is_there (producer_of (wiring_by (told_stream_named names) r) s) ≡ true) b.inputs) (map (box_wires (told_stream_named names)) r.boxes)
    (wired_boxes (wiring_by (told_stream_named names) r) names r.boxes (names_count names r same))

pub outputs_shown : (names : List (List ℕ)) (r : NetworkTable) → names ≡ told_stream_names r
    → All (λ s. is_there (producer_of (wiring_by (told_stream_named names) r) s) ≡ true) (filter_map (λ o. told_stream_named names o.from) r.outputs)
outputs_shown names r same =
    All-from_recursion (λ s. is_there (producer_of (wiring_by (told_stream_named names) r) s) ≡ true) (filter_map (λ o. told_stream_named names o.from) r.outputs)
    (there_all (wiring_by (told_stream_named names) r) (length names) (filter_map (λ o. told_stream_named names o.from) r.outputs) (names_count names r same) (low_all names (λ o. o.from) r.outputs))

-- ---- the streams and the boxes are few

ports_each : (bs : List BoxTable) → list_all box_within bs ≡ true → length (flat_map (λ b. told_port_names b.name b.body) bs) ≤ 16 * length bs
ports_each [] h = omega arith
ports_each (b ∷ bs) h =
    let parts = and_true (box_within b) (list_all box_within bs) h in
    let here = ports_few b.body (box_of b parts.0).body in
    let more = ports_each bs parts.1 in
    let own = body_length b.name b.body in
    let both = length-append (told_port_names b.name b.body) (flat_map (λ b. told_port_names b.name b.body) bs) in
    omega (arith, here, more, own, both)

pub streams_few : (r : NetworkTable) → limit_place r ≡ None → length (told_stream_names r) < 2 ^ 32
streams_few r h =
    let counts = counts_of r h in
    let ports = ports_each r.boxes counts.each_box in
    let sources = sources_length r.sources in
    let both = length-append (map (λ (s : SourceTable). s.name) r.sources) (flat_map (λ b. told_port_names b.name b.body) r.boxes) in
    let few = counts.sources in
    let low = counts.boxes in
    omega (arith, ports, sources, both, few, low)

-- as many wired boxes as boxes
pub wired_length : (r : NetworkTable) → length (wiring_of r).boxes ≡ length r.boxes
wired_length r = length-map r.boxes (box_wires (told_stream_named (told_stream_names r)))

pub wired_few : (r : NetworkTable) → limit_place r ≡ None → length (wiring_of r).boxes < 2 ^ 32
wired_few r h = let low = (counts_of r h).boxes in let same = wired_length r in omega (arith, low, same)

-- what is wired as a box
pub wired_at : (r : NetworkTable) (at : ℕ) (b : BoxTable) → slice_get r.boxes at ≡ Some b → slice_get (wiring_of r).boxes at ≡ Some (box_wires (told_stream_named (told_stream_names r)) b)
wired_at r at b there = slice_get-map (box_wires (told_stream_named (told_stream_names r))) r.boxes at ∙ ap (λ (o : Option BoxTable). option_map (box_wires (told_stream_named (told_stream_names r))) o) there

pub wired_there : (r : NetworkTable) (w : Wiring) (at : ℕ) (x : BoxWires) → w ≡ wiring_of r → at < length r.boxes → x ≡ get_or w.boxes at x → slice_get w.boxes at ≡ Some x
wired_there r w at x same low is =
    let count : length w.boxes ≡ length r.boxes = ap (λ (v : Wiring). length v.boxes) same ∙ wired_length r in
    item_there w.boxes at x (omega (arith, count, low)) is
