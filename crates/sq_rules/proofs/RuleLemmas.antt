-- What each rule that a file keeps says of it.
use Rattle.std.proofs.Common.{◌≡◌, refl, ℕ, ◌+◌, true, false, ◌&&◌, ◌==◌, List, [], ◌∷◌, map, length, Option, Some, None, arith}
use Rattle.std.specs.List.{filter_map, list_all}
use Rattle.std.specs.Option.{option_map}
use Rattle.std.proofs.lemmas.Bool.Decides.{nat_tests}
use Rattle.sq_words.specs.Lists.{are_distinct}
use Rattle.sq_graph.specs.declared.BoxWires.{BoxWires}
use Rattle.sq_net.specs.declared.NetErr.{NetErr}
use Rattle.sq_net.specs.declared.NetErr.TheVariants as broken
use Rattle.sq_net.specs.declared.Part.TheVariants as part
use Rattle.sq_net.specs.Names.{is_name}
use Rattle.sq_net.specs.SoundNetworks.{is_between, takes_within}
use Rattle.sq_tables.specs.declared.tables.BodyTable.{BodyTable}
use Rattle.sq_tables.specs.declared.tables.BodyTable.TheVariants.{Filter, Map, Union, BSort, Aggregate, Join, Resample}
use Rattle.sq_tables.specs.declared.tables.BoxTable.{BoxTable}
use Rattle.sq_tables.specs.declared.tables.NetworkTable.{NetworkTable}
use Rattle.sq_tables.specs.Places.{or_else, place_at, part_place}
use Rattle.sq_rules.specs.Limits as limits
use Rattle.sq_rules.specs.Limits.{told_body_within, box_within, first_failing, inputs_within}
use Rattle.sq_rules.specs.Naming.{first_repeat, name_place, place_in_space, space_names, twice_place}
use Rattle.sq_rules.specs.Streaming.{Numbers, box_wires, is_stream, kind_of_told_body, unknown_among, unknown_in_boxes}
use Rattle.sq_rules.proofs.LimitLemmas.{neither}
use Rattle.sq_rules.proofs.ListLemmas.{all_given, none_failing, nothing_mapped}
use Rattle.sq_rules.proofs.DistinctLemmas.{new_distinct, none_repeated}
use Rattle.sq_words.proofs.Bools.{and_true}
use Rattle.std.proofs.lemmas.Bool.{and_from}
use Rattle.std.specs.Prelude.{Result, Ok, Err, IfOk}
use Rattle.std.specs.List.{find}
use Rattle.sq_words.specs.Lists.{numbers_to}
use Rattle.sq_graph.specs.declared.Wiring.{Wiring}
use Rattle.sq_graph.specs.Order.{is_on_cycle, LiesOnCycle}
use Rattle.sq_graph.proofs.Bounded.{on_cycle}
use Rattle.sq_graph.proofs.Finding.{unfound}
use Rattle.sq_graph.proofs.FirstCycle.{cycle_is_of_box}
use Rattle.sq_net.specs.declared.Place.{Place}
use Rattle.sq_tables.specs.Refusals.{IsAnswerOf}
use Rattle.sq_rules.specs.declared.rules.Wired.{Wired}
use Rattle.sq_rules.specs.Limits.{limit_place}
use Rattle.sq_rules.specs.Windows.{window_place}
use Rattle.sq_rules.specs.Streaming.{cycle_in, told_stream_named, told_stream_names, unknown_place, wiring_of}
use Rattle.sq_rules.specs.Rules.{KeepsTableRules, acyclic_wires, named_wires, ordered, single_wires, streamed_wires, unless_at, windowed_wires, wired_tables}

-- ---- names

pub outputs_named : (r : NetworkTable) → name_place r ≡ None → list_all (λ o. is_name o.name) r.outputs ≡ true
outputs_named r h =
    let one = neither (option_map (part_place part.Source) (first_failing (λ s. is_name s.name) r.sources)) (or_else (option_map (part_place part.Box) (first_failing (λ b. is_name b.name) r.boxes)) (option_map (part_place part.Output) (first_failing (λ o. is_name o.name) r.outputs))) h in
    let two = neither (option_map (part_place part.Box) (first_failing (λ b. is_name b.name) r.boxes)) (option_map (part_place part.Output) (first_failing (λ o. is_name o.name) r.outputs)) one.1 in
    none_failing (λ o. is_name o.name) r.outputs (nothing_mapped (part_place part.Output) (first_failing (λ o. is_name o.name) r.outputs) two.1)

pub outputs_distinct : (r : NetworkTable) → twice_place r ≡ None → are_distinct (map (λ o. o.name) r.outputs) ≡ true
outputs_distinct r h =
    let parts = neither (option_map (place_in_space r) (first_repeat (space_names r))) (option_map (part_place part.Output) (first_repeat (map (λ o. o.name) r.outputs))) h in
    let none = nothing_mapped (part_place part.Output) (first_repeat (map (λ o. o.name) r.outputs)) parts.1 in
    new_distinct [] (map (λ o. o.name) r.outputs) (none_repeated [] 0 (map (λ o. o.name) r.outputs) none)

-- ---- streams

pub outputs_known : (number_of : Numbers) (r : NetworkTable) → unknown_among number_of r ≡ None → length (filter_map (λ o. number_of o.from) r.outputs) ≡ length r.outputs
outputs_known number_of r h =
    let parts = neither (unknown_in_boxes number_of 0 r.boxes) (option_map (part_place part.Output) (first_failing (λ o. is_stream number_of o.from) r.outputs)) h in
    all_given (λ o. number_of o.from) r.outputs (none_failing (λ o. is_stream number_of o.from) r.outputs (nothing_mapped (part_place part.Output) (first_failing (λ o. is_stream number_of o.from) r.outputs) parts.1))

takes_as : (number_of : Numbers) (b : BoxTable) → length (filter_map (number_of) b.ins) ≡ length b.ins → inputs_within b.body b.ins ≡ true
    → takes_within (box_wires number_of b).kind (length (box_wires number_of b).inputs) ≡ true
takes_as number_of b long h = by_body b.body h
  where
    one_only : (k : ℕ) → is_between 1 1 k ≡ true → (k == 1) ≡ true
    one_only k h = grind (arith, nat_tests)

    two_only : (k : ℕ) → is_between 2 2 k ≡ true → (k == 2) ≡ true
    two_only k h = grind (arith, nat_tests)

    by_body : (raw : BodyTable) → inputs_within raw b.ins ≡ true → takes_within (kind_of_told_body raw) (length (filter_map (number_of) b.ins)) ≡ true
    by_body (Filter preds) h = rw long (one_only (length b.ins) h)
    by_body (Map set) h = rw long (one_only (length b.ins) h)
    by_body Union h = rw long h
    by_body (BSort by slack) h = rw long (one_only (length b.ins) h)
    by_body (Aggregate size advance phase group give) h = rw long (one_only (length b.ins) h)
    by_body (Join size on) h = rw long (two_only (length b.ins) h)
    by_body (Resample size give) h = rw long (two_only (length b.ins) h)

takes_from : (number_of : Numbers) (n : ℕ) (boxes : List BoxTable) → unknown_in_boxes number_of n boxes ≡ None → list_all box_within boxes ≡ true
    → list_all (λ (w : BoxWires). takes_within w.kind (length w.inputs)) (map (box_wires number_of) boxes) ≡ true
takes_from number_of n [] h w = refl
takes_from number_of n (b ∷ bs) h w =
    let known = neither (option_map (place_at part.Box n) (first_failing (is_stream number_of) b.ins)) (unknown_in_boxes number_of (n + 1) bs) h in
    let long = all_given (number_of) b.ins (none_failing (is_stream number_of) b.ins (nothing_mapped (place_at part.Box n) (first_failing (is_stream number_of) b.ins) known.0)) in
    let parts = and_true (box_within b) (list_all box_within bs) w in
    let front = and_true (told_body_within b.body && inputs_within b.body b.ins && limits.is_int_between 0 1000 b.cost) (list_all (limits.is_int_between 0 1000000) b.selectivity) parts.0 in
    let middle = and_true (told_body_within b.body && inputs_within b.body b.ins) (limits.is_int_between 0 1000 b.cost) front.0 in
    let ins = and_true (told_body_within b.body) (inputs_within b.body b.ins) middle.0 in
    and_from (takes_within (box_wires number_of b).kind (length (box_wires number_of b).inputs)) (list_all (λ (w : BoxWires). takes_within w.kind (length w.inputs)) (map (box_wires number_of) bs))
    (takes_as number_of b long ins.1) (takes_from number_of (n + 1) bs known.1 parts.1)

pub takes_all : (number_of : Numbers) (r : NetworkTable) → unknown_among number_of r ≡ None → list_all box_within r.boxes ≡ true
    → list_all (λ (w : BoxWires). takes_within w.kind (length w.inputs)) (map (box_wires number_of) r.boxes) ≡ true
takes_all number_of r h w =
    let parts = neither (unknown_in_boxes number_of 0 r.boxes) (option_map (part_place part.Output) (first_failing (λ o. is_stream number_of o.from) r.outputs)) h in
    takes_from number_of 0 r.boxes parts.0 w

-- ---- all of them

none_broken : {A : Type 0} (e : Place → NetErr) (o : Option Place) (more : Result A NetErr) (x : A) → unless_at e o more ≡ Ok x → (o ≡ None) × (more ≡ Ok x)
none_broken e None more x h = (refl, h)
none_broken e (Some p) more x h = cc

-- where they give a wiring the tables keep each rule, and it is theirs
pub rules_kept : (r : NetworkTable) (x : Wired) → wired_tables r ≡ Ok x → KeepsTableRules r × (x ≡ ordered (wiring_of r))
rules_kept r x h =
    let limited = none_broken broken.Limit (limit_place r) (named_wires r) x h in
    let named = none_broken broken.NoName (name_place r) (single_wires r) x limited.1 in
    let single = none_broken broken.Twice (twice_place r) (streamed_wires r (told_stream_named (told_stream_names r))) x named.1 in
    let known = none_broken broken.Unknown (unknown_place r) (acyclic_wires r (wiring_of r)) x single.1 in
    let acyclic = none_broken broken.Cycle (cycle_in (wiring_of r)) (windowed_wires r (wiring_of r)) x known.1 in
    let windows = none_broken broken.Window (window_place r) (Ok (ordered (wiring_of r))) x acyclic.1 in
    let same : x ≡ ordered (wiring_of r) = (let last = windows.1 in cc) in (
      record {
        limit = limited.0;
        named = named.0;
        single = single.0;
        known = known.0;
        acyclic = acyclic.0;
        windows = windows.0;
      },
      same,
    )

pub answer_kept : (r : NetworkTable) (answer : Result Wired NetErr) → IsAnswerOf answer (wired_tables r) → IfOk answer (λ _. KeepsTableRules r)
answer_kept r (Ok x) h = (rules_kept r x h).0
answer_kept r (Err e) h = tt

pub answer_wired : (r : NetworkTable) (answer : Result Wired NetErr) → IsAnswerOf answer (wired_tables r) → IfOk answer (λ x. x ≡ ordered (wiring_of r))
answer_wired r (Ok x) h = (rules_kept r x h).1
answer_wired r (Err e) h = tt

-- no box lies on a cycle
pub none_on_cycle : (w : Wiring) → cycle_in w ≡ None → (at : ℕ) → LiesOnCycle w at → ⊥
none_on_cycle w h at on =
    let none : find (is_on_cycle w) (numbers_to (length w.boxes)) ≡ None = nothing_mapped (part_place part.Box) (find (is_on_cycle w) (numbers_to (length w.boxes))) h in
    let off : is_on_cycle w at ≡ false = unfound (is_on_cycle w) (length w.boxes) none at (cycle_is_of_box w at on) in
    let lies : is_on_cycle w at ≡ true = on_cycle w at on in
    cc
