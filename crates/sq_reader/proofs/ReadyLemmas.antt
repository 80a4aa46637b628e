-- A box that can be next takes streams of which all columns are known.
use Rattle.std.proofs.Common.{◌≡◌, ◌∙◌, sym, ap, refl, ℕ, suc, ◌<◌, Bool, true, false, not, ◌||◌, ◌==◌, List, [], ◌∷◌, ◌++◌, length, set, Option, Some, None, slice_get, arith, length-set}
use Rattle.std.specs.Prelude.{Ok}
use Rattle.std.specs.List.{cons_option, list_all}
use Rattle.std.specs.Option.{option_map}
use Rattle.std.proofs.lemmas.Bool.Decides.{nat_tests}
use Rattle.std.proofs.lemmas.List.{length-replicate}
use Rattle.std.proofs.lemmas.List.Folds.{list_any-append}
use Rattle.sq_value.specs.Values.{Columns}
use Rattle.sq_graph.specs.declared.BoxWires.{BoxWires}
use Rattle.sq_graph.specs.declared.Wiring.{Wiring}
use Rattle.sq_graph.specs.Wires.{producer_of, inputs_at, inputs_of}
use Rattle.sq_graph.specs.declared.Producer.{Producer}
use Rattle.sq_graph.specs.declared.Producer.TheVariants.{Source, Port}
use Rattle.sq_graph.specs.Order.{is_given, order_of}
use Rattle.sq_graph.proofs.Producers.{IsProducer, producer_is}
use Rattle.sq_net.specs.declared.Source as declared
use Rattle.sq_net.specs.declared.Node.{Node}
use Rattle.sq_net.specs.SoundNetworks.{takes_within}
use Rattle.sq_net.specs.Streams.{columns_of_port}
use Rattle.sq_tables.specs.declared.tables.BoxTable.{BoxTable}
use Rattle.sq_tables.specs.declared.tables.NetworkTable.{NetworkTable}
use Rattle.sq_rules.specs.Limits.{limit_place}
use Rattle.sq_rules.specs.Streaming.{box_wires, kind_of_told_body, told_stream_named, told_stream_names, unknown_place, wiring_of}
use Rattle.sq_reader.specs.Columns.{columns_known, columns_taken, no_nodes, typed_node, node_known, node_of_box}
use Rattle.sq_rules.proofs.LimitLemmas.{counts_of}
use Rattle.sq_rules.proofs.WiringLemmas.{wired_at}
use Rattle.sq_reader.proofs.BodyLemmas.{node_is}
use Rattle.sq_reader.proofs.NodeLemmas.{Follow, follow_all}
use Rattle.sq_rules.proofs.RuleLemmas.{takes_all}
use Rattle.sq_words.specs.Lists.{contains_number}
use Rattle.sq_words.proofs.Bools.{and_true}
use Rattle.sq_words.proofs.Lists.{has_item, get_set_other, get_set_same, list_all_at}
use Rattle.sq_words.proofs.Numbers.{eq_from}

-- a box is typed, with columns for each of its ports
abbrev pub IsTypedAt : Wiring → List (Option Node) → ℕ → Type 0
IsTypedAt w nodes b = (x : BoxWires) → slice_get w.boxes b ≡ Some x → (node : Node) × ((slice_get nodes b ≡ Some (Some node)) × (length node.schemas ≡ x.ports))

-- the boxes in front are typed, and these can follow them
pub record AreReady (w : Wiring) (nodes : List (Option Node)) (ats : List ℕ) : Type 0 where
  pub front : List ℕ
  pub follow : Follow w front ats
  pub count : length nodes ≡ length w.boxes
  pub typed : (b : ℕ) → contains_number front b ≡ true → IsTypedAt w nodes b

pub ready_first : (w : Wiring) (n : ℕ) → n ≡ length w.boxes → AreReady w (no_nodes n) (order_of w)
ready_first w n same = record {
  front = [];
  follow = follow_all w;
  count = (let none : Option Node = None in length-replicate n none) ∙ same;
  typed = λ b h. cc;
}

-- ---- what it takes

known_given : (w : Wiring) (ss : List declared.Source) (front : List ℕ) (nodes : List (Option Node)) → length ss ≡ w.sources → ((b : ℕ) → contains_number front b ≡ true → IsTypedAt w nodes b)
    → (s : ℕ) → is_given front (producer_of w s) ≡ true → (cs : Columns) × (columns_known ss nodes (producer_of w s) ≡ Some cs)
known_given w ss front nodes count typed s given = by_case (producer_of w s) refl given
  where
    by_case : (p : Option Producer) → producer_of w s ≡ p → is_given front p ≡ true → (cs : Columns) × (columns_known ss nodes p ≡ Some cs)
    by_case None e g = cc
    by_case (Some (Source k)) e g =
        let low : k < w.sources = producer_is w s (Source k) e in
        let one = has_item ss k (omega (arith, low, count)) in
        (one.0.schema, ap (λ (o : Option declared.Source). option_map (λ (source : declared.Source). source.schema) o) one.1)
    by_case (Some (Port at port)) e g =
        let is : IsProducer w (Port at port) = producer_is w s (Port at port) e in
        let node = typed at g is.0 is.1.0 in
        let low : port < (is.0).ports = is.1.1 in
        let same : length (node.0).schemas ≡ (is.0).ports = node.1.1 in
        let one = has_item (node.0).schemas port (omega (arith, low, same)) in
        (one.0, ap (λ (o : Option (Option Node)). columns_of_port (node_known o) port) node.1.0 ∙ one.1)

taken_all : (w : Wiring) (ss : List declared.Source) (front : List ℕ) (nodes : List (Option Node)) → length ss ≡ w.sources → ((b : ℕ) → contains_number front b ≡ true → IsTypedAt w nodes b)
    → (ins : List ℕ) → list_all (λ s. is_given front (producer_of w s)) ins ≡ true → length (columns_taken w ss nodes ins) ≡ length ins
taken_all w ss front nodes count typed [] given = refl
taken_all w ss front nodes count typed (s ∷ ins) given =
    let parts = and_true (is_given front (producer_of w s)) (list_all (λ s. is_given front (producer_of w s)) ins) given in
    let one = known_given w ss front nodes count typed s parts.0 in
    ap (λ (o : Option Columns). length (cons_option o (columns_taken w ss nodes ins))) one.1 ∙ ap suc (taken_all w ss front nodes count typed ins parts.1)

-- a box that can be next takes as many streams as its kind does
pub ready_takes : (r : NetworkTable) (w : Wiring) (ss : List declared.Source) (nodes : List (Option Node)) (at : ℕ) (ats : List ℕ) → limit_place r ≡ None → unknown_place r ≡ None
    → w ≡ wiring_of r → length ss ≡ length r.sources → AreReady w nodes (at ∷ ats)
    → (b : BoxTable) → slice_get r.boxes at ≡ Some b → takes_within (kind_of_told_body b.body) (length (columns_taken w ss nodes (inputs_of w at))) ≡ true
ready_takes r w ss nodes at ats h known same count ready b there =
    let x : BoxWires = box_wires (told_stream_named (told_stream_names r)) b in
    let wired : slice_get w.boxes at ≡ Some x = ap (λ (v : Wiring). slice_get v.boxes at) same ∙ wired_at r at b there in
    let takes = takes_all (told_stream_named (told_stream_names r)) r known (counts_of r h).each_box in
    let fits : takes_within x.kind (length x.inputs) ≡ true = list_all_at (λ (b : BoxWires). takes_within b.kind (length b.inputs)) (wiring_of r).boxes at x takes (wired_at r at b there) in
    let ins : inputs_of w at ≡ x.inputs = ap inputs_at wired in
    let tests = and_true (not (contains_number ready.front at)) (list_all (λ s. is_given ready.front (producer_of w s)) (inputs_of w at)) ready.follow.1.0 in
    let all : length (columns_taken w ss nodes (inputs_of w at)) ≡ length (inputs_of w at) =
    taken_all w ss ready.front nodes (count ∙ sym (ap (λ (v : Wiring). v.sources) same)) ready.typed (inputs_of w at) tests.1 in
    ap (λ (k : ℕ). takes_within x.kind k) (all ∙ ap (λ (xs : List ℕ). length xs) ins) ∙ fits

-- ---- once it is typed

other_number : (a b : ℕ) → (a == b) ≡ false → b ≡ a → ⊥
other_number a b h e = grind (arith, nat_tests)

-- a box that is typed has columns for each of its ports
node_ports : (r : NetworkTable) (w : Wiring) (ss : List declared.Source) (nodes : List (Option Node)) (at : ℕ) (node : Node) (x : BoxWires) → w ≡ wiring_of r → typed_node r w ss nodes at ≡ Ok node
    → slice_get w.boxes at ≡ Some x → length node.schemas ≡ x.ports
node_ports r w ss nodes at node x same h wired = by_box (slice_get r.boxes at) refl h
  where
    by_box : (o : Option BoxTable) → slice_get r.boxes at ≡ o → node_of_box at o (columns_taken w ss nodes (inputs_of w at)) ≡ Ok node → length node.schemas ≡ x.ports
    by_box None there e = cc
    by_box (Some raw) there e =
        let is = node_is at raw (columns_taken w ss nodes (inputs_of w at)) node e in
        let mine : slice_get (wiring_of r).boxes at ≡ Some x = ap (λ (v : Wiring). slice_get v.boxes at) (sym same) ∙ wired in
        let found : box_wires (told_stream_named (told_stream_names r)) raw ≡ x = (let its = wired_at r at raw there in cc) in
        sym is.body.ports ∙ ap (λ (y : BoxWires). y.ports) found

pub ready_next : (r : NetworkTable) (w : Wiring) (ss : List declared.Source) (nodes : List (Option Node)) (at : ℕ) (ats : List ℕ) (node : Node) → w ≡ wiring_of r → AreReady w nodes (at ∷ ats)
    → typed_node r w ss nodes at ≡ Ok node → AreReady w (set nodes at (Some node)) ats
ready_next r w ss nodes at ats node of_file ready h = record {
  front = ready.front ++ at ∷ [];
  follow = ready.follow.1.1;
  count = length-set nodes at (Some node) ∙ ready.count;
  typed = λ b g x wired. by_test b x (at == b) refl (sym (list_any-append (λ y. y == b) ready.front (at ∷ [])) ∙ g) wired;
}
  where
    low : at < length nodes
    low = let inside = ready.follow.0 in let count = ready.count in omega (arith, inside, count)

    by_test : (b : ℕ) (x : BoxWires) (t : Bool) → (at == b) ≡ t → (contains_number ready.front b || (t || false)) ≡ true → slice_get w.boxes b ≡ Some x
        → (n : Node) × ((slice_get (set nodes at (Some node)) b ≡ Some (Some n)) × (length n.schemas ≡ x.ports))
    by_test b x true is g wired =
        let same : at ≡ b = eq_from at b is in
        let here : slice_get w.boxes at ≡ Some x = ap (λ (k : ℕ). slice_get w.boxes k) same ∙ wired in
        (node, (ap (λ (k : ℕ). slice_get (set nodes at (Some node)) k) (sym same) ∙ get_set_same nodes at (Some node) low, node_ports r w ss nodes at node x of_file h here))
    by_test b x false is g wired =
        let old = ready.typed b (in_front (contains_number ready.front b) g) x wired in
        (old.0, (get_set_other nodes at b (Some node) (other_number at b is) ∙ old.1.0, old.1.1))
      where
        in_front : (t : Bool) → (t || (false || false)) ≡ true → t ≡ true
        in_front true e = refl
        in_front false e = cc
