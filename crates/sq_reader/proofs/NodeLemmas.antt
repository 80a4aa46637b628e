-- The boxes typed in their order: each stays as it was typed, on columns that stay as they were.
use Rattle.std.proofs.Common.{◌≡◌, ◌∙◌, sym, ap, subst, refl, ℕ, zero, suc, ◌<◌, true, false, not, ◌==◌, List, [], ◌∷◌, ◌++◌, map, length, set, Option, Some, None, slice_get, arith, length-set, inl, inr}
use Rattle.std.specs.Prelude.{Result, Ok}
use Rattle.std.specs.List.{cons_option, filter_map, find, list_all}
use Rattle.std.proofs.lemmas.List.Folds.{list_any-append}
use Rattle.sq_words.specs.Lists.{numbers_to, contains_number}
use Rattle.sq_value.specs.Values.{Columns}
use Rattle.sq_graph.specs.declared.Wiring.{Wiring}
use Rattle.sq_graph.specs.declared.BoxWires.{BoxWires}
use Rattle.sq_graph.specs.Wires.{producer_of, inputs_at, inputs_of}
use Rattle.sq_graph.specs.declared.Producer.{Producer}
use Rattle.sq_graph.specs.declared.Producer.TheVariants.{Source, Port}
use Rattle.sq_graph.specs.Order.{can_be_next, is_given, order_after, order_of, then_place}
use Rattle.sq_graph.proofs.Finding.{found}
use Rattle.sq_net.specs.declared.Source as declared
use Rattle.sq_net.specs.declared.Node.{Node}
use Rattle.sq_net.specs.declared.NetErr.{NetErr}
use Rattle.sq_net.specs.Streams.{columns_of_port}
use Rattle.sq_tables.specs.declared.tables.BoxTable.{BoxTable}
use Rattle.sq_tables.specs.declared.tables.NetworkTable.{NetworkTable}
use Rattle.sq_tables.specs.Refusals.{IsAnswerOf}
use Rattle.sq_reader.specs.Columns.{columns_known, columns_taken, typed_node, node_in, node_known, node_of_box, nodes_from}
use Rattle.sq_tables.proofs.ShapedLemmas.{first_step}
use Rattle.sq_words.proofs.Bools.{and_true, not_true, or_cases}
use Rattle.std.proofs.lemmas.Bool.{or_right, or_left}
use Rattle.sq_words.proofs.Lists.{get_set_other, get_set_same}
use Rattle.sq_words.proofs.Numbers.{eq_itself, eq_from}

-- a box by its number, on what it takes
pub node_from : (r : NetworkTable) (w : Wiring) (ss : List declared.Source) (nodes : List (Option Node)) (at : ℕ) (b : BoxTable) (x : BoxWires) (ins : List Columns) (answer : Result Node NetErr)
    → slice_get r.boxes at ≡ Some b → slice_get w.boxes at ≡ Some x → ins ≡ columns_taken w ss nodes x.inputs → IsAnswerOf answer (node_in at b ins) → IsAnswerOf answer (typed_node r w ss nodes at)
node_from r w ss nodes at b x ins answer here wired same h =
    let is : typed_node r w ss nodes at ≡ node_in at b ins =
    ap (λ (o : Option BoxTable). node_of_box at o (columns_taken w ss nodes (inputs_of w at))) here
    ∙ (ap (λ (o : Option BoxWires). node_in at b (columns_taken w ss nodes (inputs_at o))) wired ∙ ap (λ (cs : List Columns). node_in at b cs) (sym same)) in
    subst (λ (said : Result Node NetErr). IsAnswerOf answer said) (sym is) h

pub nodes_more : (r : NetworkTable) (w : Wiring) (ss : List declared.Source) (nodes : List (Option Node)) (at : ℕ) (ats rest : List ℕ) (node : Node)
    → typed_node r w ss nodes at ≡ Ok node → ats ≡ at ∷ rest → nodes_from r w ss (set nodes at (Some node)) rest ≡ nodes_from r w ss nodes ats
nodes_more r w ss nodes at ats rest node typed is = rw (is, typed) refl

-- each of these boxes can be next after those in front of it
abbrev pub Follow : Wiring → List ℕ → List ℕ → Type 0
Follow w front [] = Unit {0}
Follow w front (at ∷ ats) = (at < length w.boxes) × ((can_be_next w front at ≡ true) × Follow w (front ++ at ∷ []) ats)

follow_after : (w : Wiring) (n : ℕ) (front : List ℕ) → Follow w front (order_after w n front)
follow_after w zero front = tt
follow_after w (suc n) front = by_next (find (can_be_next w front) (numbers_to (length w.boxes))) refl (λ at. follow_after w n (front ++ at ∷ []))
  where
    by_next : (next : Option ℕ) → find (can_be_next w front) (numbers_to (length w.boxes)) ≡ next
        → ((at : ℕ) → Follow w (front ++ at ∷ []) (order_after w n (front ++ at ∷ [])))
        → Follow w front (then_place next (λ at. order_after w n (front ++ at ∷ [])))
    by_next None e more = tt
    by_next (Some at) e more = let f = found (can_be_next w front) (length w.boxes) at e in (f.0, (f.1, more at))

pub follow_all : (w : Wiring) → Follow w [] (order_of w)
follow_all w = follow_after w (length w.boxes) []

-- these boxes are the same in both lists
abbrev pub AreKept : List ℕ → List (Option Node) → List (Option Node) → Type 0
AreKept front nodes later = (b : ℕ) → contains_number front b ≡ true → slice_get later b ≡ slice_get nodes b

same_known : (ss : List declared.Source) (front : List ℕ) (nodes later : List (Option Node)) → AreKept front nodes later
    → (p : Option Producer) → is_given front p ≡ true → columns_known ss later p ≡ columns_known ss nodes p
same_known ss front nodes later kept None g = refl
same_known ss front nodes later kept (Some (Source s)) g = refl
same_known ss front nodes later kept (Some (Port at port)) g = ap (λ (o : Option (Option Node)). columns_of_port (node_known o) port) (kept at g)

-- so what comes from them has the same columns
same_taken : (w : Wiring) (ss : List declared.Source) (front : List ℕ) (nodes later : List (Option Node)) → AreKept front nodes later
    → (ins : List ℕ) → list_all (λ s. is_given front (producer_of w s)) ins ≡ true → columns_taken w ss later ins ≡ columns_taken w ss nodes ins
same_taken w ss front nodes later kept [] g = refl
same_taken w ss front nodes later kept (s ∷ ins) g =
    let parts = and_true (is_given front (producer_of w s)) (list_all (λ s. is_given front (producer_of w s)) ins) g in
    let here : columns_known ss later (producer_of w s) ≡ columns_known ss nodes (producer_of w s) = same_known ss front nodes later kept (producer_of w s) parts.0 in
    let more : columns_taken w ss later ins ≡ columns_taken w ss nodes ins = same_taken w ss front nodes later kept ins parts.1 in
    ap (λ (o : Option Columns). cons_option o (columns_taken w ss later ins)) here
    ∙ ap (λ (cs : List Columns). cons_option (columns_known ss nodes (producer_of w s)) cs) more

-- a box has its node, typed on what all have in the end
pub record IsSettled (r : NetworkTable) (w : Wiring) (ss : List declared.Source) (nodes : List (Option Node)) (at : ℕ) : Type 0 where
  pub node : Node
  pub there : slice_get nodes at ≡ Some (Some node)
  pub typed : typed_node r w ss nodes at ≡ Ok node

pub record AreSettled (r : NetworkTable) (w : Wiring) (ss : List declared.Source) (front : List ℕ) (nodes : List (Option Node)) (ats : List ℕ) (later : List (Option Node)) : Type 0 where
  pub kept : AreKept front nodes later
  pub count : length later ≡ length nodes
  pub each : (at : ℕ) → contains_number ats at ≡ true → IsSettled r w ss later at

pub settled : (r : NetworkTable) (w : Wiring) (ss : List declared.Source) (front : List ℕ) (nodes : List (Option Node)) (ats : List ℕ) (later : List (Option Node))
    → Follow w front ats → length nodes ≡ length w.boxes → nodes_from r w ss nodes ats ≡ Ok later → AreSettled r w ss front nodes ats later
settled r w ss front nodes [] later follow count h =
    let same : nodes ≡ later = cc in
    let P : List (Option Node) → Type 0 = AreSettled r w ss front nodes [] in
    subst P same (record { kept = λ b g. refl; count = refl; each = λ at g. cc })
settled r w ss front nodes (at ∷ ats) later follow count h =
    let one = first_step (typed_node r w ss nodes at) (λ node. nodes_from r w ss (set nodes at (Some node)) ats) later h in
    let put : List (Option Node) = set nodes at (Some one.0) in
    let long : length put ≡ length w.boxes = length-set nodes at (Some one.0) ∙ count in
    let rest : AreSettled r w ss (front ++ at ∷ []) put ats later = settled r w ss (front ++ at ∷ []) put ats later follow.1.1 long one.1.1 in
    let tests = and_true (not (contains_number front at)) (list_all (λ s. is_given front (producer_of w s)) (inputs_of w at)) follow.1.0 in
    let fresh : contains_number front at ≡ false = not_true (contains_number front at) tests.0 in
    let kept : AreKept front nodes later = (λ b g. rest.kept b (in_front b g) ∙ get_set_other nodes at b (Some one.0) (apart b fresh g)) in
    let low : at < length nodes = (let inside = follow.0 in omega (arith, inside, count)) in
    let there : slice_get later at ≡ Some (Some one.0) = rest.kept at here ∙ get_set_same nodes at (Some one.0) low in
    let ins : columns_taken w ss later (inputs_of w at) ≡ columns_taken w ss nodes (inputs_of w at) = same_taken w ss front nodes later kept (inputs_of w at) tests.1 in
    let mine : IsSettled r w ss later at = record { node = one.0; there = there; typed = ap (λ (cs : List Columns). node_of_box at (slice_get r.boxes at) cs) ins ∙ one.1.0 } in
    record {
      kept = kept;
      count = rest.count ∙ length-set nodes at (Some one.0);
      each = λ b g. elim (or_cases (at == b) (contains_number ats b) g) [
        | inl now ↦ (let same : at ≡ b = eq_from at b now in subst (λ (x : ℕ). IsSettled r w ss later x) same mine)
        | inr after ↦ rest.each b after
      ];
    }
  where
    in_front : (b : ℕ) → contains_number front b ≡ true → contains_number (front ++ at ∷ []) b ≡ true
    in_front b g = list_any-append (λ x. x == b) front (at ∷ []) ∙ or_left (contains_number front b) (contains_number (at ∷ []) b) g

    here : contains_number (front ++ at ∷ []) at ≡ true
    here = list_any-append (λ x. x == at) front (at ∷ []) ∙ or_right (contains_number front at) (contains_number (at ∷ []) at) (or_left (at == at) false (eq_itself at))

    apart : (b : ℕ) → contains_number front at ≡ false → contains_number front b ≡ true → b ≡ at → ⊥
    apart b fresh g e = let back : contains_number front at ≡ true = ap (contains_number front) (sym e) ∙ g in cc

-- ---- all boxes

-- where each place has a node, the nodes are all
pub all_known : {A : Type 0} (os : List (Option A)) → ((i : ℕ) → i < length os → (x : A) × (slice_get os i ≡ Some (Some x))) → os ≡ map Some (filter_map (λ o. o) os)
all_known [] h = refl
all_known {A} (o ∷ os) h = by_case o (h zero (omega arith)).0 (h zero (omega arith)).1 (all_known os (λ i low. h (suc i) (omega arith)))
  where
    by_case : (o : Option A) (x : A) → Some o ≡ Some (Some x) → os ≡ map Some (filter_map (λ o. o) os) → (o ∷ os) ≡ map Some (cons_option o (filter_map (λ o. o) os))
    by_case None x e more = cc
    by_case (Some y) x e more = ap (λ (rest : List (Option A)). Some y ∷ rest) more
