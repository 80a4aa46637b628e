-- The order of the boxes, and cycles.
use Rattle.std.specs.Prelude.{◌≡◌, ◌<◌, ℕ, zero, suc, Bool, true, false, not, ◌&&◌, ◌||◌, ◌==◌, List, [], ◌∷◌, ◌++◌, length, Option, Some, None, slice_get}
use Rattle.std.specs.List.{find, list_all, list_any, All}
use Rattle.sq_words.specs.Lists.{numbers_to, contains_number}
use Rattle.sq_graph.specs.declared.BoxWires.{BoxWires}
use Rattle.sq_graph.specs.declared.Wiring.{Wiring}
use Rattle.sq_graph.specs.Wires.{producer_of, inputs_at, inputs_of}
use Rattle.sq_graph.specs.declared.Producer.{Producer}
use Rattle.sq_graph.specs.declared.Producer.TheVariants.{Source, Port}

-- whether a stream is a source's or one of these boxes'
abbrev pub is_given : List ℕ → Option Producer → Bool
is_given placed None = false
is_given placed (Some (Source s)) = true
is_given placed (Some (Port at p)) = contains_number placed at

-- whether a box isn't placed, and all its inputs come from sources or boxes that are
abbrev pub can_be_next : Wiring → List ℕ → ℕ → Bool
can_be_next w placed at =
    not (contains_number placed at) && list_all (λ s. is_given placed (producer_of w s)) (inputs_of w at)

abbrev pub then_place : Option ℕ → (ℕ → List ℕ) → List ℕ
then_place None more = []
then_place (Some at) more = at ∷ more at

-- at each place the least box that can be next; at most n boxes after those placed
abbrev pub order_after : Wiring → ℕ → List ℕ → List ℕ
order_after w zero placed = []
order_after w (suc n) placed =
    then_place (find (can_be_next w placed) (numbers_to (length w.boxes))) (λ at. order_after w n (placed ++ at ∷ []))

abbrev pub order_of : Wiring → List ℕ
order_of w = order_after w (length w.boxes) []

abbrev pub comes_from : Option Producer → ℕ → Bool
comes_from None at = false
comes_from (Some (Source s)) at = false
comes_from (Some (Port b p)) at = b == at

-- whether box b takes a stream of box a
abbrev pub feeds : Wiring → ℕ → ℕ → Bool
feeds w a b = list_any (λ s. comes_from (producer_of w s) a) (inputs_of w b)

-- whether a path of at most n boxes leads from a to b
abbrev pub leads_to : Wiring → ℕ → ℕ → ℕ → Bool
leads_to w zero a b = false
leads_to w (suc n) a b = feeds w a b || list_any (λ c. feeds w a c && leads_to w n c b) (numbers_to (length w.boxes))

abbrev pub is_on_cycle : Wiring → ℕ → Bool
is_on_cycle w at = leads_to w (length w.boxes) at at

-- whether each stream that a box takes is there
abbrev pub is_there : Option Producer → Bool
is_there None = false
is_there (Some p) = true

abbrev pub IsWired : Wiring → Type 0
IsWired w = All (λ (b : BoxWires). All (λ s. is_there (producer_of w s) ≡ true) b.inputs) w.boxes

-- a chain of arcs leads from box a to box b, with k boxes between them
abbrev pub Leads : Wiring → ℕ → ℕ → ℕ → Type 0
Leads w zero a b = feeds w a b ≡ true
Leads w (suc k) a b = (c : ℕ) × (Leads w k a c × (feeds w c b ≡ true))

-- a box that reaches itself by arcs
abbrev pub LiesOnCycle : Wiring → ℕ → Type 0
LiesOnCycle w at = (k : ℕ) × Leads w k at at

-- the box that a producer belongs to
abbrev pub giver_of : Producer → Option ℕ
giver_of (Source s) = None
giver_of (Port at p) = Some at

-- whether what gives a stream is there among these boxes
abbrev pub is_given_by : List ℕ → Option (Option ℕ) → Bool
is_given_by placed None = false
is_given_by placed (Some None) = true
is_given_by placed (Some (Some at)) = contains_number placed at

-- whether what gives a stream is this box or one of these
abbrev pub is_fed_by : ℕ → List ℕ → Option (Option ℕ) → Bool
is_fed_by by reached None = false
is_fed_by by reached (Some None) = false
is_fed_by by reached (Some (Some at)) = (at == by) || contains_number reached at

-- `can_be_next` by a table of what gives each stream
abbrev pub could_be_next : List BoxWires → List (Option ℕ) → List ℕ → ℕ → Bool
could_be_next boxes givers placed at =
    not (contains_number placed at) && list_all (λ s. is_given_by placed (slice_get givers s)) (inputs_at (slice_get boxes at))

-- whether a box isn't among these, and takes a stream of the box `by` or of one of these
abbrev pub could_be_reached : List BoxWires → List (Option ℕ) → ℕ → List ℕ → ℕ → Bool
could_be_reached boxes givers by reached at =
    not (contains_number reached at) && list_any (λ s. is_fed_by by reached (slice_get givers s)) (inputs_at (slice_get boxes at))

-- the least box on a cycle
abbrev pub IsLeastOnCycle : Wiring → ℕ → Type 0
IsLeastOnCycle w at = LiesOnCycle w at × ((b : ℕ) → b < at → LiesOnCycle w b → ⊥)

-- each box stands once in an order, and what it takes comes from sources and from boxes in front of it
abbrev pub ComesAfterInputs : Wiring → List ℕ → Type 0
ComesAfterInputs w order = (front rest : List ℕ) (at : ℕ) → order ≡ front ++ at ∷ rest → can_be_next w front at ≡ true
