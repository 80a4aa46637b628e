-- Tuples as they stand in tagged lists.
use Rattle.std.specs.Prelude.{ℕ, ◌^◌, ◌<◌, ◌==◌, if◌then◌else◌, List, [], ◌∷◌, ◌++◌, map, Some, nat_lt, Bool}
use Rattle.std.specs.List.{filter}
use Rattle.sq_value.specs.declared.Tuple.{Tuple}
use Rattle.sq_item.specs.SoundItems.{IsBody}
use Rattle.sq_item.specs.Things.{Content, Sign, Body, Thing}
use Rattle.sq_oper.specs.Entries.{Entry}
use Rattle.sq_value.specs.declared.Value.{Value}

-- a tuple that an item may carry: its time is a tick, and it has 1 to 16 values
abbrev pub IsSoundTuple : Tuple → Type 0
IsSoundTuple x = (x.time < 2 ^ 40) × IsBody (Some x.fields)

abbrev pub tuple_in : ℕ → Content → List Tuple
tuple_in time (Sign m) = []
tuple_in time (Body fields) = record { time = time; fields = fields } ∷ []

-- the tuples of a tagged list
abbrev pub tuples_of : List Entry → List Tuple
tuples_of [] = []
tuples_of (e ∷ es) = tuple_in e.thing.time e.thing.content ++ tuples_of es

-- those of them that come at a port
abbrev pub tuples_at : ℕ → List Entry → List Tuple
tuples_at port es = tuples_of (filter (λ e. e.port == port) es)

abbrev pub thing_of : Tuple → Thing
thing_of x = record { time = x.time; content = Body x.fields }

abbrev pub things : List Tuple → List Thing
things xs = map thing_of xs

-- what a box with one port gives there
abbrev pub at_zero : {A : Type 0} → ℕ → List A → List A
at_zero q xs = if 0 == q then xs else []

abbrev pub tuples_in : List Thing → List Tuple
tuples_in [] = []
tuples_in (x ∷ xs) = tuple_in x.time x.content ++ tuples_in xs

-- what stands at each of the first ports
abbrev pub at_ports_below : {A : Type 0} → ℕ → ℕ → List A → List A
at_ports_below ports q xs = if nat_lt q ports then xs else []

-- marks come at port 0 alone
abbrev pub first_port : ℕ → Bool
first_port port = port == 0

-- tuples come at port 0
abbrev pub port_fits : ℕ → List Value → Bool
port_fits port fields = port == 0
