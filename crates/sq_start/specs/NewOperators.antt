-- The operators of a network, new, and that they are so for every replay that was read of it.
use Rattle.std.specs.Prelude.{◌≡◌, ℕ, ◌==◌, ◌&&◌, Bool, true, false, List, [], length, Option, Some, None, is_some, slice_get}
use Rattle.std.specs.List.{AllByRecursion}
use Rattle.sq_value.specs.declared.Value.{Value}
use Rattle.sq_oper.specs.declared.tally.Position.TheVariants.{Start}
use Rattle.sq_oper.specs.Entries.{Entry}
use Rattle.sq_oper.specs.Order.{IsFuture}
use Rattle.sq_graph.specs.Wires.{inputs_of}
use Rattle.sq_net.specs.declared.Network.{Network}
use Rattle.sq_net.specs.declared.Node.{Node}
use Rattle.sq_model.specs.FullCounts.{late_of}
use Rattle.sq_model.specs.Shedding.{Replay, batch_level}
use Rattle.sq_actor.specs.declared.actor.Actor as operator
use Rattle.sq_actor.specs.contracts.actor.ActorOperator.TheImpl.{ghosts}
use Rattle.sq_below.specs.Actors.{Actor, Sources, Box, WindowDrop, OutputGate, stream_of}
use Rattle.sq_below.specs.Ports.{body_fits, body_marks}
use Rattle.sq_start.specs.Numbers.{actor_at}
use Rattle.sq_start.specs.Nets.{fed_to, decided_by}
use Rattle.sq_start.specs.Starts.{IsReadReplay}
use Rattle.sq_points.specs.Above.{drop_above_box}

-- how many tuples an actor loses
abbrev pub late_of_actor : Replay → Actor → ℕ
late_of_actor r Sources = 0
late_of_actor r (Box b) = late_of r.network r.sources b
late_of_actor r (WindowDrop w) = 0
late_of_actor r (OutputGate o) = 0

-- where an actor of a network takes marks, and the values that it takes
abbrev pub node_marks : Option Node → ℕ → ℕ → Bool
node_marks None inputs port = false
node_marks (Some x) inputs port = body_marks x.body inputs port

abbrev pub actor_marks : Network → Actor → ℕ → Bool
actor_marks n Sources port = false
actor_marks n (Box b) port = is_some (drop_above_box n b) && node_marks (slice_get n.boxes b) (length (inputs_of n.wires b)) port
actor_marks n (WindowDrop w) port = false
actor_marks n (OutputGate o) port = port == 0

abbrev pub node_fits : Option Node → ℕ → ℕ → List Value → Bool
node_fits None inputs port fields = false
node_fits (Some x) inputs port fields = body_fits x.body inputs port fields

abbrev pub actor_fits : Network → Actor → ℕ → List Value → Bool
actor_fits n Sources port fields = false
actor_fits n (Box b) port fields = node_fits (slice_get n.boxes b) (length (inputs_of n.wires b)) port fields
actor_fits n (WindowDrop w) port fields = port == 0
actor_fits n (OutputGate o) port fields = true

-- a new operator of a network stands for this actor of it, where the draws have this seed
pub record IsStarted (n : Network) (seed : ℕ) (x : Actor) (a : operator.Actor) : Type 0 where
  pub gives : (r : Replay) → IsReadReplay r → r.network ≡ n → r.seed ≡ seed → (q : ℕ) → ghosts.rest a (batch_level r) (fed_to r x) q ≡ stream_of r (x, q)
  pub decides : (r : Replay) → IsReadReplay r → r.network ≡ n → r.seed ≡ seed → ghosts.decides a (batch_level r) (fed_to r x) ≡ decided_by r x
  pub loses : (r : Replay) → IsReadReplay r → r.network ≡ n → r.seed ≡ seed → ghosts.lost a (fed_to r x) ≡ late_of_actor r x
  pub owns : (table : ℕ → ℕ → ℕ) (future : List Entry) → IsFuture (ghosts.takes_marks a) (ghosts.fits a) Start future
      → AllByRecursion (λ d. x ≡ WindowDrop d.drop) (ghosts.decides a table future)
  pub marks : (port : ℕ) → actor_marks n x port ≡ true → ghosts.takes_marks a port ≡ true
  pub fits : (port : ℕ) (fields : List Value) → actor_fits n x port fields ≡ true → ghosts.fits a port fields ≡ true
  pub reads : ghosts.reads a n.epoch ≡ true
  pub none : (table : ℕ → ℕ → ℕ) (port : ℕ) → ghosts.rest a table [] port ≡ []
  pub at_start : ghosts.place a ≡ Start
  pub none_fed : ghosts.taken a ≡ 0
  pub is_valid : ghosts.valid a
  pub running : ghosts.running a ≡ true

-- the first operators of a network
abbrev pub AreStarted : Network → ℕ → List operator.Actor → Type 0
AreStarted n seed actors = (k : ℕ) (a : operator.Actor) → slice_get actors k ≡ Some a → IsStarted n seed (actor_at n k) a
