-- What is left of a new engine of a replay, at the levels of the replay.
use Rattle.std.specs.Prelude.{◌≡◌, ℕ, ◌<◌, ◌≤◌, true, false, List, [], length}
use Rattle.std.specs.List.{sum_by}
use Rattle.sq_words.specs.Lists.{numbers_to, nth}
use Rattle.sq_oper.specs.declared.tally.Position.TheVariants.{Start}
use Rattle.sq_oper.specs.Order.{IsFuture}
use Rattle.sq_oper.specs.Streams.{things}
use Rattle.sq_model.specs.FullCounts.{late_of}
use Rattle.sq_model.specs.Shedding.{Replay, answer_of}
use Rattle.sq_model.specs.KeptTuples.{work_of, turns_of}
use Rattle.sq_left.specs.Remainder.{Net, Holding, coming, inputs, is_known_actor, IsLaidOut, Facts, fed_in_all, lost_in_all, still_dropped}
use Rattle.sq_below.specs.Actors.{OutputGate, stream_of}
use Rattle.sq_below.specs.ArcContents.{box_fed}
use Rattle.sq_start.specs.Numbers.{ops_of, seat_of_actor, actor_at}
use Rattle.sq_start.specs.Nets.{Joins, fed_to, decided_by, count_fed}
use Rattle.sq_start.specs.Starts.{IsReadReplay}

-- a world in which nothing was released, of new actors of the network of a replay, at the levels of the replay: what each may be
-- fed, gives, decides and loses for all that comes to it is what the replay says
pub record IsNew (r : Replay) (net : Net) (w : Holding) : Type 0 where
  pub joins : Joins r.network net
  pub recorded : (port : ℕ) → w.source port ≡ things (nth r.sources port)
  pub empty : (arc : ℕ) → w.queue arc ≡ []
  pub none_fed : (actor : ℕ) → w.taken actor ≡ 0
  pub at_start : (actor : ℕ) → w.place actor ≡ Start
  pub running : (actor : ℕ) → w.done actor ≡ false
  pub fit : (actor : ℕ) → actor < ops_of r.network → IsFuture (net.takes actor) (net.fits actor) Start (fed_to r (actor_at r.network actor))
  pub gives : (actor : ℕ) → actor < ops_of r.network → (port : ℕ) → w.rest actor (fed_to r (actor_at r.network actor)) port ≡ stream_of r (actor_at r.network actor, port)
  pub decides : (actor : ℕ) → actor < ops_of r.network → w.decide actor (fed_to r (actor_at r.network actor)) ≡ decided_by r (actor_at r.network actor)
  pub loses : (b : ℕ) → b < length r.network.boxes → w.lost b (box_fed r b) ≡ late_of r.network r.sources b
  pub no_more : (actor : ℕ) → ops_of r.network < actor → (port : ℕ) → w.rest actor [] port ≡ []

-- the facts of such a world hold, and what is left of each stream, answer and record, and of each number, is what the replay says
pub record StartsAs (r : Replay) (net : Net) (w : Holding) (order : List ℕ) : Type 0 where
  pub facts : Facts net w order
  pub streams : (actor : ℕ) → actor < ops_of r.network → (port : ℕ) → coming net w order actor port ≡ stream_of r (actor_at r.network actor, port)
  pub lines : (o : ℕ) → o < length r.network.wires.outputs → coming net w order (seat_of_actor r.network (OutputGate o)) 0 ≡ things (answer_of r o)
  pub decided : (actor : ℕ) → actor < ops_of r.network → still_dropped net w order actor ≡ decided_by r (actor_at r.network actor)
  pub fed : (actor : ℕ) → actor < ops_of r.network → fed_in_all net w order actor ≡ count_fed r (actor_at r.network actor)
  pub late : (b : ℕ) → b < length r.network.boxes → lost_in_all net w order b ≡ late_of r.network r.sources b
  pub work : sum_by (fed_in_all net w order) (numbers_to (ops_of r.network)) ≡ work_of r
  pub turns : sum_by (λ actor. length (inputs net w order actor)) (numbers_to (ops_of r.network)) ≤ turns_of r

-- the order has each operator
abbrev pub HasAll : Replay → Net → List ℕ → Type 0
HasAll r net order = (actor : ℕ) → actor < ops_of r.network → is_known_actor net order actor ≡ true

-- so it is wherever a replay was read
abbrev pub StartsAsReplayed : Type 0
StartsAsReplayed = (r : Replay) (net : Net) (w : Holding) (order : List ℕ) → IsReadReplay r → IsNew r net w → IsLaidOut net order → HasAll r net order → StartsAs r net w order
