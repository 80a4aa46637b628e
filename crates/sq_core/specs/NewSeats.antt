-- The seats of a network: a new actor for each box, drop and output.
use Rattle.std.specs.Prelude.{◌≡◌, ℕ, true, List, length, Some, slice_get}
use Rattle.sq_oper.specs.declared.tally.Tally.{Tally}
use Rattle.sq_oper.specs.declared.tally.Position.TheVariants.{Start}
use Rattle.sq_net.specs.declared.Network.{Network}
use Rattle.sq_actor.specs.declared.actor.Actor as operator
use Rattle.sq_flow.specs.declared.seats.Seat.{Seat}
use Rattle.sq_flow.specs.Seats.{unfed}
use Rattle.sq_start.specs.Numbers.{actor_at, ops_of}
use Rattle.sq_start.specs.NewOperators.{IsStarted}

-- nothing was fed
abbrev pub none_fed : Tally
none_fed = record { place = Start; taken = 0; running = true }

-- this actor is in its seat, newly made, and nothing was fed to it
pub record IsSeated (n : Network) (seed actor : ℕ) (seat : Seat operator.Actor) : Type 0 where
  pub started : IsStarted n seed (actor_at n actor) seat.op
  pub none : seat.tally ≡ none_fed
  pub fed_none : seat.fed ≡ unfed

-- so is each, as far as there are seats
abbrev pub AllSeated : Network → ℕ → List (Seat operator.Actor) → Type 0
AllSeated n seed seats = (actor : ℕ) (seat : Seat operator.Actor) → slice_get seats actor ≡ Some seat → IsSeated n seed actor seat

-- a seat for each operator of a network
pub record AreNewSeats (n : Network) (seed : ℕ) (seats : List (Seat operator.Actor)) : Type 0 where
  pub count : length seats ≡ ops_of n
  pub seated : AllSeated n seed seats
