-- What of that which an actor gives is shown.
use Rattle.std.specs.Prelude.{◌≡◌, ℕ, ◌+◌, ◌-◌, ◌<◌, List, ◌++◌}
use Rattle.std.specs.List.{AllByRecursion}
use Rattle.sq_words.specs.Lists.{IsPrefixOf}
use Rattle.sq_item.specs.declared.Item.{Item}
use Rattle.sq_oper.specs.declared.outs.Decision.{Decision}
use Rattle.sq_oper.specs.declared.outs.Event.{Event}
use Rattle.sq_flow.specs.declared.wires.Wires.{Wires}
use Rattle.sq_flow.specs.Wiring.{pushed_by, IsOwn}
use Rattle.sq_flow.specs.Events.{lines_of, of_drop, drops_of, ShowsIn}
use Rattle.sq_flow.specs.Plans.{plans_of}
use Rattle.sq_oper.specs.Streams.{tuples_in}

-- where the actor gave these items and dropped these batches the decisions were shown, and of an output the tuples at its port 0
pub record IsShown (wires : Wires) (seat : ℕ) (items : List (ℕ × Item)) (drops : List Decision) (events events' : List Event) : Type 0 where
  pub lines : (o : ℕ) → lines_of o events' ≡ lines_of o events ++ tuples_in (pushed_by seat items (wires.shown + o) 0)
  pub decided : (w : ℕ) → drops_of w events' ≡ drops_of w events ++ of_drop w drops
  pub plans : plans_of events' ≡ plans_of events
  pub below : (outputs : ℕ) → seat < wires.shown + outputs → AllByRecursion (IsOwn wires seat) drops
      → ShowsIn outputs (wires.shown - wires.sheds) events events'
  pub stay : IsPrefixOf events events'
