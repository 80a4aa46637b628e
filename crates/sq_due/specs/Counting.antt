-- What a run that counts its lines knows on its way.
use Rattle.std.specs.Prelude.{◌≡◌, ℕ, List, ◌++◌, length, map}
use Rattle.sq_words.specs.Lists.{numbers_to}
use Rattle.sq_net.specs.declared.Network.{Network}
use Rattle.sq_oper.specs.declared.outs.Event.{Event}
use Rattle.sq_flow.specs.Events.{drops_of, lines_of}
use Rattle.sq_core.specs.declared.engine.Engine.{Engine}
use Rattle.sq_core.specs.Runs.{fed_at, late_at_seat}
use Rattle.sq_due.specs.declared.counting.Counts.{Counts}
use Rattle.sq_due.specs.Summaries.{summary_text}
use Rattle.sq_points.specs.Points.{drops_in}

-- there is a count for each output and for each drop
pub record HasCounts (n : Network) (counts : Counts) : Type 0 where
  pub lines : length counts.lines.items ≡ length n.outputs
  pub drops : length counts.drops.items ≡ drops_in n

-- the counts are those of a history
pub record AreCountsOf (history : List Event) (counts : Counts) : Type 0 where
  pub lines : counts.lines.items ≡ map (λ o. length (lines_of o history)) (numbers_to (length counts.lines.items))
  pub drops : counts.drops.items ≡ map (λ w. length (drops_of w history)) (numbers_to (length counts.drops.items))

-- events more were counted, as many counts as before
pub record Counted (events : List Event) (before now : Counts) : Type 0 where
  pub lines : length now.lines.items ≡ length before.lines.items
  pub drops : length now.drops.items ≡ length before.drops.items
  pub more : (history : List Event) → AreCountsOf history before → AreCountsOf (history ++ events) now

-- the summary by these counts, and by what the boxes of an engine were fed
abbrev pub engine_summary : ℕ → ℕ → Engine → Counts → List ℕ
engine_summary number rows e counts =
    summary_text number rows e.network counts.lines.items counts.drops.items
    (map (fed_at e) (numbers_to (length e.network.boxes)))
    (map (late_at_seat e) (numbers_to (length e.network.boxes)))
