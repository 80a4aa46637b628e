-- A history of events, whose lines are written one after another, and the end lines behind them.
use Rattle.std.specs.Prelude.{ℕ, List, length, map}
use Rattle.std.specs.List.{flat_map}
use Rattle.sq_words.specs.Lists.{numbers_to}
use Rattle.sq_net.specs.declared.Network.{Network}
use Rattle.sq_oper.specs.declared.outs.Event.{Event}
use Rattle.sq_lines.specs.RunLines.{end_lines_from, event_line, lines_text}
use Rattle.sq_points.specs.Points.{drops_in}
use Rattle.sq_flow.specs.Events.{IsEventIn}
use Rattle.sq_core.specs.declared.engine.Engine.{Engine}
use Rattle.sq_core.specs.Runs.{fed_at, late_at_seat}

-- a tuple at an output that is there, a decision of a drop that is there, or a plan
abbrev pub IsEventAt : Network → Event → Type 0
IsEventAt n e = IsEventIn (length n.outputs) (drops_in n) e

-- the text of a history
abbrev pub history_text : Network → List Event → List ℕ
history_text n history = flat_map (event_line n) history

-- the end lines from a box on, by what the boxes of an engine were fed
abbrev pub ends_text : ℕ → Engine → List ℕ
ends_text first e =
    lines_text (end_lines_from e.network first (map (fed_at e) (numbers_to (length e.network.boxes))) (map (late_at_seat e) (numbers_to (length e.network.boxes))))
