-- Where slices may end, and how far it is to the next such tick.
--     may_end g t          a slice may end at a tick
--     gap g t              how many ticks it is from a tick to the first cut from there on
--     pad g h              the most ticks that it is from a cut of g to the first cut of h from there on
--     ahead_from g more r  how far ahead of a cut of g the sources are needed, where a stream of reach r is needed so far ahead
use Rattle.std.specs.Prelude.{ℕ, ◌+◌, ◌-◌, ◌%◌, ◌==◌, ◌<◌, ◌≤◌, Bool, if◌then◌else◌}
use Rattle.sq_slices.specs.declared.Grid.{Grid}
use Rattle.sq_slices.specs.declared.Reach.{Reach}

-- a step of at least 1, and a phase below it
pub record IsGrid (g : Grid) : Type 0 where
  pub moves : 1 ≤ g.step
  pub begins : g.phase < g.step

abbrev pub may_end : Grid → ℕ → Bool
may_end g t = t % g.step == g.phase

abbrev pub gap : Grid → ℕ → ℕ
gap g t = (g.phase + g.step - t % g.step) % g.step

-- always the same where g's step is a multiple of h's
abbrev pub pad : Grid → Grid → ℕ
pad g h = if g.step % h.step == 0 then gap h g.phase else h.step - 1

-- the cuts so many ticks later
abbrev pub moved : Grid → ℕ → Grid
moved g more = record { step = g.step; phase = (g.phase + more) % g.step }

abbrev pub ahead_from : Grid → ℕ → Reach → ℕ
ahead_from g more r = more + pad (moved g more) r.cuts + r.ahead
