-- Lines as they are taken in.
use Rattle.std.specs.Prelude.{◌≡◌, ⊤, ℕ, ◌+◌, ◌^◌, ◌<◌, ◌≤◌, List, [], ◌∷◌, ◌++◌, length, Some}
use Rattle.sq_value.specs.declared.Tuple.{Tuple}
use Rattle.sq_csv.specs.Cuts.{Lacks}
use Rattle.sq_intake.specs.declared.intake.IntakeErr.{IntakeErr}
use Rattle.sq_intake.specs.declared.intake.IntakeErr.TheVariants as error
use Rattle.sq_lines.specs.Classes.{last_piece}
use Rattle.sq_replay.specs.FileLines.{pieces_of}
use Rattle.sq_intake.specs.Incoming.{Halts, Incoming, MovesBy, Told, told, told_behind}

-- a text that is empty or ends in a line feed
abbrev pub AreWhole : List ℕ → Type 0
AreWhole [] = ⊤
AreWhole (b ∷ []) = b ≡ 10
AreWhole (b ∷ c ∷ bs) = AreWhole (c ∷ bs)

-- what is kept of a stream: whole lines, of which those before a place have passed, and behind them bytes without a line feed
pub record KeepsLines (lines : List ℕ) (at : ℕ) (kept : List ℕ) : Type 0 where
  pub whole : AreWhole lines
  pub within : at ≤ length lines
  pub lacks : Lacks 10 kept

-- why lines aren't read on: one is bad, or as many have passed as are counted; want of memory says nothing
abbrev pub IsHaltedBy : IntakeErr → Incoming → List Tuple → List Tuple → Type 0
IsHaltedBy (error.Bad line why) before known now = Halts before [] known now line why
IsHaltedBy error.TooLong before known now = ⊥
IsHaltedBy error.TooMany before known now = (after : Incoming) × MovesBy before after [] known now × (2 ^ 64 ≤ after.passed + 1)
IsHaltedBy error.Memory before known now = ⊤

-- the bytes of a line got too many
abbrev pub Overfills : IntakeErr → List ℕ → List ℕ → List ℕ → Type 0
Overfills (error.Bad line why) before after rest = ⊥
Overfills error.TooLong before after rest = (after ≡ before ++ rest) × (67108864 < length after)
Overfills error.TooMany before after rest = ⊥
Overfills error.Memory before after rest = after ≡ before

-- a piece came, but the line behind the whole ones got too long
abbrev pub IsOverfull : IntakeErr → List ℕ → List ℕ → List ℕ → Type 0
IsOverfull (error.Bad line why) before after piece = ⊥
IsOverfull error.TooLong before after piece = (after ≡ before ++ piece) × (67108864 < length (last_piece (pieces_of after)))
IsOverfull error.TooMany before after piece = ⊥
IsOverfull error.Memory before after piece = ⊤

abbrev pub IsOverlong : IntakeErr → Incoming → Incoming → List ℕ → Type 0
IsOverlong (error.Bad line why) before after piece = ⊥
IsOverlong error.TooLong before after piece = (after ≡ record before { text = before.text ++ piece }) × (67108864 < length (last_piece (pieces_of after.text)))
IsOverlong error.TooMany before after piece = ⊥
IsOverlong error.Memory before after piece = ⊤

-- these are the tuples up to the first bad line, which is told, or where a line is too long or lines are too many the first of them;
-- want of memory says nothing
abbrev pub IsToldUpTo : IntakeErr → Told → List Tuple → Type 0
IsToldUpTo (error.Bad line why) text now = text ≡ told now (Some (line, why))
IsToldUpTo error.TooLong text now = (later : Told) × (text ≡ told_behind now later)
IsToldUpTo error.TooMany text now = (later : Told) × (text ≡ told_behind now later)
IsToldUpTo error.Memory text now = ⊤
