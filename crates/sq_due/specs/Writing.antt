-- What is written of a run, piece by piece, and why writing ends early.
use Rattle.std.specs.Prelude.{◌≡◌, ◌≢◌, ◌⊎◌, ℕ, List, ◌++◌, Option}
use Rattle.sq_outside.specs.Faults.{Rose}
use Rattle.sq_outside.specs.Sinks.{AppendsPrefix, appended}
use Rattle.sq_status.specs.declared.Status.{Status}
use Rattle.sq_status.specs.declared.Status.TheVariants as status
use Rattle.sq_due.specs.States.{SinkState}

-- a part of what waited, and of what more came, was written, and the rest waits
pub record Moves (before : Option (List ℕ)) (waited : List ℕ) (now : Option (List ℕ)) (waits more : List ℕ) : Type 0 where
  pub part : List ℕ
  pub now_is : now ≡ appended before part
  pub all : part ++ waits ≡ waited ++ more

-- memory ran out, or the sink failed
abbrev pub IsLost : ℕ → ℕ → Status → Type 0
IsLost faults_before faults_now result = (result ≡ status.Memory) ⊎ ((result ≡ status.SinkFault) × Rose faults_before faults_now)

-- what was to go out is lost on its way, since memory ran out or the sink failed: a beginning of it went out
pub record LosesRest (Begun : Type 0) (faults_before faults_now : ℕ) (result : Status) : Type 0 where
  pub begun : Begun
  pub lost : IsLost faults_before faults_now result

-- a beginning of a text was written, before memory ran out or the sink failed
abbrev pub WritesPart : SinkState → SinkState → List ℕ → Status → Type 0
WritesPart was is text = LosesRest (AppendsPrefix was.written is.written text) was.faults is.faults

-- the same of a text that is written at once: nothing of it, unless the sink failed
pub record LosesWhole (was is : SinkState) (text : List ℕ) (result : Status) : Type 0 where
  pub part : WritesPart was is text result
  pub alone : result ≢ status.SinkFault → is.written ≡ was.written
