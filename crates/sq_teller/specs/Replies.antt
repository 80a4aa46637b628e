-- What is answered by the bytes of a network file.
use Rattle.std.specs.Prelude.{◌≡◌, ◌⊎◌, ℕ, Bool, if◌then◌else◌, List}
use Rattle.sq_teller.specs.declared.Ending.{Ending}
use Rattle.sq_teller.specs.declared.Ending.TheVariants as status

-- a text, and whether an output is lost; or the status of the first rule that is broken
pub data Reply : Type 0 where
  Says : (text : List ℕ) (lost : Bool) → Reply
  Refuses : (broken : Ending) → Reply

abbrev pub lost_status : Bool → Ending
lost_status lost = if lost then status.Lost else status.Ok

-- the status of a refusal, or memory ran out
abbrev pub IsRefused : Reply → Ending → Type 0
IsRefused answer result = (answer ≡ Refuses result) ⊎ (result ≡ status.Memory)
