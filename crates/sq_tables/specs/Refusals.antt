-- Refusals, and want of memory among them.
use Rattle.std.specs.Prelude.{◌≡◌, Bool, true, false, Result, Ok, Err}
use Rattle.sq_net.specs.declared.NetErr.{NetErr}
use Rattle.sq_net.specs.declared.NetErr.TheVariants as broken

abbrev pub is_memory : NetErr → Bool
is_memory broken.Memory = true
is_memory e = false

-- what a call answered is what the rules say, unless memory ran out
abbrev pub IsAnswerOf : {A : Type 0} → Result A NetErr → Result A NetErr → Type 0
IsAnswerOf (Ok x) said = said ≡ Ok x
IsAnswerOf (Err e) said = is_memory e ≡ false → said ≡ Err e
