-- How a call ends with what is told of it.
use Rattle.std.proofs.Common.{Option, None, Some}
use Rattle.sq_teller.specs.declared.Ending.{Ending}
use Rattle.sq_teller.specs.Ends.{IsEndingTold, Surroundings}
use Rattle.sq_teller.proofs.EndLemmas.{asked_told, unasked_told}
use Rattle.sq_keys.specs.declared.KeysAsked.{KeysAsked}
use Rattle.sq_keys.specs.Answers.{reply_of}
use Rattle.sq_keys.specs.Ends.{KeysEnds}

pub ends_told : (asked : Option KeysAsked) (w : Surroundings) (result told : Ending) → IsEndingTold result told → KeysEnds asked w result → KeysEnds asked w told
ends_told None w result told is ends = unasked_told w result told is ends
ends_told (Some a) w result told is ends = asked_told a.net (reply_of a) w result told is ends
