-- How a call ends with what is told of it.
use Rattle.std.proofs.Common.{Option, None, Some}
use Rattle.sq_teller.specs.declared.Ending.{Ending}
use Rattle.sq_teller.specs.Ends.{IsEndingTold, Surroundings}
use Rattle.sq_teller.proofs.EndLemmas.{asked_told, unasked_told}
use Rattle.sq_slicer.specs.declared.SlicesAsked.{SlicesAsked}
use Rattle.sq_slicer.specs.Answers.{slices_reply}
use Rattle.sq_slicer.specs.Ends.{SlicesEnd}

pub ends_told : (asked : Option SlicesAsked) (w : Surroundings) (result told : Ending) → IsEndingTold result told → SlicesEnd asked w result → SlicesEnd asked w told
ends_told None w result told is ends = unasked_told w result told is ends
ends_told (Some a) w result told is ends = asked_told a.net (slices_reply a) w result told is ends
