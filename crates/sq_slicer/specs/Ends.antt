-- How a call ends.
use Rattle.std.specs.Prelude.{Option, Some, None}
use Rattle.sq_teller.specs.declared.Ending.{Ending}
use Rattle.sq_teller.specs.Ends.{EndsAsked, EndsUnasked, Surroundings}
use Rattle.sq_slicer.specs.declared.SlicesAsked.{SlicesAsked}
use Rattle.sq_slicer.specs.Answers.{slices_reply}

abbrev pub SlicesEnd : Option SlicesAsked → Surroundings → Ending → Type 0
SlicesEnd None w result = EndsUnasked w result
SlicesEnd (Some a) w result = EndsAsked a.net (slices_reply a) w result
