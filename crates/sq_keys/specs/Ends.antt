-- How a call ends.
use Rattle.std.specs.Prelude.{Option, Some, None}
use Rattle.sq_teller.specs.declared.Ending.{Ending}
use Rattle.sq_teller.specs.Ends.{EndsAsked, EndsUnasked, Surroundings}
use Rattle.sq_keys.specs.declared.KeysAsked.{KeysAsked}
use Rattle.sq_keys.specs.Answers.{reply_of}

abbrev pub KeysEnds : Option KeysAsked → Surroundings → Ending → Type 0
KeysEnds None w result = EndsUnasked w result
KeysEnds (Some a) w result = EndsAsked a.net (reply_of a) w result
