use Rattle.sq_replay.proofs.CutLemmas.{text_is_read}
use Rattle.sq_replay.proofs.testing.is_text.Goals as goal

pub returns-in-Some : goal.returns-in-Some
returns-in-Some c _ = text_is_read c.args.field.now c.if-field-gt-TEXT_LENGTH.false c.in-Some.ensures.1
