use Rattle.sq_start.proofs.ArcMarks.{marks-taken, may-come}
use Rattle.sq_start.proofs.PortFits.{tuples-taken}
use Rattle.sq_start.proofs.arcs_may_come.Goals as goal

pub returns-clause-fed : goal.returns-clause-fed
returns-clause-fed c = let law = c.early_drop_is_sound.ensures in may-come law.widen law.boxes law.drops law.outputs law.points

pub returns-clause-marks : goal.returns-clause-marks
returns-clause-marks c = marks-taken c.early_drop_is_sound.ensures.ready

pub returns-clause-tuples : goal.returns-clause-tuples
returns-clause-tuples c = tuples-taken
