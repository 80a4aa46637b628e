use Rattle.sq_lines.proofs.ShownLemmas.{err_none}
use Rattle.sq_lines.proofs.shown.append_event_line.Goals as goal

pub returns-in-Line-clause-err : goal.returns-in-Line-clause-err
returns-in-Line-clause-err c = err_none c.append_output_line.result _ _ _ c.append_output_line.ensures.err

pub returns-in-Plan-clause-err : goal.returns-in-Plan-clause-err
returns-in-Plan-clause-err c = err_none c.append_plan_line.result _ _ _ c.append_plan_line.ensures.err
