use Rattle.sq_due.proofs.SameNumbers.{many_listed}
use Rattle.sq_due.proofs.writing.append_ends.Goals as goal

pub end_lines_from-requires-clause-fed : goal.end_lines_from-requires-clause-fed
end_lines_from-requires-clause-fed c = many_listed _ _ _ c.in_ok-fed.ensures

pub end_lines_from-requires-clause-late : goal.end_lines_from-requires-clause-late
end_lines_from-requires-clause-late c = many_listed _ _ _ c.in_ok-late.ensures
