use Rattle.sq_due.proofs.writing.write_ends.Goals as goal

pub returns-in-Ok-clause-err : goal.returns-in-Ok-clause-err
returns-in-Ok-clause-err g c = rw (c.in-Ok.ensures.ok, c.new-text.ensures.items) at c.send.ensures.err
