use Rattle.sq_lines.proofs.quoting.Quoter.append.Goals as goal

pub write_alone-requires-clause-ready : goal.write_alone-requires-clause-ready
write_alone-requires-clause-ready c = rw c.deref_mut.ensures.value c.in_ok-writer.ensures
