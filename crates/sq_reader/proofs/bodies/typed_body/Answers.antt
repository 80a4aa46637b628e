use Rattle.sq_reader.proofs.bodies.typed_body.Goals as goal

pub returns-in-Map-clause-err : goal.returns-in-Map-clause-err
returns-in-Map-clause-err c =
    rw c.in-Map.is (rw (c.as_slice-in-Map.ensures, c.first_of-in-Map.ensures) at c.map_of.ensures.err)
