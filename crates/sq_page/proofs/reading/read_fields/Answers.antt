use Rattle.std.proofs.Common.{arith}
use Rattle.sq_page.specs.Reading.{take_value}
use Rattle.sq_page.proofs.FieldLemmas.{many_counts}
use Rattle.sq_page.proofs.reading.read_fields.Goals as goal

pub returns-clause-some : goal.returns-clause-some
returns-clause-some c =
    omega (arith, many_counts take_value c.in-Some.many c.in-Some.rest.now (c.in_ok-values.values.items, c.in_ok-values.after.now) c.in_ok-values.ensures, c.if-many-lt1.false)
