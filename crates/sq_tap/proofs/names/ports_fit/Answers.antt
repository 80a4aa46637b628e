use Rattle.std.proofs.Common.{ap, arith, length, List}
use Rattle.std.proofs.lemmas.Bool.{lt-ltb, ltb-true}
use Rattle.sq_expr.specs.Trees.{Checked}
use Rattle.sq_tap.proofs.Naming.{filter_ports}
use Rattle.sq_tap.proofs.names.ports_fit.Goals as goal

pub returns-in-Filter : goal.returns-in-Filter
returns-in-Filter c =
    let same = ap (λ (ps : List Checked). length ps) c.as_slice.ensures in
    let many = filter_ports c.args.b.now.name c.args.b.now.body _ c.in-Filter.is in (
      λ fits. let less = ltb-true (length c.as_slice.result.now) c.args.room fits in omega (arith, same, many, less),
      λ few. lt-ltb (length c.as_slice.result.now) c.args.room (omega (arith, same, many, few)),
    )
