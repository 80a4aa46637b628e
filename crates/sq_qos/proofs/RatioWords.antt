-- Fractions, quality graphs and losses: words of the proofs alone.
use Rattle.std.specs.Prelude.{Bool, ◌*◌, ◌==◌}
use Rattle.sq_qos.specs.Graphs.{Ratio}

abbrev pub ratio_eq : Ratio → Ratio → Bool
ratio_eq a b = (a.num * b.den) == (b.num * a.den)
