-- Below the greatest rate a source's rate is a million times its count.
use Rattle.std.proofs.Common.{◌≡◌, ℕ, zero, suc, ◌+◌, ◌*◌, ◌≤◌, min, List, length, Some, ap, ◌∙◌, arith}
use Rattle.std.specs.Prelude.{slice_index}
use Rattle.sq_graph.specs.declared.Wiring.{Wiring}
use Rattle.sq_graph.specs.declared.Producer.TheVariants.{Source}
use Rattle.sq_graph.specs.Wires.{producer_of}
use Rattle.sq_plan.specs.declared.Toll.{Toll}
use Rattle.sq_plan.specs.Rates.{produced_rate, rate_within, rate_of, most}

module _ (w : Wiring) (tolls : List Toll) (counts : List ℕ) (stream source : ℕ) (is : producer_of w stream ≡ Some (Source source)) (few : slice_index counts source ≤ 281474976) where
  low : (count : ℕ) → count ≤ 281474976 → min most (1000000 * count) ≡ 1000000 * count
  low count h = omega (arith, h)

  within : (n : ℕ) → 1 ≤ n → rate_within w tolls counts n stream ≡ 1000000 * slice_index counts source
  within zero h = absurd (omega (arith, h))
  within (suc n) h = ap (produced_rate w tolls counts (rate_within w tolls counts n)) is ∙ low (slice_index counts source) few

  pub source_is_counted : rate_of w tolls counts stream ≡ 1000000 * slice_index counts source
  source_is_counted = within (length w.boxes + 1) (omega arith)
