use Rattle.std.proofs.Common.{◌≡◌, true}
use Rattle.sq_flow.specs.Sources.{all_below, is_clear_of}
use Rattle.sq_flow.proofs.clearing.is_clear.Given as goal

abbrev pub invariant-loop-source : goal.invariant-loop-source
invariant-loop-source l = all_below (is_clear_of l.sources.items l.ahead.items) l.source ≡ true
