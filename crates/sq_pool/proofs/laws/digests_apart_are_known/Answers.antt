use Rattle.std.proofs.Common.{ap}
use Rattle.std.specs.Prelude.{is_some}
use Rattle.sq_pool.proofs.TrustLemmas.{apart-tells}
use Rattle.sq_pool.proofs.laws.digests_apart_are_known.Goals as goal

pub returns : goal.returns
returns c log all apart among = ap (λ pages. is_some pages) (apart-tells log all apart among)
