use Rattle.std.proofs.Common.{cond, leb, refl}
use Rattle.std.proofs.lemmas.Simd.{length-chunk, zip2_splat_left}
use lib.Lanes.{chunk}
use Rattle.sq_csv.specs.Cuts.{below_128}
use Rattle.sq_csv.proofs.LaneLemmas.{run_of}
use Rattle.sq_csv.proofs.lanes.ascii_run.Goals as goal

pub returns : goal.returns
returns c =
    let text = c.args.text.now in
    let bytes = chunk c.args.at 16 text in
    let long = length-chunk c.args.at 16 text c.requires in
    run_of below_128 text c.args.at _ _ _ c.requires c.type_inv.text c.first_set.ensures (zip2_splat_left (λ a b. cond (leb a b) 255 0) 128 16 bytes long) refl
