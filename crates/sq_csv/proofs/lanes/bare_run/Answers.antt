use Rattle.std.proofs.Common.{refl}
use Rattle.std.proofs.lemmas.Simd.{length-chunk, zip2_of_maps, zip2_splat}
use lib.Lanes.{chunk}
use Rattle.sq_csv.specs.Cuts.{joins}
use Rattle.sq_csv.proofs.LaneLemmas.{run_of}
use Rattle.sq_csv.proofs.lanes.bare_run.Goals as goal

pub returns : goal.returns
returns c =
    let text = c.args.text.now in
    let bytes = chunk c.args.at 16 text in
    let long = length-chunk c.args.at 16 text c.requires in
    let ends = zip2_of_maps _ _ _ bytes (zip2_splat _ bytes 16 13 long) (zip2_splat _ bytes 16 10 long) in
    run_of joins text c.args.at _ _ _ c.requires c.type_inv.text c.first_set.ensures (zip2_of_maps _ _ _ bytes (zip2_splat _ bytes 16 44 long) ends) refl
