use Rattle.std.proofs.Common.{refl}
use Rattle.std.proofs.lemmas.Simd.{length-chunk, zip2_of_maps, zip2_splat}
use lib.Lanes.{chunk}
use Rattle.sq_csv.specs.Cuts.{stays_quoted}
use Rattle.sq_csv.proofs.LaneLemmas.{run_of}
use Rattle.sq_csv.proofs.lanes.quoted_run.Goals as goal

pub returns : goal.returns
returns c =
    let text = c.args.text.now in
    let bytes = chunk c.args.at 16 text in
    let long = length-chunk c.args.at 16 text c.requires in
    let stops = zip2_of_maps _ _ _ bytes (zip2_splat _ bytes 16 34 long) (zip2_splat _ bytes 16 10 long) in
    run_of stays_quoted text c.args.at _ _ _ c.requires c.type_inv.text c.first_set.ensures stops refl
