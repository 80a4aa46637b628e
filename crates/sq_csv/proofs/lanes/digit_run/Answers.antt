use Rattle.std.proofs.Common.{cond, leb, ◌+◌, refl}
use Rattle.std.proofs.lemmas.Simd.{length-chunk, zip2_of_maps, zip2_splat, zip2_splat_left}
use lib.Lanes.{chunk}
use Rattle.sq_value.specs.Texts.{is_digit}
use Rattle.sq_csv.proofs.LaneLemmas.{run_of}
use Rattle.sq_csv.proofs.lanes.digit_run.Goals as goal

pub returns : goal.returns
returns c =
    let text = c.args.text.now in
    let bytes = chunk c.args.at 16 text in
    let long = length-chunk c.args.at 16 text c.requires in
    let others = zip2_of_maps _ _ _ bytes (zip2_splat _ bytes 16 48 long) (zip2_splat_left (λ a b. cond (leb (a + 1) b) 255 0) 57 16 bytes long) in
    run_of is_digit text c.args.at _ _ _ c.requires c.type_inv.text c.first_set.ensures others refl
