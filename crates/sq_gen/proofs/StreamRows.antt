-- The definitions on rows that were worked by another program.
use Rattle.std.specs.Fmt.{digits}
use Rattle.std.proofs.Common.{◌≡◌, ◌++◌, refl}
use Rattle.std.specs.Prelude.{codes}
use Rattle.rand_pcg.specs.Lcg.{state_after}
use Rattle.sq_gen.specs.Files.{stream_text}

one : stream_text 1 1 ≡ codes "0,0,S16,1054\n"
unfolding digits state_after stream_text
one = refl

three : stream_text 7 3 ≡ codes "0,0,S07,1012\n" ++ codes "1,0,S16,1069\n" ++ codes "2,0,S12,1028\n"
unfolding digits state_after stream_text
three = refl
