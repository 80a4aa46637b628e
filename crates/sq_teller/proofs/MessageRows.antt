-- Worked rows, by evaluation.
use Rattle.std.proofs.Common.{◌≡◌, refl}
use Rattle.std.specs.Prelude.{codes}
use Rattle.std.specs.Fmt.{digits}
use Rattle.sq_net.specs.declared.NetErr.TheVariants as net
use Rattle.sq_teller.specs.declared.KeyWhy.TheVariants as why
use Rattle.sq_teller.specs.declared.Program.TheVariants as program
use Rattle.sq_teller.specs.declared.Ending.TheVariants as status
use Rattle.sq_teller.specs.Messages.{ending_message}

message_key : ending_message program.Keys (status.BadKey 2 why.Twice) ≡ codes "aurora_keys: key 2: Twice\n"
unfolding digits
message_key = refl

message_network : ending_message program.Slices (status.BadNetwork net.Version) ≡ codes "aurora_slices: network: Version\n"
message_network = refl

message_usage : ending_message program.Keys status.Usage ≡ codes "aurora_keys: usage: aurora_keys [--on-time] NET SOURCE=FIELD..\n"
message_usage = refl
