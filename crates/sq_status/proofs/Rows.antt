-- Worked rows, by evaluation.
use Rattle.sq_value.specs.declared.Tuple.{Tuple}
use Rattle.std.specs.Prelude.{codes}
use Rattle.std.specs.Fmt.{digits}
use Rattle.sq_status.specs.Messages.{message_of}
use Rattle.std.proofs.Common.{pos, refl, ℕ, [], ◌≡◌, ◌∷◌}
use Rattle.sq_value.specs.declared.Value.TheVariants as value
use Rattle.sq_expr.specs.declared.What.TheVariants as what
use Rattle.sq_net.specs.declared.NetErr.TheVariants as net
use Rattle.sq_net.specs.declared.Part.TheVariants as part
use Rattle.sq_replay.specs.declared.why.Why.TheVariants as why
use Rattle.sq_status.specs.declared.Status.TheVariants as status

abbrev pub at : ℕ → ℕ → Tuple
at t v = record { time = t; fields = value.Int (pos v) ∷ [] }

cycle_is : message_of [] (status.BadNetwork (net.Cycle (record { part = part.Box; number = 0; item = 0 }))) ≡ codes "aurora: network: Cycle box 0 0\n"
unfolding digits
cycle_is = refl

expression_is : message_of [] (status.BadNetwork (net.Expr (record { part = part.Box; number = 0; item = 1 }) (record { at = 4; what = what.Expected })))
    ≡ codes "aurora: network: Expr box 0 1 4 Expected\n"
unfolding digits
expression_is = refl

version_is : message_of [] (status.BadNetwork net.Version) ≡ codes "aurora: network: Version\n"
version_is = refl

message_is : message_of (codes "s") (status.BadStream 0 3 why.Falls) ≡ codes "aurora: stream s: line 3: Falls\n"
unfolding digits
message_is = refl

capacities_message : message_of [] (status.BadCapacities 2) ≡ codes "aurora: capacities: line 2\n"
unfolding digits
capacities_message = refl

picks_message : message_of [] (status.BadPicks 3) ≡ codes "aurora: picks: line 3\n"
unfolding digits
picks_message = refl
