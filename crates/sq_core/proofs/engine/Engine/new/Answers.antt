use Rattle.std.proofs.Common.{sym, subst}
use Rattle.std.specs.Prelude.{IfOk}
use Rattle.sq_core.specs.Runs.{AreReplayParts, IsNewEngine}
use Rattle.sq_core.proofs.engine.Engine.new.Goals as goal

pub replaying-requires : goal.replaying-requires
replaying-requires c = subst (λ xs. AreReplayParts c.args.network xs c.args.frames) (sym c.in_ok-streams.ensures) c.requires

pub returns : goal.returns
returns c =
    subst (λ xs. IfOk c.replaying.result (IsNewEngine (record { network = c.args.network; sources = xs; entries = c.args.capacities; seed = c.args.seed }) c.args.frames))
    c.in_ok-streams.ensures c.replaying.ensures
