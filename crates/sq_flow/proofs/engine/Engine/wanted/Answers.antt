use Rattle.std.proofs.lemmas.Option.{IfSome_then}
use Rattle.sq_flow.proofs.ClearLemmas.{is-wanted}
use Rattle.sq_flow.proofs.engine.Engine.wanted.Goals as goal

pub returns-clause-some : goal.returns-clause-some
returns-clause-some g c =
    IfSome_then c.first_held.result c.first_held.ensures.some (λ source held. is-wanted c.args.self.now.flow.sources.items c.args.self.now.flow.ahead.items source held.0 held.1)
