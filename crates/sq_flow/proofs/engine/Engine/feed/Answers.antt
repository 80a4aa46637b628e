use Rattle.std.proofs.Common.{ap, sym, ◌∙◌}
use Rattle.sq_flow.specs.Tails.{with_tails}
use Rattle.sq_flow.proofs.KnowingLemmas.{fed-tails, fed-keeps}
use Rattle.sq_flow.proofs.EngineLemmas.{engine-fed}
use Rattle.sq_flow.proofs.engine.Engine.feed.Goals as goal

pub look_at-requires-clause-looks : goal.look_at-requires-clause-looks
look_at-requires-clause-looks g c =
    record {
      flow = fed-keeps c.args.self.now.flow c.args.source c.args.stream c.args.ahead c.requires.bare _ c.requires.may c.requires.open_still;
      room = record { actors = c.requires.engine.room.actors; waits = c.requires.engine.room.waits };
    }

pub returns : goal.returns
returns g c =
    let a = c.args.self.now in
    record {
      engine = engine-fed _ a c.look_at.new.self c.requires.engine c.requires.none_ready _ _
          (fed-keeps a.flow c.args.source c.args.stream c.args.ahead c.requires.bare _ c.requires.may c.requires.open_still) c.look_at.ensures;
      tails = λ tails. fed-tails a.flow c.args.source c.args.stream c.args.ahead c.requires.bare tails ∙ ap (with_tails tails) (sym c.look_at.ensures.flow);
      ahead = ap (λ f. f.ahead.items) c.look_at.ensures.flow;
    }
