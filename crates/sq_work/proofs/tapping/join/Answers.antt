use Rattle.std.proofs.Common.{◌∙◌, sym}
use Rattle.sq_work.proofs.JoinLemmas.{joined_tapped, no_stream, refused_tapped}
use Rattle.sq_work.proofs.tapping.join.Goals as goal

pub returns-in_default-clause-refused : goal.returns-in_default-clause-refused
returns-in_default-clause-refused c =
    no_stream c.args.network c.args.stream.now c.args.from c.args.query (sym c.in_default.is ∙ c.stream_named.ensures.sound c.requires.sound)

pub returns-in-Ok-clause-tapped : goal.returns-in-Ok-clause-tapped
returns-in-Ok-clause-tapped c =
    joined_tapped c.args.network c.args.stream.now c.args.from c.args.query c.in-Some.number c.in-Ok.grafted.net c.in-Ok.grafted.first (sym c.in-Some.is ∙ c.stream_named.ensures.sound c.requires.sound) c.in-Ok.ensures.net
    c.in-Ok.ensures.first c.in-Ok.ensures.kept

pub returns-in-Err-clause-refused : goal.returns-in-Err-clause-refused
returns-in-Err-clause-refused c =
    refused_tapped c.args.network c.args.stream.now c.args.from c.args.query c.in-Some.number c.in-Err.e c.tap_refused.result (sym c.in-Some.is ∙ c.stream_named.ensures.sound c.requires.sound)
    c.in-Err.ensures.refused c.tap_refused.ensures
