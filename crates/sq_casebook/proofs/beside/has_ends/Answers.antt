use Rattle.std.proofs.Common.{length, ◌∙◌, ap}
use Rattle.std.proofs.lemmas.List.FromFn.{length-map-range_with_len}
use Rattle.sq_model.proofs.PlacedLemmas.{placed_of}
use Rattle.sq_casebook.proofs.beside.has_ends.Goals as goal

pub full_streams-requires-clause-placed : goal.full_streams-requires-clause-placed
full_streams-requires-clause-placed c = placed_of c.args.given.network c.requires.sound

pub fed-requires : goal.fed-requires
fed-requires c = placed_of c.args.given.network c.requires.sound

pub late-requires : goal.late-requires
late-requires c = placed_of c.args.given.network c.requires.sound

pub end_lines_from-requires-clause-fed : goal.end_lines_from-requires-clause-fed
end_lines_from-requires-clause-fed c = ap length c.in_ok-fed.ensures ∙ length-map-range_with_len _ 0 (length c.args.given.network.boxes)

pub end_lines_from-requires-clause-late : goal.end_lines_from-requires-clause-late
end_lines_from-requires-clause-late c = ap length c.in_ok-late.ensures ∙ length-map-range_with_len _ 0 (length c.args.given.network.boxes)
