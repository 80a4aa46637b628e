use Rattle.std.proofs.Common.{map}
use Rattle.sq_wanted.proofs.PlaceLemmas.{more_is}
use Rattle.sq_wanted.proofs.wanted.has_more.Goals as goal

pub returns : goal.returns
returns c =
    λ record_at before hold here.
    more_is record_at (map (λ t. t.items) c.args.streams.now) c.args.output.now c.args.place c.next_place.result before c.stream_in-tuples.result.now c.stream_in-tuples.ensures here
    (c.next_place.ensures record_at hold)
