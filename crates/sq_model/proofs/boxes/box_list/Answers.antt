use Rattle.std.proofs.Common.{map}
use Rattle.sq_model.proofs.StreamLemmas.{input_is_stream}
use Rattle.sq_model.proofs.boxes.box_list.Goals as goal

pub aggregate_list-requires-clause-stream : goal.aggregate_list-requires-clause-stream
aggregate_list-requires-clause-stream c =
    rw c.taken-first.ensures (input_is_stream (map (λ v. v.items) c.args.streams.now) c.args.inputs.now 0 c.requires.streams)

pub resample_list-requires-clause-left : goal.resample_list-requires-clause-left
resample_list-requires-clause-left c =
    rw c.taken-first.ensures (input_is_stream (map (λ v. v.items) c.args.streams.now) c.args.inputs.now 0 c.requires.streams)

pub resample_list-requires-clause-right : goal.resample_list-requires-clause-right
resample_list-requires-clause-right c =
    rw c.taken-right.ensures (input_is_stream (map (λ v. v.items) c.args.streams.now) c.args.inputs.now 1 c.requires.streams)
