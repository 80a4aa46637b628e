use Rattle.std.proofs.Common.{◌≡◌, ◌++◌, length, map, drop}
use Rattle.sq_model.specs.KnownStreams.{stream_at_place}
use Rattle.sq_model.proofs.answers.place_numbers.Given as goal

abbrev pub invariant-loop-p : goal.invariant-loop-p
invariant-loop-p l = map (λ p. length (stream_at_place l.known p.at)) l.known.points.items ≡ l.all.items ++ map (λ p. length (stream_at_place l.known p.at)) (drop l.p-index l.known.points.items)
