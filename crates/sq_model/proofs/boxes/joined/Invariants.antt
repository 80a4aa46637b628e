use Rattle.std.proofs.Common.{◌≡◌, ◌++◌, map, drop}
use Rattle.std.specs.List.{flat_map}
use Rattle.sq_model.proofs.boxes.joined.Given as goal
use Rattle.sq_words.specs.Lists.{nth}

abbrev pub invariant-loop-stream : goal.invariant-loop-stream
invariant-loop-stream l =
    flat_map (nth (map (λ v. v.items) l.streams)) l.inputs ≡ l.all.items ++ flat_map (nth (map (λ v. v.items) l.streams)) (drop l.stream-index l.inputs)
