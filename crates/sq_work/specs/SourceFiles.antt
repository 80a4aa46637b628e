-- What the files of a network's sources say, once they are accepted.
use Rattle.std.specs.Prelude.{⊤, List, [], ◌∷◌}
use Rattle.sq_value.specs.declared.Tuple.{Tuple}
use Rattle.sq_net.specs.declared.Source.{Source}
use Rattle.sq_replay.specs.Laws.{ReadsStreams}

-- the tuples of each source are a stream that fits its schema
abbrev pub AreRecorded : List Source → List (List Tuple) → Type 0
AreRecorded [] [] = ⊤
AreRecorded (s ∷ sources) (xs ∷ streams) = ReadsStreams s.schema xs × AreRecorded sources streams
AreRecorded sources streams = ⊥
