-- What is left of a stream.
use Rattle.std.specs.Prelude.{List, [], ◌∷◌, ◌++◌, Option, None, Some}
use Rattle.sq_value.specs.declared.Tuple.{Tuple}
use Rattle.sq_replay.specs.declared.unread.Unread.{Unread}
use Rattle.sq_replay.specs.RecordedTuples.{tuples_recorded}

-- the tuples that are still to be read
abbrev pub unread_tuples : Unread → List Tuple
unread_tuples u = tuples_recorded u.kinds.items u.latest u.text.items u.at

-- the next tuple and those behind it, and none where there is no next one
abbrev pub with_next : Option Tuple → List Tuple → List Tuple
with_next None behind = []
with_next (Some x) behind = x ∷ behind

-- all that are to come: the next tuple, then those of a list, then those of a text
abbrev pub all_to_come : Option Tuple → List Tuple → Unread → List Tuple
all_to_come next listed u = with_next next (listed ++ unread_tuples u)
