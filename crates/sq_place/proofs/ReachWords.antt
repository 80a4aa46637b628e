-- What the definitions say of an arc (`seen_of`), and the boxes worked out in an order, each from a table of those before it (`fill`).
use Rattle.std.specs.Prelude.{ℕ, ◌+◌, ◌-◌, ◌||◌, if◌then◌else◌, List, [], ◌∷◌, map, length, Option, Some, None, set, replicate}
use Rattle.sq_graph.specs.declared.Wiring.{Wiring}
use Rattle.sq_graph.specs.Wires.{input_arcs_of}
use Rattle.sq_place.specs.declared.DropAt.{DropAt}
use Rattle.sq_seen.specs.declared.seen.Seen.{Seen}
use Rattle.sq_seen.specs.Numbers.{lcm_of_all}
use Rattle.sq_place.specs.Places.{Windows, window_at, own_arcs, box_before, dist, last_within, bare_within}
use Rattle.sq_place.specs.Points.{least, advances_of, margins_of}
use Rattle.sq_words.specs.Lists.{contains_number}
use Rattle.sq_seen.specs.Reaches.{capped, nothing, itself, join_all, past, in_table}

module _ (w : Wiring) (ws : Windows) (place : DropAt) where
  abbrev pub seen_of : ℕ → Seen
  seen_of a = record {
    dist = dist w ws place a;
    bare = bare_within w ws place (length w.boxes) a;
    common = capped (lcm_of_all (advances_of ws (last_within w ws place (length w.boxes) a)));
    least = least (margins_of ws (last_within w ws place (length w.boxes) a));
  }

  -- behind a box that is there
  abbrev pub behind : (ℕ → Seen) → Option ℕ → Seen
  behind seen None = nothing
  behind seen (Some b) = past (window_at ws b) (join_all (map seen (input_arcs_of w b)))

  abbrev pub seen_by : List Seen → ℕ → Seen
  seen_by table a = if contains_number (own_arcs w place) a then itself else in_table table (box_before w a)

  abbrev pub behind_by : List Seen → ℕ → Seen
  behind_by table b = past (window_at ws b) (join_all (map (seen_by table) (input_arcs_of w b)))

  abbrev pub fill : List ℕ → List Seen → List Seen
  fill [] table = table
  fill (b ∷ bs) table = fill bs (set table b (behind_by table b))

  abbrev pub empty_table : List Seen
  empty_table = replicate (length w.boxes) nothing
