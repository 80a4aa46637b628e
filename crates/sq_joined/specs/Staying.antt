-- Which boxes of a network stay where all that counts is one stream, and which numbers they and their streams then have.
--     keep        of each box, by number, whether it stays
use Rattle.std.specs.Prelude.{ℕ, Bool, true, false, ◌||◌, ◌==◌, List, [], ◌∷◌, map, length, take, Option, Some, None, slice_index_or}
use Rattle.std.specs.List.{filter}
use Rattle.sq_words.specs.Lists.{numbers_to}
use Rattle.sq_graph.specs.declared.Wiring.{Wiring}
use Rattle.sq_graph.specs.Wires.{producers_of, producer_of}
use Rattle.sq_graph.specs.declared.Producer.{Producer}
use Rattle.sq_graph.specs.declared.Producer.TheVariants.{Source, Port}
use Rattle.sq_graph.specs.Order.{leads_to}

-- whether a box is the one that gives a stream, or a path leads from it to that one
abbrev pub is_behind : Wiring → Option Producer → ℕ → Bool
is_behind w None at = false
is_behind w (Some (Source s)) at = false
is_behind w (Some (Port giver port)) at = (at == giver) || leads_to w (length w.boxes) at giver

-- the boxes that a stream needs
abbrev pub needed_for : Wiring → ℕ → List Bool
needed_for w stream = map (is_behind w (producer_of w stream)) (numbers_to (length w.boxes))

-- those of some things, one for each box, whose box stays
abbrev pub staying : {X : Type 0} → List Bool → List X → List X
staying [] xs = []
staying (k ∷ keep) [] = []
staying (true ∷ keep) (x ∷ xs) = x ∷ staying keep xs
staying (false ∷ keep) (x ∷ xs) = staying keep xs

abbrev pub stays : List Bool → ℕ → Bool
stays keep at = slice_index_or keep at false

-- a stream stays with its box; those of the sources all stay
abbrev pub is_kept : List Bool → Producer → Bool
is_kept keep (Source s) = true
is_kept keep (Port at port) = stays keep at

-- boxes and streams that stay keep their order: their new numbers are how many in front of them stay
abbrev pub box_moved : List Bool → ℕ → ℕ
box_moved keep at = length (filter (λ k. k) (take at keep))

abbrev pub stream_moved : Wiring → List Bool → ℕ → ℕ
stream_moved w keep stream = length (filter (is_kept keep) (take stream (producers_of w)))

-- how many streams stay
abbrev pub streams_staying : Wiring → List Bool → ℕ
streams_staying w keep = length (filter (is_kept keep) (producers_of w))

-- whether there is something, and it passes a test
abbrev pub passes : {X : Type 0} → (X → Bool) → Option X → Bool
passes t None = false
passes t (Some x) = t x
