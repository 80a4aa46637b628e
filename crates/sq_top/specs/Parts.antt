-- What a tap shows: for each output of the query what the query alone shows over the part of the stream.
use Rattle.std.specs.Prelude.{◌≡◌, ℕ, List, [], ◌∷◌, map, Option, Some, Ok}
use Rattle.std.specs.List.{flat_map}
use Rattle.sq_outside.specs.Folders.{Files}
use Rattle.sq_value.specs.declared.Tuple.{Tuple}
use Rattle.sq_lines.specs.LineTexts.{output_line}
use Rattle.sq_net.specs.declared.Network.{Network}
use Rattle.sq_reader.specs.Networks.{network_in}
use Rattle.sq_tap.specs.Names.{stream_named}
use Rattle.sq_tap.specs.Parts.{full_output, tuples_since}
use Rattle.sq_command.specs.declared.Command.TheVariants as command
use Rattle.sq_command.specs.Commands.{command_in}
use Rattle.sq_due.specs.Due.{due_of, outputs_of}
use Rattle.sq_work.specs.Reads.{GoesBy}
use Rattle.sq_work.specs.Scripts.{Done, AcceptedReplay, script_of}
use Rattle.sq_work.specs.Taps.{first_tick}

-- the outputs of a query, and the lines of their full answers where its source recorded this
abbrev pub shown_over : Network → List Tuple → List (List ℕ × List (List ℕ))
shown_over q part = map (λ o. ((o.0).name, map (output_line (o.0).name) (full_output q (part ∷ []) o.1))) (outputs_of q)

-- these lines are due, and of drops and plans none
pub record ShowsPart (n q : Network) (stream from : ℕ) (r : AcceptedReplay) : Type 0 where
  pub shown : (due_of r).shown ≡ shown_over q (tuples_since n r.sources stream from)
  pub dropped : flat_map (λ w. w.1) (due_of r).dropped ≡ []
  pub planned : (due_of r).planned ≡ []

-- of the two networks that were read first, and the stream of the one that has this name
pub record ShowsRead (read : List (List ℕ × List ℕ)) (name : List ℕ) (from : ℕ) (r : AcceptedReplay) : Type 0 where
  pub net : List ℕ × List ℕ
  pub query : List ℕ × List ℕ
  pub more : List (List ℕ × List ℕ)
  pub given : read ≡ net ∷ query ∷ more
  pub network : Network
  pub asked : Network
  pub stream : ℕ
  pub first : network_in net.1 ≡ Ok network
  pub second : network_in query.1 ≡ Ok asked
  pub named : stream_named network name ≡ Some stream
  pub shows : ShowsPart network asked stream from r

-- for the words of a tap, and all that was read where it comes to what is accepted
abbrev pub TapsShowParts : Type 0
TapsShowParts =
    (words : List (List ℕ)) (net name : List ℕ) (tick history : ℕ) (query : List ℕ) (told : Option Files) (read : List (List ℕ × List ℕ)) (r : AcceptedReplay)
    → command_in words ≡ Some (command.Tap net name tick history query) → GoesBy told read (script_of words) (Done r)
    → ShowsRead read name (first_tick tick history) r
