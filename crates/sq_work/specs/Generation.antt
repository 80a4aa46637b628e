-- How a run of what a number makes stops at it.
use Rattle.std.specs.Prelude.{◌≡◌, ◌⊎◌, ℕ, List, [], slice_get, Some}
use Rattle.sq_net.specs.declared.Source.{Source}
use Rattle.sq_reader.specs.Networks.{network_in}
use Rattle.sq_gen.specs.Files.{made_of}
use Rattle.sq_replay.specs.declared.why.Why.{Why}
use Rattle.sq_status.specs.declared.Status.{Status}
use Rattle.sq_status.specs.declared.Status.TheVariants as status
use Rattle.sq_work.specs.Scripts.{AcceptedReplay, Stops, made_script, made_streams, with_sources}
use Rattle.sq_status.specs.Messages.{name_at, network_if_ok}
use Rattle.sq_status.specs.StatusKinds.{IsRule}
use Rattle.sq_work.specs.Refusals.{EndsAtBadLine}

-- memory ran out, or a line of the stream is bad for a source
abbrev pub HasBadStreams : List ℕ → List Source → Status → List ℕ → Type 0
HasBadStreams bytes sources result source =
    (result ≡ status.Memory)
    ⊎ ((number : ℕ) × (s : Source) × (line : ℕ) × (why : Why) × (slice_get sources number ≡ Some s)
    × ((r : AcceptedReplay) → made_streams bytes (with_sources r []) sources ≡ Stops (status.BadStream number line why)) × EndsAtBadLine number s line why result source)

-- the name that is told is that of the source of which a line is bad
abbrev pub NamesMade : ℕ → ℕ → Status → List ℕ → Type 0
NamesMade number rows (status.BadStream at line why) source = source ≡ name_at at (network_if_ok (network_in (made_of number rows).net))
NamesMade number rows result source = Unit {0}

-- memory ran out, or what is made breaks a rule
abbrev pub HasBadMade : ℕ → ℕ → Status → List ℕ → Type 0
HasBadMade number rows result source =
    (result ≡ status.Memory) ⊎ (IsRule result × (made_script number (made_of number rows) ≡ Stops result) × NamesMade number rows result source)
