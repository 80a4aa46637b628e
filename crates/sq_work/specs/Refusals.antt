-- Why work isn't accepted: which status comes of which cause, before anything is replayed.
use Rattle.sq_work.specs.Scripts.{AcceptedReplay, Done, Reads, Script, Stops, after_streams, script_of, stream_limit}
use Rattle.sq_plan.specs.Plans.{Entries}
use Rattle.std.specs.Prelude.{Err, IsSomeAnd, List, None, Ok, Option, Result, Some, false, slice_get, true, ℕ, ⊤, [], ◌≡◌, ◌≢◌, ◌⊎◌, ◌+◌, ◌++◌}
use Rattle.sq_outside.specs.Folders.{IsLonger, file}
use Rattle.sq_work.specs.FolderStates.{FolderState}
use Rattle.sq_work.specs.Reads.{GoesBy, IsFileRead, ScriptLeads, WhereTold, source_read}
use Rattle.sq_tables.specs.Refusals.{IsAnswerOf}
use Rattle.sq_net.specs.declared.NetErr.{NetErr}
use Rattle.sq_net.specs.declared.Network.{Network}
use Rattle.sq_outside.specs.Faults.{Rose, RoseBy}
use Rattle.sq_net.specs.declared.Source.{Source}
use Rattle.sq_status.specs.declared.Status.{Status}
use Rattle.sq_tap.specs.declared.TapErr.{TapErr}
use Rattle.sq_work.specs.Taps.{Tapped}
use Rattle.sq_value.specs.declared.Tuple.{Tuple}
use Rattle.sq_replay.specs.declared.why.Why.{Why}
use Rattle.sq_replay.specs.Entries.{capacities_in, picks_in}
use Rattle.sq_command.specs.Commands.{command_in}
use Rattle.sq_status.specs.StatusKinds.{hides_memory, is_refusal}
use Rattle.sq_reader.specs.Networks.{network_in}
use Rattle.sq_reader.specs.Limits.{settings_limit}
use Rattle.sq_replay.specs.Streams.{stream_in}
use Rattle.sq_status.specs.declared.Status.TheVariants as status
use Rattle.sq_net.specs.declared.NetErr.TheVariants as net
use Rattle.sq_tap.specs.declared.TapErr.TheVariants as tap

-- the words are no command exactly where the status is Usage, but for want of memory
pub record UsageHasCause (words : List (List ℕ)) (result : Status) : Type 0 where
  pub only : result ≡ status.Usage → command_in words ≡ None
  pub when : command_in words ≡ None → (result ≡ status.Usage) ⊎ (result ≡ status.Memory)

-- where a line of a source is bad, its name is that in the network that was read
abbrev pub NamesSource : List (List ℕ) → List (List ℕ × List ℕ) → Status → List ℕ → Type 0
NamesSource words read (status.BadStream number line why) source = source ≡ source_read words read number
NamesSource words read result source = ⊤

-- why a file wasn't read
abbrev pub IsUnread : FolderState → FolderState → List ℕ → ℕ → Status → Type 0
IsUnread before after name limit result =
    (result ≡ status.Memory)
    ⊎ ((result ≡ status.FolderFault name) × (Rose before.faults after.faults ⊎ IsSomeAnd before.told (λ files. file files name ≡ None)))
    ⊎ ((result ≡ status.TooLong name) × RoseBy (limit + 1) before.taken after.taken × WhereTold before.told (λ files. IsLonger files name limit))

-- a file wasn't read, or P holds of the bytes that it gave
abbrev pub IsUnreadOr : FolderState → FolderState → List ℕ → ℕ → Status → (List ℕ → Type 0) → Type 0
IsUnreadOr before after name limit result P =
    (IsUnread before after name limit result × (after.read ≡ before.read))
    ⊎ ((bytes : List ℕ) × IsFileRead before after name limit bytes × P bytes)

-- which refusal comes, by what is left of a script: none where all was accepted; the status of the rule that is broken; or that of the
-- file that isn't read. Memory may run out in place of each
abbrev pub IsRefusedAt : FolderState → FolderState → Status → Script → Type 0
IsRefusedAt before after result (Done r) = is_refusal result ≡ false
IsRefusedAt before after result (Stops s) = (result ≡ s) ⊎ (result ≡ status.Memory)
IsRefusedAt before after result (Reads name limit more) =
    IsUnread before after name limit result

-- how a run stops before anything is replayed: by the names and the bytes that it read it came to what is left of its script
pub record IsStopped (words : List (List ℕ)) (before after : FolderState) (result : Status) (source : List ℕ) : Type 0 where
  pub read : List (List ℕ × List ℕ)
  pub given : after.read ≡ before.read ++ read
  pub left : Script
  pub goes : GoesBy before.told read (script_of words) left
  pub refusal : IsRefusedAt before after result left
  pub usage : UsageHasCause words result
  pub named : NamesSource words read result source
  pub ends : (is_refusal result ≡ true) ⊎ (result ≡ status.Memory)
  pub no_memory : hides_memory result ≡ false

-- an error of the network file is the status, and want of memory is its own
abbrev pub IsRefusedBy : NetErr → Status → Type 0
IsRefusedBy e result = ((e ≡ net.Memory) × (result ≡ status.Memory)) ⊎ ((e ≢ net.Memory) × (result ≡ status.BadNetwork e))

-- and so of the query's file
abbrev pub IsQueryRefused : NetErr → Status → Type 0
IsQueryRefused e result = ((e ≡ net.Memory) × (result ≡ status.Memory)) ⊎ ((e ≢ net.Memory) × (result ≡ status.BadQuery e))

abbrev pub IsTapRefused : TapErr → Status → Type 0
IsTapRefused e result = ((e ≡ tap.Memory) × (result ≡ status.Memory)) ⊎ ((e ≢ tap.Memory) × (result ≡ status.BadTap e))

-- memory ran out, or the status is that of the rule of joining that is broken
abbrev pub IsBadTap : Result Tapped TapErr → Status → Type 0
IsBadTap said result = (result ≡ status.Memory) ⊎ ((e : TapErr) × (e ≢ tap.Memory) × (said ≡ Err e) × (result ≡ status.BadTap e))

-- the file was read, and this is what its bytes say, but for want of memory
abbrev pub IsNetworkFile : FolderState → FolderState → List ℕ → Result Network NetErr → Type 0
IsNetworkFile before after name r =
    (bytes : List ℕ) × IsFileRead before after name settings_limit bytes × IsAnswerOf r (network_in bytes)

-- these are the capacities of the file that is named, or none where none is
abbrev pub AreCapacitiesOf : FolderState → FolderState → Option (List ℕ) → Entries → Type 0
AreCapacitiesOf before after None entries = (entries ≡ []) × (after.read ≡ before.read)
AreCapacitiesOf before after (Some name) entries =
    (bytes : List ℕ) × (capacities_in bytes ≡ Ok entries) × IsFileRead before after name settings_limit bytes

-- why a text has no capacities: memory ran out, or a line of it is bad
abbrev pub HasBadCapacity : List ℕ → Status → Type 0
HasBadCapacity bytes result = (result ≡ status.Memory) ⊎ ((line : ℕ) × (capacities_in bytes ≡ Err line) × (result ≡ status.BadCapacities line))

-- why the capacities aren't there: the file that is named isn't read, or one of its lines is bad
abbrev pub HasNoCapacities : FolderState → FolderState → Option (List ℕ) → Status → Type 0
HasNoCapacities before after None result = ⊥
HasNoCapacities before after (Some name) result =
    IsUnreadOr before after name settings_limit result (λ bytes. HasBadCapacity bytes result)

-- these are the picks of the file that is named, or none where none is
abbrev pub ArePicksOf : FolderState → FolderState → Option (List ℕ) → List ℕ → Type 0
ArePicksOf before after None picks = (picks ≡ []) × (after.read ≡ before.read)
ArePicksOf before after (Some name) picks = (bytes : List ℕ) × (picks_in bytes ≡ Ok picks) × IsFileRead before after name settings_limit bytes

-- why a text has no picks: memory ran out, or a line of it is bad
abbrev pub HasBadPick : List ℕ → Status → Type 0
HasBadPick bytes result = (result ≡ status.Memory) ⊎ ((line : ℕ) × (picks_in bytes ≡ Err line) × (result ≡ status.BadPicks line))

-- why the picks aren't there: the file that is named isn't read, or one of its lines is bad
abbrev pub HasNoPicks : FolderState → FolderState → Option (List ℕ) → Status → Type 0
HasNoPicks before after None result = ⊥
HasNoPicks before after (Some name) result =
    IsUnreadOr before after name settings_limit result (λ bytes. HasBadPick bytes result)

-- these are the tuples of the source's file
abbrev pub IsStreamOf : FolderState → FolderState → Source → List Tuple → Type 0
IsStreamOf before after s xs =
    (bytes : List ℕ) × (stream_in s.schema bytes ≡ Ok xs) × IsFileRead before after s.file stream_limit bytes

-- a line of the source with this number is bad, and its name is told
abbrev pub EndsAtBadLine : ℕ → Source → ℕ → Why → Status → List ℕ → Type 0
EndsAtBadLine number s line why result source = (result ≡ status.BadStream number line why) × (source ≡ s.name)

-- why the stream's text of the source with this number has no tuples: memory ran out, or a line of it is bad
abbrev pub HasBadLine : ℕ → Source → List ℕ → Status → List ℕ → Type 0
HasBadLine number s bytes result source =
    (result ≡ status.Memory) ⊎ ((line : ℕ) × (why : Why) × (stream_in s.schema bytes ≡ Err (line, why)) × EndsAtBadLine number s line why result source)

-- why the tuples of the source with this number aren't there
abbrev pub HasNoStream : FolderState → FolderState → ℕ → Source → Status → List ℕ → Type 0
HasNoStream before after number s result source =
    IsUnreadOr before after s.file stream_limit result (λ bytes. HasBadLine number s bytes result source)

-- how reading these sources, behind those that were read, stops: at a file that was to be read, at a bad line, or where memory ran out
abbrev pub HasNoStreams : FolderState → FolderState → AcceptedReplay → List Source → Status → List ℕ → Type 0
HasNoStreams before after r sources result source =
    ((s : Source) × (more : List ℕ → Script) × ScriptLeads before after (after_streams r sources) (Reads s.file stream_limit more)
    × IsUnread before after s.file stream_limit result)
    ⊎ ((number : ℕ) × (s : Source) × (line : ℕ) × (why : Why) × (slice_get sources number ≡ Some s)
    × ScriptLeads before after (after_streams r sources) (Stops (status.BadStream number line why)) × EndsAtBadLine number s line why result source)
    ⊎ ((left : Script) × ScriptLeads before after (after_streams r sources) left × (result ≡ status.Memory))
