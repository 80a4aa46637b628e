-- The message of each status.
use Rattle.std.specs.Prelude.{ℕ, ◌/◌, ◌%◌, false, List, [], ◌∷◌, ◌++◌, codes, Option, Some, None, slice_get, Result, Ok, Err, ◌≡◌, ◌⊎◌}
use Rattle.std.specs.List.{flat_map}
use Rattle.std.specs.Fmt.{decimal, digit_glyph}
use Rattle.sq_net.specs.declared.Network.{Network}
use Rattle.sq_net.specs.declared.Source.{Source}
use Rattle.sq_net.specs.declared.NetErr.{NetErr}
use Rattle.sq_refusal.specs.Refusals.{refusal_text}
use Rattle.sq_tap.specs.declared.TapErr.{TapErr}
use Rattle.sq_tap.specs.declared.TapErr.TheVariants as tap
use Rattle.sq_replay.specs.declared.why.Why.{Why}
use Rattle.sq_replay.specs.declared.why.Why.TheVariants as why
use Rattle.sq_status.specs.declared.Status.{Status}
use Rattle.sq_status.specs.declared.Status.TheVariants as status
use Rattle.sq_words.specs.Lists.{IsPrefixOf}
use Rattle.sq_outside.specs.Faults.{Rose}

abbrev pub why_text : Why → List ℕ
why_text why.TooMany = codes "TooMany"
why_text why.Cut = codes "Cut"
why_text why.Fields = codes "Fields"
why_text why.Utf8 = codes "Utf8"
why_text why.Tick = codes "Tick"
why_text why.Falls = codes "Falls"
why_text why.NotInt = codes "NotInt"
why_text why.NotBool = codes "NotBool"
why_text why.TextLong = codes "TextLong"

-- the rule of joining by its name
abbrev pub tap_text : TapErr → List ℕ
tap_text tap.NoStream = codes "NoStream"
tap_text tap.Sources = codes "Sources"
tap_text tap.Schema = codes "Schema"
tap_text tap.Limit = codes "Limit"
tap_text tap.Memory = codes "Memory"

-- two lower-case hexadecimal digits for each byte
abbrev pub hex_byte : ℕ → List ℕ
hex_byte byte = digit_glyph false (byte / 16) ∷ digit_glyph false (byte % 16) ∷ []

abbrev pub hex_text : List ℕ → List ℕ
hex_text bytes = flat_map hex_byte bytes

-- the line of a status, where the source has this name; Ok has none
abbrev pub message_of : List ℕ → Status → List ℕ
message_of source status.Ok = []
message_of source status.Usage = codes "aurora: usage: aurora run NET [options]\n"
message_of source (status.BadNetwork e) = codes "aurora: network: " ++ (refusal_text e ++ codes "\n")
message_of source (status.BadQuery e) = codes "aurora: query: " ++ (refusal_text e ++ codes "\n")
message_of source (status.BadTap e) = codes "aurora: tap: " ++ (tap_text e ++ codes "\n")
message_of source (status.BadCapacities line) = codes "aurora: capacities: line " ++ (decimal line ++ codes "\n")
message_of source (status.BadPicks line) = codes "aurora: picks: line " ++ (decimal line ++ codes "\n")
message_of source (status.BadStream number line w) =
    codes "aurora: stream " ++ (source ++ (codes ": line " ++ (decimal line ++ (codes ": " ++ (why_text w ++ codes "\n")))))
message_of source (status.FolderFault name) = codes "aurora: cannot read " ++ (name ++ codes "\n")
message_of source status.DiskFault = codes "aurora: spill disk failed\n"
message_of source (status.Garbled page kept got) =
    codes "aurora: page " ++ (decimal page ++ (codes " changed: " ++ (hex_text kept.0 ++ (codes " " ++ (hex_text got.0 ++ codes "\n")))))
message_of source (status.NotAPage page bytes) = codes "aurora: page " ++ (decimal page ++ codes " is no page\n")
message_of source (status.Strange arc item) = codes "aurora: arc " ++ (decimal arc ++ codes ": strange item\n")
message_of source status.SinkFault = codes "aurora: output failed\n"
message_of source (status.TooLong name) = codes "aurora: file too long: " ++ (name ++ codes "\n")
message_of source status.Memory = codes "aurora: out of memory\n"
message_of source status.TooMuch = codes "aurora: too many tuples\n"

-- the number with which the program ends
abbrev pub code_of : Status → ℕ
code_of status.Ok = 0
code_of status.Usage = 2
code_of (status.BadNetwork e) = 3
code_of (status.BadCapacities line) = 4
code_of (status.BadPicks line) = 5
code_of (status.BadStream number line w) = 6
code_of (status.FolderFault name) = 7
code_of status.DiskFault = 8
code_of (status.Garbled page kept got) = 9
code_of status.SinkFault = 10
code_of (status.TooLong name) = 11
code_of status.Memory = 12
code_of (status.BadQuery e) = 13
code_of (status.BadTap e) = 14
code_of status.TooMuch = 15
code_of (status.NotAPage page bytes) = 16
code_of (status.Strange arc item) = 17

-- the network of a text, where there is one
abbrev pub network_if_ok : Result Network NetErr → Option Network
network_if_ok (Ok n) = Some n
network_if_ok (Err e) = None

-- the name of the source with this number
abbrev pub source_name_in : Option Source → List ℕ
source_name_in None = []
source_name_in (Some s) = s.name

abbrev pub name_at : ℕ → Option Network → List ℕ
name_at number None = []
name_at number (Some n) = source_name_in (slice_get n.sources number)

-- the message: whole, or a part of it where the sink for messages has failed
abbrev pub TellsStatus : List ℕ → ℕ → ℕ → Status → List ℕ → Type 0
TellsStatus source faults_before faults_now result text =
    (text ≡ message_of source result) ⊎ (Rose faults_before faults_now × IsPrefixOf text (message_of source result))

abbrev pub source_told : Option (List ℕ) → List ℕ
source_told None = []
source_told (Some name) = name
