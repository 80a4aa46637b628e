-- How a call ends, by what the folder gave, what is answered by that, and what the output took.
use Rattle.std.specs.Prelude.{◌≡◌, ◌≢◌, ◌⊎◌, ⊤, ℕ, ◌+◌, ◌≤◌, Bool, List, [], ◌∷◌, ◌++◌, length, Option, Some, None, IsSomeAnd}
use Rattle.sq_words.specs.Lists.{IsPrefixOf}
use Rattle.sq_outside.specs.Faults.{Rose, RoseBy}
use Rattle.sq_outside.specs.declared.Folder.{Ghosts as FolderGhosts}
use Rattle.sq_outside.specs.declared.Sink.{Ghosts as SinkGhosts}
use Rattle.sq_outside.specs.Folders.{Files, IsLonger, file}
use Rattle.sq_outside.specs.Sinks.{AppendsPrefix, appended}
use Rattle.sq_reader.specs.Limits.{settings_limit}
use Rattle.sq_teller.specs.declared.Program.{Program}
use Rattle.sq_teller.specs.declared.Ending.{Ending}
use Rattle.sq_teller.specs.declared.Ending.TheVariants as status
use Rattle.sq_teller.specs.Replies.{Reply, Says, Refuses, lost_status}
use Rattle.sq_teller.specs.Messages.{ending_message}

-- P of the files, where they are told
abbrev pub WhereFilesTold : Option Files → (Files → Type 0) → Type 0
WhereFilesTold None P = ⊤
WhereFilesTold (Some files) P = P files

-- the folder and the output, before a call and after it
pub record Surroundings : Type 0 where
  pub told : Option Files
  pub folder_before : ℕ
  pub folder_now : ℕ
  pub taken_before : ℕ
  pub taken_now : ℕ
  pub read_before : List (List ℕ × List ℕ)
  pub read_now : List (List ℕ × List ℕ)
  pub out_before : Option (List ℕ)
  pub out_now : Option (List ℕ)
  pub sink_before : ℕ
  pub sink_now : ℕ

-- by what the folder and the sink tell
abbrev pub around : {F : Type 0} → FolderGhosts F → F → F → {S : Type 0} → SinkGhosts S → S → S → Surroundings
around folder folder_old folder_new sink sink_old sink_new = record {
  told = folder.files folder_old;
  folder_before = folder.faults folder_old;
  folder_now = folder.faults folder_new;
  taken_before = folder.taken folder_old;
  taken_now = folder.taken folder_new;
  read_before = folder.read folder_old;
  read_now = folder.read folder_new;
  out_before = sink.written sink_old;
  out_now = sink.written sink_new;
  sink_before = sink.faults sink_old;
  sink_now = sink.faults sink_new;
}

-- the file of this name was read, and nothing else, and these are its bytes
abbrev pub IsReadAs : Option Files → List (List ℕ × List ℕ) → List (List ℕ × List ℕ) → List ℕ → List ℕ → Type 0
IsReadAs told before now name bytes =
    (length bytes ≤ settings_limit) × WhereFilesTold told (λ files. file files name ≡ Some bytes) × (now ≡ before ++ (name, bytes) ∷ [])

-- why the file of this name wasn't read
abbrev pub IsUnreadAs : Option Files → ℕ → ℕ → ℕ → ℕ → List ℕ → Ending → Type 0
IsUnreadAs told faults_before faults_now taken_before taken_now name result =
    (result ≡ status.Memory)
    ⊎ ((result ≡ status.FolderFault name) × (Rose faults_before faults_now ⊎ IsSomeAnd told (λ files. file files name ≡ None)))
    ⊎ ((result ≡ status.TooLong name) × RoseBy (settings_limit + 1) taken_before taken_now × WhereFilesTold told (λ files. IsLonger files name settings_limit))

abbrev pub IsNetRead : List ℕ → List ℕ → Surroundings → Type 0
IsNetRead name bytes w = IsReadAs w.told w.read_before w.read_now name bytes

abbrev pub IsNetUnread : List ℕ → Surroundings → Ending → Type 0
IsNetUnread name w result = IsUnreadAs w.told w.folder_before w.folder_now w.taken_before w.taken_now name result

-- the folder isn't called
pub record IsUncalled (w : Surroundings) : Type 0 where
  pub faults : w.folder_now ≡ w.folder_before
  pub taken : w.taken_now ≡ w.taken_before
  pub read : w.read_now ≡ w.read_before

-- a text is written whole, or a part of it where the output failed
abbrev pub WritesText : List ℕ → Bool → Option (List ℕ) → Option (List ℕ) → ℕ → ℕ → Ending → Type 0
WritesText text lost before now faults_before faults_now result =
    ((result ≡ lost_status lost) × (now ≡ appended before text))
    ⊎ ((result ≡ status.SinkFault) × Rose faults_before faults_now × AppendsPrefix before now text)

-- how a call ends of which this is the answer: its text is written, or memory ran out; at a refusal nothing is written
abbrev pub EndsBy : Reply → Surroundings → Ending → Type 0
EndsBy (Says text lost) w result =
    WritesText text lost w.out_before w.out_now w.sink_before w.sink_now result
    ⊎ ((result ≡ status.Memory) × (w.out_now ≡ w.out_before))
EndsBy (Refuses broken) w result = ((result ≡ broken) ⊎ (result ≡ status.Memory)) × (w.out_now ≡ w.out_before)

-- how a call ends that asks for a network's file, where this is answered to its bytes
abbrev pub EndsAsked : List ℕ → (List ℕ → Reply) → Surroundings → Ending → Type 0
EndsAsked net reply w result =
    (IsNetUnread net w result × (w.read_now ≡ w.read_before) × (w.out_now ≡ w.out_before))
    ⊎ ((bytes : List ℕ) × IsNetRead net bytes w × (w.folder_now ≡ w.folder_before) × EndsBy (reply bytes) w result)

-- how a call ends whose words ask for nothing
abbrev pub EndsUnasked : Surroundings → Ending → Type 0
EndsUnasked w result = ((result ≡ status.Usage) ⊎ (result ≡ status.Memory)) × IsUncalled w × (w.out_now ≡ w.out_before)

-- ---- what is told

-- the status, or that memory ran out where there was none for the message; that the output failed takes none
abbrev pub IsEndingTold : Ending → Ending → Type 0
IsEndingTold result told = (told ≡ result) ⊎ ((told ≡ status.Memory) × (result ≢ status.Ok) × (result ≢ status.Lost) × (result ≢ status.SinkFault))

-- the message: whole, or a part of it where the sink for messages has failed
abbrev pub TellsEnding : Program → ℕ → ℕ → Ending → List ℕ → Type 0
TellsEnding p before now result text = (text ≡ ending_message p result) ⊎ (Rose before now × IsPrefixOf text (ending_message p result))
