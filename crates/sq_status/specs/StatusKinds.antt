-- Kinds of statuses.
use Rattle.std.specs.Prelude.{Bool, false, true, ⊤, ◌≢◌}
use Rattle.sq_status.specs.declared.Status.{Status}
use Rattle.sq_tables.specs.Refusals.{is_memory}
use Rattle.sq_status.specs.declared.Status.TheVariants as status
use Rattle.sq_net.specs.declared.NetErr.TheVariants as net
use Rattle.sq_tap.specs.declared.TapErr.TheVariants as tap

-- the statuses of refusals: nothing was replayed
abbrev pub is_refusal : Status → Bool
is_refusal status.Ok = false
is_refusal status.Usage = true
is_refusal (status.BadNetwork e) = true
is_refusal (status.BadCapacities line) = true
is_refusal (status.BadPicks line) = true
is_refusal (status.BadStream number line why) = true
is_refusal (status.BadQuery e) = true
is_refusal (status.BadTap e) = true
is_refusal (status.FolderFault name) = true
is_refusal status.DiskFault = false
is_refusal (status.Garbled page kept got) = false
is_refusal (status.NotAPage page bytes) = false
is_refusal (status.Strange arc item) = false
is_refusal status.SinkFault = false
is_refusal (status.TooLong name) = true
is_refusal status.Memory = false
is_refusal status.TooMuch = false

-- the statuses of a command that runs no engine: it has no capacities, no picks and no query, and doesn't call the disk
abbrev pub is_plain_end : Status → Bool
is_plain_end status.Ok = true
is_plain_end status.Usage = true
is_plain_end (status.BadNetwork e) = true
is_plain_end (status.BadCapacities line) = false
is_plain_end (status.BadPicks line) = false
is_plain_end (status.BadStream number line why) = true
is_plain_end (status.BadQuery e) = false
is_plain_end (status.BadTap e) = false
is_plain_end (status.FolderFault name) = true
is_plain_end status.DiskFault = false
is_plain_end (status.Garbled page kept got) = false
is_plain_end (status.NotAPage page bytes) = false
is_plain_end (status.Strange arc item) = false
is_plain_end status.SinkFault = true
is_plain_end (status.TooLong name) = true
is_plain_end status.Memory = true
is_plain_end status.TooMuch = false

-- want of memory in place of a rule: it has a status of its own
abbrev pub hides_memory : Status → Bool
hides_memory (status.BadNetwork e) = is_memory e
hides_memory (status.BadQuery e) = is_memory e
hides_memory (status.BadTap tap.Memory) = true
hides_memory s = false

-- a rule of a file's bytes, or of joining, and no want of memory
abbrev pub IsRule : Status → Type 0
IsRule (status.BadNetwork e) = e ≢ net.Memory
IsRule (status.BadQuery e) = e ≢ net.Memory
IsRule (status.BadTap e) = e ≢ tap.Memory
IsRule (status.BadCapacities line) = ⊤
IsRule (status.BadPicks line) = ⊤
IsRule (status.BadStream number line why) = ⊤
IsRule s = ⊥

-- the statuses of a disk that changes its pages
abbrev pub is_changed : Status → Bool
is_changed status.DiskFault = false
is_changed (status.Garbled page kept got) = true
is_changed (status.NotAPage page bytes) = true
is_changed (status.Strange arc item) = true
is_changed result = false

-- of these the one that a disk may bring about that is known: another page came back, whose digest is another
abbrev pub is_garbled : Status → Bool
is_garbled (status.Garbled page kept got) = true
is_garbled result = false
