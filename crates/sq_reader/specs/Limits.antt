-- The lengths of files.
use Rattle.std.specs.Prelude.{ℕ}

-- how many bytes a network, capacity or picks file may have, a stream, and a text that is audited
abbrev pub settings_limit : ℕ
settings_limit = 1048576
