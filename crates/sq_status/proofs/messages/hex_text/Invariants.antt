use Rattle.std.proofs.Common.{◌≡◌, string_bytes, take}
use Rattle.sq_status.specs.Messages.{hex_text}
use Rattle.sq_status.proofs.messages.hex_text.Given as goal

abbrev pub invariant-bytes : goal.invariant-bytes
invariant-bytes l = string_bytes l.text ≡ hex_text (take l.byte-index l.bytes)
