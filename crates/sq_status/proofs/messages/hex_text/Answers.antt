use Rattle.std.proofs.Common.{ap, ap₂, append-nil, get_or, sym, take, ◌++◌, ◌∙◌, [], ◌∷◌}
use Rattle.std.proofs.lemmas.Grind.{flat_map-append}
use Rattle.std.proofs.lemmas.List.{take_more}
use Rattle.sq_status.specs.Messages.{hex_byte, hex_text}
use Rattle.sq_status.proofs.messages.hex_text.Goals as goal

pub bytes-preserved : goal.bytes-preserved
bytes-preserved c =
    let bytes = c.args.bytes.now in
    let at = c.bytes.byte-index in
    let byte = get_or bytes at 0 in
    let more = ap hex_text (take_more bytes at 0 c.bytes-test.true) ∙ flat_map-append hex_byte (take at bytes) (byte ∷ []) ∙ ap (λ y. hex_text (take at bytes) ++ y) (append-nil (hex_byte byte)) in
    c.in_ok-push_str.ensures.bytes ∙ ap₂ (λ x y. x ++ y) c.bytes.invariant (c.as_str.ensures.value ∙ c.in_ok-digits.ensures) ∙ sym more
