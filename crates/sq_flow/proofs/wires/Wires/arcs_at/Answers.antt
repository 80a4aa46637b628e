use Rattle.std.proofs.Common.{◌<◌, ◌≤◌, length, refl, ap, sym, ◌∙◌, arith}
use Rattle.std.specs.Prelude.{slice_get}
use Rattle.std.proofs.lemmas.Option.{slice_get_read, slice_get_past}
use Rattle.sq_flow.specs.Wiring.{numbers_in, rows_in}
use Rattle.sq_flow.proofs.wires.Wires.arcs_at.Goals as goal

pub returns-then-port-len : goal.returns-then-port-len
returns-then-port-len c =
    let row = slice_get_read c.args.self.now.readers.items _ c.args.seat c.index-rows.result.now refl c.requires c.index-rows.ensures in
    let low : c.args.port < length c.index-rows.result.now.items = omega (arith, c.if-port-len.true, c.len.ensures, c.index-rows.result.now.ok.0) in
    let here = slice_get_read c.index-rows.result.now.items _ c.args.port c.index.result.now refl low c.index.ensures in
    c.deref.ensures.value ∙ sym (ap (λ o. numbers_in (slice_get (rows_in o) c.args.port)) row ∙ ap numbers_in here)

-- nothing comes from the ports beyond the last
pub returns : goal.returns
returns c =
    let row = slice_get_read c.args.self.now.readers.items _ c.args.seat c.index-rows.result.now refl c.requires c.index-rows.ensures in
    let past : length c.index-rows.result.now.items ≤ c.args.port = omega (arith, c.if-port-len.false, c.len.ensures, c.index-rows.result.now.ok.0) in
    sym (ap (λ o. numbers_in (slice_get (rows_in o) c.args.port)) row ∙ ap numbers_in (slice_get_past c.index-rows.result.now.items c.args.port past))
