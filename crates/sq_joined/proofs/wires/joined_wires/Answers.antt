use Rattle.std.proofs.Common.{◌∙◌, ap, ◌++◌, map}
use Rattle.sq_joined.specs.Joining.{rewired, query_moved, tap_wires}
use Rattle.sq_joined.proofs.Steps.{wiring_is}
use Rattle.sq_joined.proofs.wires.joined_wires.Goals as goal

pub returns : goal.returns
returns c =
    wiring_is c.args.w.now c.args.keep.now c.args.stream c.args.q.now c.streams_staying-tap.result c.in_ok-boxes.boxes.items c.push.new.self.items c.new.result c.in_ok-wires.wires c.new-2.result
    c.streams_staying-tap.ensures.number
    c.in_ok-boxes.ensures
    (c.in_ok-wires.ensures ∙ ap tap_wires c.stream_moved.ensures.number)
    c.in_ok-push.ensures.items
    (c.new.ensures ∙ c.in_ok-push_query.ensures ∙ ap (λ bs. c.push.new.self.items ++ map (rewired (query_moved c.streams_staying-tap.result)) bs) c.as_slice.ensures)
    (c.new-2.ensures ∙ c.in_ok-outputs.ensures ∙ ap (λ ss. map (query_moved c.streams_staying-tap.result) ss) c.as_slice-2.ensures)
