use Rattle.std.proofs.Common.{◌∷◌, [], ◌+◌, map, arith, append_assoc}
use Rattle.std.proofs.lemmas.List.FromFn.{map-range_with_len_more}
use Rattle.sq_words.specs.Lists.{numbers_to}
use Rattle.sq_rules.proofs.streams.push_filter_ports.Goals as goal
use Rattle.sq_net.specs.Names.{port_name}

pub loop-port-preserved : goal.loop-port-preserved
loop-port-preserved c =
    let more = map-range_with_len_more (λ i. port_name c.args.name.now (i + 1)) 0 c.loop-port.port c.loop-port.port (omega arith) in
    rw (c.in_ok-push.ensures.items, c.in_ok-port_name.ensures, more, c.loop-port.invariant)
    (append_assoc c.args.names.now.items (map (λ i. port_name c.args.name.now (i + 1)) (numbers_to c.loop-port.port)) (port_name c.args.name.now (c.loop-port.port + 1) ∷ []))
