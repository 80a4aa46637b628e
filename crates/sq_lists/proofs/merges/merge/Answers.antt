use Rattle.std.proofs.Common.{◌+◌, ◌++◌, ◌∷◌, map, drop, sym, ap, ◌∙◌, append_assoc}
use Rattle.std.proofs.lemmas.List.{drop_more}
use Rattle.sq_words.specs.Lists.{ports_from}
use Rattle.sq_lists.proofs.merges.merge.Goals as goal

pub loop-port-preserved : goal.loop-port-preserved
loop-port-preserved c =
    let ins = c.args.ins.now in
    let port = c.loop-port.port in
    let pairs = c.loop-port.pairs.items in
    let later = ports_from (port + 1) (map (λ v. v.items) (drop (port + 1) ins)) in
    let here = drop_more ins port c.index-ins-port.result c.loop-port-test.true ∙ ap (λ v. v ∷ drop (port + 1) ins) (sym c.index-ins-port.is) in
    c.loop-port.invariant
    ∙ ap (λ l. pairs ++ ports_from port (map (λ v. v.items) l)) here
    ∙ sym (append_assoc pairs (map (λ x. (port, x)) c.index-ins-port.result.items) later)
    ∙ ap (λ l. (pairs ++ map (λ x. (port, x)) l) ++ later) (sym c.deref.ensures.value)
    ∙ ap (λ l. l ++ later) (sym c.in_ok-push_stream.ensures)
