use Rattle.std.proofs.Common.{sym, subst, refl, ◌<◌, ◌^◌, length}
use Rattle.sq_graph.specs.declared.Wiring.{Wiring}
use Rattle.sq_graph.specs.Order.{IsWired}
use Rattle.sq_rules.specs.Streaming.{told_stream_names}
use Rattle.sq_rules.proofs.WiringLemmas.{is_wired, wired_few}
use Rattle.sq_rules.proofs.rules.acyclic_wires.Goals as goal

pub order_in-requires-clause-few : goal.order_in-requires-clause-few
order_in-requires-clause-few c = subst (λ (w : Wiring). length w.boxes < 2 ^ 32) (sym c.requires.wires) (wired_few c.args.raw.now c.requires.within)

pub order_in-requires-clause-wired : goal.order_in-requires-clause-wired
order_in-requires-clause-wired c = subst IsWired (sym c.requires.wires) (is_wired (told_stream_names c.args.raw.now) c.args.raw.now refl)
