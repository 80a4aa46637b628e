use Rattle.std.proofs.Common.{◌+◌, ◌==◌, ◌∙◌, refl, ap, sym, length}
use Rattle.std.specs.Prelude.{is_some}
use Rattle.std.specs.List.{list_any}
use Rattle.std.proofs.lemmas.Result.{IfOk-weaker}
use Rattle.sq_graph.specs.Wires.{producer_of}
use Rattle.sq_below.specs.Actors.{WindowDrop, giver}
use Rattle.sq_core.specs.Table.{feed_from}
use Rattle.sq_core.proofs.TableLemmas.{arc-feed-is, feed-same, from-drop, from-giver}
use Rattle.sq_core.proofs.network.arc_feed.Goals as goal
use Rattle.sq_points.specs.Above.{first_drop}

pub returns-in_ok-kinds-in-Some : goal.returns-in_ok-kinds-in-Some
returns-in_ok-kinds-in-Some c =
    let n = c.args.it.now.n.now in
    arc-feed-is n c.args.arc c.stream_on-stream.result c.is_below-marked.result (WindowDrop c.in-Some.drop, 0) _ (feed-same _ _ _ _ _ _ (ap (λ l. length l + c.in-Some.drop) c.as_slice.ensures) c.in_ok-kinds-in-Some.ensures) c.stream_on-stream.ensures
    (c.is_below-marked.ensures ∙ ap (λ ps. is_some (first_drop (λ p. list_any (λ d. d.0 == c.args.arc) p.reach) 0 ps)) c.requires.topology.points)
    (sym (from-drop n c.args.arc c.in-Some.drop c.in-Some.ensures.drop))

pub returns-in-None : goal.returns-in-None
returns-in-None c =
    let n = c.args.it.now.n.now in
    IfOk-weaker c.given_feed.result _ _
    (λ f h. arc-feed-is n c.args.arc _ c.is_below-marked.result _ f (h ∙ ap (λ s. feed_from n s c.is_below-marked.result (giver (producer_of n.wires s))) c.stream_on-stream.ensures) refl
    (c.is_below-marked.ensures ∙ ap (λ ps. is_some (first_drop (λ p. list_any (λ d. d.0 == c.args.arc) p.reach) 0 ps)) c.requires.topology.points)
    (sym (from-giver n c.args.arc c.in-None.ensures.drop))) c.given_feed.ensures
