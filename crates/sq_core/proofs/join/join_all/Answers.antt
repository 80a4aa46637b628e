use Rattle.std.proofs.Common.{◌≡◌, ◌∙◌, ap, arith, length, refl, slice_get, vec_len}
use Rattle.std.proofs.lemmas.Grind.{common_steps}
use Rattle.std.proofs.lemmas.Option.{slice_get_read}
use Rattle.sq_core.specs.Joining.{feeds_of, feeds_in}
use Rattle.sq_core.proofs.JoinLemmas.{joining-more, fixed-more}
use Rattle.sq_core.proofs.ShapeLemmas.{joining-next}
use Rattle.sq_core.proofs.join.join_all.Goals as goal

pub loop-place-preserved : goal.loop-place-preserved
loop-place-preserved c =
    let row = slice_get_read c.args.feeds.now _ c.args.actor c.index-feeds-actor.result refl c.requires.there c.index-feeds-actor.is in
    let many : vec_len c.index-feeds-actor.result ≡ length c.index-feeds-actor.result.items = grind (arith, common_steps) in
    let low = c.loop-place-test.true in
    let len = c.len-place-end.ensures in
    let got = slice_get_read c.index-feeds-actor.result.items _ c.loop-place.place c.index-feed.result.now refl (omega (arith, low, len, many)) c.index-feed.ensures in (
      joining-more c.args.wires.now.shown c.args.feeds.now c.args.actor c.loop-place.place c.index-feed.result.now _ c.loop-place.wires c.add_arc.new.wires c.requires.feeds
          (ap (λ o. slice_get (feeds_in o) c.loop-place.place) row ∙ got) (refl, refl, c.in_ok-kinds.ensures ∙ c.as_slice.ensures, refl) refl refl c.loop-place.invariant.0 c.in_ok-add_arc.ensures,
      fixed-more c.args.wires.now c.loop-place.wires c.add_arc.new.wires c.loop-place.invariant.1 c.in_ok-add_arc.ensures.fixed,
    )

pub returns-clause-joining : goal.returns-clause-joining
returns-clause-joining c =
    let row = slice_get_read c.args.feeds.now _ c.args.actor c.index-feeds-actor.result refl c.requires.there c.index-feeds-actor.is in
    let many : vec_len c.index-feeds-actor.result ≡ length c.index-feeds-actor.result.items = grind (arith, common_steps) in
    let past = c.loop-place-test.false in
    let upto = c.loop-place.auto.place-end in
    let len = c.len-place-end.ensures in
    let here : length (feeds_of c.args.feeds.now c.args.actor) ≡ length c.index-feeds-actor.result.items = ap (λ o. length (feeds_in o)) row in
    joining-next c.args.wires.now.shown c.args.feeds.now c.args.actor c.loop-place.place c.loop-place.wires c.requires.feeds c.loop-place.invariant.0 (omega (arith, past, upto, len, many, here))
