use Rattle.std.proofs.Common.{◌≡◌, ◌+◌, ◌∙◌, ap, sym, arith, length, map, subst}
use Rattle.std.proofs.lemmas.Result.{IfOk-weaker}
use Rattle.sq_flow.specs.Wiring.{IsShaped}
use Rattle.sq_start.specs.Numbers.{first_output}
use Rattle.sq_core.specs.Joining.{AreFeeds, IsActorOrder}
use Rattle.sq_core.proofs.PointLemmas.{streams_are}
use Rattle.sq_core.proofs.TableLemmas.{are-feeds, count-is, measured-all}
use Rattle.sq_core.proofs.OrderLemmas.{network-order}
use Rattle.sq_core.proofs.network.network_wires.Goals as goal

pub feed_table-requires : goal.feed_table-requires
feed_table-requires c =
    let boxes = ap length c.as_slice.ensures in
    let points = ap (λ l. length l) c.requires.points in
    let outputs = ap length c.as_slice-2.ensures in
    record {
      sound = c.requires.sound;
      points = c.requires.points;
      places = c.requires.places;
      streams = c.deref.ensures.value ∙ c.in_ok-streams.ensures ∙ streams_are c.args.n.now;
      replay = omega (arith, boxes, points, outputs);
    }

pub actors_of-requires : goal.actors_of-requires
actors_of-requires c =
    let boxes = ap length c.as_slice.ensures in
    let points = ap (λ l. length l) c.requires.points in
    let outputs = ap length c.as_slice-2.ensures in
    record {
      sound = c.requires.sound;
      points = c.requires.points;
      places = c.requires.places;
      streams = c.deref.ensures.value ∙ c.in_ok-streams.ensures ∙ streams_are c.args.n.now;
      replay = omega (arith, boxes, points, outputs);
    }

pub wires_of-requires : goal.wires_of-requires
wires_of-requires c =
    let n = c.args.n.now in
    let feeds = c.deref-2.result.now in
    let table = ap (map (λ f. f.items)) c.deref-2.ensures.value ∙ c.in_ok-table.ensures in
    let many = count-is n c.requires.sound feeds table in
    let boxes = ap length c.as_slice.ensures in
    let points = ap (λ l. length l) c.requires.points in
    let first : first_output n ≡ length c.as_slice.result.now + length c.args.points.now = omega (arith, boxes, points) in
    record {
      feeds = subst (λ k. AreFeeds k feeds) first (are-feeds n c.requires.sound feeds table);
      sheds = omega arith;
      shown = omega (arith, many, boxes, points);
      order = subst (IsActorOrder (length feeds) feeds) (sym c.in_ok-order.ensures) (network-order n c.requires.sound feeds table);
    }

pub returns : goal.returns
returns c =
    let n = c.args.n.now in
    let feeds = c.deref-2.result.now in
    let table = ap (map (λ f. f.items)) c.deref-2.ensures.value ∙ c.in_ok-table.ensures in
    let boxes = ap length c.as_slice.ensures in
    let points = ap (λ l. length l) c.requires.points in
    IfOk-weaker c.wires_of.result _ _
    (λ w h. record {
      shaped = subst (IsShaped w) (count-is n c.requires.sound feeds table) h.shaped;
      measured = measured-all n c.requires.sound feeds table w h.joined;
      sheds = h.sheds ∙ boxes;
      shown = (let shown = h.shown in omega (arith, shown, boxes, points));
    }) c.wires_of.ensures
