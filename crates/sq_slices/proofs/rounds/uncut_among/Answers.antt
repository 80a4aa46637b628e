use Rattle.std.proofs.Common.{◌∙◌, ◌<◌, ◌≤◌, List, ap, arith, below_more, length, sym}
use Rattle.sq_graph.proofs.Finding.{first_is, none_is}
use Rattle.sq_net.specs.declared.Node.{Node}
use Rattle.sq_slices.specs.Reaches.{reach_numbered, is_uncut}
use Rattle.sq_slices.proofs.rounds.uncut_among.Goals as goal

pub returns-then-branch : goal.returns-then-branch
returns-then-branch c =
    let is = ap (λ (nodes : List Node). length nodes) c.as_slice.ensures in
    let low : c.loop-at.at < length c.args.n.now.boxes = omega (arith, is) in
    first_is (is_uncut c.args.n.now c.args.delay (reach_numbered c.args.reaches.now)) (length c.args.n.now.boxes) c.loop-at.at low c.loop-at.invariant (sym c.in_ok-is_uncut.ensures ∙ c.if-branch.true)

pub loop-at-preserved : goal.loop-at-preserved
loop-at-preserved c = below_more _ _ c.loop-at.invariant (sym c.in_ok-is_uncut.ensures ∙ c.if-branch.false)

pub returns : goal.returns
returns c =
    let is = ap (λ (nodes : List Node). length nodes) c.as_slice.ensures in
    let past : length c.args.n.now.boxes ≤ c.loop-at.at = omega (arith, is) in
    none_is (is_uncut c.args.n.now c.args.delay (reach_numbered c.args.reaches.now)) (length c.args.n.now.boxes) c.loop-at.at past c.loop-at.invariant
