use Rattle.std.proofs.Common.{◌∙◌, arith, ap, sym, subst, map, length}
use Rattle.std.specs.Prelude.{slice_index}
use Rattle.std.proofs.lemmas.List.{length-replicate}
use Rattle.sq_lines.specs.Classes.{whole_lines}
use Rattle.sq_verdict.specs.Faults.{recorded}
use Rattle.sq_verdict.proofs.WalkLemmas.{Walked, walked_all, walked_fault, walked_more, walked_none}
use Rattle.sq_verdict.proofs.walking.walk_text.Goals as goal
use Rattle.sq_words.proofs.Lists.{zeros_at}

pub loop-line-init : goal.loop-line-init
loop-line-init c =
    let text = c.args.text.now in
    let record_at = recorded (length c.args.sets.now) (whole_lines text) in
    let streams = map (λ t. t.items) c.args.streams.now in
    let os = c.args.outputs.now in
    let drops = length c.args.sets.now in
    let walk = c.in_ok-walk.walk in
    let new = c.in_ok-walk.ensures in
    record {
      walked = subst (λ t. Walked record_at streams os drops text text t walk.most.items walk.places.items 0) (sym new.ended)
          (walked_none record_at streams os drops text walk.most.items walk.places.items
          (λ w. ap (λ xs. slice_index xs w) new.most ∙ zeros_at _ w)
          (λ i. ap (λ xs. slice_index xs i) new.places ∙ zeros_at _ i));
      most = ap (λ xs. length xs) new.most ∙ length-replicate _ 0;
      places = ap (λ xs. length xs) new.places ∙ length-replicate _ 0;
      room = omega arith;
    }

pub returns-in-Some-fault : goal.returns-in-Some-fault
returns-in-Some-fault c =
    let text = c.args.text.now in
    let record_at = recorded (length c.args.sets.now) (whole_lines text) in
    let h = c.loop-line.invariant.walked in
    walked_fault record_at (map (λ t. t.items) c.args.streams.now) c.args.outputs.now (length c.args.sets.now) text c.loop-line.left.now c.in-Some.line.now c.in-Some.rest.now c.loop-line.walk.ended
    c.loop-line.walk.most.items c.loop-line.walk.places.items c.loop-line.number h c.in-Some.ensures.parts c.in-Some-fault.why
    (sym (c.in_ok-fault.ensures.fault record_at h.before c.requires.held h.after) ∙ c.in-Some-fault.is)

pub loop-line-preserved : goal.loop-line-preserved
loop-line-preserved c =
    let text = c.args.text.now in
    let record_at = recorded (length c.args.sets.now) (whole_lines text) in
    let h = c.loop-line.invariant.walked in
    let none = c.in_default-fault.is in
    let room = c.loop-line.invariant.room in
    let shorter = c.in-Some.ensures.shorter in
    record {
      walked = walked_more record_at (map (λ t. t.items) c.args.streams.now) c.args.outputs.now (length c.args.sets.now) text c.loop-line.left.now c.in-Some.line.now c.in-Some.rest.now c.loop-line.walk.ended
          c.loop-line.walk.most.items c.loop-line.walk.places.items c.loop-line.number h c.in-Some.ensures.parts c.step.new.walk.ended c.step.new.walk.most.items c.step.new.walk.places.items
          (sym (c.in_ok-fault.ensures.fault record_at h.before c.requires.held h.after) ∙ none)
          (c.in_ok-fault.ensures.after none record_at h.before c.requires.held h.after);
      most = c.step.ensures.most ∙ c.loop-line.invariant.most;
      places = c.step.ensures.counted ∙ c.loop-line.invariant.places;
      room = omega (arith, room, shorter);
    }

pub returns : goal.returns
returns c =
    let text = c.args.text.now in
    let record_at = recorded (length c.args.sets.now) (whole_lines text) in
    let h = c.loop-line.invariant.walked in
    c.ending.ensures
    ∙ walked_all record_at (map (λ t. t.items) c.args.streams.now) c.args.outputs.now (length c.args.sets.now) text c.loop-line.left.now c.loop-line.walk.ended c.loop-line.walk.most.items
    c.loop-line.walk.places.items c.loop-line.number c.is_short-short.result h c.in_default.ensures.parts
    (c.is_short-short.ensures record_at h.before c.requires.held h.after.places_are)
