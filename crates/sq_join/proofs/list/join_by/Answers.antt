use Rattle.std.proofs.Common.{◌≡◌, ◌++◌, [], ◌∷◌, refl, sym, ap, ap₂, ◌∙◌, append_assoc}
use Rattle.sq_lists.specs.Merge.{merge_tuples}
use Rattle.sq_lists.specs.Pairs.{pairs_from}
use Rattle.sq_lists.specs.Sides.{held_on_sides, pairs_with, against, recent, left_with, right_with}
use Rattle.sq_lists.proofs.SideLemmas.{merge_rises, merge_sides, next_entry, held_left, held_right}
use Rattle.sq_join.proofs.list.join_by.Goals as goal

pub loop-side-init : goal.loop-side-init
loop-side-init c =
    let both = c.args.left.now ∷ c.args.right.now ∷ [] in
    let whole : c.from-coming.result.items ≡ merge_tuples both = c.from-coming.ensures.0 ∙ c.in_ok-merge_two.ensures in
    record {
      pairs = rw (whole, c.new-out.ensures.items, c.new-sides.ensures.0, c.new-sides.ensures.1) refl;
      rises = rw whole (merge_rises both);
      sides = rw whole (merge_sides c.args.left.now c.args.right.now);
      left = rw c.new-sides.ensures.0 (record { rises = tt; early = tt });
      right = rw c.new-sides.ensures.1 (record { rises = tt; early = tt });
      indexes = rw (c.new-sides.ensures.0, c.new-sides.ensures.1) c.of-indexes.ensures;
    }

pub loop-side-preserved : goal.loop-side-preserved
loop-side-preserved c =
    let size = c.args.size in
    let on = c.args.on.now.tree in
    let side = c.in-Some.side in
    let x = c.in-Some.x in
    let rest = c.pop_front.new.self.items in
    let left = c.loop-side.sides.left.items in
    let right = c.loop-side.sides.right.items in
    let out = c.loop-side.out.items in
    let kept_left = recent size x.time left in
    let kept_right = recent size x.time right in
    let same : c.loop-side.coming.items ≡ (side, x) ∷ rest = rw c.in-Some.is at c.pop_front.ensures.items in
    let rises = rw same at c.loop-side.invariant.rises in
    let sides = rw same at c.loop-side.invariant.sides in
    let held_l = rw same at c.loop-side.invariant.left in
    let held_r = rw same at c.loop-side.invariant.right in
    let new_left : c.hold.new.self.left.items ≡ left_with side x kept_left = c.in_ok-hold.ensures.left ∙ ap (left_with side x) c.let_go.ensures.left in
    let new_right : c.hold.new.self.right.items ≡ right_with side x kept_right = c.in_ok-hold.ensures.right ∙ ap (right_with side x) c.let_go.ensures.right in
    let given = pairs_with on side x (against side kept_left kept_right) in
    let later = pairs_from size on (held_on_sides (left_with side x kept_left) (right_with side x kept_right)) rest in
    let pushed : c.push_met.new.out.items ≡ out ++ given =
    c.in_ok-push_met.ensures ∙ ap (λ l. out ++ pairs_with on side x l) (ap₂ (against side) c.let_go.ensures.left c.let_go.ensures.right) in
    let indexes = c.push_last.ensures on (c.let_go.ensures.indexes on c.loop-side.invariant.indexes) in
    record {
      pairs =
          c.loop-side.invariant.pairs
          ∙ ap (λ l. out ++ l) (ap (pairs_from size on (held_on_sides left right)) same ∙ next_entry size on side x rest sides.0 rises left right sides.1 held_l held_r)
          ∙ sym (append_assoc out given later)
          ∙ ap₂ (λ a b. a ++ b) (sym pushed) (ap₂ (λ l r. pairs_from size on (held_on_sides l r) rest) (sym new_left) (sym new_right));
      rises = rises.1;
      sides = sides.1;
      left = rw new_left (held_left size on side x rest sides.0 rises left held_l);
      right = rw new_right (held_right size on side x rest sides.0 rises right held_r);
      indexes = rw (c.in_ok-hold.ensures.left, c.in_ok-hold.ensures.right) indexes;
    }
