use Rattle.std.proofs.Common.{◌≡◌, ℕ, ◌+◌, ◌-◌, ◌<◌, ◌≤◌, [], ◌∷◌, ◌++◌, List, take, drop, length, length-drop, subst, ap, sym, ◌∙◌, append_assoc, zero-le, arith}
use Rattle.std.proofs.lemmas.List.{drop_more, drop-drop}
use Rattle.sq_value.specs.declared.Tuple.{Tuple}
use Rattle.sq_lists.specs.Sides.{recent}
use Rattle.sq_lists.specs.WindowParts.{TimesNotFalling}
use Rattle.sq_lists.proofs.WindowLemmas.{lower, rest_is, stream_rises}
use Rattle.sq_lists.specs.Resamples.{resampled, resample_of}
use Rattle.sq_lists.proofs.NearLemmas.{recent-again, recent-rises, resample-let_go}
use Rattle.sq_lists.proofs.resamples.resample.Goals as goal

pub loop-x-init : goal.loop-x-init
loop-x-init g c = record {
  given = ap (λ l. l ++ resample_of (g.F.Fold.table c.args.fold.now) c.args.size c.args.left.now c.args.right.now) c.new-out.ensures.items;
  coming = stream_rises c.args.left.now c.requires.left;
  rises = stream_rises c.args.right.now c.requires.right;
  most = zero-le;
}

-- what is left of the right tuples, once those that are past are behind
left-over : (size t from k : ℕ) (right : List Tuple) → drop k (take (length right - from) (drop from right)) ≡ recent size t (take (length right - from) (drop from right))
    → drop (from + k) right ≡ recent size t (drop from right)
left-over size t from k right h =
    sym (drop-drop k from right) ∙ subst (λ (l : List Tuple). drop k l ≡ recent size t l) (rest_is right from) h

pub sample-requires : goal.sample-requires
sample-requires g c =
    let size = c.args.size in
    let t = c.x-item.result.time in
    let right = c.args.right.now in
    let from = c.loop-x.from in
    let over = left-over size t from c.past.result right c.past.ensures.rest in
    let is = rest_is right (from + c.past.result) ∙ over in
    record {
      rises = subst (TimesNotFalling 0) (sym is) (recent-rises size t 0 (drop from right) c.loop-x.invariant.rises);
      live = ap (recent size t) is ∙ recent-again size t t (drop from right) (omega arith) ∙ sym is;
    }

pub loop-x-preserved : goal.loop-x-preserved
loop-x-preserved g c =
    let table = g.F.Fold.table c.args.fold.now in
    let size = c.args.size in
    let left = c.args.left.now in
    let right = c.args.right.now in
    let i = c.loop-x.x-index in
    let from = c.loop-x.from in
    let x = c.x-item.result in
    let t = x.time in
    let more = drop (i + 1) left in
    let held = drop from right in
    let lt : i < length left = c.loop-x-test.true in
    let coming : drop i left ≡ x ∷ more = drop_more left i x lt ∙ ap (λ y. y ∷ more) (sym c.x-item.is) in
    let up = subst (TimesNotFalling 0) coming c.loop-x.invariant.coming in
    let first : TimesNotFalling t (x ∷ more) = (omega arith, up.1) in
    let over = left-over size t from c.past.result right c.past.ensures.rest in
    let made : c.in_ok-sample.field-0 ≡ resampled table size (recent size t held) x =
    c.in_ok-sample.ensures ∙ ap (λ (l : List Tuple). resampled table size l x) (rest_is right (from + c.past.result) ∙ over) in
    record {
      given =
          ap (λ l. l ++ resample_of table size more (drop (from + c.past.result) right)) (c.in_ok-push.ensures.items ∙ ap (λ y. c.loop-x.out.items ++ y ∷ []) made)
          ∙ append_assoc c.loop-x.out.items (resampled table size (recent size t held) x ∷ []) (resample_of table size more (drop (from + c.past.result) right))
          ∙ ap (λ (l : List Tuple). c.loop-x.out.items ++ resampled table size (recent size t held) x ∷ resample_of table size more l) over
          ∙ ap (λ l. c.loop-x.out.items ++ l) (resample-let_go table size t (x ∷ more) held first ∙ ap (λ (l : List Tuple). resample_of table size l held) (sym coming))
          ∙ c.loop-x.invariant.given;
      coming = lower 0 t more zero-le up.1;
      rises = subst (TimesNotFalling 0) (sym over) (recent-rises size t 0 held c.loop-x.invariant.rises);
      most = within right from c.past.result c.loop-x.invariant.most c.past.ensures.most;
    }
  where
    within : (right : List Tuple) (from k : ℕ) → from ≤ length right → k ≤ length (take (length right - from) (drop from right)) → from + k ≤ length right
    within right from k most few = let is = ap length (rest_is right from) in omega (arith, length-drop from right, is)
