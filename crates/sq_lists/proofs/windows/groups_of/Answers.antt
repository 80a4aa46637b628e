use Rattle.std.proofs.Common.{◌-◌, ◌^◌, ◌+◌, ◌<◌, ◌≤◌, ◌∷◌, true, false, refl, sym, ap, ◌∙◌, drop, length, arith}
use Rattle.std.specs.Prelude.{if◌then◌else◌}
use Rattle.std.specs.Ordering.{is_eq}
use Rattle.std.proofs.lemmas.List.{drop_more}
use Rattle.sq_value.specs.Values.{fields_cmp}
use Rattle.sq_aggfn.specs.Groups.{group_of}
use Rattle.sq_aggfn.specs.KeyedStates.{added, keyed_from, room_for, one_more}
use Rattle.sq_aggfn.proofs.KeyedLemmas.{made_weaker}
use Rattle.sq_lists.proofs.windows.groups_of.Goals as goal

pub add_at-requires : goal.add_at-requires
add_at-requires g c =
    let fold = c.args.fold.now in
    let i = c.loop-x.x-index in
    let key = c.in_ok-group_of.field-0 in
    let few : i ≤ 2 ^ 62 - 2 = omega arith in
    made_weaker (g.F.Fold.made fold) (g.F.Fold.number fold) (λ k. i) (room_for fields_cmp key)
    (λ k. elim (is_eq (fields_cmp key k)) as (λ b. i ≤ (if b then 2 ^ 62 - 2 else 2 ^ 62 - 1)) [ true ↦ few | false ↦ omega (arith, few) ])
    c.loop-x.held.entries c.loop-x.invariant.made

pub loop-x-preserved : goal.loop-x-preserved
loop-x-preserved g c =
    let fold = c.args.fold.now in
    let i = c.loop-x.x-index in
    let x = c.x-item.result in
    let xs = c.args.inside.now in
    let key = c.in_ok-group_of.field-0 in
    let lt : i < length xs = c.loop-x-test.true in
    let by = c.args.by.now in
    record {
      groups =
          ap (λ es. keyed_from fields_cmp (g.F.Fold.none fold) (g.F.Fold.joined fold) (group_of by) (g.F.Fold.unit fold) es (drop (i + 1) xs)) (c.in_ok-add_at.ensures.added
          ∙ ap (λ k. added fields_cmp (g.F.Fold.none fold) (g.F.Fold.joined fold) k (g.F.Fold.unit fold x) c.loop-x.held.entries) c.in_ok-group_of.ensures)
          ∙ ap (λ y. keyed_from fields_cmp (g.F.Fold.none fold) (g.F.Fold.joined fold) (group_of by) (g.F.Fold.unit fold) c.loop-x.held.entries (y ∷ drop (i + 1) xs)) c.x-item.is
          ∙ ap (λ l. keyed_from fields_cmp (g.F.Fold.none fold) (g.F.Fold.joined fold) (group_of by) (g.F.Fold.unit fold) c.loop-x.held.entries l) (sym (drop_more xs i x lt))
          ∙ c.loop-x.invariant.groups;
      made = made_weaker (g.F.Fold.made fold) (g.F.Fold.number fold) (one_more fields_cmp key (λ k. i)) (λ k. i + 1)
          (λ k. elim (is_eq (fields_cmp key k)) as (λ b. (if b then i + 1 else i) ≤ i + 1) [ true ↦ omega arith | false ↦ omega arith ])
          c.add_at.new.held.entries (c.in_ok-add_at.ensures.made (λ k. i) (λ k l e. refl) c.loop-x.invariant.made);
    }

pub returns-clause-made : goal.returns-clause-made
returns-clause-made g c =
    let fold = c.args.fold.now in
    let i = c.loop-x.x-index in
    let few : i ≤ 2 ^ 62 - 1 = omega arith in
    made_weaker (g.F.Fold.made fold) (g.F.Fold.number fold) (λ k. i) (λ k. 2 ^ 62 - 1) (λ k. few) c.loop-x.held.entries c.loop-x.invariant.made
