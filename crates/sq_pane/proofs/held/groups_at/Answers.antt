use Rattle.std.proofs.Common.{◌+◌, List, ◌++◌, map, drop, None, sym, ap, ap₂, subst, ◌∙◌, append_assoc, append-nil, arith}
use Rattle.std.proofs.lemmas.List.{drop_all}
use Rattle.std.specs.Map.Iter.{deref_pair}
use Rattle.sq_value.specs.declared.Value.{Value}
use Rattle.sq_pane.specs.declared.line.Line.{Line}
use Rattle.sq_pane.specs.Panes.{group_entry, joined_within, lent_group}
use Rattle.sq_rows.specs.Rows.{total, AllAreMade}
use Rattle.sq_pane.specs.Blocks.{IsJoin}
use Rattle.sq_pane.specs.States.{states_of, HaveBlocks}
use Rattle.sq_value.specs.Values.{fields_cmp}
use Rattle.sq_value.proofs.ValueOrder.{fields_order}
use Rattle.sq_aggfn.proofs.KeyedLemmas.{ascends}
use Rattle.sq_rows.proofs.RowLemmas.{drop_at}
use Rattle.sq_pane.proofs.StateLemmas.{window_is_groups, made_parts, total_parts, pushed_made, pushed_total}
use Rattle.sq_pane.proofs.held.groups_at.Goals as goal
use Rattle.sq_pane.proofs.StateWords.{groups_within}

pub loop-entry-init : goal.loop-entry-init
loop-entry-init g c =
    let fold = c.args.fold.now in
    let join = IsJoin (g.F.Fold.none fold) (g.F.Fold.joined fold) (g.F.Fold.made fold) (g.F.Fold.number fold) in
    let none = ap (map lent_group) c.in_ok-groups.ensures.items in
    let all = ap (map deref_pair) c.deref-entry-items.ensures.value ∙ c.in_ok-entries.ensures.entries in
    record {
      value = ap₂ (λ gs ls. gs ++ groups_within (g.F.Fold.none fold) (g.F.Fold.joined fold) c.args.window c.args.width c.args.start ls) none all;
      made = subst (AllAreMade (g.F.Fold.made fold)) (sym none) tt;
      left = subst (λ (ls : List (List Value × Line g.row.F-State.Denot)). AllAreMade (g.F.Fold.made fold) (states_of ls)) (sym all) c.requires.made;
      blocks = λ is. subst (HaveBlocks join) (sym all) (c.requires.blocks is);
      few = (let a = ap (total (g.F.Fold.number fold)) none in let b = ap (λ (ls : List (List Value × Line g.row.F-State.Denot)). total (g.F.Fold.number fold) (states_of ls)) all in omega (arith, a, b));
    }

pub joined_in-requires-clause-made : goal.joined_in-requires-clause-made
joined_in-requires-clause-made g c =
    let made = g.F.Fold.made c.args.fold.now in
    let lines = c.deref-entry-items.result.now in
    let i = c.loop-entry.entry-index in
    let x = c.entry-item.result in
    let step = ap (map deref_pair) (drop_at lines i x c.loop-entry-test.true c.entry-item.is) in
    let left = subst (λ (ls : List (List Value × Line g.row.F-State.Denot)). AllAreMade made (states_of ls)) step c.loop-entry.invariant.left in
    (made_parts made x.0.now (states_of (map deref_pair (drop (i + 1) lines))) x.1.now.states.items left).0

pub joined_in-requires-clause-blocks : goal.joined_in-requires-clause-blocks
joined_in-requires-clause-blocks g c =
    let fold = c.args.fold.now in
    let join = IsJoin (g.F.Fold.none fold) (g.F.Fold.joined fold) (g.F.Fold.made fold) (g.F.Fold.number fold) in
    let lines = c.deref-entry-items.result.now in
    let i = c.loop-entry.entry-index in
    let x = c.entry-item.result in
    let step = ap (map deref_pair) (drop_at lines i x c.loop-entry-test.true c.entry-item.is) in
    λ is. (subst (HaveBlocks join) step (c.loop-entry.invariant.blocks is)).0

pub joined_in-requires-clause-few : goal.joined_in-requires-clause-few
joined_in-requires-clause-few g c =
    let number = g.F.Fold.number c.args.fold.now in
    let lines = c.deref-entry-items.result.now in
    let i = c.loop-entry.entry-index in
    let x = c.entry-item.result in
    let step = ap (map deref_pair) (drop_at lines i x c.loop-entry-test.true c.entry-item.is) in
    let all = ap (λ (ls : List (List Value × Line g.row.F-State.Denot)). total number (states_of ls)) step in
    let parts = total_parts number x.0.now (states_of (map deref_pair (drop (i + 1) lines))) x.1.now.states.items in
    let le = c.loop-entry.invariant.few in
    let few = c.requires.few in
    omega (arith, all, parts, le, few)

pub loop-entry-preserved : goal.loop-entry-preserved
loop-entry-preserved g c =
    let fold = c.args.fold.now in
    let made = g.F.Fold.made fold in
    let number = g.F.Fold.number fold in
    let join = IsJoin (g.F.Fold.none fold) (g.F.Fold.joined fold) made number in
    let lines = c.deref-entry-items.result.now in
    let i = c.loop-entry.entry-index in
    let x = c.entry-item.result in
    let group = x.0.now in
    let line = x.1.now in
    let rest = map deref_pair (drop (i + 1) lines) in
    let o = c.in_ok-joined.joined in
    let gs = map lent_group c.loop-entry.groups.items in
    let step = ap (map deref_pair) (drop_at lines i x c.loop-entry-test.true c.entry-item.is) in
    let within = λ (ls : List (List Value × Line g.row.F-State.Denot)). groups_within (g.F.Fold.none fold) (g.F.Fold.joined fold) c.args.window c.args.width c.args.start ls in
    let pushed = c.in_ok-push_some.ensures in
    let all = ap (λ (ls : List (List Value × Line g.row.F-State.Denot)). total number (states_of ls)) step in
    let parts = total_parts number group (states_of rest) line.states.items in
    let le = c.loop-entry.invariant.few in
    let less = c.in_ok-joined.ensures.few in
    let sum = ap (total number) pushed ∙ pushed_total made number group o gs in
    record {
      value = ap (λ l. l ++ within rest) (pushed ∙ ap (λ y. gs ++ group_entry group y) c.in_ok-joined.ensures.value)
          ∙ append_assoc gs (group_entry group (joined_within (g.F.Fold.none fold) (g.F.Fold.joined fold) c.args.window c.args.width c.args.start None line.states.items)) (within rest)
          ∙ ap (λ (ls : List (List Value × Line g.row.F-State.Denot)). gs ++ within ls) (sym step)
          ∙ c.loop-entry.invariant.value;
      made = subst (AllAreMade made) (sym pushed) (pushed_made made number group o gs c.loop-entry.invariant.made c.in_ok-joined.ensures.made);
      blocks = λ is. (subst (HaveBlocks join) step (c.loop-entry.invariant.blocks is)).1;
      left = (made_parts made group (states_of rest) line.states.items (subst (λ (ls : List (List Value × Line g.row.F-State.Denot)). AllAreMade made (states_of ls)) step c.loop-entry.invariant.left)).1;
      few = omega (arith, all, parts, le, less, sum);
    }

pub returns-clause-value : goal.returns-clause-value
returns-clause-value g c =
    let fold = c.args.fold.now in
    let gs = map lent_group c.loop-entry.groups.items in
    let lines = c.deref-entry-items.result.now in
    let within = λ (ls : List (List Value × Line g.row.F-State.Denot)). groups_within (g.F.Fold.none fold) (g.F.Fold.joined fold) c.args.window c.args.width c.args.start ls in
    sym (append-nil gs) ∙ ap (λ ls. gs ++ within (map deref_pair ls)) (sym (drop_all c.loop-entry.entry-index lines c.loop-entry-test.false)) ∙ c.loop-entry.invariant.value
    ∙ sym (window_is_groups (g.F.Fold.none fold) (g.F.Fold.joined fold) c.args.window c.args.width c.args.start c.args.held.now (ascends fields_cmp fields_order c.args.held.now c.in_ok-entries.ensures.ordered))
