use Rattle.std.proofs.Common.{◌+◌, ◌^◌, ◌<◌, List, drop, sym, ap, ap₂, subst, ◌∙◌, arith}
use Rattle.std.specs.Ordering.{is_eq}
use Rattle.std.proofs.lemmas.Result.{on_ok_weaker, on_err_weaker}
use Rattle.sq_value.specs.declared.Value.{Value}
use Rattle.sq_value.specs.Values.{fields_cmp}
use Rattle.sq_value.proofs.ValueOrder.{fields_order}
use Rattle.sq_aggfn.specs.KeyedStates.{added}
use Rattle.sq_aggfn.proofs.KeyedLemmas.{ascends}
use Rattle.sq_pane.specs.Panes.{key_cmp}
use Rattle.sq_rows.specs.Rows.{total, AllAreMade}
use Rattle.sq_pane.specs.Blocks.{IsJoin, AreBlocks}
use Rattle.sq_pane.specs.States.{states_of, HaveBlocks}
use Rattle.sq_pane.proofs.StateLemmas.{states_set, states_same, line_found, lines_set, made_found, made_states_set, total_found, total_states_set}
use Rattle.sq_pane.proofs.held.add_at_places.Goals as goal

pub add_to_line-requires-clause-made : goal.add_to_line-requires-clause-made
add_to_line-requires-clause-made g c =
    made_found (g.F.Fold.made c.args.fold.now) (λ (q : List Value). is_eq (fields_cmp c.new-picked.result q)) c.args.held.now c.in-Some.line.now (sym c.in-Some.ensures.value) c.requires.made

pub add_to_line-requires-clause-few : goal.add_to_line-requires-clause-few
add_to_line-requires-clause-few g c =
    let le = total_found (g.F.Fold.number c.args.fold.now) (λ (q : List Value). is_eq (fields_cmp c.new-picked.result q)) c.args.held.now c.in-Some.line.now (sym c.in-Some.ensures.value) in
    let few = c.requires.few in
    omega (arith, le, few)

pub returns-in-Some-clause-added : goal.returns-in-Some-clause-added
returns-in-Some-clause-added g c =
    let fold = c.args.fold.now in
    let ls = c.args.held.now in
    on_ok_weaker c.add_to_line.result
    (λ e. ap states_of (c.get_mut_at.follows.holds c.add_to_line.new.line)
    ∙ states_set (g.F.Fold.none fold) (g.F.Fold.joined fold) c.args.pane c.new-picked.result (g.F.Fold.unit fold c.args.t.now) ls c.in-Some.line.now c.add_to_line.new.line
    (ascends fields_cmp fields_order ls c.len-count.ensures.ordered) (sym c.in-Some.ensures.value) e
    ∙ ap (λ k. added key_cmp (g.F.Fold.none fold) (g.F.Fold.joined fold) (c.args.pane, k) (g.F.Fold.unit fold c.args.t.now) (states_of ls)) c.new-picked.ensures)
    c.add_to_line.ensures.added

pub returns-in-Some-clause-made : goal.returns-in-Some-clause-made
returns-in-Some-clause-made g c =
    let made = g.F.Fold.made c.args.fold.now in
    let ls = c.args.held.now in
    on_ok_weaker c.add_to_line.result
    (λ e. subst (λ l. AllAreMade made (states_of l)) (sym (c.get_mut_at.follows.holds c.add_to_line.new.line))
    (made_states_set made (λ (q : List Value). is_eq (fields_cmp c.new-picked.result q)) ls c.add_to_line.new.line c.requires.made e))
    c.add_to_line.ensures.made

pub returns-in-Some-clause-total : goal.returns-in-Some-clause-total
returns-in-Some-clause-total g c =
    let number = g.F.Fold.number c.args.fold.now in
    let ls = c.args.held.now in
    on_ok_weaker c.add_to_line.result
    (λ e. ap (λ l. total number (states_of l)) (c.get_mut_at.follows.holds c.add_to_line.new.line)
    ∙ total_states_set number (λ (q : List Value). is_eq (fields_cmp c.new-picked.result q)) ls c.in-Some.line.now c.add_to_line.new.line 1 (sym c.in-Some.ensures.value) e)
    c.add_to_line.ensures.total

pub returns-in-Some-clause-err : goal.returns-in-Some-clause-err
returns-in-Some-clause-err g c =
    on_err_weaker c.add_to_line.result
    (λ e. ap states_of (c.get_mut_at.follows.holds c.add_to_line.new.line)
    ∙ states_same (λ (q : List Value). is_eq (fields_cmp c.new-picked.result q)) c.args.held.now c.in-Some.line.now c.add_to_line.new.line (sym c.in-Some.ensures.value) e)
    c.add_to_line.ensures.err

pub returns-in-Some-clause-blocks : goal.returns-in-Some-clause-blocks
returns-in-Some-clause-blocks g c =
    let fold = c.args.fold.now in
    let join = IsJoin (g.F.Fold.none fold) (g.F.Fold.joined fold) (g.F.Fold.made fold) (g.F.Fold.number fold) in
    let test = λ (q : List Value). is_eq (fields_cmp c.new-picked.result q) in
    let ls = c.args.held.now in
    λ all.
    subst (HaveBlocks join) (sym (c.get_mut_at.follows.holds c.add_to_line.new.line))
    (lines_set (λ l. AreBlocks 64 join l.blocks.items (drop l.ahead l.states.items)) test ls c.add_to_line.new.line all
    (c.add_to_line.ensures.blocks (line_found (λ l. AreBlocks 64 join l.blocks.items (drop l.ahead l.states.items)) test ls c.in-Some.line.now (sym c.in-Some.ensures.value) all)))

pub add_at_key-requires-clause-made : goal.add_at_key-requires-clause-made
add_at_key-requires-clause-made g c = subst (λ ls. AllAreMade (g.F.Fold.made c.args.fold.now) (states_of ls)) (sym c.get_mut_at.follows.holds-at-none) c.requires.made

pub add_at_key-requires-clause-few : goal.add_at_key-requires-clause-few
add_at_key-requires-clause-few g c = subst (λ ls. total (g.F.Fold.number c.args.fold.now) (states_of ls) + 1 < 2 ^ 62) (sym c.get_mut_at.follows.holds-at-none) c.requires.few

pub returns-clause-added : goal.returns-clause-added
returns-clause-added g c =
    let fold = c.args.fold.now in
    on_ok_weaker c.add_at_key.result
    (λ e. e ∙ ap₂ (λ k ls. added key_cmp (g.F.Fold.none fold) (g.F.Fold.joined fold) (c.args.pane, k) (g.F.Fold.unit fold c.args.t.now) (states_of ls)) c.in_ok-key.ensures c.get_mut_at.follows.holds-at-none)
    c.add_at_key.ensures.added

pub returns-clause-total : goal.returns-clause-total
returns-clause-total g c =
    on_ok_weaker c.add_at_key.result (λ e. e ∙ ap (λ ls. total (g.F.Fold.number c.args.fold.now) (states_of ls) + 1) c.get_mut_at.follows.holds-at-none) c.add_at_key.ensures.total

pub returns-clause-err : goal.returns-clause-err
returns-clause-err g c = on_err_weaker c.add_at_key.result (λ e. e ∙ ap states_of c.get_mut_at.follows.holds-at-none) c.add_at_key.ensures.err

pub returns-clause-blocks : goal.returns-clause-blocks
returns-clause-blocks g c =
    let fold = c.args.fold.now in
    let join = IsJoin (g.F.Fold.none fold) (g.F.Fold.joined fold) (g.F.Fold.made fold) (g.F.Fold.number fold) in
    λ all. c.add_at_key.ensures.blocks (subst (HaveBlocks join) (sym c.get_mut_at.follows.holds-at-none) all)
