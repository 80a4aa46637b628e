use Rattle.std.proofs.Common.{◌≡◌, ◌+◌, List, drop, sym, ap, subst, ◌∙◌, arith}
use Rattle.std.specs.Ordering.{is_eq}
use Rattle.std.specs.BTreeMap.{insert_entry}
use Rattle.std.specs.Map.{lookup}
use Rattle.std.proofs.lemmas.Result.{on_ok_weaker, on_err_weaker}
use Rattle.sq_value.specs.declared.Value.{Value}
use Rattle.sq_value.specs.Values.{fields_cmp}
use Rattle.sq_value.proofs.ValueOrder.{fields_order}
use Rattle.sq_aggfn.proofs.KeyedLemmas.{ascends}
use Rattle.sq_rows.specs.Rows.{total, AllAreMade}
use Rattle.sq_pane.specs.Blocks.{IsJoin, AreBlocks}
use Rattle.sq_pane.specs.States.{states_of, HaveBlocks}
use Rattle.sq_pane.proofs.BlockLemmas.{no_blocks}
use Rattle.sq_pane.proofs.StateLemmas.{states_set, states_same, states_insert, line_found, lines_set, lines_insert, made_found, made_states_set, made_states_insert, total_found, total_states_set, total_states_insert}
use Rattle.sq_pane.proofs.held.add_at_key.Goals as goal

pub add_to_line-requires-clause-made : goal.add_to_line-requires-clause-made
add_to_line-requires-clause-made g c =
    made_found (g.F.Fold.made c.args.fold.now) (λ (q : List Value). is_eq (fields_cmp c.args.key.1 q)) c.args.held.now c.in-Some.line.now (sym c.in-Some.ensures.value) c.requires.made

pub add_to_line-requires-clause-few : goal.add_to_line-requires-clause-few
add_to_line-requires-clause-few g c =
    let le = total_found (g.F.Fold.number c.args.fold.now) (λ (q : List Value). is_eq (fields_cmp c.args.key.1 q)) c.args.held.now c.in-Some.line.now (sym c.in-Some.ensures.value) in
    let few = c.requires.few in
    omega (arith, le, few)

pub insert-requires : goal.insert-requires
insert-requires g c = ap (lookup (λ (q : List Value). is_eq (fields_cmp c.args.key.1 q))) c.get_mut.follows.holds-at-none ∙ sym c.in_default.ensures.value

pub returns-in-Some-clause-added : goal.returns-in-Some-clause-added
returns-in-Some-clause-added g c =
    let fold = c.args.fold.now in
    let ls = c.args.held.now in
    on_ok_weaker c.add_to_line.result
    (λ e. ap states_of (c.get_mut.follows.holds c.add_to_line.new.line)
    ∙ states_set (g.F.Fold.none fold) (g.F.Fold.joined fold) c.args.key.0 c.args.key.1 (g.F.Fold.unit fold c.args.t.now) ls c.in-Some.line.now c.add_to_line.new.line
    (ascends fields_cmp fields_order ls c.len-count.ensures.ordered) (sym c.in-Some.ensures.value) e)
    c.add_to_line.ensures.added

pub returns-in-Some-clause-made : goal.returns-in-Some-clause-made
returns-in-Some-clause-made g c =
    let made = g.F.Fold.made c.args.fold.now in
    let ls = c.args.held.now in
    on_ok_weaker c.add_to_line.result
    (λ e. subst (λ l. AllAreMade made (states_of l)) (sym (c.get_mut.follows.holds c.add_to_line.new.line))
    (made_states_set made (λ (q : List Value). is_eq (fields_cmp c.args.key.1 q)) ls c.add_to_line.new.line c.requires.made e))
    c.add_to_line.ensures.made

pub returns-in-Some-clause-total : goal.returns-in-Some-clause-total
returns-in-Some-clause-total g c =
    let number = g.F.Fold.number c.args.fold.now in
    let ls = c.args.held.now in
    on_ok_weaker c.add_to_line.result
    (λ e. ap (λ l. total number (states_of l)) (c.get_mut.follows.holds c.add_to_line.new.line)
    ∙ total_states_set number (λ (q : List Value). is_eq (fields_cmp c.args.key.1 q)) ls c.in-Some.line.now c.add_to_line.new.line 1 (sym c.in-Some.ensures.value) e)
    c.add_to_line.ensures.total

pub returns-in-Some-clause-err : goal.returns-in-Some-clause-err
returns-in-Some-clause-err g c =
    on_err_weaker c.add_to_line.result
    (λ e. ap states_of (c.get_mut.follows.holds c.add_to_line.new.line)
    ∙ states_same (λ (q : List Value). is_eq (fields_cmp c.args.key.1 q)) c.args.held.now c.in-Some.line.now c.add_to_line.new.line (sym c.in-Some.ensures.value) e)
    c.add_to_line.ensures.err

pub returns-clause-added : goal.returns-clause-added
returns-clause-added g c =
    let fold = c.args.fold.now in
    let ls = c.args.held.now in
    let line = c.in_ok-line.line in
    ap states_of (c.in_ok-insert.ensures.entries ∙ ap (λ es. insert_entry fields_cmp es c.args.key.1 line) c.get_mut.follows.holds-at-none)
    ∙ states_insert (g.F.Fold.none fold) (g.F.Fold.joined fold) c.args.key.0 c.args.key.1 (g.F.Fold.unit fold c.args.t.now) ls line
    (ascends fields_cmp fields_order ls c.len-count.ensures.ordered) (sym c.in_default.ensures.value) c.in_ok-line.ensures.value

pub returns-clause-made : goal.returns-clause-made
returns-clause-made g c =
    let made = g.F.Fold.made c.args.fold.now in
    let ls = c.args.held.now in
    let line = c.in_ok-line.line in
    subst (λ l. AllAreMade made (states_of l)) (sym (c.in_ok-insert.ensures.entries ∙ ap (λ es. insert_entry fields_cmp es c.args.key.1 line) c.get_mut.follows.holds-at-none))
    (made_states_insert made c.args.key.1 ls line c.requires.made c.in_ok-line.ensures.made)

pub returns-clause-total : goal.returns-clause-total
returns-clause-total g c =
    let number = g.F.Fold.number c.args.fold.now in
    let ls = c.args.held.now in
    let line = c.in_ok-line.line in
    let one = c.in_ok-line.ensures.total in
    ap (λ l. total number (states_of l)) (c.in_ok-insert.ensures.entries ∙ ap (λ es. insert_entry fields_cmp es c.args.key.1 line) c.get_mut.follows.holds-at-none)
    ∙ total_states_insert number c.args.key.1 ls line (sym c.in_default.ensures.value)
    ∙ (let e : total number (states_of ls) + total number line.states.items ≡ total number (states_of ls) + 1 = omega (arith, one) in e)

pub returns-in-Some-clause-blocks : goal.returns-in-Some-clause-blocks
returns-in-Some-clause-blocks g c =
    let fold = c.args.fold.now in
    let join = IsJoin (g.F.Fold.none fold) (g.F.Fold.joined fold) (g.F.Fold.made fold) (g.F.Fold.number fold) in
    let test = λ (q : List Value). is_eq (fields_cmp c.args.key.1 q) in
    let ls = c.args.held.now in
    λ all.
    subst (HaveBlocks join) (sym (c.get_mut.follows.holds c.add_to_line.new.line))
    (lines_set (λ l. AreBlocks 64 join l.blocks.items (drop l.ahead l.states.items)) test ls c.add_to_line.new.line all
    (c.add_to_line.ensures.blocks (line_found (λ l. AreBlocks 64 join l.blocks.items (drop l.ahead l.states.items)) test ls c.in-Some.line.now (sym c.in-Some.ensures.value) all)))

pub returns-clause-blocks : goal.returns-clause-blocks
returns-clause-blocks g c =
    let fold = c.args.fold.now in
    let join = IsJoin (g.F.Fold.none fold) (g.F.Fold.joined fold) (g.F.Fold.made fold) (g.F.Fold.number fold) in
    let ls = c.args.held.now in
    let line = c.in_ok-line.line in
    λ all.
    subst (HaveBlocks join) (sym (c.in_ok-insert.ensures.entries ∙ ap (λ es. insert_entry fields_cmp es c.args.key.1 line) c.get_mut.follows.holds-at-none))
    (lines_insert (λ l. AreBlocks 64 join l.blocks.items (drop l.ahead l.states.items)) c.args.key.1 ls line all (no_blocks 64 join line.blocks.items (drop line.ahead line.states.items) c.in_ok-line.ensures.blocks))
