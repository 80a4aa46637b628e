use Rattle.std.proofs.Common.{◌≡◌, ℕ, ◌+◌, ◌-◌, ◌<◌, ◌≤◌, ◌⊎◌, inl, inr, length, get_or, set, ap, sym, subst, ◌∙◌, arith}
use Rattle.std.specs.List.{insert}
use Rattle.std.proofs.lemmas.Result.{on_ok_weaker, on_err_weaker}
use Rattle.sq_pane.specs.Panes.{NumbersRise}
use Rattle.sq_rows.specs.Rows.{total, AllAreMade}
use Rattle.sq_pane.proofs.LineLemmas.{same_at, set_same, rises_set, rises_put, made_set, made_insert, total_at, total_set, total_insert, set_is_put, insert_is_put}
use Rattle.sq_rows.proofs.RowLemmas.{made_at}
use Rattle.sq_pane.proofs.line.add_state.Goals as goal
use Rattle.sq_pane.proofs.line.add_state.Goals.{else-count-gt0-via-then-count-gt0+else-index-pane, else-count-gt0-via-else-count-gt0}

pub add-requires-clause-made : goal.add-requires-clause-made
add-requires-clause-made g c =
    let es = c.args.states.now.items in
    let i : ℕ = c.count_up_to-count.result - 1 in
    let within = c.count_up_to-count.ensures.within in
    let some = c.if-count-gt0.true in
    made_at (g.F.Fold.made c.args.fold.now) es i c.index_mut.result.now (omega (arith, within, some)) c.index_mut.ensures.value c.requires.made

pub add-requires-clause-few : goal.add-requires-clause-few
add-requires-clause-few g c =
    let es = c.args.states.now.items in
    let i : ℕ = c.count_up_to-count.result - 1 in
    let within = c.count_up_to-count.ensures.within in
    let some = c.if-count-gt0.true in
    let le = total_at (g.F.Fold.number c.args.fold.now) es i c.index_mut.result.now (omega (arith, within, some)) c.index_mut.ensures.value in
    let few = c.requires.few in
    omega (arith, le, few)

pub returns-then-index-pane-clause-added : goal.returns-then-index-pane-clause-added
returns-then-index-pane-clause-added g c =
    let fold = c.args.fold.now in
    let es = c.args.states.now.items in
    let i : ℕ = c.count_up_to-count.result - 1 in
    let within = c.count_up_to-count.ensures.within in
    let some = c.if-count-gt0.true in
    let x = c.index_mut.result.now in
    let inside : i < length es = omega (arith, within, some) in
    let same = ap (λ (z : ℕ × g.row.F-State.Denot). z.0) (same_at es i x c.index.result.now inside c.index_mut.ensures.value c.index.ensures) ∙ c.if-index-pane.true in
    on_ok_weaker c.add.result
    (λ e. ap (λ s. set es i (x.0, s)) e
    ∙ set_is_put (g.F.Fold.none fold) (g.F.Fold.joined fold) c.args.pane (g.F.Fold.unit fold c.args.t.now) es i x c.requires.rises inside c.index_mut.ensures.value same)
    c.add.ensures.value

pub returns-then-index-pane-clause-rises : goal.returns-then-index-pane-clause-rises
returns-then-index-pane-clause-rises g c =
    let es = c.args.states.now.items in
    let i : ℕ = c.count_up_to-count.result - 1 in
    let within = c.count_up_to-count.ensures.within in
    let some = c.if-count-gt0.true in
    rises_set es i c.index_mut.result.now c.add.new.s (omega (arith, within, some)) c.index_mut.ensures.value c.requires.rises

pub returns-then-index-pane-clause-made : goal.returns-then-index-pane-clause-made
returns-then-index-pane-clause-made g c =
    let es = c.args.states.now.items in
    let i : ℕ = c.count_up_to-count.result - 1 in
    on_ok_weaker c.add.result (λ e. made_set (g.F.Fold.made c.args.fold.now) es i (c.index_mut.result.now.0, c.add.new.s) c.requires.made e.0) c.add.ensures.made

pub returns-then-index-pane-clause-total : goal.returns-then-index-pane-clause-total
returns-then-index-pane-clause-total g c =
    let es = c.args.states.now.items in
    let i : ℕ = c.count_up_to-count.result - 1 in
    let within = c.count_up_to-count.ensures.within in
    let some = c.if-count-gt0.true in
    let x = c.index_mut.result.now in
    on_ok_weaker c.add.result (λ e. total_set (g.F.Fold.number c.args.fold.now) es i x (x.0, c.add.new.s) 1 (omega (arith, within, some)) c.index_mut.ensures.value e.1) c.add.ensures.made

pub returns-then-index-pane-clause-err : goal.returns-then-index-pane-clause-err
returns-then-index-pane-clause-err g c =
    let es = c.args.states.now.items in
    let i : ℕ = c.count_up_to-count.result - 1 in
    let within = c.count_up_to-count.ensures.within in
    let some = c.if-count-gt0.true in
    let x = c.index_mut.result.now in
    on_err_weaker c.add.result (λ e. ap (λ s. set es i (x.0, s)) e ∙ set_same es i x (omega (arith, within, some)) c.index_mut.ensures.value) c.add.ensures.err

pub returns-clause-added : goal.returns-clause-added
returns-clause-added g c =
    let fold = c.args.fold.now in
    let es = c.args.states.now.items in
    let u = g.F.Fold.unit fold c.args.t.now in
    let n : ℕ = c.count_up_to-count.result in
    let first = g.met.F.Fold.none_first fold u (g.met.F.Fold.shaped_unit fold c.args.t.now) in
    let within = c.count_up_to-count.ensures.within in
    let last = c.count_up_to-count.ensures.last in
    let before : (n ≡ 0) ⊎ ((x : ℕ × g.row.F-State.Denot) × (0 < n) × (x ≡ get_or es (n - 1) x) × (x.0 < c.args.pane)) =
    elim c.else-count-gt0.branch [
      | else-count-gt0-via-then-count-gt0+else-index-pane w ↦
          let some = w.if-count-gt0.true in
          let at = w.index.ensures in
          let x = w.index.result.now in
          let le : x.0 ≤ c.args.pane = subst (λ (z : ℕ × g.row.F-State.Denot). z.0 ≤ c.args.pane) (sym at) (last x some) in
          let other = w.if-index-pane.false in
          inr (x, some, at, omega (arith, le, other))
      | else-count-gt0-via-else-count-gt0 w ↦ (let no = w.if-count-gt0.false in inl (omega (arith, no)))
    ] in
    c.in_ok-insert.ensures.items ∙ ap (λ m. insert es n (c.args.pane, m)) (c.in_ok-one.ensures.value ∙ sym first)
    ∙ insert_is_put (g.F.Fold.none fold) (g.F.Fold.joined fold) c.args.pane u es n c.requires.rises (omega (arith, within)) before
    c.count_up_to-count.ensures.after

pub returns-clause-rises : goal.returns-clause-rises
returns-clause-rises g c =
    let fold = c.args.fold.now in
    let es = c.args.states.now.items in
    subst NumbersRise (sym (returns-clause-added g c)) (rises_put (g.F.Fold.none fold) (g.F.Fold.joined fold) c.args.pane (g.F.Fold.unit fold c.args.t.now) es c.requires.rises)

pub returns-clause-made : goal.returns-clause-made
returns-clause-made g c =
    subst (AllAreMade (g.F.Fold.made c.args.fold.now)) (sym c.in_ok-insert.ensures.items)
    (made_insert (g.F.Fold.made c.args.fold.now) c.args.states.now.items c.count_up_to-count.result (c.args.pane, c.in_ok-one.one) c.requires.made c.in_ok-one.ensures.made.0)

pub returns-clause-total : goal.returns-clause-total
returns-clause-total g c =
    let one = c.in_ok-one.ensures.made.1 in
    let all = total_insert (g.F.Fold.number c.args.fold.now) c.args.states.now.items c.count_up_to-count.result (c.args.pane, c.in_ok-one.one) in
    ap (total (g.F.Fold.number c.args.fold.now)) c.in_ok-insert.ensures.items ∙ all
    ∙ (let e : total (g.F.Fold.number c.args.fold.now) c.args.states.now.items + g.F.Fold.number c.args.fold.now c.in_ok-one.one ≡ total (g.F.Fold.number c.args.fold.now) c.args.states.now.items + 1 = omega (arith, one) in e)
